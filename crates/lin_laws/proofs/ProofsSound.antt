-- Proofs are sound.
use Rattle.proof_laws.specs.Satisfied.{ProofsAreSound}
use Rattle.proof_laws.proofs.Sound.{proofs_are_sound}
use Rattle.lin_laws.proofs.CertificatesSound.{certificates_sound}

-- The law: what is proved, with nothing refused, is true wherever what is known is.
pub proofs_sound : ProofsAreSound
proofs_sound = proofs_are_sound certificates_sound
