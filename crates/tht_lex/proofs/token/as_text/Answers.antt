use Rattle.std.proofs.lemmas.Str.{IsUtf8-from_ascii}
use Rattle.tht_lex.proofs.token.as_text.Goals as goal

-- what is ASCII is UTF-8
pub unreachable-requires : goal.unreachable-requires
unreachable-requires c = absurd (c.in-Err.ensures.cases.0 (IsUtf8-from_ascii c.args.bytes.now c.requires))
