-- Whether two bodies are one program: whether the trees `code [] B []` and `code [] C []` are one, in which the variables that the bodies
-- bind stand by position, and all others by name. The sorts of results count. That is tested here form by form.
use Rattle.std.specs.Prelude.{Bool, false, ◌&&◌, bytes_eq, []}
use Rattle.tht_tree.specs.declared.body.Body.{Body}
use Rattle.tht_tree.specs.Rules.Scoping.{same_sort}
use Rattle.tht_logic.specs.Programs.{Code, ret, test, read, write, alloc, drop, publish, retract, call, nest, atomic, par, code}
use Rattle.tht_logic.specs.Alike.{same_trm, same_trms}

abbrev pub same_code : Code → Code → Bool
same_code (ret t) (ret u) = same_trm t u
same_code (test t p q) (test u r s) = same_trm t u && same_code p r && same_code q s
same_code (read x t p) (read y u q) = same_sort x y && same_trm t u && same_code p q
same_code (write t v p) (write u w q) = same_trm t u && same_trm v w && same_code p q
same_code (alloc ts p) (alloc us q) = same_trms ts us && same_code p q
same_code (drop t p) (drop u q) = same_trm t u && same_code p q
same_code (publish t p) (publish u q) = same_trm t u && same_code p q
same_code (retract t p) (retract u q) = same_trm t u && same_code p q
same_code (call f ts p) (call g us q) = bytes_eq f g && same_trms ts us && same_code p q
same_code (nest x p q) (nest y r s) = same_sort x y && same_code p r && same_code q s
same_code (atomic x p q) (atomic y r s) = same_sort x y && same_code p r && same_code q s
same_code (par a b p q r) (par c d s t u) = same_sort a c && same_sort b d && same_code p s && same_code q t && same_code r u
same_code _ _ = false

abbrev pub same_program : Body → Body → Bool
same_program x y = same_code (code [] x []) (code [] y [])
