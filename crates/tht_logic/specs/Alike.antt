-- Whether two assertions are equal up to the names of their bound variables (alpha-equivalent): whether the nameless trees `asn [] [] p`
-- and `asn [] [] q` are one. That is tested here form by form.
use Rattle.std.specs.Prelude.{◌==◌, Bool, true, false, ◌&&◌, bytes_eq, List, [], ◌∷◌}
use Rattle.tht_tree.specs.declared.assn.Assn.{Assn}
use Rattle.tht_tree.specs.Values.{same_val}
use Rattle.tht_tree.specs.Syntax.{Op, add, sub, mul, cons, cat, eq, lt, le, conj, disj, imp, Trm, lit, free, bound, len, off, neg, op}
use Rattle.tht_tree.specs.Rules.Scoping.{same_sort}
use Rattle.tht_logic.specs.Assertions.{Asn, emp, fact, own, shared, star, inst, exist, either, asn}

abbrev pub same_op : Op → Op → Bool
same_op add add = true
same_op sub sub = true
same_op mul mul = true
same_op cons cons = true
same_op cat cat = true
same_op eq eq = true
same_op lt lt = true
same_op le le = true
same_op conj conj = true
same_op disj disj = true
same_op imp imp = true
same_op _ _ = false

abbrev pub same_trm : Trm → Trm → Bool
same_trm (lit v) (lit w) = same_val v w
same_trm (free x) (free y) = bytes_eq x y
same_trm (bound k) (bound l) = k == l
same_trm (len a) (len b) = same_trm a b
same_trm (off k a) (off l b) = (k == l) && same_trm a b
same_trm (neg a) (neg b) = same_trm a b
same_trm (op o a c) (op p b d) = same_op o p && same_trm a b && same_trm c d
same_trm _ _ = false

abbrev pub same_trms : List Trm → List Trm → Bool
same_trms [] [] = true
same_trms (t ∷ ts) (u ∷ us) = same_trm t u && same_trms ts us
same_trms _ _ = false

abbrev pub same_asn : Asn → Asn → Bool
same_asn emp emp = true
same_asn (fact t) (fact u) = same_trm t u
same_asn (own t v) (own u w) = same_trm t u && same_trm v w
same_asn (shared t v) (shared u w) = same_trm t u && same_trm v w
same_asn (star p r) (star q s) = same_asn p q && same_asn r s
same_asn (inst p ts) (inst q us) = bytes_eq p q && same_trms ts us
same_asn (exist s p) (exist r q) = same_sort s r && same_asn p q
same_asn (either p r) (either q s) = same_asn p q && same_asn r s
same_asn _ _ = false

-- whether they are one tree without the names of their bound variables
abbrev pub alike : Assn → Assn → Bool
alike p q = same_asn (asn [] [] p) (asn [] [] q)
