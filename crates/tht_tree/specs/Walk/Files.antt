-- The names and sorts of a file.
use Rattle.std.specs.Prelude.{◌≡◌, Bool, false, ◌||◌, true, List, [], ◌∷◌, Option, None}
use Rattle.tht_tree.specs.declared.decl.Decl.{Decl}
use Rattle.tht_tree.specs.declared.decl.DeclKind.{DeclKind}
use Rattle.tht_tree.specs.declared.decl.DeclKind.TheVariants as d
use Rattle.tht_tree.specs.declared.file.Main.{Main}
use Rattle.tht_tree.specs.declared.file.Source1.{Source1}
use Rattle.tht_tree.specs.declared.walk.WalkRefusal.{WalkRefusal}
use Rattle.tht_tree.specs.Walk.Codes.{first, construct, ◌▸◌}
use Rattle.tht_tree.specs.Walk.Names.{no_names}
use Rattle.tht_tree.specs.declared.walk.Where.TheVariants.{Outside}
use Rattle.tht_tree.specs.Walk.Bodies.{frame, new_result, private_box, body}
use Rattle.tht_tree.specs.Walk.Decls.{Before, decl_kind, after_decl}

abbrev pub is_invariant : DeclKind → Bool
is_invariant (d.Invariant a g) = true
is_invariant _ = false

abbrev pub has_invariant : List Decl → Bool
has_invariant [] = false
has_invariant (x ∷ xs) = is_invariant x.kind || has_invariant xs

abbrev pub at_start : Before
at_start = record { scope = no_names; invariant = false; commands = false }

-- what is known after declarations
abbrev pub after_decls : List Decl → Before → Before
after_decls [] b = b
after_decls (x ∷ xs) b = after_decls xs (after_decl x.kind b)

-- what is refused in declarations of a file, which may have an invariant
abbrev pub decls : Bool → List Decl → Before → Option WalkRefusal
decls with_invariant [] b = None
decls with_invariant (x ∷ xs) b = decl_kind with_invariant x.kind x.spot b ▸ decls with_invariant xs (after_decl x.kind b)

-- Main stands outside, and its postcondition speaks of private cells alone. Its result is known there, and not in its body.
abbrev pub main : Main → Before → Option WalkRefusal
main x b =
    let own = first (new_result b.scope x.result x.sort) (private_box b.scope x.result x.sort x.post) in
    construct x.spot own (body x.body (frame Outside x.sort) b.scope)

-- the first refusal of a file
abbrev pub first_refusal : Source1 → Option WalkRefusal
first_refusal file = decls (has_invariant file.decls) file.decls at_start ▸ main file.main (after_decls file.decls at_start)

-- the names and sorts of a file are in order
abbrev pub WellSorted : Source1 → Type 0
WellSorted file = first_refusal file ≡ None
