use Rattle.std.proofs.Common.{◌≡◌, ◌∙◌, sym}
use Rattle.std.specs.String.{string_bytes}
use Rattle.code_form.proofs.ProcNames.{number_found}
use Rattle.code_form.proofs.names.ProcNames.number_of.Goals as goal

pub returns-in-Some : goal.returns-in-Some
returns-in-Some c =
    number_found string_bytes c.self.inside.names.keys c.args.self.now c.args.name.now _ _ (sym c.in-Some.is ∙ c.get_index_of.ensures.index) c.as_str.ensures c.self.view_is

pub returns-in-None : goal.returns-in-None
returns-in-None c =
    c.len.ensures.len ∙
    number_found string_bytes c.self.inside.names.keys c.args.self.now c.args.name.now _ _ (sym c.in-None.is ∙ c.get_index_of.ensures.index) c.as_str.ensures c.self.view_is
