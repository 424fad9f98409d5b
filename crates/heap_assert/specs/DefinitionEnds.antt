-- Why nothing was put in, as the reason why there is no definition.
use Rattle.tht_tree.specs.declared.form.PutEnd.{PutEnd}
use Rattle.tht_tree.specs.declared.form.PutEnd.TheVariants as put
use Rattle.heap_assert.specs.declared.definition_end.DefinitionEnd.{DefinitionEnd}
use Rattle.heap_assert.specs.declared.definition_end.DefinitionEnd.TheVariants as end

abbrev pub end_of : PutEnd → DefinitionEnd
end_of put.Large = end.Large
end_of put.Memory = end.Memory
