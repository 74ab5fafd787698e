-- what is to be written is what was made, and behind it what is left
use Rattle.std.proofs.Common.{map}
use Rattle.hir_input.specs.declared.ast.TupleField.{TupleField}
use Rattle.hir_input_json.proofs.Writing.Common.{each_data, maybe_data, visibility_data}
use Rattle.hir_input_json.proofs.Writing.Lists.{HasMade}
use Rattle.hir_input_json.proofs.write.kinds.field_values.Given as goal

abbrev pub invariant-loop-field : goal.invariant-loop-field
invariant-loop-field l = HasMade (λ (f : TupleField). maybe_data visibility_data f.visibility) (λ fs. each_data (maybe_data visibility_data) (map (λ (f : TupleField). f.visibility) fs)) l.fields l.values.items l.field-index
