use Rattle.std.proofs.Common.{map, ap, ◌∙◌}
use Rattle.std.specs.List.{filter_map, list_any}
use Rattle.def_map.specs.declared.facts.Declared.{Declared}
use Rattle.def_map.specs.Closing.{loop_import}
use Rattle.def_map.specs.CrateView.{declared_view, import_view}
use Rattle.def_map.specs.Lowering.{declared_eq, import_by, sure_by}
use Rattle.def_map.proofs.Interning.{all_known}
use Rattle.def_map.proofs.SureNames.{hides_sure}
use Rattle.def_map.proofs.lower.lower_crate.Goals as goal

pub returns : goal.returns
returns c =
    let n = c.args.numbers.now in
    record {
      parents = c.in_ok-from_slice.ensures.items ∙ c.deref-2.ensures.value;
      imports = c.in_ok-lower_imports.ensures ∙ ap (λ rows. map loop_import (map (import_by n) (map import_view rows))) c.deref-3.ensures.value;
      declared = hides_sure n (map declared_view c.args.rows.now.declarations.items) _
          (λ d. all_known declared_eq (λ (d : Declared). d) c.new-declared.result.keys c.push_sure.new.all.keys _ c.new-declared.ensures.empty c.in_ok-push_sure.ensures d
          ∙ ap (λ rows. list_any (declared_eq d) (filter_map (sure_by n) (map declared_view rows))) c.deref.ensures.value);
    }
