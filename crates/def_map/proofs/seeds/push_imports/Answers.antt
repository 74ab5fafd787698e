use Rattle.std.proofs.Common.{◌≡◌, ◌<◌, ◌++◌, Some, length, map, option_map, take, slice_get, sym, ap, ◌∙◌, append_assoc, arith}
use Rattle.std.proofs.lemmas.List.{length-map}
use Rattle.std.proofs.lemmas.Option.{slice_get-map, slice_get-get_or}
use Rattle.def_map.specs.Closing.{table_import, loop_import}
use Rattle.def_map.specs.Closure.{hides}
use Rattle.def_map.specs.CrateView.{import_view}
use Rattle.def_map.specs.Lowering.{import_by}
use Rattle.def_map.specs.Seeding.{other_in, macros_in, started_import}
use Rattle.def_map.specs.SeedsOf.{lowered_crate, lowered_import_seeds, lowered_imports_seeds}
use Rattle.def_map.proofs.SeedLaws.{imports_more}
use Rattle.def_map.proofs.seeds.push_imports.Goals as goal

pub loop-number-preserved : goal.loop-number-preserved
loop-number-preserved c =
    let s = c.args.lowered.now in let i = c.loop-number.number in let by = import_by s.numbers.now in
    let rows = c.as_slice-rows.result.now in let imports = c.as_slice-imports.result.now in
    let low : i < length imports = omega (arith, c.loop-number-test.true) in
    let same : length s.table.now.imports.items ≡ length s.rows.now.imports.items =
    sym (length-map s.table.now.imports.items table_import) ∙ ap length c.requires.lowered.imports ∙ length-map (lowered_crate s).imports loop_import ∙ length-map (map import_view s.rows.now.imports.items) by
    ∙ length-map s.rows.now.imports.items import_view in
    let low_row : i < length rows = omega (arith, low, same, ap length c.as_slice-rows.ensures.value, ap length c.as_slice-imports.ensures.value) in
    let at_w : slice_get s.table.now.imports.items i ≡ Some c.index-imports-number.result =
    ap (λ l. slice_get l i) (sym c.as_slice-imports.ensures.value) ∙ slice_get-get_or imports i _ low ∙ ap Some (sym c.index-imports-number.is) in
    let at_row : slice_get s.rows.now.imports.items i ≡ Some c.index-rows-number.result =
    ap (λ l. slice_get l i) (sym c.as_slice-rows.ensures.value) ∙ slice_get-get_or rows i _ low_row ∙ ap Some (sym c.index-rows-number.is) in
    let at_u : slice_get (lowered_crate s).imports i ≡ Some (by (import_view c.index-rows-number.result)) =
    slice_get-map by (map import_view s.rows.now.imports.items) i ∙ ap (option_map by) (slice_get-map import_view s.rows.now.imports.items i ∙ ap (option_map import_view) at_row) in
    let row = c.index-rows-number.result in let w = c.index-imports-number.result in
    let one = lowered_import_seeds s i (started_import row.start w) in
    let before = c.args.seeds.now.items in let done = lowered_imports_seeds s 0 (take i (lowered_crate s).imports) in
    c.in_ok-push_import.ensures ∙ ap (λ r. c.loop-number.seeds.items ++ lowered_import_seeds s i (started_import r.start w)) (sym c.index-rows-number.is)
    ∙ ap (λ l. l ++ one) c.loop-number.invariant ∙ append_assoc before done one
    ∙ ap (λ l. before ++ l) (sym (imports_more (lowered_crate s) (other_in s.outside.now) (macros_in s.outside.now) (hides s.table.now) s.table.now c.requires.lowered.imports i w (by (import_view row)) at_w at_u))
