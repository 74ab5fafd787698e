use Rattle.std.proofs.Common.{◌≡◌, ◌≤◌, ap, arith, length, map, subst, sym, ◌∙◌, IfOk, string_bytes}
use Rattle.std.proofs.lemmas.Bool.{eqb-true}
use Rattle.std.proofs.lemmas.Bool.Decides.{nat_tests}
use Rattle.source_changes.specs.ChangeViews.{row_change_view, row_part, text_row_view}
use Rattle.source_changes.specs.RowChanges.{row_changes, seen_changes}
use Rattle.source_changes.specs.Moves.{row_moves, standing_rows}
use Rattle.source_changes.specs.Views.{part_view}
use Rattle.source_rows.specs.Views.{source_view}
use Rattle.source_changes.specs.Changes.{row_texts}
use Rattle.source_changes.proofs.Joining.{moved_lines}
use Rattle.source_changes.proofs.lines_between.Goals as goal

pub returns-then-not-is_empty-2 : goal.returns-then-not-is_empty-2
returns-then-not-is_empty-2 c =
    let p = c.args.pair in
    let olds = c.in_ok-old_rows.ensures in
    let news = c.in_ok-new_rows.ensures in
    let none : length c.in_ok-changes.changes.items ≡ 0 = let is = eqb-true _ _ (sym c.is_empty.ensures ∙ c.if-not-is_empty.false) in omega (arith, is, c.in_ok-changes.changes.ok.0) in
    let some : 1 ≤ length c.in_ok-moves.moves.items = grind (arith, nat_tests) in
    let items = c.in_ok-changes.ensures ∙ (λ k. seen_changes p.is_public (row_changes ((ap (map text_row_view) c.deref.ensures.value ∙ olds.rows) k) ((ap (map text_row_view) c.deref-2.ensures.value ∙ news.rows) k))) in
    let moves = c.in_ok-moves.ensures
    ∙ (λ k. seen_changes p.is_public (row_moves (standing_rows ((ap (map row_part) c.deref-3.ensures.value ∙ olds.parts) k) ((ap (map text_row_view) c.deref-3.ensures.value ∙ olds.rows) k))
    (standing_rows ((ap (map row_part) c.deref-4.ensures.value ∙ news.parts) k) ((ap (map text_row_view) c.deref-4.ensures.value ∙ news.rows) k)))) in
    subst (λ l. IfOk c.lines-then-not-is_empty-2.result (λ text. string_bytes text ≡ l))
    (ap (λ cs. row_texts p.form (source_view p.old) (source_view p.new) (map row_change_view cs)) c.deref-then-not-is_empty-2.ensures.value
    ∙ moved_lines p.edition p.is_public p.has_docs p.form (source_view p.old) (source_view p.new) (map part_view p.olds.now) (map part_view p.news.now) c.in_ok-changes.changes.items c.in_ok-moves.moves.items none some items moves)
    c.lines-then-not-is_empty-2.ensures
