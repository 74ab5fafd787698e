-- Statements, and a tail behind them.
use Rattle.std.proofs.Common.{◌≡◌, ℕ, List, [], ◌∷◌, ◌++◌, map, length, max, refl, ap, ◌∙◌, sym, arith}
use Rattle.hir_input.specs.declared.ast.Stmt.{Stmt}
use Rattle.hir_input.specs.declared.ast.Stmt.TheVariants as stmt
use Rattle.hir_input.specs.declared.ast.Tail.{Tail}
use Rattle.hir_input.specs.declared.ast.Tail.TheVariants as tail
use Rattle.item_tree.proofs.Common.{items_from, item_view, stmt_items, stmts_view, tail_view, Ctx, Rows, LowerError, Forest, empty, add, meet_all, forest_vis, item_written, items_written, IsPassed, kept_of, all_kept_in, Lowers, sizes_with, stmt_item, tail_item}
use Rattle.item_tree.proofs.Arena.{length-Extends, Extends-meet_all}
use Rattle.item_tree.proofs.Lowering.{join, add-join, count-join, most_attrs-join, forest_supers-join, met-join, passes, Lowers-count, Lowers-join}

module _ (ctx : Ctx) where
  abbrev of_stmts : List Stmt → Forest
  of_stmts stmts = all_kept_in ctx (items_from (map stmt_item stmts))

  abbrev of_tail : Tail → Forest
  of_tail end = add (kept_of ctx (tail_item end)) empty

  abbrev of_both : List Stmt → Tail → Forest
  of_both stmts end = all_kept_in ctx (stmt_items (stmts_view stmts) (tail_view end))

  kept-stmts : (stmts : List Stmt) (end : Tail) → join (of_stmts stmts) (of_tail end) ≡ of_both stmts end
  kept-stmts [] (tail.MacroCall c) = refl
  kept-stmts [] _ = refl
  kept-stmts (stmt.Item i ∷ stmts) end = sym (add-join (kept_of ctx (item_view i)) (of_stmts stmts) (of_tail end)) ∙ ap (add (kept_of ctx (item_view i))) (kept-stmts stmts end)
  kept-stmts (stmt.MacroCall c ∷ stmts) end =
      let call = kept_of ctx (stmt_item (stmt.MacroCall c)) in
      sym (add-join call (of_stmts stmts) (of_tail end)) ∙ ap (add call) (kept-stmts stmts end)
  kept-stmts (stmt.Other ∷ stmts) end = kept-stmts stmts end

written-stmts : (stmts : List Stmt) (end : Tail) → max (items_written (items_from (map stmt_item stmts))) (item_written (tail_item end)) ≡ items_written (stmt_items (stmts_view stmts) (tail_view end))
written-stmts [] (tail.MacroCall c) = refl
written-stmts [] _ = refl
written-stmts (stmt.Item i ∷ stmts) end = omega (arith, written-stmts stmts end)
written-stmts (_ ∷ stmts) end = omega (arith, written-stmts stmts end)

-- what one of two parts passes, the whole passes
module _ (a : Rows) (v w : ℕ) (f g : Forest) (e : LowerError) where
  passed-front : IsPassed (sizes_with a v f) e → IsPassed (sizes_with a (max v w) (join f g)) e
  passed-front =
      passes (sizes_with a v f) (sizes_with a (max v w) (join f g)) e (record {
        items = omega (arith, count-join f g);
        visibilities = let here = meet_all a.arena (forest_vis f) in omega (arith, ap length (met-join f g a.arena), length-Extends here (meet_all here (forest_vis g)) (Extends-meet_all here (forest_vis g)));
        use_trees = omega arith;
        attributes = omega (arith, most_attrs-join f g);
        supers = omega (arith, forest_supers-join f g);
      })

  passed-behind : {b : Rows} {is : List ℕ} → Lowers a b v f is → IsPassed (sizes_with b w g) e → IsPassed (sizes_with a (max v w) (join f g)) e
  passed-behind {b} h =
      passes (sizes_with b w g) (sizes_with a (max v w) (join f g)) e (record {
        items = omega (arith, Lowers-count h, count-join f g);
        visibilities = omega (arith, ap length (met-join f g a.arena ∙ ap (λ z. meet_all z (forest_vis g)) (sym h.arena_met)));
        use_trees = omega arith;
        attributes = omega (arith, most_attrs-join f g);
        supers = omega (arith, forest_supers-join f g);
      })

abbrev of_stmts_written : List Stmt → ℕ
of_stmts_written stmts = items_written (items_from (map stmt_item stmts))

abbrev of_both_written : List Stmt → Tail → ℕ
of_both_written stmts end = items_written (stmt_items (stmts_view stmts) (tail_view end))

module _ (ctx : Ctx) (stmts : List Stmt) (end : Tail) where
  pub Lowers-stmts : {a b c : Rows} {is js : List ℕ} → Lowers a b (of_stmts_written stmts) (of_stmts ctx stmts) is → Lowers b c (item_written (tail_item end)) (of_tail ctx end) js →
      (ks : List ℕ) → is ++ js ≡ ks → Lowers a c (of_both_written stmts end) (of_both ctx stmts end) ks
  Lowers-stmts h k ks e = rw (← e, ← kept-stmts ctx stmts end, ← written-stmts stmts end) (Lowers-join h k)

  pub passed-stmts : (a : Rows) (e : LowerError) → IsPassed (sizes_with a (of_stmts_written stmts) (of_stmts ctx stmts)) e → IsPassed (sizes_with a (of_both_written stmts end) (of_both ctx stmts end)) e
  passed-stmts a e p = rw (← kept-stmts ctx stmts end, ← written-stmts stmts end) (passed-front a _ _ _ _ e p)

  pub passed-tail : {a b : Rows} {is : List ℕ} (e : LowerError) → Lowers a b (of_stmts_written stmts) (of_stmts ctx stmts) is → IsPassed (sizes_with b (item_written (tail_item end)) (of_tail ctx end)) e →
      IsPassed (sizes_with a (of_both_written stmts end) (of_both ctx stmts end)) e
  passed-tail {a} e h p = rw (← kept-stmts ctx stmts end, ← written-stmts stmts end) (passed-behind a _ _ _ _ e h p)
