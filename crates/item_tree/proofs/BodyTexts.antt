-- What is kept does not depend on body texts.
use Rattle.std.proofs.Common.{◌≡◌, ℕ, Bool, List, [], ◌∷◌, map, refl, ap, ◌∙◌, Some, option_map}
use Rattle.item_tree.proofs.Common.{ItemView, ItemViews, listed_module, listed_extern_block, no_items, item_and, StmtView, item_stmt, call_stmt, other_stmt, TailView, call_tail, stmt_items, SyntaxView, source_file, macro_items, macro_stmts, block_expr, error, nothing_collected, AtomView, CrateView, read_visibility, head_of, module_node, kept, kept_all, kept_top, kept_syntax, parent, extern_block, add}
use Rattle.hir_input.specs.Syntax.{macro_call}
use Rattle.hir_input.specs.Bodies.{item_without_bodies, items_without_bodies, call_without_body, stmt_without_bodies, tail_without_body, without_bodies}

module _ (options : List AtomView) (skipped : List (List ℕ)) where
  mutual
    kept-item_without_bodies : (i : ItemView) → kept options skipped (item_without_bodies i) ≡ kept options skipped i
    kept-item_without_bodies (listed_module n semicolon is) =
        ap (λ f. option_map (λ name. module_node semicolon (head_of options skipped n.node) name (read_visibility n.visibility) f) n.name) (kept_all-items_without_bodies is)
    kept-item_without_bodies (listed_extern_block n is) = ap (λ f. Some (parent (head_of options skipped n) extern_block f)) (kept_all-items_without_bodies is)
    kept-item_without_bodies _ = refl

    pub kept_all-items_without_bodies : (is : ItemViews) → kept_all options skipped (items_without_bodies is) ≡ kept_all options skipped is
    kept_all-items_without_bodies no_items = refl
    kept_all-items_without_bodies (item_and i is) = λ j. add (kept-item_without_bodies i j) (kept_all-items_without_bodies is j)

-- the items of statements without bodies
stmt_items-without_bodies : (stmts : List StmtView) (tail : TailView) → stmt_items (map stmt_without_bodies stmts) (tail_without_body tail) ≡ items_without_bodies (stmt_items stmts tail)
stmt_items-without_bodies [] (call_tail c) = refl
stmt_items-without_bodies [] _ = refl
stmt_items-without_bodies (item_stmt i ∷ stmts) tail = ap (item_and (item_without_bodies i)) (stmt_items-without_bodies stmts tail)
stmt_items-without_bodies (call_stmt c ∷ stmts) tail = ap (item_and (macro_call (call_without_body c))) (stmt_items-without_bodies stmts tail)
stmt_items-without_bodies (other_stmt ∷ stmts) tail = stmt_items-without_bodies stmts tail

pub kept_without_bodies : (is_root : Bool) (krate : CrateView) (skipped : List (List ℕ)) (s : SyntaxView) → kept_syntax is_root krate skipped (without_bodies s) ≡ kept_syntax is_root krate skipped s
kept_without_bodies is_root krate skipped (source_file attrs is) =
    ap (λ f. record { top_attrs = kept_top is_root krate skipped (source_file attrs is); forest = f }) (kept_all-items_without_bodies krate.options skipped is)
kept_without_bodies is_root krate skipped (macro_items is) =
    ap (λ f. record { top_attrs = nothing_collected; forest = f }) (kept_all-items_without_bodies krate.options skipped is)
kept_without_bodies is_root krate skipped (macro_stmts stmts tail) =
    ap (λ f. record { top_attrs = nothing_collected; forest = f }) (ap (kept_all krate.options skipped) (stmt_items-without_bodies stmts tail) ∙ kept_all-items_without_bodies krate.options skipped (stmt_items stmts tail))
kept_without_bodies is_root krate skipped (block_expr attrs stmts tail) =
    ap (λ f. record { top_attrs = kept_top is_root krate skipped (block_expr attrs stmts tail); forest = f })
    (ap (kept_all krate.options skipped) (stmt_items-without_bodies stmts tail) ∙ kept_all-items_without_bodies krate.options skipped (stmt_items stmts tail))
kept_without_bodies is_root krate skipped error = refl
