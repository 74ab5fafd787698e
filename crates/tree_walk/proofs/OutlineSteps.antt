-- The lines of an outline, step by step.
use Rattle.std.proofs.Common.{◌≡◌, ℕ, ◌+◌, ◌*◌, List, [], ◌∷◌, map, Option, Some, None, refl, ap, sym, ◌∙◌, append-nil, arith, replicate, flat_map}
use Rattle.std.proofs.lemmas.{Grind.flat_map-append, List.replicate-append-replicate}
use Rattle.std.specs.{Prelude.option_map, Option.option_map_or}
use Rattle.hir_input.specs.declared.ids.FileAstId.{FileAstId}
use Rattle.item_tree.specs.{Layout.node_at, Node.Node, Node.leaf, Node.parent, Node.Forest, Node.empty, Node.more, Node.nodes, Node.node_ast, Node.Unfolding, Reach.child_ids, Reach.top_ids, Walk.of_id}
use Rattle.item_tree.proofs.Walking.{children_of, tops_stand}
use Rattle.tree_walk.specs.{Declarations.node_name, Rows.Around, Rows.top}
use Rattle.tree_walk.specs.Lines.{line, indent_more, node_lines, forest_lines}
use Rattle.tree_walk.specs.Inner.{Outlines.level_indent, Outlines.step_line, Steps.around_below, Steps.node_steps, Steps.steps_in, Steps.steps}

-- four spaces more
deeper_indent : (level : ℕ) → level_indent (level + 1) ≡ indent_more (level_indent level)
deeper_indent level =
    let sum : 4 * (level + 1) ≡ 4 * level + 4 = omega arith in
    ap (λ n. replicate n 32) sum ∙ sym (replicate-append-replicate (4 * level) 4 32)

module _ (u : Unfolding) where
  mutual
    node_lines_are : (n : Node) (a : Around) (i : ℕ) → node_at u.forest i ≡ Some n → flat_map (step_line u) (node_steps u a i n) ≡ node_lines (level_indent a.level) n
    node_lines_are (leaf h l) a i e = rw e (append-nil _)
    node_lines_are (parent h t f) a i e =
        rw (e, forest_lines_are f (around_below a (parent h t f)) (child_ids u i) (children_of u i (parent h t f) e), deeper_indent a.level) refl

    forest_lines_are : (f : Forest) (a : Around) (is : List ℕ) → map (node_at u.forest) is ≡ map Some (nodes f) → flat_map (step_line u) (steps_in u a is f) ≡ forest_lines (level_indent a.level) f
    forest_lines_are empty a [] e = refl
    forest_lines_are empty a (i ∷ is) e = absurd (cc)
    forest_lines_are (more n f) a [] e = absurd (cc)
    forest_lines_are (more n f) a (i ∷ is) e =
        let first : node_at u.forest i ≡ Some n = cc in
        let others : map (node_at u.forest) is ≡ map Some (nodes f) = cc in
        flat_map-append (step_line u) (node_steps u a i n) (steps_in u a is f) ∙ rw (node_lines_are n a i first, forest_lines_are f a is others) refl

pub tree_lines : (u : Unfolding) (ss : List (ℕ × Around)) → ss ≡ steps u → flat_map (step_line u) ss ≡ forest_lines [] u.forest
tree_lines u ss e = ap (flat_map (step_line u)) e ∙ forest_lines_are u u.forest (top u) (top_ids u) (tops_stand u)

-- the line of an item's id and name
one_line : (o : Option Node) (a : FileAstId) → option_map node_ast o ≡ Some a → line a (option_map_or node_name o None) ≡ option_map_or (λ n. line (node_ast n) (node_name n)) o []
one_line None a e = absurd (cc)
one_line (Some n) a e = let e : a ≡ node_ast n = cc in ap (λ b. line b (node_name n)) e

pub id_line : (u : Unfolding) (i : ℕ) (a : FileAstId) → option_map node_ast (node_at u.forest i) ≡ Some a → line a (of_id u None node_name i) ≡ of_id u [] (λ n. line (node_ast n) (node_name n)) i
id_line u i a e = one_line (node_at u.forest i) a e
