-- The edits of files, made one by one.
use Rattle.std.proofs.Common.{◌≡◌, ◌<◌, ◌≤◌, ◌+◌, ℕ, List, [], ◌∷◌, ◌++◌, map, drop, length, get_or, Bool, Option, Some, ap, ◌∙◌}
use Rattle.item_tree_request.proofs.Writing.Common.{drop_more, drop_all, syntax_view, joined_items, after_all, joined_push, led_items, edit_data, edits_data}
use Rattle.serde_json.specs.Data.{Items}
use Rattle.serde_json.specs.View.{view, items_view}
use Rattle.serde_json.specs.declared.value.Value.{Value}
use Rattle.hir_input.specs.declared.ast.Syntax.{Syntax}

-- one more is done
pub edit_more : (bodies : Bool) (o : Option Items) (files : List Syntax) (i : ℕ) (x : Syntax) (vs : List Value) (v : Value)
    → i < length files → o ≡ joined_items (map view vs) (edits_data bodies i (map syntax_view (drop i files))) → edit_data bodies i (syntax_view (get_or files i x)) ≡ Some (view v)
    → o ≡ joined_items (map view (vs ++ v ∷ [])) (edits_data bodies (i + 1) (map syntax_view (drop (i + 1) files)))
edit_more bodies o files i x vs v within so_far is =
    so_far ∙ ap (λ ys. joined_items (map view vs) (edits_data bodies i (map syntax_view ys))) (drop_more files i x within)
    ∙ ap (λ d. joined_items (map view vs) (led_items d (edits_data bodies (i + 1) (map syntax_view (drop (i + 1) files))))) is
    ∙ joined_push vs v (edits_data bodies (i + 1) (map syntax_view (drop (i + 1) files)))

-- nothing is left
pub edits_done : (bodies : Bool) (o : Option Items) (files : List Syntax) (i : ℕ) (vs : List Value)
    → length files ≤ i → o ≡ joined_items (map view vs) (edits_data bodies i (map syntax_view (drop i files))) → o ≡ Some (items_view vs)
edits_done bodies o files i vs past so_far =
    so_far ∙ ap (λ ys. joined_items (map view vs) (edits_data bodies i (map syntax_view ys))) (drop_all i files past) ∙ ap Some (after_all vs)
