-- Where the nodes of a use tree stand.
use Rattle.std.proofs.Common.{◌≡◌, ℕ, ◌+◌, ◌<◌, List, [], ◌∷◌, ◌++◌, length, take, get_or, slice_get, Some, None, Vec, Global, refl, sym, ap, ◌∙◌, arith, length-append, append-nil, flat_map}
use Rattle.hir_input.proofs.Common.{flat_map-append, length-flat_map-take, UseTree, out-UseTree, use_tree_view, use_trees_view, written_nodes, all_written_nodes}
use Rattle.std.proofs.lemmas.List.{take_more}
use Rattle.std.proofs.lemmas.List.Concat.{get_or-flat_map}
use Rattle.std.proofs.lemmas.Option.{slice_get_within, get_or_from_slice_get, slice_get-get_or}
use Rattle.hir_input.proofs.UseTreeViews.{use_tree_view-bare, use_tree_view-listed}

-- ---- the pieces of a list

-- what stands in a piece stands behind the pieces before it
pub slice_get_piece : {X A : Type 0} (f : X → List A) (xs : List X) (i k left : ℕ) (x : X) (y : A) → i < length xs → x ≡ get_or xs i x → k ≡ left + length (flat_map f (take i xs)) → slice_get (f x) left ≡ Some y → slice_get (flat_map f xs) k ≡ Some y
slice_get_piece f xs i k left x y h e count found =
    let here : f x ≡ f (get_or xs i x) = ap f e in
    let within : left < length (f (get_or xs i x)) = omega (arith, slice_get_within (f x) left y found, ap length here) in
    let fits : k < length (flat_map f xs) = omega (arith, length-flat_map-take f xs i x h) in
    slice_get-get_or (flat_map f xs) k y fits
    ∙ ap Some
    (ap (λ n. get_or (flat_map f xs) n y) (let at : k ≡ length (flat_map f (take i xs)) + left = omega arith in at)
    ∙ get_or-flat_map f xs i left x y h within
    ∙ ap (λ ys. get_or ys left y) (sym here)
    ∙ get_or_from_slice_get (f x) left y y found)

-- how long the pieces are, with one more
pub length_pieces_more : {X A : Type 0} (f : X → List A) (xs : List X) (i : ℕ) (x : X) → i < length xs → x ≡ get_or xs i x → length (flat_map f (take (i + 1) xs)) ≡ length (flat_map f (take i xs)) + length (f x)
length_pieces_more f xs i x h e =
    simp (take_more xs i x h, sym e, flat_map-append, length-append, append-nil)

-- ---- the nodes of a use tree

-- those of a list, by those of each use tree in it
pub all_written_nodes-view : (ts : List UseTree) → all_written_nodes (use_trees_view ts) ≡ flat_map (λ t. written_nodes (use_tree_view t)) ts
all_written_nodes-view [] = refl
all_written_nodes-view (t ∷ ts) = ap (λ ns. written_nodes (use_tree_view t) ++ ns) (all_written_nodes-view ts)

pub written_nodes-bare : (t : UseTree) → (out-UseTree t).list ≡ None → written_nodes (use_tree_view t) ≡ use_tree_view t ∷ []
written_nodes-bare t e = rw (use_tree_view-bare t e) refl

pub written_nodes-listed : (t : UseTree) (list : Vec UseTree Global) → (out-UseTree t).list ≡ Some list → written_nodes (use_tree_view t) ≡ use_tree_view t ∷ flat_map (λ t. written_nodes (use_tree_view t)) list.items
written_nodes-listed t list e =
    rw (use_tree_view-listed t list e, all_written_nodes-view list.items) refl

pub ruleset node_steps = (written_nodes-bare, written_nodes-listed)
