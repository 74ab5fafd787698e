-- Items and use trees stand where they stood, or are moved with the text.
use Rattle.std.proofs.Common.{◌≡◌, ◌≤◌, ℕ, List, ◌∷◌, length, refl, ap, sym, subst, ◌∙◌, map, arith, ◌+◌, ◌++◌, length-append}
use Rattle.rust_edits.proofs.Common.{found_in, All, EditionYear, ItemViews, ItemPlace, with_feeds, place_in, FileView, IsFile, with_body, IsTyped, shifted_by, AreMoved, PlacesMove, has_body, has_body_at, BodyIsTold, FileAstId, source_file, tokens_of, Row, AreIds, inner_attributes, with_ids, moved_span, moved_problem, places, items_in, IsReadAnew, All-nil, All-append, All-head, All-tail, All-weaker, close_some, AreAlike, no_more, one_more, unmoved, moves, text_found}
use Rattle.hir_input.specs.UseTreeView.{UseTreeView}
use Rattle.rust_items.proofs.Moving.{files_moved}
use Rattle.rust_items.proofs.UsesFound.{IsIn, UsesIn, no_uses, leaf_uses, holder_uses}
use Rattle.rust_edits.proofs.Typing.Texts.{IsMoved}
use Rattle.rust_edits.proofs.Typing.Typing.{both_read, same_ids}
use Rattle.rust_edits.proofs.Typing.Returns.{feeds_body, body_length, place_stays, place_moves}
use Rattle.rust_items.proofs.ToldBodies.{file_told}

-- ---- places

pub place_is : (q m m' s : List ℕ) (n k : ℕ) → n ≤ length (with_body (with_feeds q) (with_feeds m) (with_feeds s)) → IsMoved (with_feeds q) (with_feeds m) (with_feeds m') (with_feeds s) n k
    → place_in (with_body q m' s) k ≡ shifted_by q m m' (place_in (with_body q m s) n)
place_is q m m' s n k l (unmoved i e) = ap (place_in (with_body q m' s)) e ∙ place_stays q m m' s n i
place_is q m m' s n k l (moves c low e f) =
    let some = close_some (with_feeds s) in
    let long = body_length (with_feeds q) (with_feeds m) (with_feeds s) in
    ap (place_in (with_body q m' s)) f ∙ place_moves q m m' s c (omega (arith, some, low)) (omega (arith, e, long, l)) ∙ ap (λ i. shifted_by q m m' (place_in (with_body q m s) i)) (sym e)

-- use trees begin in the text
uses_below : {R : ℕ → UseTreeView → Type 0} {from to : ℕ} {is : ItemViews} {ps : List ItemPlace} {us : List ℕ} (end : ℕ) → to ≤ end → UsesIn R from to is ps us → All (λ n. n ≤ end) us
uses_below end h no_uses = All-nil (λ n. n ≤ end)
uses_below end h (leaf_uses {p = p} own behind e none w own_in each later) =
    let ends = w.ends in
    subst (All (λ n. n ≤ end)) (sym e)
    (All-append (λ n. n ≤ end) own behind (All-weaker (IsIn p.range.start p.range.end) (λ n. n ≤ end) (λ n k. let high = k.1 in omega arith) own own_in) (uses_below end h later))
uses_below end h (holder_uses {p = p} inner later below behind e f same w a b) =
    let ends = w.ends in
    subst (All (λ n. n ≤ end)) (sym f) (All-append (λ n. n ≤ end) below behind (uses_below end (omega arith) a) (uses_below end h b))

pub uses_within : (edition : EditionYear) (x : List ℕ) → All (λ n. n ≤ length x) (found_in edition x).use_trees
uses_within edition x = let own = text_found edition x in subst (All (λ n. n ≤ length x)) (sym own.more) (uses_below (length x) (omega arith) own.uses)

starts_are : (q m m' s : List ℕ) {xs ys : List ℕ} → All (λ n. n ≤ length (with_body (with_feeds q) (with_feeds m) (with_feeds s))) xs → AreAlike (IsMoved (with_feeds q) (with_feeds m) (with_feeds m') (with_feeds s)) xs ys
    → map (place_in (with_body q m' s)) ys ≡ map (shifted_by q m m') (map (place_in (with_body q m s)) xs)
starts_are q m m' s l no_more = refl
starts_are q m m' s l (one_more {x = n} {y = k} {xs = xs} {ys = ys} h r) =
    let end = length (with_body (with_feeds q) (with_feeds m) (with_feeds s)) in
    ap (λ z. z ∷ map (place_in (with_body q m' s)) ys) (place_is q m m' s n k (All-head (λ i. i ≤ end) n xs l) h)
    ∙ ap (λ z. shifted_by q m m' (place_in (with_body q m s) n) ∷ z) (starts_are q m m' s (All-tail (λ i. i ≤ end) n xs l) r)

-- ---- the law

read_moved : (edition : EditionYear) (q m m' s : List ℕ) (file file' : FileView) → IsTyped edition (with_feeds q) (with_feeds m) (with_feeds m') (with_feeds s)
    → IsFile edition (with_body (with_feeds q) (with_feeds m) (with_feeds s)) (place_in (with_body q m s)) file
    → IsFile edition (with_body (with_feeds q) (with_feeds m') (with_feeds s)) (place_in (with_body q m' s)) file' → AreMoved q m m' s file file'
read_moved edition q m m' s file file' t f g =
    let x = with_body (with_feeds q) (with_feeds m) (with_feeds s) in
    let x' = with_body (with_feeds q) (with_feeds m') (with_feeds s) in
    let r = both_read edition (with_feeds q) (with_feeds m) (with_feeds m') (with_feeds s) t in
    let ids = same_ids edition x x' (place_in (with_body q m s)) (place_in (with_body q m' s)) file file' f g r.found.rows in
    record {
      places = files_moved edition x x' (place_in (with_body q m s)) (place_in (with_body q m' s)) (shifted_by q m m') (IsMoved (with_feeds q) (with_feeds m) (with_feeds m') (with_feeds s)) (place_is q m m' s) file file' f g ids r.found.spans;
      use_trees = g.use_trees ∙ starts_are q m m' s (uses_within edition x) r.found.use_trees ∙ ap (map (shifted_by q m m')) (sym f.use_trees);
    }

pub places_move : PlacesMove
places_move edition q m m' s read again t f g =
    read_moved edition q m m' s read again t (subst (λ (z : List ℕ). IsFile edition z (place_in (with_body q m s)) read) (feeds_body q m s) f)
    (subst (λ (z : List ℕ). IsFile edition z (place_in (with_body q m' s)) again) (feeds_body q m' s) g)

-- ---- which braces are a body is told by the places of what was read

pub body_is_told : BodyIsTold
body_is_told edition q m s old read e f =
    let long : length (with_feeds old) ≡ length q + length (123 ∷ (m ++ 125 ∷ s)) = ap length e ∙ length-append q (123 ∷ (m ++ 125 ∷ s)) in
    subst (λ (z : List ℕ). has_body_at (place_in old (length q)) read.places ≡ has_body (length q) (found_in edition z).spans) e (file_told edition old read f (length q) (omega arith))

-- ---- something is read of the text in whose body something was typed

-- what is read with these ids
made : EditionYear → List ℕ → (ℕ → ℕ) → List FileAstId → FileView
made edition x place ids =
    record {
      syntax = source_file (inner_attributes (tokens_of edition x)).0 (with_ids (items_in edition x) ids).0;
      places = places ids (map (moved_span place) (found_in edition x).spans);
      use_trees = map place (found_in edition x).use_trees;
      problems = map (moved_problem place) (found_in edition x).problems;
    }

made_is : (edition : EditionYear) (x : List ℕ) (place : ℕ → ℕ) (ids : List FileAstId) → AreIds (found_in edition x).rows ids → IsFile edition x place (made edition x place ids)
unfolding made
made_is edition x place ids are = record { ids = ids; are_ids = are; syntax = refl; places = refl; use_trees = refl; problems = refl }

-- the rows are the same, and so are the ids
pub is_read_anew : IsReadAnew
is_read_anew edition q m m' s read t f =
    let x' = with_body (with_feeds q) (with_feeds m') (with_feeds s) in
    let place = place_in (with_body q m' s) in
    let r = both_read edition (with_feeds q) (with_feeds m) (with_feeds m') (with_feeds s) t in
    let old = subst (λ (z : List ℕ). IsFile edition z (place_in (with_body q m s)) read) (feeds_body q m s) f in
    let are : AreIds (found_in edition x').rows old.ids = subst (λ (l : List Row). AreIds l old.ids) (sym r.found.rows) old.are_ids in
    let again = made edition x' place old.ids in
    (again, subst (λ (z : List ℕ). IsFile edition z place again) (sym (feeds_body q m' s)) (made_is edition x' place old.ids are))
