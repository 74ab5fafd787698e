-- The places of a file are those of another, moved, where what was found stands alike in both.
use Rattle.std.proofs.Common.{◌≡◌, ◌≤◌, ℕ, Option, Some, List, [], ◌∷◌, length, refl, ap, sym, ◌∙◌, map, option_map}
use Rattle.rust_items.proofs.Common.{EditionYear, FileAstId, AreAlike, no_more, IsAlike, neither, both, TextRange, SameRange, ItemSpan, moved_range, moved_span, FileView, places, found_in, IsFile}
use Rattle.rust_cursor.proofs.Places.{one_more}
use Rattle.rust_items.proofs.LineEnds.{moved_place}
use Rattle.rust_items.proofs.FoundRows.{SpanAlike}
use Rattle.rust_items.proofs.ItemsInText.{IsIn, IsMaybeIn, AreIn, spans_in}

places_map : (place : ℕ → ℕ) (ids : List FileAstId) (spans : List ItemSpan) → places ids (map (moved_span place) spans) ≡ map (moved_place place) (places ids spans)
places_map place [] spans = refl
places_map place (id ∷ ids) [] = refl
places_map place (id ∷ ids) (s ∷ spans) = ap (λ l. moved_place place (record { id = id; range = s.range; name = s.name; body = s.body }) ∷ l) (places_map place ids spans)

module _ (same : ℕ → ℕ → Type 0) (end : ℕ) (old new move : ℕ → ℕ) (place_is : (n k : ℕ) → n ≤ end → same n k → new k ≡ move (old n)) where
  range_is : (r t : TextRange) → IsIn end r → SameRange same r t → moved_range new t ≡ moved_range move (moved_range old r)
  range_is r t l h = ap (λ n. record { start = n; end = new t.end }) (place_is r.start t.start l.0 h.start) ∙ ap (λ n. record { start = move (old r.start); end = n }) (place_is r.end t.end l.1 h.end)

  maybe_is : (o p : Option TextRange) → IsMaybeIn end o → IsAlike (SameRange same) o p → option_map (moved_range new) p ≡ option_map (moved_range move) (option_map (moved_range old) o)
  maybe_is o p l neither = refl
  maybe_is o p l (both {x = r} {y = t} h) = ap Some (range_is r t l h)

  span_is : (a t : ItemSpan) → IsIn end a.range × (IsMaybeIn end a.name × IsMaybeIn end a.body) → SpanAlike same a t → moved_span new t ≡ moved_span move (moved_span old a)
  span_is a t l h =
      ap (λ (r : TextRange). record { range = r; name = option_map (moved_range new) t.name; body = option_map (moved_range new) t.body }) (range_is a.range t.range l.0 h.range)
      ∙ ap (λ (o : Option TextRange). record { range = moved_range move (moved_range old a.range); name = o; body = option_map (moved_range new) t.body }) (maybe_is a.name t.name l.1.0 h.name)
      ∙ ap (λ (o : Option TextRange). record { range = moved_range move (moved_range old a.range); name = option_map (moved_range move) (option_map (moved_range old) a.name); body = o }) (maybe_is a.body t.body l.1.1 h.body)

  spans_are : {xs ys : List ItemSpan} → AreIn end xs → AreAlike (SpanAlike same) xs ys → map (moved_span new) ys ≡ map (moved_span move) (map (moved_span old) xs)
  spans_are l no_more = refl
  spans_are l (one_more {x = x} {y = y} {xs = xs} {ys = ys} h k) = ap (λ z. z ∷ map (moved_span new) ys) (span_is x y l.0 h) ∙ ap (λ z. moved_span move (moved_span old x) ∷ z) (spans_are l.1 k)

-- the same ids stand at places that are moved
pub files_moved : (edition : EditionYear) (x x' : List ℕ) (old new move : ℕ → ℕ) (same : ℕ → ℕ → Type 0) → ((n k : ℕ) → n ≤ length x → same n k → new k ≡ move (old n)) → (file file' : FileView)
    (f : IsFile edition x old file) (g : IsFile edition x' new file') → g.ids ≡ f.ids → AreAlike (SpanAlike same) (found_in edition x).spans (found_in edition x').spans
    → file'.places ≡ map (moved_place move) file.places
files_moved edition x x' old new move same place_is file file' f g ids a =
    g.places ∙ ap (λ (l : List FileAstId). places l (map (moved_span new) (found_in edition x').spans)) ids
    ∙ ap (places f.ids) (spans_are same (length x) old new move place_is (spans_in edition x) a)
    ∙ places_map move f.ids (map (moved_span old) (found_in edition x).spans) ∙ ap (map (moved_place move)) (sym f.places)
