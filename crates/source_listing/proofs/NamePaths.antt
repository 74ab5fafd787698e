-- Paths of names, as they are written to be looked for.
use Rattle.std.proofs.Common.{◌≡◌, ℕ, ◌≤◌, ◌-◌, List, [], ◌∷◌, ◌++◌, length, map, take, take_all, drop, Bor, MatchOption, Option, Some, None, option_map, true, false, append_assoc, arith, refl, sym, ap, ◌∙◌, slice_index_or}
use Rattle.std.specs.Str.Pattern.{FindsTextPrefix, StripsPrefix}
use Rattle.std.proofs.lemmas.Str.Pattern.{starts_text}
use Rattle.source_listing.proofs.Common.{bare_segment}
use Rattle.source_listing.specs.Sought.{Split, name_before, split_at, split_names, text_behind}

-- the clause of `strip_prefix` at a text
pub stripped : (front text : List ℕ) (r : Option (Bor (List ℕ))) → MatchOption r (FindsTextPrefix front text None) (λ x. StripsPrefix (FindsTextPrefix front) text x.now) → option_map (λ x. x.now) r ≡ text_behind front text
stripped front text None h = rw (← starts_text false front text h) refl
stripped front text (Some x) h =
    let starts = starts_text true front text (h.0, h.1, rw (h.1.0) h.1.2) in
    rw (← starts, h.2, h.1.0) refl

-- what is read in front of more names
abbrev pub read_before : List ℕ → Option Split → Option Split
read_before done names = option_map (λ s. split_at (done ++ s.scope) s.last) names

pub read_first : (names : Option Split) → read_before [] names ≡ names
read_first None = refl
read_first (Some s) = refl

pub read_more : (done name : List ℕ) (names : Option Split) → read_before done (read_before name names) ≡ read_before (done ++ name) names
read_more done name None = refl
read_more done name (Some s) = ap (λ scope. Some (split_at scope s.last)) (sym (append_assoc done name s.scope))

-- one more name is read, and what stands behind it is left
pub read_next : (ws : List (Bor (List ℕ))) (d e name : Bor (List ℕ)) (found : Option (Bor (List ℕ))) (all : Option Split) (done more : List ℕ) → 2 ≤ length ws → all ≡ read_before done (split_names (map (λ w. w.now) ws))
    → option_map (λ x. x.now) found ≡ name_before (slice_index_or ws 1 d).now (slice_index_or ws 0 e).now → found ≡ Some name → more ≡ done ++ bare_segment name.now
    → all ≡ read_before more (split_names (map (λ w. w.now) (take (length ws - 2) (drop 2 ws))))
read_next [] d e name found all done more l a f n m = absurd (omega arith)
read_next (word ∷ []) d e name found all done more l a f n m = absurd (omega arith)
read_next (word ∷ gap ∷ rest) d e name found all done more l a f n m =
    let is : name_before gap.now word.now ≡ Some name.now = sym f ∙ ap (option_map (λ x. x.now)) n in
    let left : take (length (word ∷ gap ∷ rest) - 2) (drop 2 (word ∷ gap ∷ rest)) ≡ rest = take_all (length (word ∷ gap ∷ rest) - 2) rest (omega arith) in
    a ∙ rw (is, left, m) (read_more done (bare_segment name.now) (split_names (map (λ w. w.now) rest)))
