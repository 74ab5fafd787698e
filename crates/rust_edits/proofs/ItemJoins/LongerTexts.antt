-- A text that ends with a `;` or a `}` of its own, and what stands behind it: what is in front stays, and the tokens behind are those of the other text, moved.
use Rattle.std.proofs.Common.{◌≡◌, ◌+◌, ℕ, suc, Bool, true, false, Option, Some, None, List, [], ◌∷◌, ◌++◌, length, refl, sym, ap, ◌∙◌, arith, map, if◌then◌else◌}
use Rattle.rust_edits.proofs.Common.{IsBare, slice_index, option_map, filter, EditionYear, Stop, stop, EndsAlone, is_fence, tokens_in_front, moved_piece, is_continuation, Piece, symbol_of, is_terminated, has_mark, is_shebang, is_significant, tokens, tokens_from, Tokens, end_of, tokens_of, place_if_open, last_unended, by_first, rest, bumped, filter-append, nat_tests, own, stop_at, tokens_moved, plain_is, filter_moved, LeadsTo, here, further}
use Rattle.rust_lexer.proofs.StopBytes.{by_stop}
use Rattle.rust_edits.specs.ItemJoins.Open.{end_behind}
use Rattle.rust_edits.proofs.ItemJoins.OwnEnds.{last_counts, ended}
use Rattle.rust_edits.proofs.Typing.UnendedTokens.{fence_by, mark_by, shebang_on, last_append}

-- ---- what may stand in front of a text

fence_on : (o : Stop) (x y y' : List ℕ) → is_fence (x ++ stop o ∷ y') ≡ is_fence (x ++ stop o ∷ y)
fence_on o x y y' = by_stop (λ s. is_fence (x ++ s ∷ y') ≡ is_fence (x ++ s ∷ y)) (fence_by 123 refl refl x y y') (fence_by 125 refl refl x y y') (fence_by 59 refl refl x y y') o

mark_on : (o : Stop) (x y y' : List ℕ) → has_mark (x ++ stop o ∷ y') ≡ has_mark (x ++ stop o ∷ y)
mark_on o x y y' = by_stop (λ s. has_mark (x ++ s ∷ y') ≡ has_mark (x ++ s ∷ y)) (mark_by 123 refl refl x y y') (mark_by 125 refl refl x y y') (mark_by 59 refl refl x y y') o

-- nothing stands in front of the longer text either
pub plain_on : (w : List ℕ) (o : Stop) (y : List ℕ) → EndsAlone w o → is_continuation (slice_index y 0) ≡ false → IsBare (ended w o) → IsBare (w ++ stop o ∷ y)
plain_on w o y alone clean p = record {
  mark = mark_on o w [] y ∙ p.mark;
  shebang =
      ap is_shebang (own o 0 w y alone clean) ∙ shebang_on o (0 + length w) (tokens_in_front 0 0 w (stop o ∷ [])) [] (tokens_from 0 (suc (0 + length w)) y)
      ∙ ap is_shebang (sym (own o 0 w [] alone refl)) ∙ p.shebang;
  fence = fence_on o w [] y ∙ p.fence;
}

-- nor in front of the shorter one
pub plain_back : (w : List ℕ) (o : Stop) (y : List ℕ) → EndsAlone w o → is_continuation (slice_index y 0) ≡ false → IsBare (w ++ stop o ∷ y) → IsBare (ended w o)
plain_back w o y alone clean p = record {
  mark = mark_on o w y [] ∙ p.mark;
  shebang =
      ap is_shebang (own o 0 w [] alone refl) ∙ shebang_on o (0 + length w) (tokens_in_front 0 0 w (stop o ∷ [])) (tokens_from 0 (suc (0 + length w)) y) []
      ∙ ap is_shebang (sym (own o 0 w y alone clean)) ∙ p.shebang;
  fence = fence_on o w y [] ∙ p.fence;
}

-- ---- tokens behind

pub plain_tokens : (z : List ℕ) → IsBare z → tokens z ≡ tokens_from 0 0 z
plain_tokens z p = plain_is z p.mark p.shebang p.fence

-- so many of the tokens count
pub behind_moved : (d : ℕ) (z : List ℕ) → IsBare z → filter is_significant (tokens_from 0 (0 + d) z) ≡ map (moved_piece d) (filter is_significant (tokens z))
behind_moved d z p = ap (filter is_significant) (tokens_moved d 0 0 z) ∙ filter_moved d (tokens_from 0 0 z) ∙ ap (λ l. map (moved_piece d) (filter is_significant l)) (sym (plain_tokens z p))

pub first_moved : (d : ℕ) (l : List Piece) → by_first 0 symbol_of (map (moved_piece d) l) ≡ by_first 0 symbol_of l
first_moved d [] = refl
first_moved d (t ∷ l) = refl

pub last_moved : (d : ℕ) (last : Option ℕ) (ts : List Piece) → last_unended (option_map (λ n. n + d) last) (map (moved_piece d) ts) ≡ option_map (λ n. n + d) (last_unended last ts)
last_moved d last [] = refl
last_moved d last (t ∷ ts) = ap (λ l. last_unended l (map (moved_piece d) ts)) (place (is_terminated t) t.at) ∙ last_moved d (place_if_open t) ts
  where
    place : (closed : Bool) (at : ℕ) → (if closed then None else Some (at + d)) ≡ option_map (λ n. n + d) (if closed then None else Some at)
    place true at = refl
    place false at = refl

pub last_stop : (o : Stop) (at : ℕ) (last : Option ℕ) (l : List Piece) → last_unended last (stop_at o at ∷ l) ≡ last_unended None l
last_stop o at last l = grind (arith, nat_tests)

-- where the last token of the longer text is not ended
pub unended_behind : (edition : EditionYear) (w : List ℕ) (o : Stop) (y : List ℕ) → EndsAlone w o → is_continuation (slice_index y 0) ≡ false → IsBare (w ++ stop o ∷ y) → IsBare y
    → (tokens_of edition (w ++ stop o ∷ y)).unended ≡ option_map (λ n. n + suc (length w)) (tokens_of edition y).unended
unfolding tokens_of
unended_behind edition w o y alone clean p q =
    let d = suc (length w) in
    let xs = tokens_in_front 0 0 w (stop o ∷ []) in
    let all : tokens (w ++ stop o ∷ y) ≡ xs ++ stop_at o (0 + length w) ∷ tokens_from 0 (suc (0 + length w)) y = plain_tokens (w ++ stop o ∷ y) p ∙ own o 0 w y alone clean in
    let place : suc (0 + length w) ≡ 0 + d = omega arith in
    ap (last_unended None) all ∙ last_append None xs (stop_at o (0 + length w) ∷ tokens_from 0 (suc (0 + length w)) y)
    ∙ last_stop o (0 + length w) (last_unended None xs) (tokens_from 0 (suc (0 + length w)) y)
    ∙ ap (λ (k : ℕ). last_unended None (tokens_from 0 k y)) place ∙ ap (last_unended None) (tokens_moved d 0 0 y)
    ∙ last_moved d None (tokens_from 0 0 y) ∙ ap (λ (l : List Piece). option_map (λ n. n + d) (last_unended None l)) (sym (plain_tokens y q))

-- ---- where the last token ends

end_rest : (past : ℕ) (left : List Piece) → end_behind (by_first past end_of left) (rest left) ≡ end_behind past left
end_rest past left = grind (arith, nat_tests)

end_on : {ts us : Tokens} → LeadsTo ts us → end_behind us.past us.left ≡ end_behind ts.past ts.left
unfolding bumped
end_on here = refl
end_on {ts} (further p) = end_on p ∙ end_rest ts.past ts.left

end_last : (past : ℕ) (xs : List Piece) (t : Piece) → end_behind past (xs ++ t ∷ []) ≡ end_of t
end_last past [] t = refl
end_last past (x ∷ xs) t = end_last (end_of x) xs t

end_whole : (edition : EditionYear) (w : List ℕ) (o : Stop) → EndsAlone w o → IsBare (ended w o) → end_behind (tokens_of edition (ended w o)).past (tokens_of edition (ended w o)).left ≡ suc (length w)
unfolding tokens_of
end_whole edition w o alone p =
    let xs = tokens_in_front 0 0 w (stop o ∷ []) in
    let t = stop_at o (0 + length w) in
    let counted : filter is_significant (t ∷ []) ≡ t ∷ [] = rw (last_counts o (0 + length w)) refl in
    let place : end_of t ≡ suc (length w) = omega arith in
    ap (λ (l : List Piece). end_behind 0 (filter is_significant l)) (plain_tokens (ended w o) p ∙ own o 0 w [] alone refl)
    ∙ ap (end_behind 0) (filter-append is_significant xs (t ∷ []) ∙ ap (λ l. filter is_significant xs ++ l) counted)
    ∙ end_last 0 (filter is_significant xs) t ∙ place

-- where all tokens of such a text were taken
pub past_whole : (edition : EditionYear) (w : List ℕ) (o : Stop) (us : Tokens) → EndsAlone w o → IsBare (ended w o) → LeadsTo (tokens_of edition (ended w o)) us → us.left ≡ [] → us.past ≡ suc (length w)
past_whole edition w o us alone p leads none = sym (ap (end_behind us.past) none) ∙ end_on leads ∙ end_whole edition w o alone p
