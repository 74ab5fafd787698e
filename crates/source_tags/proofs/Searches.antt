-- Lines, and the searches for them.
use Rattle.source_tags.proofs.Common.{◌≡◌, ◌≢◌, ℕ, suc, ◌+◌, ◌-◌, ◌<◌, ◌≤◌, ◌==◌, true, false, if◌then◌else◌, List, [], ◌∷◌, ◌++◌, length, get_or, take, Option, None, Some, Bor, option_map, ap, sym, refl, ◌∙◌, arith, nat_lt, nat_tests, cases_Bool, ⊎_elim, take_all, lit<}
use Rattle.std.specs.Prelude.{zero, drop, MatchOption}
use Rattle.std.specs.List.{after_first, before_first, position_or_len}
use Rattle.std.proofs.lemmas.Bool.Decides.{Decides-eqb}
use Rattle.std.proofs.lemmas.List.{drop_more}
use Rattle.std.proofs.lemmas.Str.Pattern.{IsSplitOnceResult, split_once_first}
use Rattle.source_tags.specs.LineSearches.{TextLine, line_on, next_line, before_last, is_line_feed, is_searched, search_length, searched_size}
unfoldable use Rattle.source_tags.specs.LineSearches.{text_line}

-- what stands before a last byte
front_before : (c : ℕ) (front : List ℕ) → before_last c (front ++ c ∷ []) ≡ Some front
front_before c [] = let same : (c == c) ≡ true = (Decides-eqb c c).1 refl in ap (λ t. if t then Some [] else None) same
front_before c (b ∷ []) = ap (option_map (λ front. b ∷ front)) (front_before c [])
front_before c (b ∷ x ∷ bs) = ap (option_map (λ front. b ∷ front)) (front_before c (x ∷ bs))

none_before : (c : ℕ) (bs : List ℕ) → ((front : List ℕ) → bs ≢ front ++ c ∷ []) → before_last c bs ≡ None
none_before c [] h = refl
none_before c (b ∷ []) h =
    ⊎_elim (λ t. absurd (h [] (ap (λ x. x ∷ []) ((Decides-eqb b c).0 t)))) (λ f. ap (λ t. if t then Some [] else None) f) (cases_Bool (b == c))
none_before c (b ∷ x ∷ bs) h = ap (option_map (λ front. b ∷ front)) (none_before c (x ∷ bs) (λ front e. h (b ∷ front) (ap (λ l. b ∷ l) e)))

pub before_last_is : (c : ℕ) (bs : List ℕ) (r : Option (Bor (List ℕ))) → MatchOption r ((front : List ℕ) → bs ≢ front ++ c ∷ []) (λ x. bs ≡ x.now ++ c ∷ []) → option_map (λ s. s.now) r ≡ before_last c bs
before_last_is c bs None h = sym (none_before c bs h)
before_last_is c bs (Some x) h = sym (ap (before_last c) h ∙ front_before c x.now)

-- a text without a line feed is one line
pub whole_line : (bs : List ℕ) → IsSplitOnceResult 10 bs None → text_line bs ≡ record { text = bs; behind = None }
unfolding text_line
whole_line bs h =
    let e : position_or_len is_line_feed bs ≡ length bs = split_once_first 10 bs None h (lit< tt) in
    let none : nat_lt (position_or_len is_line_feed bs) (length bs) ≡ false = grind (arith, nat_tests, e) in
    let text : before_first is_line_feed bs ≡ bs = ap (λ n. take n bs) e ∙ take_all (length bs) bs (omega arith) in
    let behind = ap (λ t. if t then Some (after_first is_line_feed bs) else None) none in
    λ k. record { text = text k; behind = behind k }

-- a line, and what stands behind its line feed
pub split_line : (bs : List ℕ) (x : Bor (List ℕ) × Bor (List ℕ)) → IsSplitOnceResult 10 bs (Some x) → text_line bs ≡ record { text = x.0.now; behind = Some x.1.now }
unfolding text_line
split_line bs x h =
    let e = split_once_first 10 bs (Some x) h (lit< tt) in
    let some : nat_lt (position_or_len is_line_feed bs) (length bs) ≡ true = grind (arith, nat_tests, e.0) in
    let behind = ap (λ t. if t then Some (after_first is_line_feed bs) else None) some ∙ ap Some (sym e.2) in
    λ k. record { text = sym e.1 k; behind = behind k }

-- so many lines on, and so many more
on_twice : (a b n : ℕ) (l : TextLine) → n ≡ a + b → line_on b (line_on a l) ≡ line_on n l
on_twice a zero n l e = let same : a ≡ n = omega (arith, e) in ap (λ k. line_on k l) same
on_twice a (suc b) n l e = let whole : suc (a + b) ≡ n = omega (arith, e) in ap next_line (on_twice a b (a + b) l refl) ∙ ap (λ k. line_on k l) whole

pub lines_on : (a n : ℕ) (l m : TextLine) → a ≤ n → m ≡ line_on a l → line_on (n - a) m ≡ line_on n l
lines_on a n l m le e =
    ap (line_on (n - a)) e ∙ on_twice a (n - a) n l (omega arith)

-- how many bytes are searched for from a byte of a line on
size_at : (line : List ℕ) (i n b : ℕ) → i < length line → b ≡ get_or line i b → searched_size n (drop i line) ≡ searched_size n (b ∷ drop (i + 1) line)
size_at line i n b lt e = ap (searched_size n) (drop_more line i b lt ∙ ap (λ x. x ∷ drop (i + 1) line) (sym e))

pub size_more : (line : List ℕ) (i n b whole : ℕ) → i < length line → b ≡ get_or line i b → is_searched n b ≡ true → whole ≡ i + searched_size n (drop i line)
    → whole ≡ i + 1 + searched_size (search_length n b) (drop (i + 1) line)
size_more line i n b whole lt e t h =
    let on = size_at line i n b lt e ∙ ap (λ t. if t then suc (searched_size (search_length n b) (drop (i + 1) line)) else 0) t in
    omega (arith, h, on)

pub size_stop : (line : List ℕ) (i n b whole : ℕ) → i < length line → b ≡ get_or line i b → is_searched n b ≡ false → whole ≡ i + searched_size n (drop i line) → i ≡ whole
size_stop line i n b whole lt e t h =
    let on = size_at line i n b lt e ∙ ap (λ t. if t then suc (searched_size (search_length n b) (drop (i + 1) line)) else 0) t in
    omega (arith, h, on)
