-- Where lines begin, and points by these.
use Rattle.std.proofs.Common.{◌≡◌, ℕ, zero, suc, ◌+◌, ◌-◌, ◌==◌, Bool, true, false, ◌&&◌, List, [], ◌∷◌, ◌++◌, cond, ⊎_elim, refl, sym, ap, ◌∙◌, subst, arith, ◌<◌, ◌≤◌, length, take, drop, min, max, get_or, length-drop, nat_eq, nat_lt, if◌then◌else◌}
use Rattle.std.proofs.lemmas.Bool.{cases_Bool, le-leb, ltb-false, ne_eqb}
use Rattle.std.proofs.lemmas.Str.{IsCharBoundary-from_rest}
use Rattle.std.specs.Str.{IsCharBoundary}
use Rattle.std.proofs.lemmas.List.{drop-drop, get_or-drop}
use Rattle.std.proofs.lemmas.List.Sums.{sum_by-cons}
use Rattle.std.proofs.lemmas.Bool.Decides.{Decides-eqb}
use Rattle.std.proofs.lemmas.Slice.Eq.{starts_is}
use Rattle.std.specs.List.{AllWithin, sum_by, starts_with}
use Rattle.line_index.specs.declared.LineEnds.{LineEnds}
use Rattle.line_index.specs.declared.LineEnds.TheVariants.{Feeds, All}
use Rattle.line_index.specs.declared.Point.{Point}
use Rattle.line_index.specs.declared.Style.{Style}
use Rattle.line_index.specs.Points.{HasPoint, begins_end, point_behind, byte_at, bytes_before, continues_character, is_line_end, point_further, hidden_length, point_at, column_units}
use Rattle.line_index.specs.Starts.{line_starts, starts_from}
use Rattle.line_index.proofs.Points.{has_point, to_ended, to_running}

starts_ended : (ends : LineEnds) (at b : ℕ) (bytes : List ℕ) → is_line_end ends b bytes ≡ true → starts_from ends at (b ∷ bytes) ≡ suc at ∷ starts_from ends (suc at) bytes
starts_ended ends at b bytes e = rw e refl

starts_running : (ends : LineEnds) (at b : ℕ) (bytes : List ℕ) → is_line_end ends b bytes ≡ false → starts_from ends at (b ∷ bytes) ≡ starts_from ends (suc at) bytes
starts_running ends at b bytes e = rw e refl

-- all stand behind the beginning
above_if : (t : Bool) (at : ℕ) (xs : List ℕ) → ((k d : ℕ) → k < length xs → suc at < get_or xs k d) → (k d : ℕ) → k < length (cond t (suc at ∷ xs) xs) → at < get_or (cond t (suc at ∷ xs) xs) k d
above_if true at xs all zero d l = omega arith
above_if true at xs all (suc k) d l = let more = all k d (omega (arith, l)) in omega (arith, more)
above_if false at xs all k d l = let more = all k d l in omega (arith, more)

pub above : (ends : LineEnds) (at : ℕ) (bytes : List ℕ) (k d : ℕ) → k < length (starts_from ends at bytes) → at < get_or (starts_from ends at bytes) k d
above ends at [] k d l = absurd (omega (arith, l))
above ends at (b ∷ bytes) k d l = above_if (is_line_end ends b bytes) at (starts_from ends (suc at) bytes) (above ends (suc at) bytes) k d l

-- all rise
rise_if : (t : Bool) (at : ℕ) (xs : List ℕ) → ((k d : ℕ) → k < length xs → suc at < get_or xs k d) → ((i j d : ℕ) → i ≤ j → j < length xs → get_or xs i d ≤ get_or xs j d)
    → (i j d : ℕ) → i ≤ j → j < length (cond t (suc at ∷ xs) xs) → get_or (cond t (suc at ∷ xs) xs) i d ≤ get_or (cond t (suc at ∷ xs) xs) j d
rise_if true at xs all rise zero zero d h l = omega arith
rise_if true at xs all rise zero (suc j) d h l = let more = all j d (omega (arith, l)) in omega (arith, more)
rise_if true at xs all rise (suc i) zero d h l = absurd (omega (arith, h))
rise_if true at xs all rise (suc i) (suc j) d h l = rise i j d (omega (arith, h)) (omega (arith, l))
rise_if false at xs all rise i j d h l = rise i j d h l

pub starts_rise : (ends : LineEnds) (at : ℕ) (bytes : List ℕ) (i j d : ℕ) → i ≤ j → j < length (starts_from ends at bytes)
    → get_or (starts_from ends at bytes) i d ≤ get_or (starts_from ends at bytes) j d
starts_rise ends at [] i j d h l = absurd (omega (arith, l))
starts_rise ends at (b ∷ bytes) i j d h l =
    rise_if (is_line_end ends b bytes) at (starts_from ends (suc at) bytes) (above ends (suc at) bytes) (starts_rise ends (suc at) bytes) i j d h l

-- ---- from the beginning of a line

-- where a line begins, by the places where lines begin behind the first
begin_by : ℕ → List ℕ → ℕ → ℕ
begin_by at starts zero = at
begin_by at starts (suc k) = get_or starts k 0

begin_next : (at x : ℕ) (xs : List ℕ) (k : ℕ) → begin_by at (x ∷ xs) (suc k) ≡ begin_by x xs k
unfolding begin_by
begin_next at x xs zero = refl
begin_next at x xs (suc k) = refl

-- a line begins there, behind so many others
record Begins (style : Style) (p : Point) (at : ℕ) (bytes : List ℕ) (line start : ℕ) : Type 0 where
  gone : ℕ
  at_is : start ≡ at + gone
  within : gone ≤ length bytes
  there : (line ≡ 0 → p.column ≡ 0) → point_further style p gone bytes ≡ record { line = p.line + line; column = 0 }
  later : starts_from style.line_ends start (drop gone bytes) ≡ drop line (starts_from style.line_ends at bytes)
  before : (column : ℕ) → bytes_before style line column bytes ≡ gone + bytes_before style 0 column (drop gone bytes)

ended_byte : (style : Style) (p : Point) (b : ℕ) (bytes : List ℕ) → is_line_end style.line_ends b bytes ≡ true → point_behind style p b bytes ≡ record { line = p.line + 1; column = 0 }
ended_byte style p b bytes e = rw e refl

running_byte : (style : Style) (p : Point) (b : ℕ) (bytes : List ℕ) → is_line_end style.line_ends b bytes ≡ false
    → point_behind style p b bytes ≡ record { line = p.line; column = p.column + column_units style b }
running_byte style p b bytes e = rw e refl

begins_ended : (style : Style) (p : Point) (at b : ℕ) (bytes : List ℕ) (line start : ℕ) → is_line_end style.line_ends b bytes ≡ true
    → Begins style (point_behind style p b bytes) (suc at) bytes line start → Begins style p at (b ∷ bytes) (suc line) start
begins_ended style p at b bytes line start e is =
    let behind = ended_byte style p b bytes e in
    let lines : (point_behind style p b bytes).line ≡ p.line + 1 = ap (λ (q : Point). q.line) behind in
    record {
      gone = suc is.gone;
      at_is = let far = is.at_is in omega (arith, far);
      within = let far = is.within in omega (arith, far);
      there = λ _. is.there (λ _. ap (λ (q : Point). q.column) behind) ∙ ap (λ n. record { line = n; column = 0 }) (omega (arith, lines));
      later = is.later ∙ sym (ap (drop (suc line)) (starts_ended style.line_ends at b bytes e));
      before = λ column. let step = to_ended style b bytes line column e in let rest = is.before column in omega (arith, step, rest);
    }

begins_running : (style : Style) (p : Point) (at b : ℕ) (bytes : List ℕ) (line start : ℕ) → is_line_end style.line_ends b bytes ≡ false
    → Begins style (point_behind style p b bytes) (suc at) bytes (suc line) start → Begins style p at (b ∷ bytes) (suc line) start
begins_running style p at b bytes line start e is =
    record {
      gone = suc is.gone;
      at_is = let far = is.at_is in omega (arith, far);
      within = let far = is.within in omega (arith, far);
      there = λ _. is.there (λ none. absurd (omega (arith, none)))
          ∙ ap (λ (q : Point). record { line = q.line + suc line; column = 0 }) (running_byte style p b bytes e);
      later = is.later ∙ sym (ap (drop (suc line)) (starts_running style.line_ends at b bytes e));
      before = λ column. let step = to_running style b bytes line column e in let rest = is.before column in omega (arith, step, rest);
    }

begins : (style : Style) (p : Point) (at : ℕ) (bytes : List ℕ) (line : ℕ) → line ≤ length (starts_from style.line_ends at bytes)
    → Begins style p at bytes line (begin_by at (starts_from style.line_ends at bytes) line)
unfolding begin_by
begins style p at bytes zero l = record {
  gone = 0;
  at_is = omega arith;
  within = omega arith;
  there = λ first. let none = first refl in ap (λ n. record { line = p.line; column = n }) none ∙ ap (λ n. record { line = n; column = 0 }) (omega arith);
  later = refl;
  before = λ column. omega arith;
}
begins style p at [] (suc k) l = absurd (omega (arith, l))
begins style p at (b ∷ bytes) (suc k) l =
    let xs = starts_from style.line_ends (suc at) bytes in
    let q = point_behind style p b bytes in
    ⊎_elim
    (λ (e : is_line_end style.line_ends b bytes ≡ true).
    let same = starts_ended style.line_ends at b bytes e in
    let less : suc k ≤ length (suc at ∷ xs) = subst (λ (ys : List ℕ). suc k ≤ length ys) same l in
    begins_ended style p at b bytes k _ e
    (subst (λ n. Begins style q (suc at) bytes k n) (sym (ap (λ ys. begin_by at ys (suc k)) same ∙ begin_next at (suc at) xs k)) (begins style q (suc at) bytes k (omega (arith, less)))))
    (λ (e : is_line_end style.line_ends b bytes ≡ false).
    let same = starts_running style.line_ends at b bytes e in
    begins_running style p at b bytes k _ e
    (subst (λ n. Begins style q (suc at) bytes (suc k) n) (sym (ap (λ ys. get_or ys k 0) same)) (begins style q (suc at) bytes (suc k) (subst (λ (ys : List ℕ). suc k ≤ length ys) same l))))
    (cases_Bool (is_line_end style.line_ends b bytes))

first : Point
first = record { line = 0; column = 0 }

-- ---- points

no_more : (p : Point) → p ≡ record { line = p.line; column = p.column + 0 }
no_more p = ap (λ n. record { line = p.line; column = n }) (omega arith)

-- before the first line that begins behind these bytes
in_first : (style : Style) (p : Point) (at : ℕ) (bytes : List ℕ) (n : ℕ) → n ≤ length bytes
    → (0 < length (starts_from style.line_ends at bytes) → at + n < get_or (starts_from style.line_ends at bytes) 0 0)
    → point_further style p n bytes ≡ record { line = p.line; column = p.column + sum_by (column_units style) (take n bytes) }
in_first style p at bytes zero l next = no_more p
in_first style p at [] (suc n) l next = absurd (omega (arith, l))
in_first style p at (b ∷ bytes) (suc n) l next =
    ⊎_elim
    (λ (e : is_line_end style.line_ends b bytes ≡ true).
    let over = subst (λ (xs : List ℕ). 0 < length xs → at + suc n < get_or xs 0 0) (starts_ended style.line_ends at b bytes e) next (omega arith) in
    absurd (omega (arith, over)))
    (λ (e : is_line_end style.line_ends b bytes ≡ false).
    let rest = subst (λ (xs : List ℕ). 0 < length xs → at + suc n < get_or xs 0 0) (starts_running style.line_ends at b bytes e) next in
    let all = sum_by-cons (column_units style) b (take n bytes) in
    let q = point_behind style p b bytes in
    in_first style q (suc at) bytes n (omega (arith, l)) (λ some. let far = rest some in omega (arith, far))
    ∙ ap (λ (r : Point). record { line = r.line; column = r.column + sum_by (column_units style) (take n bytes) }) (running_byte style p b bytes e)
    ∙ ap (λ m. record { line = p.line; column = m }) (omega (arith, all)))
    (cases_Bool (is_line_end style.line_ends b bytes))

further_none : (style : Style) (p : Point) (n : ℕ) → point_further style p n [] ≡ p
further_none style p zero = refl
further_none style p (suc n) = refl

further_sum : (style : Style) (p : Point) (m n : ℕ) (bytes : List ℕ) → point_further style p (m + n) bytes ≡ point_further style (point_further style p m bytes) n (drop m bytes)
further_sum style p zero n bytes = let same : 0 + n ≡ n = omega arith in ap (λ k. point_further style p k bytes) same
further_sum style p (suc m) n [] = further_none style p (suc m + n) ∙ sym (further_none style p n)
further_sum style p (suc m) n (b ∷ bytes) =
    let same : suc m + n ≡ suc (m + n) = omega arith in
    ap (λ k. point_further style p k (b ∷ bytes)) same ∙ further_sum style (point_behind style p b bytes) m n bytes

further_end : (style : Style) (p : Point) (n : ℕ) (bytes : List ℕ) → point_further style p (min n (length bytes)) bytes ≡ point_further style p n bytes
further_end style p n [] = further_none style p (min n 0) ∙ sym (further_none style p n)
further_end style p zero (b ∷ bytes) = let same : min 0 (length (b ∷ bytes)) ≡ 0 = omega arith in ap (λ k. point_further style p k (b ∷ bytes)) same
further_end style p (suc n) (b ∷ bytes) =
    let same : min (suc n) (length (b ∷ bytes)) ≡ suc (min n (length bytes)) = omega arith in
    ap (λ k. point_further style p k (b ∷ bytes)) same ∙ further_end style (point_behind style p b bytes) n bytes

marked_starts : (ends : LineEnds) (rest : List ℕ) → starts_from ends 3 rest ≡ starts_from ends 0 ((239 ∷ 187 ∷ 191 ∷ []) ++ rest)
unfolding begins_end
marked_starts Feeds rest = refl
marked_starts All rest = refl

-- no line ends in a mark that is not shown
behind_hidden : (style : Style) (text : List ℕ)
    → (starts_from style.line_ends (hidden_length style text) (drop (hidden_length style text) text) ≡ line_starts style.line_ends text) × (hidden_length style text ≤ length text)
behind_hidden style text =
    let marked = starts_with nat_eq text (239 ∷ 187 ∷ 191 ∷ []) in
    ⊎_elim (λ (e : style.shows_mark ≡ true). rw e (refl, omega arith))
    (λ (e : style.shows_mark ≡ false).
    ⊎_elim
    (λ (is_so : marked ≡ true).
    let whole = (starts_is Decides-eqb text (239 ∷ 187 ∷ 191 ∷ []) marked refl).0 is_so in
    rw (e, is_so) (marked_starts style.line_ends (drop 3 text) ∙ ap (starts_from style.line_ends 0) (sym whole), (let long = ap length whole in omega (arith, long))))
    (λ (is_not : marked ≡ false). rw (e, is_not) (refl, omega arith))
    (cases_Bool marked))
    (cases_Bool style.shows_mark)

new_byte : (b : ℕ) → continues_character b ≡ false → 128 ≤ b → 192 ≤ b
new_byte b new high = ltb-false b 192 (subst (λ t. (t && nat_lt b 192) ≡ false) (le-leb 128 b high) new)

at_boundary : (ends : LineEnds) (n : ℕ) (bytes : List ℕ) → HasPoint ends n bytes → IsCharBoundary bytes n
at_boundary ends zero [] is = (omega arith, λ l. absurd (omega (arith, l)))
at_boundary ends zero (b ∷ bytes) is = (omega arith, λ l high. new_byte b is high)
at_boundary ends (suc n) [] is = absurd is
at_boundary ends (suc n) (b ∷ bytes) is =
    let rest = at_boundary ends n bytes is.0 in
    let within : n ≤ length bytes = rest.0 in
    (omega (arith, within), λ l high. rest.1 (omega (arith, l)) high)

-- a byte at which a point stands cuts no character
pub boundary : (style : Style) (text : List ℕ) (p : Point) → IsCharBoundary text (byte_at style text p)
unfolding byte_at
boundary style text p =
    let shown = drop (hidden_length style text) text in
    IsCharBoundary-from_rest text (hidden_length style text) (bytes_before style p.line p.column shown) (behind_hidden style text).1
    (at_boundary style.line_ends (bytes_before style p.line p.column shown) shown (has_point style shown p.line p.column))

if_later : (k a b : ℕ) → (if suc k == 0 then a else b) ≡ b
if_later k a b = ap (λ t. if t then a else b) (ne_eqb (suc k) 0 (λ e. omega (arith, e)))

start_is : (from start : ℕ) (xs : List ℕ) (line : ℕ) → start ≡ (if line == 0 then from else get_or xs (line - 1) 0) → start ≡ begin_by from xs line
unfolding begin_by
start_is from start xs zero e = e
start_is from start xs (suc k) e = let index : suc k - 1 ≡ k = omega arith in e ∙ if_later k from (get_or xs (suc k - 1) 0) ∙ ap (λ i. get_or xs i 0) index

start_before : (from start : ℕ) (xs : List ℕ) (line end : ℕ) → from ≤ end → AllWithin (λ s. s ≤ end) xs 0 line → start ≡ (if line == 0 then from else get_or xs (line - 1) 0) → start ≤ end
start_before from start xs zero end low before e = omega (arith, low, e)
start_before from start xs (suc k) end low before e =
    let last = before (suc k - 1) 0 (omega arith) (omega arith) in let is = if_later k from (get_or xs (suc k - 1) 0) in omega (arith, last, e, is)

-- a line of a text
line_begins : (style : Style) (text xs : List ℕ) (from line start : ℕ) → xs ≡ line_starts style.line_ends text → from ≡ hidden_length style text → line ≤ length xs
    → start ≡ (if line == 0 then from else get_or xs (line - 1) 0) → Begins style first (hidden_length style text) (drop (hidden_length style text) text) line start
line_begins style text xs from line start same h few e =
    let ys = starts_from style.line_ends (hidden_length style text) (drop (hidden_length style text) text) in
    let all : xs ≡ ys = same ∙ sym (behind_hidden style text).0 in
    let is : start ≡ begin_by (hidden_length style text) ys line = start_is from start xs line e ∙ ap (λ l. begin_by from l line) all ∙ ap (λ n. begin_by n ys line) h in
    subst (λ n. Begins style first (hidden_length style text) (drop (hidden_length style text) text) line n) (sym is)
    (begins style first (hidden_length style text) (drop (hidden_length style text) text) line (subst (λ (l : List ℕ). line ≤ length l) all few))

pub start_fits : (style : Style) (text xs : List ℕ) (from line start : ℕ) → xs ≡ line_starts style.line_ends text → from ≡ hidden_length style text → line ≤ length xs
    → start ≡ (if line == 0 then from else get_or xs (line - 1) 0) → start ≤ length text
start_fits style text xs from line start same h few e =
    let is = line_begins style text xs from line start same h few e in
    let here = is.at_is in
    let within = is.within in
    omega (arith, here, within, (behind_hidden style text).1, length-drop (hidden_length style text) text)

-- from the beginning of a line on
shown_point : (style : Style) (at : ℕ) (bytes : List ℕ) (n line start : ℕ) (is : Begins style first at bytes line start) → n ≤ length bytes → start ≤ at + n
    → (line < length (starts_from style.line_ends at bytes) → at + n < get_or (starts_from style.line_ends at bytes) line 0)
    → point_further style first n bytes ≡ record { line = line; column = sum_by (column_units style) (take (at + n - start) (drop is.gone bytes)) }
unfolding first
shown_point style at bytes n line start is l before next =
    let xs = starts_from style.line_ends at bytes in
    let here = is.at_is in
    let within = is.within in
    let left : at + n - start ≤ length (drop is.gone bytes) = omega (arith, length-drop is.gone bytes, l, here, within, before) in
    let parts : n ≡ is.gone + (at + n - start) = omega (arith, here, before) in
    let reads : get_or (drop line xs) 0 0 ≡ get_or xs line 0 = get_or-drop line xs 0 0 ∙ ap (λ i. get_or xs i 0) (omega arith) in
    let head : 0 < length (starts_from style.line_ends start (drop is.gone bytes)) → start + (at + n - start) < get_or (starts_from style.line_ends start (drop is.gone bytes)) 0 0
    = subst (λ (ys : List ℕ). 0 < length ys → start + (at + n - start) < get_or ys 0 0) (sym is.later)
    (λ more. let far = next (omega (arith, more, length-drop line xs)) in omega (arith, far, reads, before)) in
    ap (λ m. point_further style first m bytes) parts ∙ further_sum style first is.gone (at + n - start) bytes
    ∙ ap (λ p. point_further style p (at + n - start) (drop is.gone bytes)) (is.there (λ _. refl))
    ∙ in_first style (record { line = 0 + line; column = 0 }) start (drop is.gone bytes) (at + n - start) left head
    ∙ ap (λ m. record { line = m; column = 0 + sum_by (column_units style) (take (at + n - start) (drop is.gone bytes)) }) (omega arith)
    ∙ ap (λ m. record { line = line; column = m }) (omega arith)

pub point_by : (style : Style) (text xs : List ℕ) (from at end line start column : ℕ) → xs ≡ line_starts style.line_ends text → from ≡ hidden_length style text
    → end ≡ max (min at (length text)) from → line ≤ length xs → AllWithin (λ s. s ≤ end) xs 0 line → AllWithin (λ s. end < s) xs line (length xs)
    → start ≡ (if line == 0 then from else get_or xs (line - 1) 0) → column ≡ sum_by (column_units style) (take (end - start) (drop start text))
    → record { line = line; column = column } ≡ point_at style text at
unfolding point_at first
point_by style text xs from at end line start column same h clamp few before next e c =
    let hid = hidden_length style text in
    let shown = drop hid text in
    let ys = starts_from style.line_ends hid shown in
    let all : xs ≡ ys = same ∙ sym (behind_hidden style text).0 in
    let count : length xs ≡ length ys = ap length all in
    let short = (behind_hidden style text).1 in
    let long = length-drop hid text in
    let is = line_begins style text xs from line start same h few e in
    let here = is.at_is in
    let head : line < length ys → hid + (end - hid) < get_or ys line 0
    = λ more. let read = next line 0 (omega arith) (omega (arith, more, count)) in let moved = ap (λ l. get_or l line 0) all in omega (arith, read, moved, clamp, h) in
    let there = shown_point style hid shown (end - hid) line start is (omega (arith, clamp, h, long)) (let low = start_before from start xs line end (omega (arith, clamp)) before e in omega (arith, clamp, h, low)) head in
    let part : take (hid + (end - hid) - start) (drop is.gone shown) ≡ take (end - start) (drop start text)
    = ap (take (hid + (end - hid) - start)) (drop-drop is.gone hid text ∙ ap (λ n. drop n text) (sym here)) ∙ ap (λ n. take n (drop start text)) (omega (arith, clamp, h)) in
    let clamped : end - hid ≡ min (at - hid) (length shown) = omega (arith, clamp, h, long, short) in
    ap (λ n. record { line = line; column = n }) (c ∙ ap (sum_by (column_units style)) (sym part)) ∙ sym there
    ∙ ap (λ n. point_further style first n shown) clamped ∙ further_end style first (at - hid) shown

-- ---- bytes

bytes_past : (style : Style) (at : ℕ) (line column : ℕ) (bytes : List ℕ) → length (starts_from style.line_ends at bytes) < line → bytes_before style line column bytes ≡ length bytes
bytes_past style at line column [] l = refl
bytes_past style at zero column (b ∷ bytes) l = absurd (omega (arith, l))
bytes_past style at (suc line) column (b ∷ bytes) l =
    ⊎_elim
    (λ (e : is_line_end style.line_ends b bytes ≡ true).
    let less = subst (λ (xs : List ℕ). length xs < suc line) (starts_ended style.line_ends at b bytes e) l in
    to_ended style b bytes line column e ∙ ap suc (bytes_past style (suc at) line column bytes (omega (arith, less))))
    (λ (e : is_line_end style.line_ends b bytes ≡ false).
    let less = subst (λ (xs : List ℕ). length xs < suc line) (starts_running style.line_ends at b bytes e) l in
    to_running style b bytes line column e ∙ ap suc (bytes_past style (suc at) (suc line) column bytes less))
    (cases_Bool (is_line_end style.line_ends b bytes))

pub byte_by : (style : Style) (text xs : List ℕ) (from start n : ℕ) (p : Point) → xs ≡ line_starts style.line_ends text → from ≡ hidden_length style text → p.line ≤ length xs
    → start ≡ (if p.line == 0 then from else get_or xs (p.line - 1) 0) → n ≡ bytes_before style 0 p.column (drop start text) → start + n ≡ byte_at style text p
unfolding byte_at
byte_by style text xs from start n p same h few e r =
    let is = line_begins style text xs from p.line start same h few e in
    let here = is.at_is in
    let bytes = is.before p.column in
    let rest = ap (bytes_before style 0 p.column) (drop-drop is.gone (hidden_length style text) text ∙ ap (λ m. drop m text) (sym here)) in
    omega (arith, here, bytes, rest, r)

pub byte_past : (style : Style) (text xs : List ℕ) (p : Point) → xs ≡ line_starts style.line_ends text → length xs < p.line → length text ≡ byte_at style text p
unfolding byte_at
byte_past style text xs p same past =
    let hid = hidden_length style text in
    let count = ap length (same ∙ sym (behind_hidden style text).0) in
    let all = bytes_past style hid p.line p.column (drop hid text) (omega (arith, past, count)) in
    omega (arith, all, (behind_hidden style text).1, length-drop hid text)
