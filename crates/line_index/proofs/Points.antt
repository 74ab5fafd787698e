-- From bytes to points and back.
use Rattle.std.proofs.Common.{◌≡◌, ◌≢◌, ℕ, zero, suc, ◌+◌, ◌-◌, ◌==◌, Bool, true, false, not, ◌&&◌, List, [], ◌∷◌, cond, ⊎_elim, refl, sym, ap, ◌∙◌, subst, arith, nat_le, nat_lt, ◌≤◌, drop}
use Rattle.std.proofs.lemmas.Bool.{cases_Bool, eqb-true, le-ltb, leb-true, lt-ltb, ne_eqb, not-false, not-true, true≢false, false≢true}
use Rattle.line_index.specs.declared.LineEnds.{LineEnds}
use Rattle.line_index.specs.declared.LineEnds.TheVariants.{Feeds, All}
use Rattle.line_index.specs.declared.Point.{Point}
use Rattle.line_index.specs.declared.Style.{Style}
use Rattle.line_index.specs.declared.Units.{Units}
use Rattle.line_index.specs.declared.Units.TheVariants.{Characters, Utf16, Bytes}
use Rattle.line_index.specs.Points.{HasPoint, IsBetween, IsPoint, begins_end, point_behind, byte_at, byte_units, bytes_before, continues_character, is_line_end, point_further, hidden_length, is_fed, is_beyond, is_split, point_at, rest_units}

pub never : {A : Type 0} {b : Bool} → b ≡ true → b ≡ false → A
never is_so is_not = absurd (true≢false (sym is_so ∙ is_not))

and_left : (x y : Bool) → (x && y) ≡ true → x ≡ true
and_left true y e = refl
and_left false y e = absurd (false≢true e)

and_right : (x y : Bool) → (x && y) ≡ true → y ≡ true
and_right true y e = e
and_right false y e = absurd (false≢true e)

-- bytes that begin a line end and do not end a line stand before its line feed
split_of : (ends : LineEnds) (b : ℕ) (bytes : List ℕ) → begins_end ends b ≡ true → is_line_end ends b bytes ≡ false → is_split b bytes ≡ true
split_of ends b bytes begins is_not = not-false (is_split b bytes) (subst (λ t. (t && not (is_split b bytes)) ≡ false) begins is_not)

fed_of : (b : ℕ) (bytes : List ℕ) → is_split b bytes ≡ true → is_fed bytes ≡ true
unfolding is_split
fed_of b bytes e = and_right (b == 13) (is_fed bytes) e

pub feed_begins : (ends : LineEnds) → begins_end ends 10 ≡ true
unfolding begins_end
feed_begins Feeds = refl
feed_begins All = refl

feed_whole : (bytes : List ℕ) → is_split 10 bytes ≡ false
unfolding is_split
feed_whole bytes = refl

pub feed_ends : (ends : LineEnds) (b : ℕ) (bytes : List ℕ) → (b == 10) ≡ true → is_line_end ends b bytes ≡ true
feed_ends ends b bytes e =
    subst (λ x. is_line_end ends x bytes ≡ true) (sym (eqb-true b 10 e))
    (ap (λ t. t && not (is_split 10 bytes)) (feed_begins ends) ∙ ap not (feed_whole bytes))

-- one byte more, to a line
pub to_ended : (style : Style) (b : ℕ) (bytes : List ℕ) (line column : ℕ) → is_line_end style.line_ends b bytes ≡ true
    → bytes_before style (suc line) column (b ∷ bytes) ≡ suc (bytes_before style line column bytes)
to_ended style b bytes line column e = rw e refl

pub to_running : (style : Style) (b : ℕ) (bytes : List ℕ) (line column : ℕ) → is_line_end style.line_ends b bytes ≡ false
    → bytes_before style (suc line) column (b ∷ bytes) ≡ suc (bytes_before style (suc line) column bytes)
to_running style b bytes line column e = rw e refl

-- and in the line
to_end : (style : Style) (b : ℕ) (bytes : List ℕ) (column : ℕ) → begins_end style.line_ends b ≡ true → bytes_before style 0 column (b ∷ bytes) ≡ 0
to_end style b bytes column e = rw e refl

to_beyond : (style : Style) (b : ℕ) (bytes : List ℕ) (column : ℕ) → begins_end style.line_ends b ≡ false → is_beyond style.units column b bytes ≡ true
    → bytes_before style 0 column (b ∷ bytes) ≡ 0
to_beyond style b bytes column e over = rw (e, over) refl

pub to_next : (style : Style) (b : ℕ) (bytes : List ℕ) (column : ℕ) → begins_end style.line_ends b ≡ false → is_beyond style.units column b bytes ≡ false
    → bytes_before style 0 column (b ∷ bytes) ≡ suc (bytes_before style 0 (column - byte_units style.units b) bytes)
to_next style b bytes column e within = rw (e, within) refl

less_again : (w n : ℕ) → w + n - w ≡ n
less_again w n = omega arith

-- what fits behind the first byte fits with it
pub not_beyond : (units : Units) (column b : ℕ) (bytes : List ℕ) → rest_units units bytes ≤ column → is_beyond units (byte_units units b + column) b bytes ≡ false
not_beyond units column b bytes fits =
    let enough : nat_lt (byte_units units b + column) (byte_units units b + rest_units units bytes) ≡ false
    = le-ltb (byte_units units b + column) (byte_units units b + rest_units units bytes) (omega (arith, fits)) in
    ⊎_elim (λ (e : continues_character b ≡ true). rw e refl) (λ (e : continues_character b ≡ false). rw (e, enough) refl) (cases_Bool (continues_character b))

to_first : (style : Style) (b : ℕ) (bytes : List ℕ) (column : ℕ) → begins_end style.line_ends b ≡ false → rest_units style.units bytes ≤ column
    → bytes_before style 0 (byte_units style.units b + column) (b ∷ bytes) ≡ suc (bytes_before style 0 column bytes)
to_first style b bytes column e fits =
    to_next style b bytes (byte_units style.units b + column) e (not_beyond style.units column b bytes fits)
    ∙ ap (λ n. suc (bytes_before style 0 n bytes)) (less_again (byte_units style.units b) column)

suc_not : (n m : ℕ) → m ≡ suc n → m ≢ 0
suc_not n m e none = omega (arith, e, none)

-- a byte within a character begins no line end
pub no_end : (ends : LineEnds) (b : ℕ) → continues_character b ≡ true → begins_end ends b ≡ false
unfolding begins_end
no_end Feeds b e = let high = leb-true 128 b (and_left (nat_le 128 b) (nat_lt b 192) e) in ne_eqb b 10 (λ same. omega (arith, high, same))
no_end All b e =
    let high = leb-true 128 b (and_left (nat_le 128 b) (nat_lt b 192) e) in
    let feed : (b == 10) ≡ false = ne_eqb b 10 (λ same. omega (arith, high, same)) in
    let return : (b == 13) ≡ false = ne_eqb b 13 (λ same. omega (arith, high, same)) in
    rw (feed, return) refl

pub no_line : (ends : LineEnds) (b : ℕ) (bytes : List ℕ) → begins_end ends b ≡ false → is_line_end ends b bytes ≡ false
no_line ends b bytes e = ap (λ t. t && not (is_split b bytes)) e

some_units : (units : Units) (b : ℕ) → continues_character b ≡ false → 1 ≤ byte_units units b
some_units Characters b e = rw e (omega arith)
some_units Utf16 b e = rw e (⊎_elim (λ (low : nat_lt b 240 ≡ true). rw low (omega arith)) (λ (high : nat_lt b 240 ≡ false). rw high (omega arith)) (cases_Bool (nat_lt b 240)))
some_units Bytes b e = omega arith

at_new : (units : Units) (b : ℕ) (bytes : List ℕ) → continues_character b ≡ false → is_beyond units 0 b bytes ≡ true
at_new units b bytes e =
    let some = some_units units b e in
    let more : nat_lt 0 (byte_units units b + rest_units units bytes) ≡ true = lt-ltb 0 (byte_units units b + rest_units units bytes) (omega (arith, some)) in
    rw (e, more) refl

-- so many lines and units on from a point
onto : Point → (lines units : ℕ) → Point
onto p zero units = record { line = p.line; column = p.column + units }
onto p (suc lines) units = record { line = p.line + suc lines; column = units }

-- where a byte stands from a point on, and the way back
record Back (style : Style) (p : Point) (n : ℕ) (bytes : List ℕ) (lines units : ℕ) : Type 0 where
  there : point_further style p n bytes ≡ onto p lines units
  back : bytes_before style lines units bytes ≡ n
  fits : lines ≡ 0 → rest_units style.units bytes ≤ units
  fed : is_fed bytes ≡ true → n ≢ 0 → lines ≢ 0

back_none : (style : Style) (p : Point) (bytes : List ℕ) → IsBetween bytes → Back style p 0 bytes 0 0
unfolding onto
back_none style p [] is = record { there = ap (λ n. record { line = p.line; column = n }) (omega arith); back = refl; fits = λ _. omega arith; fed = λ _ none. absurd (none refl) }
back_none style p (b ∷ bytes) is = record {
  there = ap (λ n. record { line = p.line; column = n }) (omega arith);
  back = ⊎_elim (λ (begins : begins_end style.line_ends b ≡ true). to_end style b bytes 0 begins)
      (λ (other : begins_end style.line_ends b ≡ false). to_beyond style b bytes 0 other (at_new style.units b bytes is)) (cases_Bool (begins_end style.line_ends b));
  fits = λ _. rw is (omega arith);
  fed = λ _ none. absurd (none refl);
}

back_ended : (style : Style) (p : Point) (n b : ℕ) (bytes : List ℕ) (lines units : ℕ) → is_line_end style.line_ends b bytes ≡ true
    → Back style (point_behind style p b bytes) n bytes lines units → Back style p (suc n) (b ∷ bytes) (suc lines) units
unfolding onto
back_ended style p n b bytes lines units e is = record {
  there = is.there ∙ ap (λ q. onto q lines units) behind ∙ same lines;
  back = to_ended style b bytes lines units e ∙ ap suc is.back;
  fits = λ none. absurd (omega (arith, none));
  fed = λ _ _ none. omega (arith, none);
}
  where
    behind : point_behind style p b bytes ≡ record { line = p.line + 1; column = 0 }
    behind = rw e refl

    same : (k : ℕ) → onto (record { line = p.line + 1; column = 0 }) k units ≡ record { line = p.line + suc k; column = units }
    same zero = ap (λ m. record { line = p.line + 1; column = m }) (omega arith)
    same (suc k) = ap (λ m. record { line = m; column = units }) (omega arith)

back_later : (style : Style) (p : Point) (n b : ℕ) (bytes : List ℕ) (lines units : ℕ) → is_line_end style.line_ends b bytes ≡ false
    → Back style (point_behind style p b bytes) n bytes (suc lines) units → Back style p (suc n) (b ∷ bytes) (suc lines) units
unfolding onto
back_later style p n b bytes lines units e is = record {
  there = is.there ∙ ap (λ (m : ℕ). record { line = m + suc lines; column = units }) (rw e refl);
  back = to_running style b bytes lines units e ∙ ap suc is.back;
  fits = λ none. absurd (omega (arith, none));
  fed = λ _ _ none. omega (arith, none);
}

back_on : (style : Style) (p : Point) (n b : ℕ) (bytes : List ℕ) (units : ℕ) → begins_end style.line_ends b ≡ false
    → Back style (point_behind style p b bytes) n bytes 0 units → Back style p (suc n) (b ∷ bytes) 0 (byte_units style.units b + units)
unfolding onto
back_on style p n b bytes units other is = record {
  there = is.there ∙ ap (λ (q : Point). record { line = q.line; column = q.column + units }) behind ∙ ap (λ m. record { line = p.line; column = m }) (omega arith);
  back = to_first style b bytes units other (is.fits refl) ∙ ap suc is.back;
  fits = λ _. more (is.fits refl);
  fed = λ feeds. never (feed_ends style.line_ends b bytes feeds) none;
}
  where
    none : is_line_end style.line_ends b bytes ≡ false
    none = ap (λ t. t && not (is_split b bytes)) other

    behind : point_behind style p b bytes ≡ record { line = p.line; column = p.column + byte_units style.units b }
    behind = rw (none, other) refl

    more : rest_units style.units bytes ≤ units → cond (continues_character b) (byte_units style.units b + rest_units style.units bytes) 0 ≤ byte_units style.units b + units
    more most = ⊎_elim (λ (e : continues_character b ≡ true). rw e (omega (arith, most))) (λ (e : continues_character b ≡ false). rw e (omega arith)) (cases_Bool (continues_character b))

-- from the point of a byte back to it
back_from : (style : Style) (p : Point) (n : ℕ) (bytes : List ℕ) → HasPoint style.line_ends n bytes → (lines : ℕ) × (units : ℕ) × Back style p n bytes lines units
back_from style p zero bytes is = (0, 0, back_none style p bytes is)
back_from style p (suc n) [] is = absurd is
back_from style p (suc n) (b ∷ bytes) is = step (back_from style (point_behind style p b bytes) n bytes is.0)
  where
    step : ((lines : ℕ) × (units : ℕ) × Back style (point_behind style p b bytes) n bytes lines units) → (lines : ℕ) × (units : ℕ) × Back style p (suc n) (b ∷ bytes) lines units
    step (lines, units, rest) =
        ⊎_elim (λ (e : is_line_end style.line_ends b bytes ≡ true). (suc lines, units, back_ended style p n b bytes lines units e rest))
        (λ (e : is_line_end style.line_ends b bytes ≡ false).
        ⊎_elim
        (λ (begins : begins_end style.line_ends b ≡ true).
        let split = split_of style.line_ends b bytes begins e in
        running e lines units rest (λ none. absurd (rest.fed (fed_of b bytes split) (is.1 begins split) none)))
        (λ (other : begins_end style.line_ends b ≡ false). running e lines units rest (λ _. other))
        (cases_Bool (begins_end style.line_ends b)))
        (cases_Bool (is_line_end style.line_ends b bytes))
      where
        running : is_line_end style.line_ends b bytes ≡ false → (k m : ℕ) → Back style (point_behind style p b bytes) n bytes k m → (k ≡ 0 → begins_end style.line_ends b ≡ false)
            → (lines : ℕ) × (units : ℕ) × Back style p (suc n) (b ∷ bytes) lines units
        running e zero m rest other = (0, byte_units style.units b + m, back_on style p n b bytes m (other refl) rest)
        running e (suc k) m rest other = (suc k, m, back_later style p n b bytes k m e rest)

later_byte : (style : Style) (line column : ℕ) (bytes : List ℕ) → is_fed bytes ≡ true → bytes_before style (suc line) column bytes ≢ 0
later_byte style line column [] fed = absurd (false≢true fed)
later_byte style line column (b ∷ bytes) fed =
    suc_not (bytes_before style line column bytes) _ (to_ended style b bytes line column (feed_ends style.line_ends b bytes fed))

between : (ends : LineEnds) (b : ℕ) → begins_end ends b ≡ true → continues_character b ≡ false
between ends b begins =
    ⊎_elim (λ (e : continues_character b ≡ true). never begins (no_end ends b e)) (λ (e : continues_character b ≡ false). e) (cases_Bool (continues_character b))

-- where a line and a column lead a point may stand
pub has_point : (style : Style) (bytes : List ℕ) (line column : ℕ) → HasPoint style.line_ends (bytes_before style line column bytes) bytes
has_point style [] zero column = tt
has_point style [] (suc line) column = tt
has_point style (b ∷ bytes) zero column =
    ⊎_elim
    (λ (begins : begins_end style.line_ends b ≡ true).
    subst (λ n. HasPoint style.line_ends n (b ∷ bytes)) (sym (to_end style b bytes column begins)) (between style.line_ends b begins))
    (λ (other : begins_end style.line_ends b ≡ false).
    ⊎_elim
    (λ (over : is_beyond style.units column b bytes ≡ true).
    subst (λ n. HasPoint style.line_ends n (b ∷ bytes)) (sym (to_beyond style b bytes column other over))
    (not-true (continues_character b) (and_left (not (continues_character b)) _ over)))
    (λ (within : is_beyond style.units column b bytes ≡ false).
    subst (λ n. HasPoint style.line_ends n (b ∷ bytes)) (sym (to_next style b bytes column other within))
    (has_point style bytes 0 (column - byte_units style.units b), λ begins split none. never begins other))
    (cases_Bool (is_beyond style.units column b bytes)))
    (cases_Bool (begins_end style.line_ends b))
has_point style (b ∷ bytes) (suc line) column =
    ⊎_elim
    (λ (is_so : is_line_end style.line_ends b bytes ≡ true).
    subst (λ n. HasPoint style.line_ends n (b ∷ bytes)) (sym (to_ended style b bytes line column is_so))
    (has_point style bytes line column, λ begins split none. never split (not-true (is_split b bytes) (and_right (begins_end style.line_ends b) (not (is_split b bytes)) is_so))))
    (λ (is_not : is_line_end style.line_ends b bytes ≡ false).
    subst (λ n. HasPoint style.line_ends n (b ∷ bytes)) (sym (to_running style b bytes line column is_not))
    (has_point style bytes (suc line) column, λ begins split none. later_byte style line column bytes (fed_of b bytes split) none))
    (cases_Bool (is_line_end style.line_ends b bytes))

pub back : (style : Style) (text : List ℕ) (at : ℕ) → IsPoint style text at → byte_at style text (point_at style text at) ≡ at
unfolding byte_at point_at onto
back style text at is = from (back_from style (record { line = 0; column = 0 }) (at - hidden_length style text) shown is.1)
  where
    shown : List ℕ
    shown = drop (hidden_length style text) text

    from_first : (lines units : ℕ) → onto (record { line = 0; column = 0 }) lines units ≡ record { line = lines; column = units }
    from_first zero units = ap (λ n. record { line = 0; column = n }) (omega arith)
    from_first (suc lines) units = ap (λ n. record { line = n; column = units }) (omega arith)

    from : ((lines : ℕ) × (units : ℕ) × Back style (record { line = 0; column = 0 }) (at - hidden_length style text) shown lines units) → byte_at style text (point_at style text at) ≡ at
    from (lines, units, is_back) =
        let there = ap (λ (p : Point). bytes_before style p.line p.column shown) (is_back.there ∙ from_first lines units) in
        let back = is_back.back in
        let behind = is.0 in
        omega (arith, there, back, behind)

pub stands : (style : Style) (text : List ℕ) (p : Point) → IsPoint style text (byte_at style text p)
unfolding byte_at
stands style text p =
    let h = hidden_length style text in
    let shown = drop h text in
    (omega arith, subst (λ n. HasPoint style.line_ends n shown) (sym (less_again h (bytes_before style p.line p.column shown))) (has_point style shown p.line p.column))

pub clamped : (style : Style) (text : List ℕ) (p : Point) → byte_at style text (point_at style text (byte_at style text p)) ≡ byte_at style text p
clamped style text p = back style text (byte_at style text p) (stands style text p)
