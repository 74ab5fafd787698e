-- Positions from place to place.
use Rattle.std.proofs.Common.{◌≡◌, ◌≢◌, ℕ, zero, suc, true, false, cond, ⊎_elim, ◌+◌, ◌-◌, ◌*◌, ◌≤◌, ◌==◌, List, [], ◌∷◌, ◌++◌, sym, take, drop, length, length-take, length-take-le, length-drop, min, refl, ap, ◌∙◌, subst, arith, rules, count_by, slice_index_or}
use Rattle.std.proofs.lemmas.List.{take_min, take_all, take_more, take_rest}
use Rattle.std.proofs.lemmas.List.Sums.{count_by-le-length, sum_by-cons, sum_by-take-drop}
use Rattle.std.specs.List.{sum_by}
use Rattle.std.proofs.Math.Seq.{take-add}
use Rattle.std.proofs.lemmas.Bool.{cases_Bool, eqb-true, ne_eqb}
use Rattle.std.proofs.lemmas.List.Recursion.{is_count_by}
use Rattle.line_index.specs.declared.Position.{Position}
use Rattle.line_index.specs.declared.Style.{Style}
use Rattle.line_index.specs.declared.Units.{Units}
use Rattle.line_index.specs.declared.Units.TheVariants.{Characters, Utf16, Bytes}
use Rattle.line_index.specs.declared.Point.{Point}
use Rattle.line_index.specs.Inner.{position_behind, behind_byte, shown_at, start}
use Rattle.line_index.specs.Points as points
use Rattle.line_index.specs.Points.{begins_end, byte_units, mark_length, column_units}
use Rattle.line_index.specs.Positions.{from_one, list_style, position_in}

behind_both : (units : Units) (p : Position) (a b : List ℕ) → position_behind units p (a ++ b) ≡ position_behind units (position_behind units p a) b
behind_both units p [] b = refl
behind_both units p (x ∷ a) b = behind_both units (behind_byte units p x) a b

last_byte : List ℕ → ℕ
last_byte z = slice_index_or z (length z - 1) 0

others : List ℕ → List ℕ
others z = take (length z - 1) z

last_is : (z : List ℕ) → 1 ≤ length z → z ≡ others z ++ last_byte z ∷ []
unfolding others last_byte
last_is z h =
    let whole : length z - 1 + 1 ≡ length z = omega arith in
    sym (take_all (length z) z (omega arith)) ∙ ap (λ n. take n z) (sym whole) ∙ take_more z (length z - 1) 0 (omega arith)

behind_last : (units : Units) (p : Position) (z : List ℕ) → 1 ≤ length z → position_behind units p z ≡ behind_byte units (position_behind units p (others z)) (last_byte z)
behind_last units p z h = ap (position_behind units p) (last_is z h) ∙ behind_both units p (others z) (last_byte z ∷ [])

at_feed : (units : Units) (p : Position) (b : ℕ) → b ≡ 10 → (behind_byte units p b).column ≡ 1
at_feed units p b e = rw e refl

at_other : (units : Units) (p : Position) (b : ℕ) → b ≢ 10 → (behind_byte units p b).column ≡ p.column + byte_units units b
at_other units p b e = let no : (b == 10) ≡ false = ne_eqb b 10 e in rw no refl

-- the column behind a text, by its last byte
pub behind_feed : (units : Units) (p : Position) (z : List ℕ) → 1 ≤ length z → slice_index_or z (length z - 1) 0 ≡ 10 → (position_behind units p z).column ≡ 1
unfolding last_byte
behind_feed units p z h e = ap (λ q. q.column) (behind_last units p z h) ∙ at_feed units (position_behind units p (others z)) (last_byte z) e

pub behind_other : (units : Units) (p : Position) (z : List ℕ) → 1 ≤ length z → slice_index_or z (length z - 1) 0 ≢ 10
    → (position_behind units p z).column ≡ (position_behind units p (take (length z - 1) z)).column + byte_units units (slice_index_or z (length z - 1) 0)
unfolding last_byte others
behind_other units p z h e = ap (λ q. q.column) (behind_last units p z h) ∙ at_other units (position_behind units p (others z)) (last_byte z) e

feeds : List ℕ → ℕ
feeds [] = 0
feeds (b ∷ z) = cond (b == 10) (1 + feeds z) (feeds z)

feeds_counted : (z : List ℕ) → feeds z ≡ count_by (λ b. b == 10) z
unfolding feeds
feeds_counted z = is_count_by feeds (λ b. b == 10) refl (λ b z. refl) z

line_of_byte : (units : Units) (p : Position) (b n : ℕ) → (behind_byte units p b).line + n ≡ p.line + cond (b == 10) (1 + n) n
line_of_byte units p b n = ⊎_elim (λ (e : (b == 10) ≡ true). rw e (omega arith)) (λ (e : (b == 10) ≡ false). rw e refl) (cases_Bool (b == 10))

line_from_feeds : (units : Units) (p : Position) (z : List ℕ) → (position_behind units p z).line ≡ p.line + feeds z
unfolding feeds
line_from_feeds units p [] = omega arith
line_from_feeds units p (b ∷ z) = line_from_feeds units (behind_byte units p b) z ∙ line_of_byte units p b (feeds z)

-- each line feed ends a line
pub line_is : (units : Units) (p : Position) (z : List ℕ) → (position_behind units p z).line ≡ p.line + count_by (λ b. b == 10) z
line_is units p z = line_from_feeds units p z ∙ ap (λ n. p.line + n) (feeds_counted z)

sum_few : (f : ℕ → ℕ) (few : (x : ℕ) → f x ≤ 2) (z : List ℕ) → sum_by f z ≤ 2 * length z
sum_few f few [] = omega arith
sum_few f few (x ∷ z) = let first = few x in let rest = sum_few f few z in let all = sum_by-cons f x z in omega (arith, first, rest, all)

-- a part of k bytes is passed, which takes so much
pub sum_on : (f : ℕ → ℕ) (count n k : ℕ) (z : List ℕ) (total : ℕ) → n ≡ sum_by f (take k z) → count + sum_by f z ≡ total
    → count + n + sum_by f (take (length z - k) (drop k z)) ≡ total
sum_on f count n k z total e h =
    let apart = sum_by-take-drop f z k in
    let rest = ap (λ l. sum_by f l) (take_rest z k) in
    omega (arith, apart, rest, e, h)

pub left_on : (f : ℕ → ℕ) (few : (x : ℕ) → f x ≤ 2) (count n k : ℕ) (z : List ℕ) (total : ℕ) → k ≤ length z → n ≡ sum_by f (take k z) → count + 2 * length z ≤ total
    → count + n + 2 * length (take (length z - k) (drop k z)) ≤ total
left_on f few count n k z total some e h =
    let most = sum_few f few (take k z) in
    let front = length-take-le k z some in
    let rest = ap length (take_rest z k) in
    let position_behind = length-drop k z in
    omega (arith, most, front, rest, position_behind, e, h)

pub feed_few : (b : ℕ) → cond (b == 10) 1 0 ≤ 2
feed_few b = ⊎_elim (λ (e : (b == 10) ≡ true). rw e (omega arith)) (λ (e : (b == 10) ≡ false). rw e (omega arith)) (cases_Bool (b == 10))

pub feeds_within : (z : List ℕ) → count_by (λ b. b == 10) z ≤ length z
feeds_within z = count_by-le-length (λ b. b == 10) z

sum_of : (from at : ℕ) → from ≤ at → from + (at - from) ≡ at
sum_of from at e = omega arith

pub take_on : (from at : ℕ) (z : List ℕ) → from ≤ at → take from z ++ take (at - from) (drop from z) ≡ take at z
take_on from at z e = sym (take-add from (at - from) z) ∙ ap (λ n. take n z) (sum_of from at e)

pub onward : (units : Units) (text : List ℕ) (from at : ℕ) → from ≤ at → position_behind units (shown_at units text from) (take (at - from) (drop from text)) ≡ shown_at units text at
unfolding shown_at
onward units text from at e = sym (behind_both units start (take from text) (take (at - from) (drop from text))) ∙ ap (λ z. position_behind units start z) (take_on from at text e)

-- no line feed is passed: the columns add up
without_feeds : (units : Units) (p : Position) (z : List ℕ) → feeds z ≡ 0 → (position_behind units p z).column ≡ p.column + sum_by (column_units (list_style units)) z
unfolding feeds points.begins_end
without_feeds units p [] e = omega arith
without_feeds units p (b ∷ z) e =
    let all = sum_by-cons (column_units (list_style units)) b z in
    ⊎_elim
    (λ (is : (b == 10) ≡ true).
    let one : ◌≡◌ {A = ℕ} (1 + feeds z) 0 = subst (λ t. cond t (1 + feeds z) (feeds z) ≡ 0) is e in absurd (omega (arith, one)))
    (λ (no : (b == 10) ≡ false).
    let rest = without_feeds units (behind_byte units p b) z (subst (λ t. cond t (1 + feeds z) (feeds z) ≡ 0) no e) in
    let column : ◌≡◌ {A = ℕ} (behind_byte units p b).column (p.column + byte_units units b) = rw no refl in
    let same : ◌≡◌ {A = ℕ} (column_units (list_style units) b) (byte_units units b) = rw no refl in
    omega (arith, all, rest, column, same))
    (cases_Bool (b == 10))

-- from a place back to an earlier one
pub column_before : (units : Units) (text : List ℕ) (from at : ℕ) (here : Position) (n u : ℕ) (style : Style) → here ≡ shown_at units text from → at ≤ from → n ≡ 0
    → n ≡ count_by (λ b. b == 10) (take (from - at) (drop at text)) → style ≡ list_style units → u ≡ sum_by (column_units style) (take (from - at) (drop at text))
    → (shown_at units text at).column + u ≡ here.column
column_before units text from at here n u style h e none count same sum =
    let z = take (from - at) (drop at text) in
    let there = without_feeds units (shown_at units text at) z (feeds_counted z ∙ sym count ∙ none) in
    let end = ap (λ p. p.column) (onward units text at from e ∙ sym h) in
    let units_are = ap (λ t. sum_by (column_units t) z) same in
    omega (arith, there, end, sum, units_are)

pub lines_before : (units : Units) (text : List ℕ) (from at : ℕ) (here : Position) (n : ℕ) → here ≡ shown_at units text from → at ≤ from
    → n ≡ count_by (λ b. b == 10) (take (from - at) (drop at text)) → (shown_at units text at).line + n ≡ here.line
lines_before units text from at here n h e count =
    let z = take (from - at) (drop at text) in
    let there = line_is units (shown_at units text at) z in
    let end = ap (λ p. p.line) (onward units text at from e ∙ sym h) in
    omega (arith, there, end, count)

byte_line : (units : Units) (p : Position) (b : ℕ) → (behind_byte units p b).line ≤ p.line + 1
byte_line units p b = ⊎_elim (λ (e : (b == 10) ≡ true). rw e (omega arith)) (λ (e : (b == 10) ≡ false). rw e (omega arith)) (cases_Bool (b == 10))

few_units : (units : Units) (b : ℕ) → byte_units units b ≤ 2
few_units Characters b = search rules
few_units Utf16 b = search rules
few_units Bytes b = search rules

pub column_units_few : (style : Style) (b : ℕ) → column_units style b ≤ 2
column_units_few style b =
    let few = few_units style.units b in
    ⊎_elim (λ (e : begins_end style.line_ends b ≡ true). rw e (omega arith)) (λ (e : begins_end style.line_ends b ≡ false). rw e few) (cases_Bool (begins_end style.line_ends b))

pub column_units_within : (style : Style) (z : List ℕ) → sum_by (column_units style) z ≤ 2 * length z
column_units_within style z = sum_few (column_units style) (column_units_few style) z

-- at a line feed the column is the first again, which is none further on if there was one
byte_column : (units : Units) (p : Position) (b : ℕ) → (behind_byte units p b).column ≤ p.column + 2
byte_column units p b =
    let few = few_units units b in
    ⊎_elim (λ (e : (b == 10) ≡ true). rw e (omega arith)) (λ (e : (b == 10) ≡ false). rw e (omega (arith, few))) (cases_Bool (b == 10))

line_from : (units : Units) (p : Position) (z : List ℕ) → (position_behind units p z).line ≤ p.line + length z
line_from units p [] = omega arith
line_from units p (b ∷ z) = let first = byte_line units p b in let rest = line_from units (behind_byte units p b) z in omega (arith, first, rest)

column_from : (units : Units) (p : Position) (z : List ℕ) → (position_behind units p z).column ≤ p.column + 2 * length z
column_from units p [] = omega arith
column_from units p (b ∷ z) = let first = byte_column units p b in let rest = column_from units (behind_byte units p b) z in omega (arith, first, rest)

pub line_within : (units : Units) (text : List ℕ) (at : ℕ) → at ≤ length text → (shown_at units text at).line ≤ 1 + at
unfolding shown_at
line_within units text at e = let within = line_from units start (take at text) in let short = length-take at text in omega arith

pub column_within : (units : Units) (text : List ℕ) (at : ℕ) → at ≤ length text → (shown_at units text at).column ≤ 1 + 2 * at
unfolding shown_at
column_within units text at e = let within = column_from units start (take at text) in let short = length-take at text in omega arith

at_end : (units : Units) (text : List ℕ) (at : ℕ) → shown_at units text (min at (length text)) ≡ shown_at units text at
unfolding shown_at
at_end units text at = ap (λ z. position_behind units start z) (take_min at text)

-- lists count so what the style of lists says
listed_byte : (units : Units) (p : Point) (b : ℕ) (bytes : List ℕ) → from_one (points.point_behind (list_style units) p b bytes) ≡ behind_byte units (from_one p) b
unfolding points.begins_end points.is_split
listed_byte units p b bytes =
    ⊎_elim (λ (e : (b == 10) ≡ true). subst (λ n. from_one (points.point_behind (list_style units) p n bytes) ≡ behind_byte units (from_one p) n) (sym (eqb-true b 10 e)) refl)
    (λ (e : (b == 10) ≡ false). rw e (ap (λ n. record { line = p.line + 1; column = n }) (omega arith)))
    (cases_Bool (b == 10))

listed_behind : (units : Units) (p : Point) (n : ℕ) (bytes : List ℕ) → from_one (points.point_further (list_style units) p n bytes) ≡ position_behind units (from_one p) (take n bytes)
listed_behind units p zero bytes = refl
listed_behind units p (suc n) [] = refl
listed_behind units p (suc n) (b ∷ bytes) =
    listed_behind units (points.point_behind (list_style units) p b bytes) n bytes ∙ ap (λ q. position_behind units q (take n bytes)) (listed_byte units p b bytes)

is_listed : (units : Units) (text : List ℕ) (at : ℕ) → shown_at units (drop (mark_length text) text) (at - mark_length text) ≡ position_in units text at
unfolding shown_at position_in points.point_at
is_listed units text at = sym (listed_behind units (record { line = 0; column = 0 }) (at - mark_length text) (drop (mark_length text) text))

-- a place of what is shown of a text is one of the text
pub place_is : (units : Units) (text : List ℕ) (mark at end : ℕ) (here : Position) → mark ≡ mark_length text → end ≡ min (at - mark) (length (drop mark text)) → here ≡ shown_at units (drop mark text) end → here ≡ position_in units text at
place_is units text mark at end here m e h =
    h ∙ ap (shown_at units (drop mark text)) e ∙ at_end units (drop mark text) (at - mark) ∙ ap (λ n. shown_at units (drop n text) (at - n)) m ∙ is_listed units text at

pub at_start : (units : Units) (text : List ℕ) → shown_at units text 0 ≡ start
unfolding shown_at
at_start units text = refl

abbrev spot : ℕ → ℕ → Position
spot line column = record { line = line; column = column }

-- the lines are those of any other units
pub counted : (units : Units) (text : List ℕ) (at : ℕ) (here : Position) (column : ℕ) → here ≡ shown_at Characters text at → column ≡ (position_behind units start (take at text)).column
    → record { line = here.line; column = column } ≡ shown_at units text at
unfolding shown_at
counted units text at here column h c =
    let lines = ap (λ p. p.line) h ∙ line_is Characters start (take at text) ∙ sym (line_is units start (take at text)) in
    ap (λ n. spot n column) lines ∙ ap (spot (position_behind units start (take at text)).line) c

pub earlier : (units : Units) (text : List ℕ) (from at : ℕ) (here : Position) (n column : ℕ) → here ≡ shown_at units text from → at ≤ from
    → n ≡ count_by (λ b. b == 10) (take (from - at) (drop at text)) → column ≡ (shown_at units text at).column
    → record { line = here.line - n; column = column } ≡ shown_at units text at
earlier units text from at here n column h e count c =
    let lines = lines_before units text from at here n h e count in
    let line : here.line - n ≡ (shown_at units text at).line = omega (arith, lines) in
    ap (λ m. spot m column) line ∙ ap (spot (shown_at units text at).line) c
