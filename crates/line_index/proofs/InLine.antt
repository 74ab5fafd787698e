-- From a column to a byte.
use Rattle.std.proofs.Common.{◌≡◌, ℕ, ◌+◌, ◌-◌, true, false, List, [], ◌∷◌, ◌++◌, cond, ⊎_elim, refl, sym, ap, subst, arith, ◌≤◌, length, take, drop, count_by, length-take-le}
use Rattle.std.proofs.lemmas.Bool.{cases_Bool}
use Rattle.std.proofs.lemmas.List.{take-append-drop}
use Rattle.std.proofs.lemmas.List.Sums.{sum_by-cons}
use Rattle.std.specs.List.{sum_by}
use Rattle.line_index.specs.declared.LineEnds.{LineEnds}
use Rattle.line_index.specs.declared.Style.{Style}
use Rattle.line_index.specs.declared.Units.{Units}
use Rattle.line_index.specs.declared.Units.TheVariants.{Characters, Utf16, Bytes}
use Rattle.line_index.specs.Points.{begins_end, byte_units, bytes_before, continues_character, is_beyond, rest_units, column_units}
use Rattle.line_index.proofs.Points.{not_beyond, to_next}

-- a byte within a character takes at most one unit
pub rest_few : (units : Units) (b : ℕ) → continues_character b ≡ true → byte_units units b ≤ 1
rest_few Characters b e = rw e (omega arith)
rest_few Utf16 b e = rw e (omega arith)
rest_few Bytes b e = omega arith

no_ends : (ends : LineEnds) (b : ℕ) (block : List ℕ) → count_by (begins_end ends) (b ∷ block) ≡ 0 → (begins_end ends b ≡ false) × (count_by (begins_end ends) block ≡ 0)
no_ends ends b block e =
    let all = sum_by-cons (λ x. cond (begins_end ends x) 1 0) b block in
    ⊎_elim
    (λ (begins : begins_end ends b ≡ true).
    let one : ◌≡◌ {A = ℕ} (cond (begins_end ends b) 1 0) 1 = rw begins refl in
    absurd (omega (arith, all, one, e)))
    (λ (other : begins_end ends b ≡ false).
    let none : ◌≡◌ {A = ℕ} (cond (begins_end ends b) 1 0) 0 = rw other refl in
    (other, omega (arith, all, none, e)))
    (cases_Bool (begins_end ends b))

column_units_other : (style : Style) (b : ℕ) → begins_end style.line_ends b ≡ false → column_units style b ≡ byte_units style.units b
column_units_other style b e = rw e refl

rest_within : (style : Style) (block rest : List ℕ) → count_by (begins_end style.line_ends) block ≡ 0
    → rest_units style.units (block ++ rest) ≤ sum_by (column_units style) block + rest_units style.units rest
rest_within style [] rest e = omega arith
rest_within style (b ∷ block) rest e =
    let none = no_ends style.line_ends b block e in
    let more = rest_within style block rest none.1 in
    let all = sum_by-cons (column_units style) b block in
    let one = column_units_other style b none.0 in
    ⊎_elim
    (λ (goes_on : continues_character b ≡ true).
    subst (λ t. cond t (byte_units style.units b + rest_units style.units (block ++ rest)) 0 ≤ sum_by (column_units style) (b ∷ block) + rest_units style.units rest) (sym goes_on)
    (omega (arith, more, all, one)))
    (λ (new : continues_character b ≡ false).
    subst (λ t. cond t (byte_units style.units b + rest_units style.units (block ++ rest)) 0 ≤ sum_by (column_units style) (b ∷ block) + rest_units style.units rest) (sym new) (omega arith))
    (cases_Bool (continues_character b))

whole : (a b : ℕ) → a ≤ b → a + (b - a) ≡ b
whole a b e = omega (arith, e)

apart : (c a b s : ℕ) → s ≡ a + b → c - a - b ≡ c - s
apart c a b s e = omega (arith, e)

-- what stands in a line and goes before a column is passed
passed : (style : Style) (column : ℕ) (block rest : List ℕ) → count_by (begins_end style.line_ends) block ≡ 0 → sum_by (column_units style) block + rest_units style.units rest ≤ column
    → bytes_before style 0 column (block ++ rest) ≡ length block + bytes_before style 0 (column - sum_by (column_units style) block) rest
passed style column [] rest e fits =
    let same : column ≡ column - sum_by (column_units style) [] = omega arith in
    let is = ap (λ n. bytes_before style 0 n rest) same in
    omega (arith, is)
passed style column (b ∷ block) rest e fits =
    let none = no_ends style.line_ends b block e in
    let all = sum_by-cons (column_units style) b block in
    let one = column_units_other style b none.0 in
    let behind = rest_within style block rest none.1 in
    let w = byte_units style.units b in
    let left : rest_units style.units (block ++ rest) ≤ column - w = omega (arith, all, one, behind, fits) in
    let room : w ≤ column = omega (arith, all, one, fits) in
    let within = subst (λ n. is_beyond style.units n b (block ++ rest) ≡ false) (whole w column room) (not_beyond style.units (column - w) b (block ++ rest) left) in
    let more = passed style (column - w) block rest none.1 (omega (arith, all, one, fits)) in
    let same : sum_by (column_units style) (b ∷ block) ≡ w + sum_by (column_units style) block = omega (arith, all, one) in
    let columns = ap (λ n. bytes_before style 0 n rest) (apart column w (sum_by (column_units style) block) (sum_by (column_units style) (b ∷ block)) same) in
    let step = to_next style b (block ++ rest) column none.0 within in
    omega (arith, step, more, columns)

pub block_passed : (style : Style) (column units : ℕ) (text : List ℕ) → 96 ≤ length text → count_by (begins_end style.line_ends) (take 96 text) ≡ 0 → units ≡ sum_by (column_units style) (take 96 text)
    → units + rest_units style.units (drop 96 text) ≤ column → bytes_before style 0 column text ≡ 96 + bytes_before style 0 (column - units) (drop 96 text)
block_passed style column units text long none e fits =
    let is = passed style column (take 96 text) (drop 96 text) none (omega (arith, e, fits)) in
    let front = length-take-le 96 text long in
    let same = ap (λ z. bytes_before style 0 column z) (sym (take-append-drop 96 text)) in
    let columns = ap (λ n. bytes_before style 0 (column - n) (drop 96 text)) (sym e) in
    omega (arith, is, front, same, columns)
