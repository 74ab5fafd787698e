-- For the crate's own functions: a row tells of each end of a text, the whole first, whether something holds of it.
use Rattle.std.specs.Prelude.{ℕ, Bool, false, ◌≡◌, ◌+◌, ◌<◌, ◌≤◌, ◌&&◌, ◌||◌, List, length, drop, get_or}
use Rattle.globs.specs.Globs.{passes, is_one}

abbrev pub is_told_at : List Bool → ℕ → Bool
is_told_at row k = get_or row k false

-- the row of what holds of the ends of a text
pub record IsRow (holds : List ℕ → Bool) (text : List ℕ) (row : List Bool) : Type 0 where
  pub whole : length row ≡ length text + 1
  pub each : (k : ℕ) → k ≤ length text → is_told_at row k ≡ holds (drop k text)

-- what a character that is no star makes of a row
pub record IsBehindOne (p : ℕ) (text : List ℕ) (old new : List Bool) : Type 0 where
  pub whole : length new ≡ length text + 1
  pub last : is_told_at new (length text) ≡ false
  pub each : (k : ℕ) → k < length text → is_told_at new k ≡ (is_one p (get_or text k 0) && is_told_at old (k + 1))

-- what a star makes of a row
pub record IsBehindSome (is_double : Bool) (text : List ℕ) (old new : List Bool) : Type 0 where
  pub whole : length new ≡ length text + 1
  pub last : is_told_at new (length text) ≡ is_told_at old (length text)
  pub each : (k : ℕ) → k < length text → is_told_at new k ≡ (is_told_at old k || (passes is_double (get_or text k 0) && is_told_at new (k + 1)))
