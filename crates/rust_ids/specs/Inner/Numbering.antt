-- A file whose items have their ids in part.
use Rattle.std.specs.Prelude.{◌≡◌, ◌≤◌, ◌<◌, ℕ, ◌+◌, Bool, true, ◌&&◌, ◌||◌, ◌==◌, nat_lt, nat_le, if◌then◌else◌, List, length, Option, Some, None, MatchOption, unwrap_or}
use Rattle.std.specs.declared.hash.FoldHasher.{FoldHasher}
use Rattle.std.specs.declared.hash.BuildHasherDefault.{BuildHasherDefault}
use Rattle.std.specs.HashMap.{get, HashMap}
use Rattle.hir_input.specs.declared.ids.FileAstId.{FileAstId}
use Rattle.rust_ids.specs.Row.{Row}
use Rattle.rust_ids.specs.Ids.{Key, same_key, key_of, depth_at, id_at, count_below, IsId}

-- how many items there are so far of each kind and hash
abbrev pub Counts : Type 0
Counts = HashMap Key ℕ (BuildHasherDefault FoldHasher)

abbrev pub count_of : Counts → Key → ℕ
count_of counts key = unwrap_or (get same_key counts key) 0

-- one more is counted
abbrev pub CountsOne : Counts → Counts → Key → Type 0
CountsOne old new key = (q : Key) → count_of new q ≡ count_of old q + (if same_key key q then 1 else 0)

-- the items that are less deep, and those of one depth before a place
abbrev pub is_numbered_before : List Row → ℕ → ℕ → ℕ → Bool
is_numbered_before rows depth at j = nat_lt (depth_at rows j) depth || (depth_at rows j == depth && nat_lt j at)

-- the items that pass a test have their ids and are counted
pub record IsNumbered (done : ℕ → Bool) (rows : List Row) (ids : List FileAstId) (counts : Counts) : Type 0 where
  pub as_many : length ids ≡ length rows
  pub each : (i : ℕ) → i < length rows → done i ≡ true → IsId rows ids i
  pub counted : (q : Key) → count_of counts q ≡ count_below (λ j. done j && same_key (key_of (id_at ids j)) q) (length rows)

-- a depth is the least below another among the items before a place, or there is none
abbrev pub IsNextBefore : List Row → ℕ → ℕ → Option ℕ → Type 0
IsNextBefore rows at depth next = MatchOption next
    ((j : ℕ) → j < at → depth_at rows j ≤ depth)
    (λ deeper. (depth < deeper) × ((j : ℕ) → j < at → nat_le (depth_at rows j) depth ≡ nat_lt (depth_at rows j) deeper))

-- the same among all items
abbrev pub IsNextDepth : List Row → ℕ → Option ℕ → Type 0
IsNextDepth rows depth next = IsNextBefore rows (length rows) depth next

-- the nearer to a depth of what is deeper than it
abbrev pub nearer_of : ℕ → Option ℕ → ℕ → Option ℕ
nearer_of depth None other = if nat_le other depth then None else Some other
nearer_of depth (Some deeper) other = if nat_le other depth then Some deeper else (if nat_le deeper other then Some deeper else Some other)
