-- Parts of texts.
use Rattle.std.specs.Prelude.{ℕ, ◌-◌, ◌==◌, List, [], length, slice_get, unwrap_or}
use Rattle.std.specs.List.{slice_split}

-- what stands between the bytes of a text that are this one
abbrev pub parts_between : ℕ → List ℕ → List (List ℕ)
parts_between mark text = slice_split (λ b. b == mark) text

-- the part at a place, empty where there is none
abbrev pub part_at : List (List ℕ) → ℕ → List ℕ
part_at ps at = unwrap_or (slice_get ps at) []

-- the last part
abbrev pub last_part : List (List ℕ) → List ℕ
last_part ps = part_at ps (length ps - 1)
