-- Where members stand.
use Rattle.std.specs.Prelude.{ℕ, ◌+◌, ◌^◌, ◌<◌, ◌≤◌, List, [], ◌∷◌, Option, Some, None}
use Rattle.rust_paths.specs.declared.names.TextRange.{TextRange}
use Rattle.rust_items.specs.Places.{IsNameIn}
use Rattle.rust_items.specs.Members.{MemberRead}

-- a member's place: it is not empty, from a byte place on and up to another, with the name and the body in it
pub record IsMemberPlaced (from to : ℕ) (m : MemberRead) : Type 0 where
  pub begins : from ≤ m.range.start
  pub some : m.range.start < m.range.end
  pub ends : m.range.end ≤ to
  pub name : IsNameIn m.range m.name
  pub body : IsNameIn m.range m.body

-- each begins at the end of the one before it or behind that
abbrev pub ArePlaced : ℕ → ℕ → List MemberRead → Type 0
ArePlaced from to [] = Unit {0}
ArePlaced from to (m ∷ ms) = IsMemberPlaced from to m × ArePlaced m.range.end to ms

-- the places of a range that may be missing fit into a number behind so many bytes
abbrev pub FitsMoved : ℕ → Option TextRange → Type 0
FitsMoved by None = Unit {0}
FitsMoved by (Some range) = (by + range.start < 2 ^ 64) × (by + range.end < 2 ^ 64)
