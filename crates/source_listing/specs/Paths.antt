-- Paths of names, with two colons before each.
use Rattle.std.specs.Prelude.{ℕ, Bool, if◌then◌else◌, List, ◌++◌, codes, nat_eq, bytes_eq}
use Rattle.std.specs.List.{ends_with}

-- a name behind two colons
abbrev pub bare_segment : List ℕ → List ℕ
bare_segment name = codes "::" ++ name

-- a path is the one that is looked for, or ends as that does where it may begin anywhere
abbrev pub is_sought_path : List ℕ → Bool → List ℕ → Bool
is_sought_path sought is_anywhere path = if is_anywhere then ends_with nat_eq path sought else bytes_eq path sought
