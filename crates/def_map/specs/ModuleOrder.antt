-- Modules in order: the root first, and each other one behind the one that it stands in.
use Rattle.std.specs.Prelude.{ℕ, zero, suc, ◌+◌, nat_lt, Bool, true, false, ◌&&◌, List, [], ◌∷◌, Option, Some, None}

abbrev pub is_parent_behind : ℕ → Option ℕ → Bool
is_parent_behind m (Some parent) = nat_lt parent m
is_parent_behind zero None = true
is_parent_behind (suc m) None = false

-- from a number on
abbrev pub are_behind : ℕ → List (Option ℕ) → Bool
are_behind m [] = true
are_behind m (p ∷ ps) = is_parent_behind m p && are_behind (m + 1) ps
