-- What is asked of a text in whose body something is typed: whose braces they are.
use Rattle.std.specs.Prelude.{ℕ, ◌==◌, ◌||◌, Bool, false, Option, Some, None, List, [], ◌∷◌}
use Rattle.rust_paths.specs.declared.names.TextRange.{TextRange}
use Rattle.rust_items.specs.declared.log.ItemSpan.{ItemSpan}
use Rattle.rust_items.specs.declared.source_file.ItemPlace.{ItemPlace}

-- braces begin there
abbrev pub begins_at : ℕ → Option TextRange → Bool
begins_at at None = false
begins_at at (Some r) = r.start == at

-- one of these items ends with braces that begin there
abbrev pub has_body : ℕ → List ItemSpan → Bool
has_body at [] = false
has_body at (s ∷ ss) = begins_at at s.body || has_body at ss

-- the same of the places of what was read
abbrev pub has_body_at : ℕ → List ItemPlace → Bool
has_body_at at [] = false
has_body_at at (p ∷ ps) = begins_at at p.body || has_body_at at ps
