-- What of folders is taken.
use Rattle.std.specs.Prelude.{ℕ, Bool, ◌-◌, ◌&&◌, ◌||◌, not, nat_eq, if◌then◌else◌, List, [], length, take, drop, codes, bytes_eq, chars}
use Rattle.std.specs.List.{starts_with, ends_with, list_any}
use Rattle.globs.specs.Globs.{matches}

-- what of folders is taken: hidden entries too, or not, and not what these globs stand for
pub record Filtering : Type 0 where
  pub has_hidden : Bool
  pub excluded : List (List ℕ)

-- what leaves nothing out but hidden entries, or not these either
abbrev pub filtering : Bool → Filtering
filtering has_hidden = record { has_hidden = has_hidden; excluded = [] }

abbrev pub is_hidden : List ℕ → Bool
is_hidden name = starts_with nat_eq name (codes ".")

-- a glob without the slash that it may end with
abbrev pub without_last_slash : List ℕ → List ℕ
without_last_slash glob = if ends_with nat_eq glob (codes "/") then take (length glob - 1) glob else glob

-- a path without the slash that it may begin with
abbrev pub without_first_slash : List ℕ → List ℕ
without_first_slash path = if starts_with nat_eq path (codes "/") then drop 1 path else path

-- whether a glob stands for a text
abbrev pub is_match : List ℕ → List ℕ → Bool
is_match glob text = matches (chars glob) (chars text)

-- what stands in a path or a glob behind the `./` that it may begin with
abbrev pub without_first_dot : List ℕ → List ℕ
without_first_dot path = if starts_with nat_eq path (codes "./") then drop 2 path else path

-- whether a glob stands for a path: below the folder that was named, with or without the slash, or from the working directory on
unfoldable pub is_glob_of_path : List ℕ → List ℕ → List ℕ → Bool
is_glob_of_path path whole glob =
    is_match glob (without_first_slash path) || (is_match glob path || is_match glob (without_first_dot whole))

-- whether a glob is one of an entry: of its path or, if it does not begin with `./`, of its name
unfoldable pub is_glob_of : List ℕ → List ℕ → List ℕ → List ℕ → Bool
is_glob_of name path whole glob =
    (not (starts_with nat_eq glob (codes "./")) && is_match (without_last_slash glob) name)
    || is_glob_of_path path whole (without_first_dot (without_last_slash glob))

-- whether an entry is left out, by its name, its path below the folder that was named, and its whole path
abbrev pub excludes : Filtering → List ℕ → List ℕ → List ℕ → Bool
excludes f name path whole = (not f.has_hidden && is_hidden name) || list_any (is_glob_of name path whole) f.excluded

-- whether a folder of this name is left out where cargo builds in it
abbrev pub excludes_built : Filtering → List ℕ → Bool
excludes_built f name = not f.has_hidden && bytes_eq name (codes "target")
