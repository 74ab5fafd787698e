-- The types that impls are of.
use Rattle.std.specs.Prelude.{ℕ, zero, suc, Bool, true, false, ◌==◌, ◌||◌, if◌then◌else◌, List, Option, Some, None, codes, bytes_eq}
use Rattle.hir_input.specs.declared.edition.EditionYear.{EditionYear}
use Rattle.rust_cursor.specs.Tokens.{Tokens, tokens_of}
use Rattle.rust_cursor.specs.Words.{symbol, word, is_empty, bumped}
use Rattle.rust_cursor.specs.Angles.{behind_angles, is_lone_for}
use Rattle.rust_cursor.specs.Brackets.{behind_tree}
use Rattle.rust_cursor.specs.Elements.{most_tokens}
use Rattle.rust_paths.specs.Names.{is_path_keyword, name}
use Rattle.rust_leaves.specs.Fronts.{front}
use Rattle.source_rows.specs.declared.types.TypeRead.{TypeRead}
use Rattle.rust_cursor.specs.Grammar.{reads}

-- a type of which nothing is read; no trait is before it so far
abbrev pub begun_type : TypeRead
begun_type = record { is_path = true; name = None; of_trait = false }

-- a header ends before its `where`, and before its braces
abbrev pub is_type_over : Tokens → Bool
is_type_over ts = is_empty ts || (symbol ts == 123 || (symbol ts == 59 || bytes_eq (word ts) (codes "where")))

-- a `:`, or `crate`, `self`, `super` or `Self`: a path may hold it, and is not named so
abbrev pub is_link : Tokens → Bool
is_link ts = symbol ts == 58 || is_path_keyword (word ts)

-- behind a name of a path; what else comes is in no path
abbrev pub type_named : TypeRead → Option (List ℕ) → Tokens → TypeRead × Tokens
type_named r None ts = (record { is_path = false; name = r.name; of_trait = r.of_trait }, behind_tree ts)
type_named r (Some n) ts = (record { is_path = r.is_path; name = Some n; of_trait = r.of_trait }, ts)

-- behind a `for`: what stood before it is a trait
abbrev pub behind_trait : TypeRead
behind_trait = record { is_path = true; name = None; of_trait = true }

-- a step on in a header: the type is what stands behind a `for`, and of a path what stands in angle brackets does not count
abbrev pub type_step : TypeRead → Tokens → TypeRead × Tokens
type_step r ts =
    if is_lone_for ts then (behind_trait, bumped ts)
    else (if symbol ts == 60 then (r, behind_angles ts)
    else (if is_link ts then (r, bumped ts) else type_named r (reads name ts).0 (reads name ts).1))

abbrev pub type_from : ℕ → TypeRead → Tokens → TypeRead
type_from zero r ts = r
type_from (suc n) r ts = if is_type_over ts then r else type_from n (type_step r ts).0 (type_step r ts).1

-- the type of a header
unfoldable pub type_read : Tokens → TypeRead
type_read ts = type_from most_tokens begun_type ts

-- the last name of a type that is a path
abbrev pub path_name : TypeRead → Option (List ℕ)
path_name r = if r.is_path then r.name else None

-- the type of an impl, which this is the text of
unfoldable pub header_type : EditionYear → List ℕ → TypeRead
header_type edition item = type_read (behind_angles (front (tokens_of edition item)).1)

-- its name
unfoldable pub type_name : EditionYear → List ℕ → Option (List ℕ)
type_name edition item = path_name (header_type edition item)

-- whether the impl is of a trait
abbrev pub is_of_trait : EditionYear → List ℕ → Bool
is_of_trait edition item = (header_type edition item).of_trait
