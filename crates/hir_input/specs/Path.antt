-- Paths by their values, and how a path is displayed.
use Rattle.std.specs.Prelude.{ℕ, ◌<◌, List, [], ◌∷◌, ◌++◌, length, map, codes, replicate, ◌==◌, if◌then◌else◌, Option, Some, None}
use Rattle.std.specs.List.{join_by, flat_map}
use Rattle.hir_input.specs.declared.mod_path.PathKind.{PathKind}
use Rattle.hir_input.specs.declared.mod_path.PathKind.TheVariants.{Plain, Super, Crate, Abs, DollarCrate}
use Rattle.hir_input.specs.Name.{shown_name}

-- a path: its kind, and the texts of its names
pub record Path : Type 0 where
  pub kind : PathKind
  pub names : List (List ℕ)

-- a plain path has a name
abbrev pub HasWords : PathKind → List (List ℕ) → Type 0
HasWords Plain names = 0 < length names
HasWords _ names = Unit {0}

-- the one element of a list
abbrev pub only : List (List ℕ) → Option (List ℕ)
only [] = None
only (name ∷ []) = Some name
only (name ∷ next ∷ names) = None

-- the name of a plain path of one name
abbrev pub ident_by : PathKind → List (List ℕ) → Option (List ℕ)
ident_by Plain names = only names
ident_by _ names = None

-- the one name of a path that is a single name
abbrev pub ident_of : Path → Option (List ℕ)
ident_of path = ident_by path.kind path.names

-- the words that a kind begins with
abbrev pub first_words : PathKind → List (List ℕ)
first_words Plain = []
first_words (Super n) = if n == 0 then codes "self" ∷ [] else replicate n (codes "super")
first_words Crate = codes "crate" ∷ []
first_words Abs = [] ∷ []
first_words (DollarCrate c) = codes "$crate" ∷ []

-- texts joined by `::`
abbrev pub by_colons : List (List ℕ) → List ℕ
by_colons words = join_by (λ word. word) (codes "::") words

-- the words of the kind and the names, joined by `::`
abbrev pub shown_path : List (List ℕ) → Path → List ℕ
shown_path reserved path = by_colons (first_words path.kind ++ map (shown_name reserved) path.names)

-- names behind other words
abbrev pub shown_more : List (List ℕ) → List (List ℕ) → List ℕ
shown_more reserved names = flat_map (λ name. codes "::" ++ shown_name reserved name) names
