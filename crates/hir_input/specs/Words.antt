-- The words of a path, and the path that words mean.
use Rattle.std.specs.Prelude.{ℕ, zero, suc, List, [], ◌∷◌, ◌++◌, map, replicate, Option, Some, None, option_map}
use Rattle.hir_input.specs.declared.ids.Crate.{Crate}
use Rattle.hir_input.specs.declared.mod_path.PathKind.{PathKind}
use Rattle.hir_input.specs.declared.mod_path.PathKind.TheVariants as path
use Rattle.hir_input.specs.Path.{Path}

-- a name is none of the other words, whatever its text
pub data PathWord : Type 0 where
  self_word : PathWord
  super_word : PathWord
  crate_word : PathWord
  absolute_word : PathWord
  dollar_crate_word : Crate → PathWord
  name_word : List ℕ → PathWord

-- the words of a kind
abbrev pub kind_words : PathKind → List PathWord
kind_words path.Plain = []
kind_words (path.Super zero) = self_word ∷ []
kind_words (path.Super (suc n)) = replicate (suc n) super_word
kind_words path.Crate = crate_word ∷ []
kind_words path.Abs = absolute_word ∷ []
kind_words (path.DollarCrate c) = dollar_crate_word c ∷ []

-- the words of a path
abbrev pub words : Path → List PathWord
words p = kind_words p.kind ++ map name_word p.names

-- the names that words are, if they are nothing else
abbrev pub read_names : List PathWord → Option (List (List ℕ))
read_names [] = Some []
read_names (name_word n ∷ ws) = option_map (λ ns. n ∷ ns) (read_names ws)
read_names (w ∷ ws) = None

abbrev pub path_of : PathKind → Option (List (List ℕ)) → Option Path
path_of kind names = option_map (λ ns. record { kind = kind; names = ns }) names

-- behind n times `super`: more of them, and then names alone
abbrev pub read_supers : ℕ → List PathWord → Option Path
read_supers n (super_word ∷ ws) = read_supers (suc n) ws
read_supers n ws = path_of (path.Super n) (read_names ws)

-- one of the fronts `crate`, `::` and `$crate`, or `self` and `super` any number of times, or none, and then names alone
abbrev pub read_words : List PathWord → Option Path
read_words [] = None
read_words (self_word ∷ ws) = read_supers 0 ws
read_words (super_word ∷ ws) = read_supers 1 ws
read_words (crate_word ∷ ws) = path_of path.Crate (read_names ws)
read_words (absolute_word ∷ ws) = path_of path.Abs (read_names ws)
read_words (dollar_crate_word c ∷ ws) = path_of (path.DollarCrate c) (read_names ws)
read_words (name_word n ∷ ws) = path_of path.Plain (read_names (name_word n ∷ ws))
