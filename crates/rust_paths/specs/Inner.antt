-- Paths, word by word.
use Rattle.std.specs.Prelude.{ℕ, Bool, nat_lt, ◌+◌, if◌then◌else◌, Option, Some, None, option_map, List, [], ◌∷◌, ◌++◌, slice_index}
use Rattle.hir_input.specs.declared.mod_path.PathKind.{PathKind}
use Rattle.hir_input.specs.declared.mod_path.PathKind.TheVariants.{Plain, Super, Crate, Abs, DollarCrate}
use Rattle.hir_input.specs.declared.ast.PathNode.{PathNode}
use Rattle.hir_input.specs.declared.ast.PathNode.TheVariants.{Unreadable}
use Rattle.hir_input.specs.Path.{Path}
use Rattle.hir_input.specs.Words.{PathWord, self_word, super_word, crate_word, absolute_word, dollar_crate_word, name_word, words}
use Rattle.rust_cursor.specs.Tokens.{Tokens}
use Rattle.rust_cursor.specs.Words.{has_length}
use Rattle.rust_paths.specs.declared.names.TheConstants.{PATH_FIRST}
use Rattle.rust_paths.specs.Meaning.{node_of, read_all, all_words}

-- nothing, or `::`
abbrev pub path_start : Bool → Path
path_start absolute = record { kind = if absolute then Abs else Plain; names = [] }

-- a path with a word behind it
abbrev pub word_behind : PathKind → List (List ℕ) → PathWord → Option Path
word_behind kind names (name_word n) = Some (record { kind = kind; names = names ++ n ∷ [] })
word_behind Plain [] self_word = Some (record { kind = Super 0; names = [] })
word_behind Plain [] super_word = Some (record { kind = Super 1; names = [] })
word_behind Plain [] crate_word = Some (record { kind = Crate; names = [] })
word_behind Plain [] absolute_word = Some (record { kind = Abs; names = [] })
word_behind Plain [] (dollar_crate_word c) = Some (record { kind = DollarCrate c; names = [] })
word_behind (Super n) [] super_word = if nat_lt n 4294967295 then Some (record { kind = Super (n + 1); names = [] }) else None
word_behind kind names word = None

abbrev pub then_word : Option Path → Option PathWord → Option Path
then_word p None = None
then_word None (Some w) = None
then_word (Some p) (Some w) = word_behind p.kind p.names w

-- the path of words that mean this one so far, or nothing, with these behind them
abbrev pub meant_path : Option Path → Option (List PathWord) → PathNode
meant_path None ws = Unreadable
meant_path (Some p) ws = node_of (read_all (option_map (λ vs. words p ++ vs) ws))

abbrev pub meaning : Option Path → List (Option PathWord) → PathNode
meaning p ws = meant_path p (all_words ws)

abbrev pub with_word : Option Path → Option PathWord × Tokens → Option Path × Tokens
with_word p r = (then_word p r.0, r.1)

abbrev pub with_words : Option Path → List (Option PathWord) × Tokens → PathNode × Tokens
with_words p r = (meaning p r.0, r.1)

-- a word that may be a keyword that a path may hold, by its length and its first byte
abbrev pub may_be_path_keyword : List ℕ → Bool
may_be_path_keyword w = has_length PATH_FIRST (slice_index w 0) w
