-- What the words of a path mean.
use Rattle.std.specs.Prelude.{Bool, true, nat_lt, if◌then◌else◌, Option, Some, None, option_map, List, [], ◌∷◌}
use Rattle.hir_input.specs.declared.mod_path.PathKind.{PathKind}
use Rattle.hir_input.specs.declared.mod_path.PathKind.TheVariants.{Super}
use Rattle.hir_input.specs.declared.ast.PathNode.{PathNode}
use Rattle.hir_input.specs.declared.ast.PathNode.TheVariants.{Readable, Unreadable}
use Rattle.hir_input.specs.Path.{Path}
use Rattle.hir_input.specs.Words.{PathWord, read_words}

-- as many `super` as a path can count
abbrev pub fits : PathKind → Bool
fits (Super n) = nat_lt n 4294967296
fits kind = true

abbrev pub node_of : Option Path → PathNode
node_of None = Unreadable
node_of (Some p) = if fits p.kind then Readable p else Unreadable

-- the words, where each has a meaning
abbrev pub all_words : List (Option PathWord) → Option (List PathWord)
all_words [] = Some []
all_words (None ∷ ws) = None
all_words (Some w ∷ ws) = option_map (λ vs. w ∷ vs) (all_words ws)

abbrev pub read_all : Option (List PathWord) → Option Path
read_all None = None
read_all (Some ws) = read_words ws

-- the path of these words
abbrev pub path_node : List (Option PathWord) → PathNode
path_node ws = node_of (read_all (all_words ws))
