-- What private contracts cite. No public clause does.
use Rattle.std.specs.Prelude.{ℕ, Bool, List, slice_index}
use Rattle.rust_cursor.specs.Tokens.{Tokens}
use Rattle.rust_cursor.specs.Words.{has_length, bumped}
use Rattle.rust_cursor.specs.Grammar.{reads}
use Rattle.rust_leaves.specs.declared.head.Head.{Head}
use Rattle.rust_leaves.specs.declared.head.Head.TheVariants as heads
use Rattle.rust_leaves.specs.declared.modifiers.TheConstants.{MODIFIERS}
use Rattle.rust_leaves.specs.Heads.{abi}

-- a word that may be a modifier, by its length and its first byte
abbrev pub may_modify : List ℕ → Bool
may_modify w = has_length MODIFIERS (slice_index w 0) w

-- what is left behind the words of an item
abbrev pub behind_head : Head → Tokens → Tokens
behind_head heads.Other ts = ts
behind_head heads.ExternCrate ts = bumped (bumped ts)
behind_head heads.MacroRules ts = bumped (bumped ts)
behind_head heads.ExternBlock ts = (reads abi (bumped ts)).1
behind_head _ ts = bumped ts
