-- Paths of use trees, visibilities, attributes and macro calls.
use Rattle.std.specs.Prelude.{◌≡◌, refl, ℕ, Bool, true, false, if◌then◌else◌, zero, suc, Option, Some, None, option_map, List, [], ◌∷◌, codes}
use Rattle.hir_input.specs.declared.ast.PathNode.{PathNode}
use Rattle.hir_input.specs.Words.{PathWord, self_word, super_word, crate_word, absolute_word, name_word}
use Rattle.rust_lexer.specs.declared.kind.TokenKind.{TokenKind}
use Rattle.rust_lexer.specs.declared.kind.TokenKind.TheVariants as kinds
use Rattle.rust_cursor.specs.Elements.{most_tokens}
use Rattle.rust_cursor.specs.Looks.{Lookahead, fixed_look, kind_is, symbol_is, word_is, word_meets, pair_is, not_seen, both_seen, either_seen, look_by, then_seen, stays_short, may_skip}
use Rattle.rust_cursor.specs.Grammar.{by_identifier, outside, Grammar, gives, shows, on_seen, eats_pair, passes_angles, reads_as, ◌>>=◌}
use Rattle.rust_paths.specs.Meaning.{path_node}
use Rattle.rust_paths.specs.Names.{is_path_keyword, has_name, identifier_name, name}

-- ---- segments

abbrev pub is_raw : Option TokenKind → Bool
is_raw (Some kinds.RawIdent) = true
is_raw _ = false

-- `$crate`
unfoldable pub is_dollar_crate : Lookahead
is_dollar_crate = then_seen (symbol_is 36) 1 (word_is (codes "crate"))

pub dollar_crate_skipped : may_skip is_dollar_crate 2 ≡ true
unfolding is_dollar_crate
dollar_crate_skipped = refl

-- a segment comes next
unfoldable pub is_segment : Lookahead
is_segment =
    look_by (word_meets is_path_keyword) (fixed_look true) (look_by (kind_is is_raw) (fixed_look true) (look_by has_name (fixed_look true) is_dollar_crate))

pub segment_short : stays_short is_segment ≡ true
unfolding is_segment has_name is_dollar_crate
segment_short = refl

-- a name, or a raw identifier that is none
abbrev pub named_word : Grammar outside (Option PathWord)
named_word = do
  next ← shows (by_identifier identifier_name)
  on_seen (kind_is is_raw) 1 refl (gives (option_map name_word next)) (reads_as (option_map name_word) name)

-- Generic arguments have no meaning here, nor has `$crate`, whose crate no text tells.
unfoldable pub other_segment : Grammar outside (Option PathWord)
other_segment = on_seen (symbol_is 60) 0 refl (reads_as (λ _. None) passes_angles) (on_seen is_dollar_crate 2 dollar_crate_skipped (gives None) named_word)

-- PathIdentSegment: a name, `self`, `super` or `crate`. `Self` has no meaning here, nor has what is missing.
unfoldable pub segment : Grammar outside (Option PathWord)
segment =
    on_seen (word_is (codes "self")) 1 refl (gives (Some self_word))
    (on_seen (word_is (codes "super")) 1 refl (gives (Some super_word))
    (on_seen (word_is (codes "crate")) 1 refl (gives (Some crate_word))
    (on_seen (word_is (codes "Self")) 1 refl (gives None) other_segment)))

-- ---- paths

-- `::`
unfoldable pub is_colons : Lookahead
is_colons = pair_is 58 58

-- the `::` of a use tree in front of `*` or `{`
unfoldable pub is_joint : Lookahead
is_joint = then_seen is_colons 2 (either_seen (symbol_is 42) (symbol_is 123))

-- a `::` that belongs to a path
unfoldable pub is_path_colons : Bool → Lookahead
is_path_colons in_use = look_by (fixed_look in_use) (both_seen is_colons (not_seen is_joint)) is_colons

-- `self` with no `::` behind it
unfoldable pub is_last_self : Lookahead
is_last_self = then_seen (word_is (codes "self")) 1 (not_seen is_colons)

pub self_skipped : may_skip is_last_self 1 ≡ true
unfolding is_last_self is_colons
self_skipped = refl

-- a `::` with another segment behind it; a last `self` is none of the path of a use tree, but stands behind it as in braces
abbrev pub has_more : Bool → Lookahead
has_more false = is_path_colons false
has_more true = then_seen (is_path_colons true) 2 (not_seen is_last_self)

pub more_skipped : (in_use : Bool) → may_skip (has_more in_use) 2 ≡ true
unfolding is_path_colons is_colons is_joint is_last_self
more_skipped false = refl
more_skipped true = refl

-- `::` and a segment, as often as they come
abbrev pub more_from : Bool → ℕ → Grammar outside (List (Option PathWord))
more_from in_use zero = gives []
more_from in_use (suc n) = on_seen (has_more in_use) 2 (more_skipped in_use) (do
  w ← segment
  ws ← more_from in_use n
  gives (w ∷ ws))
    (gives [])

unfoldable pub more_segments : Bool → Grammar outside (List (Option PathWord))
more_segments in_use = more_from in_use most_tokens

abbrev pub front_of_path : Bool → List (Option PathWord) → List (Option PathWord)
front_of_path absolute ws = if absolute then Some absolute_word ∷ ws else ws

abbrev pub written_path : Bool → Grammar outside PathNode
written_path in_use = do
  absolute ← eats_pair 58 58 refl refl
  first ← segment
  more ← more_segments in_use
  gives (path_node (front_of_path absolute (first ∷ more)))

-- a path comes next
unfoldable pub is_path_start : Bool → Lookahead
is_path_start in_use = look_by (is_path_colons in_use) (fixed_look true) is_segment

pub start_skipped : (in_use : Bool) → may_skip (is_path_start in_use) 0 ≡ true
unfolding is_path_start is_path_colons is_colons is_joint is_segment has_name is_dollar_crate
start_skipped in_use = refl

-- SimplePath: a path, if one is written. In a use tree it ends before `::*`, `::{` and a last `::self`.
abbrev pub path_in : Bool → Grammar outside (Option PathNode)
path_in in_use = on_seen (is_path_start in_use) 0 (start_skipped in_use) (reads_as Some (written_path in_use)) (gives None)

-- a path, if one comes next
unfoldable pub path : Grammar outside (Option PathNode)
path = path_in false

unfoldable pub use_path : Grammar outside (Option PathNode)
use_path = path_in true
