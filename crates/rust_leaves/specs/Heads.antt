-- The words that begin an item, and the modifiers before them.
use Rattle.std.specs.Prelude.{◌≡◌, refl, ℕ, zero, suc, Bool, true, not, ◌==◌, ◌&&◌, ◌||◌, if◌then◌else◌, Option, List, [], ◌∷◌, codes, bytes_eq}
use Rattle.std.specs.List.{list_any}
use Rattle.hir_input.specs.declared.ast.PlainKind.TheVariants as plain_kind
use Rattle.hir_input.specs.declared.ast.Visibility.{Visibility}
use Rattle.rust_cursor.specs.Nests.{is_literal_kind}
use Rattle.rust_cursor.specs.Tokens.{Tokens}
use Rattle.rust_cursor.specs.Words.{symbol, word, is_at_doc, is_at_end, eat, eat_colons, bumped}
use Rattle.rust_cursor.specs.Brackets.{behind_tree}
use Rattle.rust_cursor.specs.Elements.{most_tokens}
use Rattle.rust_cursor.specs.Extents.{begins_item}
use Rattle.rust_cursor.specs.Grammar.{outside, Grammar, gives, and_then, on_seen, reads_as}
use Rattle.rust_cursor.specs.Looks.{Lookahead, kind_is, symbol_is, word_is, word_meets, at_identifier, at_open, pair_is, both_seen, either_seen, look_by, then_seen, sees, may_skip}
use Rattle.rust_paths.specs.Names.{has_name}
use Rattle.rust_paths.specs.Paths.{is_dollar_crate, is_segment}
use Rattle.rust_paths.specs.Visibilities.{visibility}
use Rattle.rust_leaves.specs.declared.head.Head.{Head}
use Rattle.rust_leaves.specs.declared.head.Head.TheVariants as heads

-- ---- modifiers

-- what may stand behind each modifier: another modifier, or the word of an item
unfoldable pub may_follow_const : List ℕ → Bool
may_follow_const w = list_any (bytes_eq w) (codes "fn" ∷ codes "unsafe" ∷ codes "extern" ∷ codes "trait" ∷ codes "impl" ∷ [])

-- behind `gen` too
unfoldable pub follows_async : List ℕ → Bool
follows_async w = list_any (bytes_eq w) (codes "fn" ∷ codes "unsafe" ∷ codes "safe" ∷ codes "extern" ∷ [])

unfoldable pub follows_unsafe : List ℕ → Bool
follows_unsafe w =
    list_any (bytes_eq w) (codes "fn" ∷ codes "extern" ∷ codes "trait" ∷ codes "impl" ∷ codes "mod" ∷ codes "static" ∷ codes "type"
    ∷ codes "const" ∷ codes "async" ∷ codes "safe" ∷ [])

unfoldable pub follows_safe : List ℕ → Bool
follows_safe w = list_any (bytes_eq w) (codes "fn" ∷ codes "static" ∷ codes "extern" ∷ [])

-- behind `final` too
unfoldable pub follows_default : List ℕ → Bool
follows_default w =
    list_any (bytes_eq w) (codes "fn" ∷ codes "unsafe" ∷ codes "const" ∷ codes "type" ∷ codes "impl" ∷ codes "async" ∷ codes "extern" ∷ codes "gen"
    ∷ codes "safe" ∷ [])

unfoldable pub follows_extern_modifier : List ℕ → Bool
follows_extern_modifier w = list_any (bytes_eq w) (codes "fn" ∷ codes "unsafe" ∷ [])

-- the name of an interface comes next, as `"C"`
abbrev pub at_abi : Lookahead
at_abi = kind_is is_literal_kind

-- it is taken
unfoldable pub abi : Grammar outside (Unit {0})
abi = on_seen at_abi 1 refl (gives tt) (gives tt)

-- this is seen behind it, if it is written
abbrev pub behind_abi : Lookahead → Lookahead
behind_abi l = look_by at_abi (then_seen at_abi 1 l) l

-- this is seen behind the word, or without the word the other
abbrev pub by_word : List ℕ → Lookahead → Lookahead → Lookahead
by_word w behind other = look_by (word_is w) (then_seen (word_is w) 1 behind) other

-- `gen` of `async gen fn`, and not of a block
abbrev pub gen_modifier : Lookahead
gen_modifier = then_seen (word_is (codes "gen")) 1 (word_meets follows_async)

-- `async`, `gen` and `auto` are names, too: a modifier comes next, where this stands behind it
unfoldable pub weak_modifier : Lookahead
weak_modifier =
    by_word (codes "async") (either_seen (word_meets follows_async) gen_modifier)
    (by_word (codes "gen") (word_meets follows_async)
    (then_seen (word_is (codes "auto")) 1 (word_is (codes "trait"))))

-- the same of each modifier
unfoldable pub modifier : Lookahead
modifier =
    by_word (codes "const") (either_seen (word_meets may_follow_const) weak_modifier)
    (by_word (codes "unsafe") (either_seen (word_meets follows_unsafe) weak_modifier)
    (by_word (codes "safe") (word_meets follows_safe)
    (by_word (codes "default") (word_meets follows_default)
    (by_word (codes "final") (word_meets follows_default)
    (by_word (codes "extern") (behind_abi (word_meets follows_extern_modifier))
    (by_word (codes "type") (word_is (codes "const"))
    (by_word (codes "reuse") (word_is (codes "impl")) weak_modifier)))))))

pub modifier_skipped : may_skip modifier 1 ≡ true
unfolding modifier weak_modifier
modifier_skipped = refl

-- modifiers, and behind each the name of an interface, which only `extern` has
abbrev pub modifiers_from : ℕ → Grammar outside (Unit {0})
modifiers_from zero = gives tt
modifiers_from (suc n) = on_seen modifier 1 modifier_skipped (and_then abi (λ _. modifiers_from n)) (gives tt)

unfoldable pub modifiers : Grammar outside (Unit {0})
modifiers = modifiers_from most_tokens

-- ---- the words

-- `union` before a name
abbrev pub union_words : Lookahead
union_words = then_seen (word_is (codes "union")) 1 has_name

pub union_skipped : may_skip union_words 1 ≡ true
unfolding has_name
union_skipped = refl

-- `macro_rules`, `!` and a name
abbrev pub macro_rules_words : Lookahead
macro_rules_words = then_seen (word_is (codes "macro_rules")) 1 (then_seen (symbol_is 33) 1 at_identifier)

-- `extern crate`
abbrev pub extern_crate_words : Lookahead
extern_crate_words = then_seen (word_is (codes "extern")) 1 (word_is (codes "crate"))

-- `extern` and `{`, maybe with the name of an interface between them
abbrev pub extern_block_words : Lookahead
extern_block_words = then_seen (word_is (codes "extern")) 1 (behind_abi (symbol_is 123))

-- the word of a kind of item, or else the other rule
abbrev pub on_item_word : (w : List ℕ) → may_skip (word_is w) 1 ≡ true → Head → Grammar outside Head → Grammar outside Head
on_item_word w p h other = on_seen (word_is w) 1 p (gives h) other

-- The words that begin an item, by which its kind is known.
unfoldable pub head : Grammar outside Head
head =
    on_item_word (codes "use") refl heads.Use
    (on_item_word (codes "fn") refl (heads.Plain plain_kind.Fn)
    (on_item_word (codes "impl") refl heads.Impl
    (on_item_word (codes "trait") refl (heads.Plain plain_kind.Trait)
    (on_item_word (codes "struct") refl heads.Struct
    (on_item_word (codes "enum") refl (heads.Plain plain_kind.Enum)
    (on_item_word (codes "const") refl heads.Const
    (on_item_word (codes "static") refl (heads.Plain plain_kind.Static)
    (on_item_word (codes "type") refl (heads.Plain plain_kind.TypeAlias)
    (on_item_word (codes "mod") refl heads.Module
    (on_item_word (codes "macro") refl (heads.Plain plain_kind.MacroDef)
    (on_seen union_words 1 union_skipped (gives (heads.Plain plain_kind.Union))
    (on_seen macro_rules_words 2 refl (gives heads.MacroRules)
    (on_seen extern_crate_words 2 refl (gives heads.ExternCrate)
    (on_seen extern_block_words 1 refl (and_then abi (λ _. gives heads.ExternBlock))
    (gives heads.Other)))))))))))))))

-- a visibility, modifiers and the words that begin an item
unfoldable pub front_words : Grammar outside (Option Visibility × Head)
front_words = and_then visibility (λ v. and_then modifiers (λ _. reads_as (λ h. (v, h)) head))

-- ---- what is no item

-- a word that may begin an item
unfoldable pub is_first_word : List ℕ → Bool
is_first_word w =
    list_any (bytes_eq w) (codes "pub" ∷ codes "fn" ∷ codes "use" ∷ codes "mod" ∷ codes "struct" ∷ codes "enum" ∷ codes "trait" ∷ codes "impl"
    ∷ codes "type" ∷ codes "static" ∷ codes "const" ∷ codes "extern" ∷ codes "unsafe" ∷ codes "async" ∷ codes "macro" ∷ [])

-- a word that can be a segment of a path
abbrev pub segment_word : Lookahead
segment_word = both_seen at_identifier is_segment

-- such a word with `::` behind it
abbrev pub begins_path : Lookahead
begins_path = then_seen segment_word 1 (pair_is 58 58)

pub path_skipped : may_skip begins_path 3 ≡ true
unfolding is_segment has_name is_dollar_crate
path_skipped = refl

abbrev pub behind_segments_from : ℕ → Tokens → Tokens
behind_segments_from zero ts = ts
behind_segments_from (suc n) ts = if sees begins_path ts then behind_segments_from n (bumped (bumped (bumped ts))) else ts

-- from the last segment of a path on
unfoldable pub behind_segments : Tokens → Tokens
behind_segments ts = behind_segments_from most_tokens ts

-- the `!` of a macro call
unfoldable pub is_called : Lookahead
is_called = then_seen (symbol_is 33) 1 at_open

pub called_skipped : may_skip is_called 1 ≡ true
unfolding is_called
called_skipped = refl

-- the last segment of a path, and the `!` of a macro call
abbrev pub call_words : Lookahead
call_words = then_seen segment_word 1 is_called

pub call_skipped : may_skip call_words 1 ≡ true
unfolding is_segment has_name is_dollar_crate is_called
call_skipped = refl

-- the path of a macro call comes next, and its `!`
abbrev pub is_called_here : Tokens → Bool
is_called_here ts = sees call_words (behind_segments ts)

-- The same, maybe with `$` or `::` before the path. No generic arguments stand in the path of an item's macro: none is looked for behind a `<`.
unfoldable pub begins_call : Tokens → Bool
begins_call ts = is_called_here (eat_colons (eat 36 ts).1).1

-- a word comes next that may begin an item; in front of `::` it is a segment of a path
abbrev pub is_at_first : Tokens → Bool
is_at_first ts = not (sees begins_path ts) && (is_first_word (word ts) || (sees union_words ts || begins_item ts))

-- something may begin an item: an attribute, such a word, or the path of a macro call
unfoldable pub may_begin : Tokens → Bool
may_begin ts = if symbol ts == 35 || is_at_doc ts then true else (if is_at_first ts then true else is_called_here ts)

-- no more is passed over
unfoldable pub is_behind_others : Tokens → Bool
is_behind_others ts = is_at_end ts || may_begin ts

-- what is left behind a token or what stands in brackets, and of a path before its last segment
abbrev pub behind_other : Tokens → Tokens
behind_other ts = if sees begins_path ts then behind_segments ts else behind_tree ts

abbrev pub behind_others_from : ℕ → Tokens → Tokens
behind_others_from zero ts = ts
behind_others_from (suc n) ts = if is_behind_others ts then ts else behind_others_from n (behind_other ts)

abbrev pub behind_more_others : Tokens → Tokens
behind_more_others ts = behind_others_from most_tokens ts

-- what is left behind tokens that begin no item
unfoldable pub behind_others : Tokens → Tokens
behind_others ts = if is_at_end ts then ts else behind_more_others (behind_tree ts)
