-- Visibilities.
use Rattle.std.specs.Prelude.{◌≡◌, refl, true, Bool, zero, suc, length, ◌==◌, if◌then◌else◌, Option, Some, None, List, ℕ, codes, bytes_eq}
use Rattle.hir_input.specs.declared.ast.PathNode.{PathNode}
use Rattle.hir_input.specs.declared.ast.PathNode.TheVariants.{Readable, Unreadable}
use Rattle.hir_input.specs.declared.mod_path.PathKind.{PathKind}
use Rattle.hir_input.specs.declared.mod_path.PathKind.TheVariants as path
use Rattle.hir_input.specs.Path.{Path}
use Rattle.hir_input.specs.declared.ast.Visibility.{Visibility}
use Rattle.hir_input.specs.declared.ast.Visibility.TheVariants.{Pub, PubCrate, PubSuper, PubSelf, InPath}
use Rattle.rust_cursor.specs.Tokens.{Tokens}
use Rattle.rust_cursor.specs.Reader.{Reader}
use Rattle.rust_cursor.specs.Words.{symbol, word, bumped}
use Rattle.rust_cursor.specs.Looks.{Lookahead, at_identifier, symbol_is, word_is, either_seen, then_seen, past_seen, sees, may_skip}
use Rattle.rust_cursor.specs.Grammar.{outside, Grammar, gives, on_seen, eats, passes_field, reads, reads_as, ◌>>=◌}
use Rattle.rust_paths.specs.Paths as paths

-- `crate`, `self` or `super` alone are what they are without `in`
abbrev pub in_word : PathKind → Path → Visibility
in_word path.Crate p = PubCrate
in_word (path.Super zero) p = PubSelf
in_word (path.Super (suc zero)) p = PubSuper
in_word kind p = InPath (Readable p)

unfoldable pub in_readable : Path → Visibility
in_readable p = if length p.names == 0 then in_word p.kind p else InPath (Readable p)

-- without a path it is `pub`
abbrev pub in_path : Option PathNode → Visibility
in_path None = Pub
in_path (Some Unreadable) = InPath Unreadable
in_path (Some (Readable p)) = in_readable p

-- `crate`, `super` and `self`
unfoldable pub scope_of : List ℕ → Option Visibility
scope_of word =
    if bytes_eq word (codes "crate") then Some PubCrate
    else (if bytes_eq word (codes "super") then Some PubSuper
    else (if bytes_eq word (codes "self") then Some PubSelf else None))

-- the visibility of a word in brackets, or none
unfoldable pub scope : Tokens → Option Visibility
scope ts = if symbol (bumped (bumped ts)) == 41 then scope_of (word (bumped ts)) else None

-- a path, up to the bracket that closes, and it; or up to a comma or what begins an item, where one comes first
abbrev pub scope_path : Grammar outside Visibility
scope_path = do
  p ← paths.path
  _ ← passes_field
  _ ← eats 41 refl
  gives (in_path p)

-- a word or a colon comes next
abbrev pub is_path_part : Lookahead
is_path_part = either_seen at_identifier (symbol_is 58)

-- Words and colons come next, and behind them a `)` and a word: so does a path in `pub(a::b) fn f() {}`, and no type in `struct Pair(pub (a::B))`.
unfoldable pub is_bare_path : Lookahead
is_bare_path = past_seen is_path_part (then_seen (symbol_is 41) 1 at_identifier)

pub bare_path_skipped : may_skip (then_seen (symbol_is 40) 1 is_bare_path) 1 ≡ true
unfolding is_bare_path
bare_path_skipped = refl

-- such a word alone in brackets comes next
abbrev pub is_scope : List ℕ → Lookahead
is_scope w = then_seen (symbol_is 40) 1 (then_seen (word_is w) 1 (symbol_is 41))

-- A word in brackets is the visibility that it names, and a path in them is read as behind `in`.
abbrev pub plain_scope : Option Visibility → Reader Visibility
plain_scope None ts = if sees is_bare_path (bumped ts) then reads scope_path (bumped ts) else (Pub, ts)
plain_scope (Some v) ts = (v, bumped (bumped (bumped ts)))

-- `in` comes next in a bracket
unfoldable pub is_in : Tokens → Bool
is_in ts = bytes_eq (word (bumped ts)) (codes "in")

-- Behind `pub`: `(in path)`, or a word or a path in brackets. Other brackets are no part of it, as in `struct Pair(pub (u8, u8))`.
unfoldable pub scoped_visibility : Grammar outside Visibility
scoped_visibility =
    on_seen (then_seen (symbol_is 40) 1 (word_is (codes "in"))) 2 refl scope_path
    (on_seen (is_scope (codes "crate")) 3 refl (gives PubCrate)
    (on_seen (is_scope (codes "super")) 3 refl (gives PubSuper)
    (on_seen (is_scope (codes "self")) 3 refl (gives PubSelf)
    (on_seen (then_seen (symbol_is 40) 1 is_bare_path) 1 bare_path_skipped scope_path (gives Pub)))))

-- Visibility: `pub` and a scope, if one is written. `crate` alone is none.
unfoldable pub visibility : Grammar outside (Option Visibility)
visibility = on_seen (word_is (codes "pub")) 1 refl (reads_as Some scoped_visibility) (gives None)
