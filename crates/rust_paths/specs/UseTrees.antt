-- Use trees.
use Rattle.std.specs.Prelude.{refl, ℕ, zero, suc, Bool, true, false, ◌==◌, ◌||◌, if◌then◌else◌, Option, Some, None, is_none, option_to_list, List, [], ◌∷◌, ◌++◌, codes}
use Rattle.std.specs.Option.{option_or}
use Rattle.hir_input.specs.declared.ast.PathNode.{PathNode}
use Rattle.hir_input.specs.declared.ast.PathNode.TheVariants.{Readable, Unreadable}
use Rattle.hir_input.specs.declared.mod_path.PathKind.TheVariants.{Super}
use Rattle.hir_input.specs.declared.ast.Rename.{Rename}
use Rattle.hir_input.specs.UseTreeView.{UseTreeView, tree_from}
use Rattle.rust_cursor.specs.Tokens.{Tokens}
use Rattle.rust_cursor.specs.Reader.{Reader, ◌>>=◌, pure, look, pass}
use Rattle.rust_cursor.specs.Words.{symbol, at, bump, bumped, eat_colons}
use Rattle.rust_cursor.specs.Brackets.{behind_closed, behind_tree}
use Rattle.rust_cursor.specs.Elements.{most_tokens, elements, one}
use Rattle.rust_cursor.specs.Looks.{at_end, symbol_is, sees}
use Rattle.rust_cursor.specs.Grammar.{outside, Grammar, gives, and_then, on_seen, eats_word, passes_tree, reads, reads_as}
use Rattle.rust_paths.specs.Names.{name}
use Rattle.rust_paths.specs.Paths.{is_last_self, use_path}

-- What was read; the first bytes of the trees in it that can be read, each before those in it, and so in the order of the numbers that imports
-- have for them; and the place of the first list that was passed over, since it stands in too many others.
pub record FoundInUse (A : Type 0) : Type 0 where
  pub value : A
  pub starts : List ℕ
  pub too_deep : Option ℕ

-- ---- renames

-- `_`, and a name that is missing, are none
unfoldable pub alias : Grammar outside Rename
alias = and_then name (λ n. reads_as (λ _. record { name = n }) (eats_word (codes "_") refl))

abbrev pub alias_if : Bool → Grammar outside (Option Rename)
alias_if true = reads_as Some alias
alias_if false = gives None

-- `as` and a name or `_`
unfoldable pub rename : Grammar outside (Option Rename)
rename = and_then (eats_word (codes "as") refl) alias_if

-- ---- trees

abbrev pub bare_tree : Option PathNode → Bool → Option Rename → UseTreeView
bare_tree path star rename = tree_from (record { path = path; star = star; rename = rename }) None

-- a tree's first byte, and behind it those of the trees in it; a path that is unreadable drops them all
abbrev pub begun_trees : Option PathNode → ℕ → List ℕ → List ℕ
begun_trees (Some Unreadable) start below = []
begun_trees path start below = start ∷ below

-- a tree without a list, that begins there
abbrev pub with_bare : ℕ → Option PathNode → Bool → Option Rename → FoundInUse (Option UseTreeView)
with_bare start path star rename = record { value = Some (bare_tree path star rename); starts = begun_trees path start []; too_deep = None }

-- a tree with a list, if there is something of it
abbrev pub tree_with_list : Option PathNode → Option (List UseTreeView) → Option UseTreeView
tree_with_list None None = None
tree_with_list path list = Some (tree_from (record { path = path; star = false; rename = None }) list)

-- where it and the trees of its list begin
abbrev pub begun_list : Option PathNode → ℕ → Option (List UseTreeView) → List ℕ → List ℕ
begun_list None start None below = []
begun_list path start list below = begun_trees path start below

abbrev pub with_list : ℕ → Option PathNode → FoundInUse (Option (List UseTreeView)) → FoundInUse (Option UseTreeView)
with_list start path found =
    record { value = tree_with_list path found.value; starts = begun_list path start found.value found.starts; too_deep = found.too_deep }

-- `self` alone
abbrev pub self_path : PathNode
self_path = Readable (record { kind = Super 0; names = [] })

-- a path with `::self` behind it is that with `::{self}`
abbrev pub self_in_list : Option PathNode → Option Rename → UseTreeView
self_in_list path rename = tree_from (record { path = path; star = false; rename = None }) (Some (bare_tree (Some self_path) false rename ∷ []))

-- this tree, in which `self` begins there
abbrev pub with_self : ℕ → ℕ → Option PathNode → Option Rename → FoundInUse (Option UseTreeView)
with_self start inner path rename = record { value = Some (self_in_list path rename); starts = begun_trees path start (inner ∷ []); too_deep = None }

-- `self`, and a rename of it
abbrev pub self_tree : ℕ → Option PathNode → Reader (FoundInUse (Option UseTreeView))
self_tree start path = do
  inner ← look at
  _ ← bump
  rename ← reads rename
  pure (with_self start inner path rename)

-- behind a path and `::`, or behind neither: a star, a last `self` or a list
abbrev pub star_or_list : Reader (FoundInUse (Option (List UseTreeView))) → ℕ → Option PathNode → Reader (FoundInUse (Option UseTreeView))
star_or_list list start path ts =
    if symbol ts == 42 then (with_bare start path true None, bumped ts)
    else (if sees is_last_self ts then self_tree start path ts else (with_list start path (list ts).0, (list ts).1))

abbrev pub renamed_tree : ℕ → Option PathNode → Reader (FoundInUse (Option UseTreeView))
renamed_tree start path = do
  rename ← reads rename
  pure (with_bare start path false rename)

abbrev pub tree_behind : Reader (FoundInUse (Option (List UseTreeView))) → ℕ → Option PathNode → Bool → Reader (FoundInUse (Option UseTreeView))
tree_behind list start path joined = if joined || is_none path then star_or_list list start path else renamed_tree start path

-- UseTree: a path, and behind it `::*`, `::` and a list, `::self` and a rename, a rename, or nothing; the path may be missing before the first two.
abbrev pub tree_with : Reader (FoundInUse (Option (List UseTreeView))) → Reader (FoundInUse (Option UseTreeView))
tree_with list = do
  start ← look at
  path ← reads use_path
  joined ← eat_colons
  tree_behind list start path joined

-- ---- lists

-- up to a comma, and it, or up to a bracket that closes
abbrev pub comma_from : ℕ → Grammar outside (Unit {0})
comma_from zero = gives tt
comma_from (suc n) = on_seen at_end 0 refl (gives tt) (on_seen (symbol_is 44) 1 refl (gives tt) (and_then passes_tree (λ _. comma_from n)))

unfoldable pub comma : Grammar outside (Unit {0})
comma = comma_from most_tokens

-- what is left behind the next comma, or from a bracket that closes on
abbrev pub tree_behind_comma : Tokens → Tokens
tree_behind_comma ts = (reads comma ts).1

abbrev pub element_with : Reader (FoundInUse (Option (List UseTreeView))) → Reader (FoundInUse (Option UseTreeView))
element_with list = do
  found ← tree_with list
  _ ← pass tree_behind_comma
  pure found

abbrev pub values : List (FoundInUse (Option UseTreeView)) → List UseTreeView
values [] = []
values (f ∷ fs) = option_to_list f.value ++ values fs

abbrev pub all_starts : List (FoundInUse (Option UseTreeView)) → List ℕ
all_starts [] = []
all_starts (f ∷ fs) = f.starts ++ all_starts fs

abbrev pub first_too_deep : List (FoundInUse (Option UseTreeView)) → Option ℕ
first_too_deep [] = None
first_too_deep (f ∷ fs) = option_or f.too_deep (first_too_deep fs)

abbrev pub all_found : List (FoundInUse (Option UseTreeView)) → FoundInUse (List UseTreeView)
all_found fs = record { value = values fs; starts = all_starts fs; too_deep = first_too_deep fs }

-- the elements of a list
abbrev pub trees : Reader (FoundInUse (Option UseTreeView)) → Reader (FoundInUse (List UseTreeView))
trees element ts = (all_found (elements (one element) ts).0, (elements (one element) ts).1)

abbrev pub some_list : FoundInUse (List UseTreeView) → FoundInUse (Option (List UseTreeView))
some_list found = record { value = Some found.value; starts = found.starts; too_deep = found.too_deep }

-- no list, or one that is passed over
abbrev pub no_list : Option ℕ → FoundInUse (Option (List UseTreeView))
no_list too_deep = record { value = None; starts = []; too_deep = too_deep }

-- A list in braces. The number bounds how deep lists stand in one another; one that is deeper is passed over.
unfoldable pub list : ℕ → Reader (FoundInUse (Option (List UseTreeView)))
list zero ts = if symbol ts == 123 then (no_list (Some (at ts)), behind_tree ts) else (no_list None, ts)
list (suc depth) ts =
    if symbol ts == 123 then (let r = trees (element_with (list depth)) (bumped ts) in (some_list r.0, behind_closed 123 r.1)) else (no_list None, ts)

unfoldable pub element : ℕ → Reader (FoundInUse (Option UseTreeView))
element depth = element_with (list depth)

unfoldable pub tree_at : ℕ → Reader (FoundInUse (Option UseTreeView))
tree_at depth = tree_with (list depth)

-- A use tree, if one is written, with lists that stand in one another as far as 128 deep.
unfoldable pub use_tree : Reader (FoundInUse (Option UseTreeView))
use_tree = tree_at 128
