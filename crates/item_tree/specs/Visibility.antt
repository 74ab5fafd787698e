-- Visibilities as they are read, and those of modules, each once.
use Rattle.std.specs.Prelude.{Bool, List, [], ◌∷◌, ◌++◌, Option, Some, None, if◌then◌else◌}
use Rattle.std.specs.List.{list_any}
use Rattle.hir_input.specs.declared.ast.Visibility.{Visibility}
use Rattle.hir_input.specs.declared.ast.Visibility.TheVariants as written
use Rattle.hir_input.specs.declared.ast.PathNode.TheVariants.{Readable, Unreadable}
use Rattle.hir_input.specs.declared.mod_path.PathKind.TheVariants.{Super}
use Rattle.item_tree.specs.declared.visibility.RawVisibility.{RawVisibility}
use Rattle.item_tree.specs.declared.visibility.RawVisibility.TheVariants.{Module, PubSelf, PubCrate, Public}
use Rattle.item_tree.specs.declared.visibility.VisibilityExplicitness.TheVariants.{Explicit, Implicit}
use Rattle.item_tree.specs.contracts.visibility.RawVisibility as raw
use Rattle.item_tree.specs.Same.{same as same_by}

-- what a written visibility is read as
abbrev pub read_visibility : Option Visibility → RawVisibility
read_visibility None = PubSelf Implicit
read_visibility (Some written.Pub) = Public
read_visibility (Some written.PubCrate) = PubCrate
read_visibility (Some written.PubSelf) = PubSelf Explicit
read_visibility (Some written.PubSuper) = Module (record { kind = Super 1; names = [] }) Explicit
read_visibility (Some (written.InPath (Readable path))) = Module path Explicit
read_visibility (Some (written.InPath Unreadable)) = PubSelf Implicit

-- whether two are the same
abbrev pub same_visibility : RawVisibility → RawVisibility → Bool
same_visibility = same_by raw.the_row.coded

-- the visibilities of modules among several that stand behind others: each where no equal one stands before it
abbrev pub firsts_behind : List RawVisibility → List RawVisibility → List RawVisibility
firsts_behind before [] = []
firsts_behind before (Module p e ∷ vs) = if list_any (same_visibility (Module p e)) before then firsts_behind before vs else Module p e ∷ firsts_behind (before ++ Module p e ∷ []) vs
firsts_behind before (v ∷ vs) = firsts_behind before vs

-- the distinct visibilities of modules among several, by first appearance
abbrev pub distinct_visibilities : List RawVisibility → List RawVisibility
distinct_visibilities vs = firsts_behind [] vs
