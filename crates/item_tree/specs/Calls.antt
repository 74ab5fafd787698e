-- Calls of a closure at the items of a list, one after the other.
use Rattle.std.specs.Prelude.{◌≡◌, List, [], ◌∷◌, ◌++◌, Option}
use Rattle.std.specs.List.{FoldsTo}
use Rattle.hir_input.specs.Path.{Path}
use Rattle.item_tree.specs.declared.use_tree.ImportAlias.{ImportAlias}
use Rattle.item_tree.specs.declared.use_tree.ImportKind.{ImportKind}
use Rattle.item_tree.specs.declared.use_tree.UseTreeIdx.{UseTreeIdx}
use Rattle.item_tree.specs.Imports.{Import}

-- it may be called at each item, in each state that the calls before it leave
abbrev pub MayCallAt : {F A : Type 0} → (F → A → Type 0) → (F → A → F → Type 0) → F → List A → Type 0
MayCallAt pre step f [] = Unit {0}
MayCallAt {F} pre step f (x ∷ xs) = pre f x × ((g : F) → step f x g → MayCallAt pre step g xs)

-- it was called at each item
pub record CalledAtAll {F A : Type 0} (step : F → A → F → Type 0) (f : F) (xs : List A) (g : F) : Type 0 where
  pub calls : FoldsTo step f xs g

-- the calls made were a beginning of the list
pub record CalledAtSome {F A : Type 0} (step : F → A → F → Type 0) (f : F) (xs : List A) (g : F) : Type 0 where
  pub done : List A
  pub left : List A
  pub is_front : done ++ left ≡ xs
  pub calls : FoldsTo step f done g

-- an import by the arguments of a call for it
abbrev pub import : UseTreeIdx → Path → ImportKind → Option ImportAlias → Import
import index path kind alias = record { index = index.0; path = path; kind = kind; alias = alias }

-- a call of a closure of four arguments at an import
abbrev pub at_import : {F : Type 0} → (F → UseTreeIdx → Path → ImportKind → Option ImportAlias → Type 0) → F → Import → Type 0
at_import pre f x = pre f (record { 0 = x.index }) x.path x.kind x.alias

-- a call of a closure with the parts of an import leads from one of its states to another
abbrev pub by_import : {F : Type 0} → (F → UseTreeIdx → Path → ImportKind → Option ImportAlias → Unit {0} → F → Type 0) → F → Import → F → Type 0
by_import step f x g = step f (record { 0 = x.index }) x.path x.kind x.alias tt g
