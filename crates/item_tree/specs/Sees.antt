-- From where what has a visibility is seen.
use Rattle.std.specs.Prelude.{◌≡◌, Bool, true, false, List, [], ◌∷◌, map}
use Rattle.std.specs.List.{list_any, list_all}
use Rattle.hir_input.specs.Path.{Path}
use Rattle.hir_input.specs.Syntax.{NamedView, FieldsView, record_fields, tuple_fields, ItemView, struct_item, listed_module, ItemViews, no_items, item_and, SyntaxView, items_of}
use Rattle.item_tree.specs.declared.visibility.RawVisibility.{RawVisibility}
use Rattle.item_tree.specs.declared.visibility.RawVisibility.TheVariants.{Module, PubSelf, PubCrate, Public}
use Rattle.item_tree.specs.Constructor.{ctor_of}
use Rattle.item_tree.specs.Layout.{ctor_vis}
use Rattle.item_tree.specs.Same.{same}
use Rattle.item_tree.specs.Code.Tree.{tree_path_code}
use Rattle.item_tree.specs.Visibility.{read_visibility}

-- where a place is: in the module that all of this stands in, elsewhere in the crate, or outside of the crate
pub data Where : Type 0 where
  inside : Where
  in_crate : Where
  outside : Where

-- a place, and the modules that hold it
pub record Place : Type 0 where
  pub at : Where
  pub modules : List Path

-- inside everything is seen; elsewhere what is public, in the crate what is the crate's, and in a module what is the module's
abbrev pub seen_from : Where → List Path → RawVisibility → Bool
seen_from inside modules v = true
seen_from in_crate modules Public = true
seen_from in_crate modules PubCrate = true
seen_from in_crate modules (Module p e) = list_any (same tree_path_code p) modules
seen_from in_crate modules (PubSelf e) = false
seen_from outside modules Public = true
seen_from outside modules v = false

-- whether a place sees what has each of these visibilities
abbrev pub sees_all : Place → List RawVisibility → Bool
sees_all place vs = list_all (seen_from place.at place.modules) vs

-- the visibilities of a struct and of its fields
abbrev pub written_vis : NamedView → FieldsView → List RawVisibility
written_vis n (tuple_fields fields) = read_visibility n.visibility ∷ map read_visibility fields
written_vis n _ = read_visibility n.visibility ∷ []

-- a place sees the constructor of a tuple or unit struct exactly if it sees the struct and each field
abbrev pub CtorIsSeen : Place → NamedView → FieldsView → Type 0
CtorIsSeen place n record_fields = Unit {0}
CtorIsSeen place n fields = sees_all place (ctor_vis (ctor_of fields (read_visibility n.visibility))) ≡ sees_all place (written_vis n fields)

-- of every struct of a syntax, at every depth
abbrev mutual
  pub CtorIsSeenIn : Place → ItemView → Type 0
  CtorIsSeenIn place (struct_item n fields) = CtorIsSeen place n fields
  CtorIsSeenIn place (listed_module n semicolon is) = CtorsAreSeenIn place is
  CtorIsSeenIn place i = Unit {0}

  pub CtorsAreSeenIn : Place → ItemViews → Type 0
  CtorsAreSeenIn place no_items = Unit {0}
  CtorsAreSeenIn place (item_and i is) = CtorIsSeenIn place i × CtorsAreSeenIn place is

-- from every place, each constructor is seen exactly as its struct and fields say
pub record CtorsAreSeen (s : SyntaxView) : Type 0 where
  pub everywhere : (place : Place) → CtorsAreSeenIn place (items_of s)
