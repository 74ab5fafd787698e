-- What is asked of the attributes of an item.
use Rattle.std.specs.Prelude.{ℕ, Bool, false, not, ◌||◌, List, [], codes, if◌then◌else◌}
use Rattle.std.specs.{List.list_any, Option.option_map_or}
use Rattle.hir_input.specs.Attr.{token_tree_of}
use Rattle.hir_input.specs.declared.attr.Attr.{Attr}
use Rattle.item_tree_attrs.specs.Key.{has_key}
use Rattle.def_map.specs.declared.attributes.Marks.{Marks}
use Rattle.language_names.specs.LanguageNames.{is_language, are_core_derives, test_attributes}

-- one of the attributes is not the language's
abbrev pub have_foreign : List Attr → Bool
have_foreign attrs = list_any (λ a. not (is_language a)) attrs

-- one of them has this name
abbrev pub have : List ℕ → List Attr → Bool
have key attrs = list_any (has_key key) attrs

-- one of them may take the item away where no test is built
abbrev pub have_test : List Attr → Bool
have_test attrs = list_any (λ key. have key attrs) test_attributes

-- ---- derives

-- an attribute `derive` that has another
abbrev pub is_foreign_derive : Attr → Bool
is_foreign_derive a = if has_key (codes "derive") a then option_map_or (λ tokens. not (are_core_derives [] tokens)) (token_tree_of a) false else false

abbrev pub have_foreign_derive : List Attr → Bool
have_foreign_derive attrs = list_any is_foreign_derive attrs

-- ---- all that is asked

-- what the attributes of an item do to its names
abbrev pub attr_marks : List Attr → Marks
attr_marks attrs = record {
  is_foreign = have_foreign attrs;
  is_veiling = have_foreign attrs || have_foreign_derive attrs;
  is_test = have_test attrs;
  is_exported = have (codes "macro_export") attrs;
  is_non_exhaustive = have (codes "non_exhaustive") attrs;
}
