-- Items without bodies, or with what is wanted of them.
use Rattle.hir_input.specs.declared.ast.PlainKind.TheVariants as plain_kind
use Rattle.std.proofs.Common.{◌≡◌, Bool, true, false, List, [], ◌∷◌, Option, Some, None, refl, ap, ◌∙◌, map, option_map, option_to_list}
use Rattle.rust_metas.specs.declared.wanted.WantedMetas.TheVariants as wanted
use Rattle.rust_items.proofs.Common.{item_without_bodies, items_without_bodies, named_without_body, node_without_body, ItemView, ItemViews, NamedView, NodeView, plain_item, listed_module, listed_extern_block, no_items, item_and, items_from, module_from, extern_block_from, kept_metas, Wanted, clipped_item, clipped_list, as_extern}

pub from_list : (is : List ItemView) → items_without_bodies (items_from is) ≡ items_from (map item_without_bodies is)
from_list [] = refl
from_list (i ∷ is) = ap (item_and (item_without_bodies i)) (from_list is)

pub module_alike : (n : NamedView) (semicolon : Bool) (is : Option (List ItemView)) → item_without_bodies (module_from n semicolon is) ≡ module_from (named_without_body n) semicolon (option_map (map item_without_bodies) is)
module_alike n semicolon None = refl
module_alike n semicolon (Some is) = ap (listed_module (named_without_body n) semicolon) (from_list is)

pub extern_block_alike : (n : NodeView) (is : Option (List ItemView)) → item_without_bodies (extern_block_from n is) ≡ extern_block_from (node_without_body n) (option_map (map item_without_bodies) is)
extern_block_alike n None = refl
extern_block_alike n (Some is) = ap (listed_extern_block (node_without_body n)) (from_list is)

-- what is an item of an extern block is one without bodies too
pub extern_alike : (i : ItemView) → option_map item_without_bodies (as_extern i) ≡ as_extern (item_without_bodies i)
extern_alike (plain_item plain_kind.Fn n) = refl
extern_alike _ = refl

pub list_of : {A B : Type 0} (change : A → B) (o : Option A) → map change (option_to_list o) ≡ option_to_list (option_map change o)
list_of change None = refl
list_of change (Some i) = refl

-- ---- with what is wanted

-- all is wanted
abbrev pub all : Wanted
all = record { bodies = true; metas = wanted.All }

-- all but bodies is wanted
abbrev pub bare : Wanted
bare = record { bodies = false; metas = wanted.All }

mutual
  unfolding kept_metas

  pub item_whole : (i : ItemView) → clipped_item all i ≡ i
  item_whole (listed_module n semicolon is) = ap (listed_module n semicolon) (list_whole is)
  item_whole (listed_extern_block n is) = ap (listed_extern_block n) (list_whole is)
  item_whole _ = refl

  pub list_whole : (is : ItemViews) → clipped_list all is ≡ is
  list_whole no_items = refl
  list_whole (item_and i is) = ap (λ j. item_and j (clipped_list all is)) (item_whole i) ∙ ap (item_and i) (list_whole is)

mutual
  unfolding kept_metas

  item_bare : (i : ItemView) → clipped_item bare i ≡ item_without_bodies i
  item_bare (listed_module n semicolon is) = ap (listed_module (named_without_body n) semicolon) (list_bare is)
  item_bare (listed_extern_block n is) = ap (listed_extern_block (node_without_body n)) (list_bare is)
  item_bare _ = refl

  pub list_bare : (is : ItemViews) → clipped_list bare is ≡ items_without_bodies is
  list_bare no_items = refl
  list_bare (item_and i is) = ap (λ j. item_and j (clipped_list bare is)) (item_bare i) ∙ ap (item_and (item_without_bodies i)) (list_bare is)

pub wanted_from : (w : Wanted) (is : List ItemView) → clipped_list w (items_from is) ≡ items_from (map (clipped_item w) is)
wanted_from w [] = refl
wanted_from w (i ∷ is) = ap (item_and (clipped_item w i)) (wanted_from w is)

-- what is an item of an extern block is one with what is wanted of it too
pub extern_clipped : (w : Wanted) (i : ItemView) → as_extern (clipped_item w i) ≡ option_map (clipped_item w) (as_extern i)
extern_clipped w (plain_item plain_kind.Fn n) = refl
extern_clipped w _ = refl
