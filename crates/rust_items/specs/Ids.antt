-- Items with their ids, which are given in preorder.
use Rattle.std.specs.Prelude.{List, [], ◌∷◌}
use Rattle.hir_input.specs.declared.ids.FileAstId.{FileAstId}
use Rattle.hir_input.specs.Syntax.{NodeView, NamedView, UseView, CallView, ItemView, ItemViews, plain_item, const_item, struct_item, bare_module, listed_module, use_item, extern_crate, bare_extern_block, listed_extern_block, impl_item, macro_call, macro_rules, asm_item, no_items, item_and}
use Rattle.rust_items.specs.declared.ids.Numbers.{Numbers}

-- the numbers of the next id, and the ids that are left
abbrev pub first_numbers : List FileAstId → Numbers × List FileAstId
first_numbers [] = (record { hash = 0; number = 0 }, [])
first_numbers (id ∷ ids) = (record { hash = id.hash; number = id.number }, ids)

-- ---- one item

abbrev pub numbered_node : Numbers → NodeView → NodeView
numbered_node id n = record { hash = id.hash; number = id.number; attrs = n.attrs; body = n.body }

abbrev pub numbered_named : Numbers → NamedView → NamedView
numbered_named id n = record { node = numbered_node id n.node; name = n.name; visibility = n.visibility }

abbrev pub numbered_use : Numbers → UseView → UseView
numbered_use id n = record { node = numbered_node id n.node; visibility = n.visibility; use_tree = n.use_tree }

abbrev pub numbered_call : Numbers → CallView → CallView
numbered_call id n = record { node = numbered_node id n.node; path = n.path; expand_to = n.expand_to; ctxt = n.ctxt }

-- an item with the hash and the number of its id; what it holds is as before
abbrev pub numbered_item : Numbers → ItemView → ItemView
numbered_item id (plain_item k n) = plain_item k (numbered_named id n)
numbered_item id (const_item n) = const_item (numbered_named id n)
numbered_item id (struct_item n fields) = struct_item (numbered_named id n) fields
numbered_item id (bare_module n semicolon) = bare_module (numbered_named id n) semicolon
numbered_item id (listed_module n semicolon is) = listed_module (numbered_named id n) semicolon is
numbered_item id (use_item u) = use_item (numbered_use id u)
numbered_item id (extern_crate n rename) = extern_crate (numbered_named id n) rename
numbered_item id (bare_extern_block n) = bare_extern_block (numbered_node id n)
numbered_item id (listed_extern_block n is) = listed_extern_block (numbered_node id n) is
numbered_item id (impl_item n is_trait) = impl_item (numbered_node id n) is_trait
numbered_item id (macro_call c) = macro_call (numbered_call id c)
numbered_item id (macro_rules n name) = macro_rules (numbered_node id n) name
numbered_item id (asm_item n) = asm_item n

-- ---- all items

abbrev pub listed_by : (ItemViews → ItemView) → ItemViews × List FileAstId → ItemView × List FileAstId
listed_by make r = (make r.0, r.1)

abbrev mutual
  -- an item with the numbers of its id, and those that it holds with the ids that come next
  pub held_with_ids : Numbers → ItemView → List FileAstId → ItemView × List FileAstId
  held_with_ids id (listed_module n semicolon is) ids = listed_by (listed_module (numbered_named id n) semicolon) (with_ids is ids)
  held_with_ids id (listed_extern_block n is) ids = listed_by (listed_extern_block (numbered_node id n)) (with_ids is ids)
  held_with_ids id i ids = (numbered_item id i, ids)

  -- each item takes an id, and then those that it holds take theirs
  pub with_ids : ItemViews → List FileAstId → ItemViews × List FileAstId
  with_ids no_items ids = (no_items, ids)
  with_ids (item_and i is) ids =
      let head = held_with_ids (first_numbers ids).0 i (first_numbers ids).1 in
      let rest = with_ids is head.1 in
      (item_and head.0 rest.0, rest.1)

abbrev pub item_with_ids : ItemView → List FileAstId → ItemView × List FileAstId
item_with_ids i ids = held_with_ids (first_numbers ids).0 i (first_numbers ids).1

-- ---- lists

-- each of a list with what it takes of the ids, one after another, and the ids that are left
abbrev pub each_with_ids : {A : Type 0} → (A → List FileAstId → A × List FileAstId) → List A → List FileAstId → List A × List FileAstId
each_with_ids with_own [] ids = ([], ids)
each_with_ids with_own (x ∷ xs) ids =
    let head = with_own x ids in
    let rest = each_with_ids with_own xs head.1 in
    (head.0 ∷ rest.0, rest.1)

-- the same of a list
abbrev pub list_with_ids : List ItemView → List FileAstId → List ItemView × List FileAstId
list_with_ids = each_with_ids item_with_ids
