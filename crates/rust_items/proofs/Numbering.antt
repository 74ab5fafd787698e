-- Steps of what gives items their ids.
use Rattle.std.proofs.Common.{◌≡◌, List, [], ◌∷◌, ◌++◌, Some, refl, ap, ◌∙◌, Bool, map, option_map}
use Rattle.rust_items.proofs.Common.{FileAstId, ItemView, items_from, item_and, NamedView, NodeView, module_from, extern_block_from, listed_module, listed_extern_block, named_from, item_view, module_view, module_view-fields, Numbers, held_with_ids, item_with_ids, with_ids, list_with_ids, listed_by, numbered_named, numbered_node}
use Rattle.hir_input.specs.declared.ast.Module as ast_module

-- what is done, and then this
abbrev pub behind : {A : Type 0} → List A → List A × List FileAstId → List A × List FileAstId
behind done r = (done ++ r.0, r.1)

-- a list of items, one way and the other
pub with_ids_list : (is : List ItemView) (ids : List FileAstId) → with_ids (items_from is) ids ≡ (items_from (list_with_ids is ids).0, (list_with_ids is ids).1)
with_ids_list [] ids = refl
with_ids_list (i ∷ is) ids = ap (λ r. (item_and (item_with_ids i ids).0 r.0, r.1)) (with_ids_list is (item_with_ids i ids).1)

-- an extern block with items
pub extern_listed : (id : Numbers) (n : NodeView) (is made : List ItemView) (ids rest : List FileAstId) → list_with_ids is ids ≡ (made, rest)
    → held_with_ids id (extern_block_from n (Some is)) ids ≡ (extern_block_from (numbered_node id n) (Some made), rest)
extern_listed id n is made ids rest e =
    ap (listed_by (listed_extern_block (numbered_node id n))) (with_ids_list is ids)
    ∙ ap (λ r. (extern_block_from (numbered_node id n) (Some r.0), r.1)) e

-- a module with items
pub module_listed : (id : Numbers) (n : NamedView) (semicolon : Bool) (is made : List ItemView) (ids rest : List FileAstId) → list_with_ids is ids ≡ (made, rest)
    → held_with_ids id (module_from n semicolon (Some is)) ids ≡ (module_from (numbered_named id n) semicolon (Some made), rest)
module_listed id n semicolon is made ids rest e =
    ap (listed_by (listed_module (numbered_named id n) semicolon)) (with_ids_list is ids)
    ∙ ap (λ r. (module_from (numbered_named id n) semicolon (Some r.0), r.1)) e

-- a module by its own fields
pub module_fields : (m : ast_module.Module)
    → module_view m ≡ module_from (named_from m.hash m.number m.attrs.items m.name m.visibility m.body) m.semicolon (option_map (λ v. map item_view v.items) m.items)
module_fields m = module_view-fields m
