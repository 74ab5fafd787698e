-- The data of an extern block and of a module by their parts.
use Rattle.std.proofs.Common.{◌≡◌, Bool, List, Option, Some, None, option_map, option_and_then, Vec, Global, refl, ◌∙◌}
use Rattle.serde_json.specs.Data.{Items, array}
use Rattle.hir_input_json.proofs.Writing.Common.{Item, NodeView, ItemView, bare_module, listed_module, extern_block_from, items_from, items_view, module_view, named_from, extern_block_data, extern_items_data, item_data, listed_data}
use Rattle.hir_input.specs.declared.ast.Module as ast_module
use Rattle.hir_input.proofs.SyntaxViews.{module_view-fields}
use Rattle.hir_input_json.proofs.Writing.Nulls.{view-Null}

block_by : (bodies : Bool) (n : NodeView) (ds : Option Items) → option_and_then (λ es. extern_block_data bodies n (array es)) ds ≡ option_and_then (extern_block_data bodies n) (option_map array ds)
block_by bodies n None = refl
block_by bodies n (Some ds) = refl

-- with or without a list
pub extern_block_listed : (bodies : Bool) (n : NodeView) (list : Option (List ItemView))
    → item_data bodies (extern_block_from n list) ≡ option_and_then (extern_block_data bodies n) (listed_data (extern_items_data bodies) list)
extern_block_listed bodies n None = refl
extern_block_listed bodies n (Some is) = block_by bodies n (extern_items_data bodies (items_from is))

pub module_view-bare : (m : ast_module.Module) → m.items ≡ None → module_view m ≡ bare_module (named_from m.hash m.number m.attrs.items m.name m.visibility m.body) m.semicolon
module_view-bare m e = module_view-fields m ∙ rw e refl

pub module_view-listed : (m : ast_module.Module) (list : Vec Item Global) → m.items ≡ Some list
    → module_view m ≡ listed_module (named_from m.hash m.number m.attrs.items m.name m.visibility m.body) m.semicolon (items_view list.items)
module_view-listed m list e = module_view-fields m ∙ rw e refl

pub ruleset modules = (module_view-bare, module_view-listed, view-Null)
