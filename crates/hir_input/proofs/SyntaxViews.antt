-- What a node is seen as.
use Rattle.std.proofs.Common.{◌≡◌, Bool, ℕ, List, Option, Some, None, option_map, map, Vec, String, Global, rules}
use Rattle.hir_input.specs.declared.ast.Module as ast_module
use Rattle.hir_input.specs.declared.ast.Visibility.{Visibility}
use Rattle.hir_input.specs.declared.ast.Item as Item
use Rattle.hir_input.specs.declared.ast.Item.{Item, the_lemmas}
use Rattle.hir_input.specs.declared.ast.Item.TheViews.{roll-Module}
use Rattle.hir_input.specs.declared.ast.Item.TheFolds.{fold_out-Module}
use Rattle.hir_input.proofs.Common.{Meta}
use Rattle.hir_input.specs.Syntax.{module_from, named_from, item_view, module_view}

-- a module that is made
pub item_view-made_module : (hash number : ℕ) (attrs : Vec Meta Global) (name : Option (List ℕ)) (visibility : Option Visibility) (semicolon : Bool) (items : Option (Vec Item Global)) (body : String Global)
    → item_view (Item.Module (roll-Module (record { hash = hash; number = number; attrs = attrs; name = name; visibility = visibility; semicolon = semicolon; items = items; body = body })))
    ≡ module_from (named_from hash number attrs.items name visibility body) semicolon (option_map (λ v. map item_view v.items) items)
item_view-made_module hash number attrs name visibility semicolon None body = search (rules, the_lemmas)
item_view-made_module hash number attrs name visibility semicolon (Some v) body = search (rules, the_lemmas)

-- an item that is made
pub ruleset item_views = (the_lemmas, item_view-made_module)

-- a module by its own fields
pub module_view-fields : (m : ast_module.Module)
    → module_view m
    ≡ module_from (named_from m.hash m.number m.attrs.items m.name m.visibility m.body) m.semicolon (option_map (λ v. map item_view v.items) m.items)
module_view-fields m = search (rules, the_lemmas)
