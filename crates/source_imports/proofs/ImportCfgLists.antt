-- The uses of a module that stand under cfgs.
use Rattle.std.proofs.Common.{◌≡◌, ◌<◌, ◌+◌, ℕ, List, [], ◌∷◌, ◌++◌, length, map, take, slice_index_or, append_assoc, append-nil, Some, None, Vec, Global, refl, ap, sym, ◌∙◌}
use Rattle.std.proofs.lemmas.List.{map-append, take_more}
use Rattle.hir_input.proofs.SyntaxViews.{module_view-fields}
use Rattle.hir_input.specs.declared.ast.Item.{Item}
use Rattle.hir_input.specs.declared.ast.Module as ast_module
use Rattle.hir_input.specs.Cfg.{CfgView}
use Rattle.hir_input.specs.Syntax.{bare_module, listed_module, item_view, items_view, module_view, named_from, ItemView, items_from}
use Rattle.source_imports.specs.ImportCfgs.{UseCfgs, item_cfgs, items_cfgs}

pub module_bare : (m : ast_module.Module) → m.items ≡ None → module_view m ≡ bare_module (named_from m.hash m.number m.attrs.items m.name m.visibility m.body) m.semicolon
module_bare m e = module_view-fields m ∙ rw e refl

pub module_listed : (m : ast_module.Module) (list : Vec Item Global) → m.items ≡ Some list
    → module_view m ≡ listed_module (named_from m.hash m.number m.attrs.items m.name m.visibility m.body) m.semicolon (items_view list.items)
module_listed m list e = module_view-fields m ∙ rw e refl

pub ruleset modules = (module_bare, module_listed)

-- those of one more item
pub items_more : (around : List CfgView) (is js : List ItemView) → items_cfgs around (items_from (is ++ js)) ≡ items_cfgs around (items_from is) ++ items_cfgs around (items_from js)
items_more around [] js = refl
items_more around (i ∷ is) js = ap (λ us. item_cfgs around i ++ us) (items_more around is js) ∙ sym (append_assoc (item_cfgs around i) (items_cfgs around (items_from is)) (items_cfgs around (items_from js)))

pub one_more : (around : List CfgView) (items : List Item) (i : ℕ) (item : Item) (before mid after : List UseCfgs) → i < length items → slice_index_or items i item ≡ item
    → mid ≡ before ++ items_cfgs around (items_view (take i items)) → after ≡ mid ++ item_cfgs around (item_view item) → after ≡ before ++ items_cfgs around (items_view (take (i + 1) items))
one_more around items i item before mid after l g e n =
    let more : take (i + 1) items ≡ take i items ++ item ∷ [] = take_more items i item l ∙ ap (λ y. take i items ++ y ∷ []) g in
    let own = item_cfgs around (item_view item) in
    let step : items_cfgs around (items_view (take (i + 1) items)) ≡ items_cfgs around (items_view (take i items)) ++ own =
    ap (λ ys. items_cfgs around (items_view ys)) more ∙ ap (λ ys. items_cfgs around (items_from ys)) (map-append item_view (take i items) (item ∷ []))
    ∙ items_more around (map item_view (take i items)) (item_view item ∷ []) ∙ ap (λ us. items_cfgs around (items_view (take i items)) ++ us) (append-nil own) in
    n ∙ ap (λ us. us ++ own) e ∙ append_assoc before (items_cfgs around (items_view (take i items))) own ∙ ap (λ us. before ++ us) (sym step)
