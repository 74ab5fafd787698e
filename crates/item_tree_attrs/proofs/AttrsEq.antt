-- `==` decides whether two values have collected the same.
use Rattle.std.proofs.{Common.None, Common.Some, Common.ap, lemmas.Bool.Decides.Decides-and, lemmas.Bool.Decides.Decides-like}
use Rattle.std.specs.Cmp.Lexicographic.{pointwise_decides}
use Rattle.hir_input.specs.Equality.{DecidesEq, DecidesEqOf}
use Rattle.hir_input.proofs.{AttrEq.attr_decides, CfgEq.cfg_decides}
use Rattle.item_tree_attrs.specs.{declared.collect.AttrsOrCfg.TheVariants.Enabled, declared.collect.AttrsOrCfg.TheVariants.CfgDisabled, Collected.collection_of}
use Rattle.item_tree_attrs.specs.contracts.collect.AttrsOrCfgPartialEq.TheImpl as attrs
use Rattle.item_tree_attrs.specs.contracts.collect.AttrsOwnedPartialEq.TheImpl as lists

pub lists_decide : DecidesEq lists.ghosts.eq
lists_decide = pointwise_decides attr_decides

pub attrs_decide : DecidesEqOf collection_of attrs.ghosts.eq
attrs_decide (Enabled xs) (Enabled ys) = Decides-like _ (λ e i. record { attrs = e i; false_cfg = None }) (ap (λ c. c.attrs)) (lists_decide xs ys)
attrs_decide (CfgDisabled a) (CfgDisabled b) =
    Decides-like _
    (λ e i. record { attrs = e.1 i; false_cfg = Some (e.0 i) })
    (λ e. let cfg = ap (λ c. c.false_cfg) e in (cc, ap (λ c. c.attrs) e))
    (Decides-and _ _ (cfg_decides a.value.0 b.value.0) (lists_decide a.value.1 b.value.1))
attrs_decide _ _ = (λ h. cc, λ e. let cfg = ap (λ c. c.false_cfg) e in cc)
