-- `==` at listed imports decides whether they are one.
use Rattle.std.proofs.{Common.rules, Common.refl, Common.ap, lemmas.Bool.Decides.Decides-and, lemmas.Bool.Decides.Decides-eqb, lemmas.Bool.Decides.Decides-like}
use Rattle.hir_input.specs.Equality.{DecidesEq}
use Rattle.hir_input.proofs.PathEq.{path_decides}
use Rattle.item_tree.specs.contracts.use_tree.ImportKindPartialEq.TheImpl as kinds
use Rattle.item_tree.proofs.UseEq.{aliases_decide}
use Rattle.tree_walk.specs.contracts.imports.ListedPartialEq.TheImpl as listed

kind_decides : DecidesEq kinds.ghosts.eq
kind_decides a b = search rules

pub listed_decides : DecidesEq listed.ghosts.eq
listed_decides a b =
    Decides-like _
    (λ e i. record { index = record { 0 = e.0 i }; path = e.1.0 i; kind = e.1.1.0 i; alias = e.1.1.1 i })
    (λ e. (ap (λ x. x.index.0) e, (ap (λ x. x.path) e, (ap (λ x. x.kind) e, ap (λ x. x.alias) e))))
    (Decides-and _ _ (Decides-eqb a.index.0 b.index.0) (Decides-and _ _ (path_decides a.path b.path) (Decides-and _ _ (kind_decides a.kind b.kind) (aliases_decide a.alias b.alias _ refl))))
