-- `==` at kinds and at paths decides whether they are one.
use Rattle.std.proofs.Common.{◌≡◌, ◌↔◌, IsTrue, Bool, true, ◌&&◌, nat_eq, sym, ap, ◌∙◌, rules}
use Rattle.hir_input.proofs.Common.{pointwise, pointwise_decides, Decides-at, Decides-and, Decides-like, DecidesEq, Path}
use lib.Pointwise.{bytes_decides}
use Rattle.hir_input.specs.contracts.mod_path.PathKindPartialEq.TheImpl as kinds
use Rattle.hir_input.specs.contracts.mod_path.ModPathPartialEq.TheImpl as paths

kind_decides : DecidesEq kinds.ghosts.eq
kind_decides a b = search rules

-- `==` at paths decides whether they are one
pub path_decides : DecidesEq paths.ghosts.eq
path_decides p q =
    Decides-like _
    (λ e i. record { kind = e.0 i; names = e.1 i })
    (λ e. (ap (λ x. x.kind) e, ap (λ x. x.names) e))
    (Decides-and _ _ (kind_decides p.kind q.kind) (pointwise_decides bytes_decides p.names q.names))

-- where the kinds compare equal, comparing the names decides whether the paths are one
pub names_decide : (p q : Path) (r : Bool) → kinds.ghosts.eq p.kind q.kind ≡ true → r ≡ pointwise (pointwise nat_eq) p.names q.names → IsTrue r ↔ (p ≡ q)
names_decide p q r kind is =
    Decides-at r (paths.ghosts.eq p q) (is ∙ sym (ap (λ b. b && pointwise (pointwise nat_eq) p.names q.names) kind)) (path_decides p q)
