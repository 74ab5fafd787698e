use Rattle.std.proofs.Common.{◌≡◌, ℕ, suc, ◌+◌, ◌-◌, List, Option, Some, arith, refl, sym, ◌∙◌}
use Rattle.def_map.specs.Crates as spec
use Rattle.def_map.proofs.sight.module_above.Goals as goal

one_up : (parents : List (Option ℕ)) (n k m p : ℕ) → n ≡ suc k → spec.parent_of parents m ≡ Some p → spec.module_above parents n m ≡ spec.module_above parents k p
one_up parents n k m p e f = rw (e, f) refl

pub loop-preserved : goal.loop-preserved
loop-preserved c =
    let up : spec.parent_of c.args.parents.now c.loop.above ≡ Some c.in_ok-above.above = sym c.parent_of.ensures ∙ c.in_ok-above.was in
    sym (one_up c.args.parents.now (c.args.count - c.loop.counter) (c.args.count - (c.loop.counter + 1)) c.loop.above c.in_ok-above.above (omega arith) up) ∙ c.loop.invariant
