use Rattle.std.proofs.Common.{◌≡◌, ◌≢◌, ℕ, suc, ◌+◌, ◌-◌, List, Option, Some, arith, refl, sym, ◌∙◌}
use Rattle.std.proofs.lemmas.Bool.{ne_eqb}
use Rattle.def_map.specs.Crates as spec
use Rattle.def_map.proofs.sight.is_within.Goals as goal

one_up : (parents : List (Option ℕ)) (n k m other p : ℕ) → n ≡ suc k → m ≢ other → spec.parent_of parents m ≡ Some p → spec.is_within_by parents n m other ≡ spec.is_within_by parents k p other
one_up parents n k m other p e d f = rw (e, ne_eqb m other d, f) refl

pub loop-preserved : goal.loop-preserved
loop-preserved c =
    let up : spec.parent_of c.args.parents.now c.loop.at ≡ Some c.in-Some.parent = cc in
    sym (one_up c.args.parents.now (c.args.m - c.loop.counter) (c.args.m - (c.loop.counter + 1)) c.loop.at c.args.other c.in-Some.parent (omega arith) c.if-at-other.false up) ∙ c.loop.invariant
