use Rattle.std.proofs.Common.{◌≡◌, ◌≢◌, ℕ, suc, ◌+◌, ◌-◌, List, Option, Some, None, arith, refl, sym, ◌∙◌}
use Rattle.std.proofs.lemmas.Bool.{ne_eqb}
use Rattle.def_map.specs.Crates.{parent_of}
use Rattle.def_map.specs.Tables as spec
use Rattle.def_map.proofs.visibility.child_toward.Goals as goal

one_up : (parents : List (Option ℕ)) (n k m at p : ℕ) → n ≡ suc k → p ≢ m → parent_of parents at ≡ Some p → spec.child_toward parents m n at ≡ spec.child_toward parents m k p
one_up parents n k m at p e d f = rw (e, f, ne_eqb p m d) refl

no_parent : (parents : List (Option ℕ)) (n k m at : ℕ) → n ≡ suc k → parent_of parents at ≡ None → spec.child_toward parents m n at ≡ None
no_parent parents n k m at e f = rw (e, f) refl

pub loop-preserved : goal.loop-preserved
loop-preserved c =
    let up : parent_of c.args.parents.now c.loop.child ≡ Some c.in_ok-parent.parent = sym c.parent_of.ensures ∙ c.in_ok-parent.was in
    sym (one_up c.args.parents.now (c.args.at - c.loop.counter) (c.args.at - (c.loop.counter + 1)) c.args.m c.loop.child c.in_ok-parent.parent (omega arith) c.if-parent-m.false up) ∙ c.loop.invariant

pub returns-in_err-parent : goal.returns-in_err-parent
returns-in_err-parent c =
    let top : parent_of c.args.parents.now c.loop.child ≡ None = sym c.parent_of.ensures ∙ c.in_err-parent.was in
    c.from_residual.ensures ∙ sym (no_parent c.args.parents.now (c.args.at - c.loop.counter) (c.args.at - (c.loop.counter + 1)) c.args.m c.loop.child (omega arith) top) ∙ c.loop.invariant
