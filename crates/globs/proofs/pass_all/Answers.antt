use Rattle.std.proofs.Common.{◌≡◌, ◌+◌, ◌-◌, ◌<◌, ◌∷◌, List, ℕ, length, drop, get_or, subst, sym, arith}
use Rattle.std.proofs.lemmas.List.{take_rest, get_or_read}
use Rattle.globs.specs.Globs.{matches}
use Rattle.globs.specs.Inner.{IsRow}
use Rattle.globs.proofs.Rows.{from_before, from_place, from_end}
use Rattle.globs.proofs.pass_all.Goals as goal

pub loop-at-init : goal.loop-at-init
loop-at-init c = (omega arith, from_end c.args.glob.now c.args.path.now c.args.row.now c.requires)

pub pass-requires : goal.pass-requires
pass-requires c =
    let here = from_place c.args.glob.now c.args.path.now c.loop-at.row c.loop-at.at ((c.loop-at.at - 1) + 1) (omega arith) c.loop-at.invariant.1 in
    subst (λ (g : List ℕ). IsRow (matches g) c.args.path.now c.loop-at.row) (sym (take_rest c.args.glob.now ((c.loop-at.at - 1) + 1))) here

pub loop-at-preserved : goal.loop-at-preserved
loop-at-preserved c =
    let within : (c.loop-at.at - 1) < length c.args.glob.now = omega arith in
    let first : c.index-glob-at.result ≡ get_or c.args.glob.now (c.loop-at.at - 1) 0 = get_or_read c.args.glob.now (c.loop-at.at - 1) c.index-glob-at.result within c.index-glob-at.is 0 in
    let rest = take_rest c.args.glob.now ((c.loop-at.at - 1) + 1) in (
      omega arith,
      from_before c.args.glob.now c.args.path.now c.pass.new.row (c.loop-at.at - 1) within
          (subst (λ (n : ℕ). IsRow (matches (n ∷ drop ((c.loop-at.at - 1) + 1) c.args.glob.now)) c.args.path.now c.pass.new.row) first
          (subst (λ (g : List ℕ). IsRow (matches (c.index-glob-at.result ∷ g)) c.args.path.now c.pass.new.row) rest c.pass.ensures)),
    )

pub returns : goal.returns
returns c = from_place c.args.glob.now c.args.path.now c.loop-at.row c.loop-at.at 0 (omega arith) c.loop-at.invariant.1
