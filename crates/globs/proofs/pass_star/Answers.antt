use Rattle.std.proofs.Common.{◌≡◌, ◌-◌, ◌<◌, length, get_or, ap, ◌∙◌, arith}
use Rattle.std.proofs.lemmas.List.{get_or_read}
use Rattle.globs.specs.Globs.{passes}
use Rattle.globs.proofs.Parts.{some_start, some_next, some_end}
use Rattle.globs.proofs.pass_star.Goals as goal

pub loop-at-init : goal.loop-at-init
loop-at-init c = some_start c.args.is_double c.args.path.now c.args.row.now c.requires

pub loop-at-preserved : goal.loop-at-preserved
loop-at-preserved c =
    let within : (c.loop-at.at - 1) < length c.args.path.now = omega (arith, c.loop-at.invariant.within) in
    let read : c.index-path-at.result ≡ get_or c.args.path.now (c.loop-at.at - 1) 0 = get_or_read c.args.path.now (c.loop-at.at - 1) c.index-path-at.result within c.index-path-at.is 0 in
    let pass : c.passes.result ≡ passes c.args.is_double (get_or c.args.path.now (c.loop-at.at - 1) 0) = c.passes.ensures ∙ ap (passes c.args.is_double) read in
    some_next c.args.is_double c.args.path.now c.args.row.now c.loop-at.row c.loop-at.at (c.loop-at.at - 1) c.either.result (omega arith) (cc) c.loop-at.invariant

pub returns : goal.returns
returns c = some_end c.args.is_double c.args.path.now c.args.row.now c.loop-at.row c.loop-at.at (omega arith) c.loop-at.invariant
