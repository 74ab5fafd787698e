use Rattle.std.proofs.Common.{◌≡◌, get_or, ap, ◌∙◌, arith}
use Rattle.std.proofs.lemmas.List.{get_or_read}
use Rattle.globs.specs.Globs.{is_one}
use Rattle.globs.proofs.Parts.{one_start, one_next, one_end}
use Rattle.globs.proofs.pass_one.Goals as goal

pub loop-at-init : goal.loop-at-init
loop-at-init c = one_start c.args.p c.args.path.now c.args.row.now c.requires

pub loop-at-preserved : goal.loop-at-preserved
loop-at-preserved c =
    let read : c.index-path-at.result ≡ get_or c.args.path.now c.loop-at.at 0 = get_or_read c.args.path.now c.loop-at.at c.index-path-at.result c.loop-at-test.true c.index-path-at.is 0 in
    let fit : c.fits.result ≡ is_one c.args.p (get_or c.args.path.now c.loop-at.at 0) = c.fits.ensures ∙ ap (is_one c.args.p) read in
    one_next c.args.p c.args.path.now c.args.row.now c.loop-at.row c.loop-at.at c.both.result c.loop-at-test.true (cc) c.loop-at.invariant

pub returns : goal.returns
returns c = one_end c.args.p c.args.path.now c.args.row.now c.loop-at.row _ c.loop-at.at (omega arith) (omega arith) c.loop-at.invariant
