use Rattle.std.proofs.Common.{arith, ◌≡◌, rules, IfOk, false, subst, sym}
use Rattle.item_tree.proofs.Common.{block_view, crate_view, common_steps}
use Rattle.item_tree.proofs.ConstructorVisibility.{ctors_are_seen}
use Rattle.item_tree.proofs.BodyTexts.{kept_without_bodies}
use Rattle.item_tree.proofs.lower.lower_block.Goals as goal

pub returns-clause-bodies : goal.returns-clause-bodies
returns-clause-bodies c =
    subst (λ u. IfOk c.lower_body.result (λ tree. tree ≡ u)) (sym (kept_without_bodies false (crate_view c.args.krate.now) c.args.skipped.now (block_view c.args.block.now))) (search rules)

pub returns-clause-kept : goal.returns-clause-kept
returns-clause-kept c = grind (arith, common_steps)

pub returns-clause-constructors : goal.returns-clause-constructors
returns-clause-constructors c = grind (arith, ctors_are_seen)

pub returns-clause-fits : goal.returns-clause-fits
returns-clause-fits c = grind (arith, common_steps)

pub returns-clause-too_large : goal.returns-clause-too_large
returns-clause-too_large c = grind (arith, common_steps)

pub returns-in_err-top_attrs-clause-kept : goal.returns-in_err-top_attrs-clause-kept
returns-in_err-top_attrs-clause-kept c = grind (arith, common_steps)

pub returns-in_err-top_attrs-clause-constructors : goal.returns-in_err-top_attrs-clause-constructors
returns-in_err-top_attrs-clause-constructors c = grind (arith, ctors_are_seen)

pub returns-in_err-top_attrs-clause-fits : goal.returns-in_err-top_attrs-clause-fits
returns-in_err-top_attrs-clause-fits c = grind (arith, common_steps)

pub returns-in_err-top_attrs-clause-too_large : goal.returns-in_err-top_attrs-clause-too_large
returns-in_err-top_attrs-clause-too_large c = grind (arith, common_steps)

pub returns-in_err-top_attrs-clause-bodies : goal.returns-in_err-top_attrs-clause-bodies
returns-in_err-top_attrs-clause-bodies c = grind (arith, common_steps)
