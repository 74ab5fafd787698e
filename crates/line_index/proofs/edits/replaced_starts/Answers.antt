use Rattle.std.proofs.Common.{◌∙◌, ◌++◌, List, ℕ, ap, arith, subst, sym, take}
use Rattle.std.proofs.lemmas.List.{take_rest}
use Rattle.std.specs.List.Sorted.{IsNonDecreasing}
use Rattle.line_index.proofs.Begins.{starts_rise}
use Rattle.line_index.proofs.ReplacedLines.{moved_fit, replaced_by}
use Rattle.line_index.proofs.edits.replaced_starts.Goals as goal

pub count_up_to-kept-requires : goal.count_up_to-kept-requires
count_up_to-kept-requires c = subst (λ (l : List ℕ). IsNonDecreasing l) (sym c.requires.starts) (starts_rise c.args.line_ends 0 c.args.text.now)

pub count_up_to-passed-requires : goal.count_up_to-passed-requires
count_up_to-passed-requires c = subst (λ (l : List ℕ). IsNonDecreasing l) (sym c.requires.starts) (starts_rise c.args.line_ends 0 c.args.text.now)

pub push_moved-requires-clause-fits : goal.push_moved-requires-clause-fits
push_moved-requires-clause-fits c = λ k d l.
    let most = moved_fit c.args.line_ends c.args.text.now c.args.starts.now c.count_up_to-passed.result k d c.requires.starts l in
    omega (arith, most, c.requires.range, c.requires.within)

pub returns : goal.returns
returns c =
    replaced_by c.args.line_ends c.args.text.now c.args.starts.now c.args.with.now c.next_to.result.now c.bytes_behind-behind.result.now _ _ _ _ c.push_moved.new.starts.items
    c.args.from c.args.to c.saturating_sub-before.result c.count_up_to-kept.result c.count_up_to-passed.result c.requires.starts c.requires.range c.requires.within (omega (arith, c.saturating_sub-before.ensures))
    c.count_up_to-kept.ensures.bound c.count_up_to-kept.ensures.before c.count_up_to-kept.ensures.behind
    c.count_up_to-passed.ensures.bound c.count_up_to-passed.ensures.before c.count_up_to-passed.ensures.behind c.next_to.ensures c.bytes_behind-behind.ensures
    (take_rest c.args.starts.now c.count_up_to-passed.result) (c.in_ok-extend_from_slice.ensures.items ∙ ap (λ l. l ++ take c.count_up_to-kept.result c.args.starts.now) c.in_ok-new.ensures.items)
    c.in_ok-push_starts.ensures c.in_ok-push_starts-2.ensures c.in_ok-push_moved.ensures
