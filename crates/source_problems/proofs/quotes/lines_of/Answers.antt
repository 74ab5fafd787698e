use Rattle.source_problems.proofs.Turns.{few_turn, matched_turn, problems_turn, torn_turn}
use Rattle.source_problems.proofs.quotes.lines_of.Goals as goal

pub tokens-preserved-in_ok-is_matched : goal.tokens-preserved-in_ok-is_matched
tokens-preserved-in_ok-is_matched c =
    let steps = c.in-Some.ensures.steps in record {
      problems = problems_turn _ _ _ _ _ _ _ _ _ _ steps c.behind-around.ensures.value c.in_ok-push_unended.ensures c.in_ok-push_marker_outside.ensures c.tokens.invariant.problems;
      matched = matched_turn _ _ _ _ _ _ _ _ _ steps c.if-is_matched.true c.symbol.ensures c.in_ok-is_matched.ensures c.tokens.invariant.matched;
      few = few_turn _ _ _ _ _ _ steps c.behind-around.ensures.deeper c.tokens.invariant.few;
    }

pub tokens-preserved : goal.tokens-preserved
tokens-preserved c =
    let steps = c.in-Some.ensures.steps in record {
      problems = problems_turn _ _ _ _ _ _ _ _ _ _ steps c.behind-around.ensures.value c.in_ok-push_unended.ensures c.in_ok-push_marker_outside.ensures c.tokens.invariant.problems;
      matched = torn_turn _ _ _ _ c.if-is_matched.false c.tokens.invariant.matched;
      few = few_turn _ _ _ _ _ _ steps c.behind-around.ensures.deeper c.tokens.invariant.few;
    }
