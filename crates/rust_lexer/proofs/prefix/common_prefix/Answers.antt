use Rattle.std.proofs.Common.{◌∙◌, arith, refl, subst, sym}
use Rattle.rust_lexer.proofs.Begins.{IsFound, begins_next, found_here}
use Rattle.rust_lexer.proofs.prefix.common_prefix.Goals as goal
use Rattle.rust_lexer.proofs.prefix.common_prefix.Goals.{then-is_brace+else-not-is_same_between, else-is_brace}

pub tokens-preserved : goal.tokens-preserved
tokens-preserved c =
    let ours = c.args.ours.now in
    let theirs = c.args.theirs.now in
    let before = c.tokens.invariant.found in
    let found : IsFound ours theirs c.args.most c.tokens.count c.if-is_brace.found =
    elim c.if-is_brace.branch [
      | then-is_brace+else-not-is_same_between w ↦
          subst (IsFound ours theirs c.args.most c.tokens.count) (sym w.found-is)
          (found_here ours theirs c.args.most c.tokens.count c.tokens-test.true c.if-count-most.true c.tokens.invariant.begins
          (sym c.is_brace.ensures ∙ w.if-is_brace.true) (w.is_same_between.ensures w.if-not-is_same_between.false before.same))
      | else-is_brace w ↦ subst (IsFound ours theirs c.args.most c.tokens.count) (sym w.found-is) before
    ] in
    record {
      begins = c.past_gap-count.ensures.begins (begins_next ours _ c.tokens.count c.token_len.result c.tokens-test.true refl c.token_len.ensures.value c.token_len.ensures.within c.tokens.invariant.begins);
      within = c.past_gap-count.ensures.within;
      block = c.past_gap-count.ensures.block;
      found = record { common = found.common; same = found.same; order = omega (arith, found.order, c.past_gap-count.ensures.onwards); within = found.within };
    }
