use Rattle.std.proofs.Common.{◌+◌, ◌∙◌, ap, drop, sym, refl, subst, arith}
use Rattle.rust_lexer.proofs.Common.{IsBlock, to_outer, tokens_from}
use Rattle.rust_lexer.proofs.Depths.{outer_here, outer_turn, outer_whole}
use Rattle.rust_lexer.proofs.depth.to_outer.Goals as goal

pub split_at-requires : goal.split_at-requires
split_at-requires c =
    (omega arith, λ below. outer_whole c.tokens.depth c.args.at c.tokens.count c.args.text.now c.as_bytes-bytes.result.now c.as_bytes-bytes.ensures.value c.tokens-test.true _ (sym c.is_last.ensures ∙ c.if-is_last.true))

pub returns-then-is_last-clause-value : goal.returns-then-is_last-clause-value
returns-then-is_last-clause-value c =
    sym c.tokens.invariant.same
    ∙ outer_here c.tokens.depth c.args.at c.tokens.count c.args.text.now c.as_bytes-bytes.result.now c.as_bytes-bytes.ensures.value c.tokens-test.true c.split_at.result.1.now
    (sym c.is_last.ensures ∙ c.if-is_last.true) c.split_at.ensures.back

pub tokens-preserved : goal.tokens-preserved
tokens-preserved c = record {
  same = ap (λ l. to_outer c.count_bracket.new.depth (tokens_from 0 (c.args.at + c.past_gap-count.result) (drop c.past_gap-count.result l))) (sym c.as_bytes-bytes.ensures.value)
      ∙ c.past_gap-count.ensures.same c.count_bracket.new.depth c.args.at
      ∙ ap (λ l. to_outer c.count_bracket.new.depth (tokens_from 0 (c.args.at + (c.tokens.count + (1 + c.token_len.result))) (drop (c.tokens.count + (1 + c.token_len.result)) l))) c.as_bytes-bytes.ensures.value
      ∙ outer_turn c.tokens.depth c.args.at c.tokens.count c.args.text.now c.as_bytes-bytes.result.now c.as_bytes-bytes.ensures.value c.tokens-test.true c.count_bracket.new.depth _ c.token_len.result
      (sym c.is_last.ensures ∙ c.if-is_last.false) (c.count_bracket.ensures c.if-not-count_bracket.false) refl c.token_len.ensures.value c.token_len.ensures.within
      ∙ c.tokens.invariant.same;
  within = omega arith;
  block = subst (λ z. IsBlock z c.past_gap-count.new.until c.past_gap-count.new.block) c.as_bytes-bytes.ensures.value c.past_gap-count.ensures.block;
}
