use Rattle.std.proofs.Common.{◌≡◌, ◌==◌, ◌&&◌, true, false, sym, ap, ◌∙◌, subst, filter}
use Rattle.rust_cursor.proofs.Common.{is_significant, last_unended, Nest}
use Rattle.rust_cursor.proofs.UnkeptTexts.{leads_behind, open_still}
use Rattle.rust_cursor.proofs.cursor.texts.pass_braced.Goals as goal

pub tokens-preserved-then-is_significant : goal.tokens-preserved-then-is_significant
tokens-preserved-then-is_significant c =
    let counts : is_significant c.in-Some.token ≡ true = sym c.is_significant.ensures ∙ c.if-is_significant.true in
    let opens : (c.tokens.nest.braces == 1 && c.symbol-symbol.result == 125) ≡ false = sym c.closes_all.ensures ∙ c.if-closes_all.false in
    record {
      some = subst (λ (n : Nest). (n.braces == 0) ≡ false) (sym c.count_inside.ensures) (open_still c.tokens.nest c.symbol-symbol.result c.tokens.invariant.some opens);
      leads = leads_behind c.args.past.now c.tokens.past c.end.result c.symbol-symbol.result (filter is_significant c.args.lexer.now) c.tokens.lexer c.next.new.self c.args.nest.now c.tokens.nest c.count_inside.new.nest c.in-Some.token
          c.tokens.invariant.leads c.in-Some.ensures.steps counts c.symbol-symbol.ensures c.tokens.invariant.some opens c.count_inside.ensures c.end.ensures;
      last = c.note_last.ensures ∙ ap (last_unended c.tokens.last) (sym c.in-Some.ensures.steps) ∙ c.tokens.invariant.last;
    }
