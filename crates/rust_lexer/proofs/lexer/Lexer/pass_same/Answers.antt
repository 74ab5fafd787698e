use Rattle.std.proofs.Common.{◌∙◌, arith, subst, sym}
use Rattle.rust_lexer.proofs.TextsApart.{common_passed}
use Rattle.rust_lexer.specs.Inner.{IsCommon}
use Rattle.rust_lexer.proofs.lexer.Lexer.pass_same.Goals as goal

pub returns : goal.returns
returns c =
    let ours = c.self.inside in
    let theirs = c.other.inside in
    let k = c.common_prefix-len.result in
    let bytes = c.common_prefix-len.ensures.brace (omega (arith, c.if-len-eq0.false)) in
    let common : IsCommon ours.rest.now theirs.rest.now k =
    subst (λ z. IsCommon z theirs.rest.now k) c.as_bytes.ensures.value (subst (λ w. IsCommon c.as_bytes.result.now w k) c.as_bytes-2.ensures.value bytes) in
    let p =
    common_passed ours.front theirs.front ours.at theirs.at c.args.place k ours.rest.now theirs.rest.now c.split_at.result.1.now c.split_at-2.result.1.now
    c.in-Token-Token.is-0 c.in-Token-Token.is-1 c.if-self-other.false (omega arith) c.self.invariant.0 common c.split_at.ensures.back c.split_at-2.ensures.back in
    (p.0, sym c.self.view_is ∙ p.1, sym c.other.view_is ∙ p.2, p.3)
