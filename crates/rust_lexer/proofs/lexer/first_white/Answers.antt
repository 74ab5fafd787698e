use Rattle.std.proofs.Common.{◌≡◌, ◌-◌, ◌∙◌, sym, ap, drop, get_or, length, take}
use Rattle.rust_lexer.specs.declared.kind.TokenKind.TheVariants as kind
use Rattle.rust_lexer.proofs.Common.{cut, first_cut}
use Rattle.rust_lexer.proofs.FrequentTokens.{blank_first}
use Rattle.rust_lexer.proofs.Steps.{first_next}
use Rattle.rust_lexer.proofs.WholeTokens.{white_whole, whole_behind}
use Rattle.rust_lexer.proofs.lexer.first_white.Goals as goal

pub split_whole-requires-clause-whole : goal.split_whole-requires-clause-whole
split_whole-requires-clause-whole c = whole_behind c.args.text.now c.as_bytes.result.now c.run.result c.as_bytes.ensures.value c.in-len1-up.len_at_least (white_whole c.run.result _ c.run.ensures.value)

pub returns-in-len1-up-clause-value : goal.returns-in-len1-up-clause-value
returns-in-len1-up-clause-value c =
    let w = c.as_bytes.result.now in
    let b = get_or w 0 0 in
    let z = take (length w - 1) (drop 1 w) in
    let is : cut kind.Whitespace c.run.result ≡ first_cut b z =
    ap (cut kind.Whitespace) c.run.ensures.value ∙ sym (blank_first b z (sym c.is_blank.ensures ∙ c.if-is_blank.true)) in
    first_next c.args.at c.args.text.now w (cut kind.Whitespace c.run.result) c.split_whole.result.0 c.split_whole.result.1.now
    c.as_bytes.ensures.value c.in-len1-up.len_at_least is c.split_whole.ensures.value
