use Rattle.std.proofs.Common.{◌∙◌, sym, ap}
use Rattle.rust_lexer.specs.Depths.{to_outer}
use Rattle.source_changes.specs.Skeletons.{is_begun}
use Rattle.source_changes.proofs.Holes.{hole_passed}
use Rattle.source_changes.proofs.kept.pass_hole.Goals as goal

pub returns-then-ends_behind : goal.returns-then-ends_behind
returns-then-ends_behind c =
    let begun = ap (λ p. is_begun p c.args.holes.now) (sym c.end.ensures) ∙ sym c.is_begun.ensures ∙ c.if-not-is_begun.false in
    let on = ap (to_outer _) (sym c.copy-ahead.ensures) ∙ c.in-Some.ensures in
    let p = hole_passed c.args.holes.now _ _ _ c.args.lexer.now c.pass_braces.new.self begun c.requires on in
    record { same = λ docs before. p.same (sym c.ends_behind.ensures ∙ c.if-ends_behind.true) docs before before; after = p.after; fewer = p.fewer }
