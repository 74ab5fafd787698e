use Rattle.std.proofs.Common.{◌∙◌, subst, sym}
use Rattle.source_changes.specs.Inner.{ComeBehind}
use Rattle.source_changes.proofs.CountedTokens.{left_alike, same_docs}
use Rattle.source_changes.proofs.Holes.{come_behind}
use Rattle.source_changes.proofs.kept.pass_same.Goals as goal

pub returns-clause-same : goal.returns-clause-same
returns-clause-same c =
    let ours = c.args.ours.now in
    let theirs = c.args.theirs.now in
    let lone = c.are_lone.ensures c.if-not-are_lone.false in
    left_alike ours.has_docs theirs.has_docs ours.before theirs.before c.same_until-place.result ours.holes.now theirs.holes.now ours.lexer c.copy-our_rest.result c.pass_same.new.self theirs.lexer c.copy-their_rest.result c.pass_same.new.other
    (same_docs _ _ c.if-ours-theirs.false) c.if-ours-theirs-2.false c.same_until-place.ensures c.requires.ours c.requires.theirs lone.0 lone.1 c.copy-our_rest.ensures c.copy-their_rest.ensures c.pass_same.ensures

pub returns-clause-ours : goal.returns-clause-ours
returns-clause-ours c =
    let p = c.pass_same.ensures in come_behind 0 p.0 c.pass_same.new.self (subst (ComeBehind 0) (sym c.copy-our_rest.ensures ∙ p.1) c.requires.ours)

pub returns-clause-theirs : goal.returns-clause-theirs
returns-clause-theirs c =
    let p = c.pass_same.ensures in come_behind 0 p.0 c.pass_same.new.other (subst (ComeBehind 0) (sym c.copy-their_rest.ensures ∙ p.2) c.requires.theirs)
