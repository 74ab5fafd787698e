use Rattle.std.proofs.Common.{[], ◌∷◌, sym, subst}
use Rattle.item_tree_db.proofs.Common.{edit_view, IsFooting, State, table_from}
use Rattle.item_tree_db.proofs.BodyTexts.{ignores_bodies}
use Rattle.item_tree_db.proofs.Histories.{after_none}
use Rattle.item_tree_db.proofs.Steps.{footing_of}
use Rattle.item_tree_db.proofs.sources.Sources.edit.Goals as goal

pub returns-then-self-clause-footing : goal.returns-then-self-clause-footing
returns-then-self-clause-footing c =
    let i = c.self.inside in
    let old = c.args.self.now in
    footing_of (table_from i.crates.items i.skipped.items i.start i.number i.places) c.self.invariant.sound old old [] c.self.view_is (after_none old)

pub returns-in_err-make-clause-footing : goal.returns-in_err-make-clause-footing
returns-in_err-make-clause-footing c =
    let i = c.self.inside in
    let old = c.args.self.now in
    let same = footing_of (table_from i.crates.items i.skipped.items i.start i.number i.places) c.self.invariant.sound old old [] c.self.view_is (after_none old) in
    subst (λ (s : State). IsFooting old s) (sym c.in_err-make.ensures.err) same

pub returns-clause-footing : goal.returns-clause-footing
returns-clause-footing c =
    let i = c.self-2.inside in
    footing_of (table_from i.crates.items i.skipped.items i.start i.number i.places) c.self-2.invariant.sound c.args.self.now c.make.new.self (edit_view c.args.edit ∷ []) c.self-2.view_is c.in_ok-make.ensures.ok

pub returns-clause-bodies : goal.returns-clause-bodies
returns-clause-bodies c = ignores_bodies c.args.self.now c.make.new.self (edit_view c.args.edit ∷ []) c.in_ok-make.ensures.ok
