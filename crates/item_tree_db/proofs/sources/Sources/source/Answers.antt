use Rattle.std.proofs.Common.{◌≡◌, Option, IfSome, sym, ap, subst, ◌∙◌, option_map}
use Rattle.item_tree_db.proofs.Common.{Source, source_place, source_syntax, State, present, table_from}
use Rattle.item_tree_db.proofs.Steps.{present_is}
use Rattle.item_tree_db.proofs.sources.Sources.source.Goals as goal

pub returns-clause-own : goal.returns-clause-own
returns-clause-own c = subst (λ (o : Option Source). IfSome o (λ s. source_place s ≡ c.args.place)) (sym c.source.ensures) (c.self.invariant.sound.own c.args.place)

pub returns-clause-view : goal.returns-clause-view
returns-clause-view c =
    let i = c.self.inside in
    ap (option_map source_syntax) c.source.ensures ∙ sym (present_is (table_from i.crates.items i.skipped.items i.start i.number i.places) c.args.place) ∙ ap (λ (s : State). present s c.args.place) c.self.view_is
