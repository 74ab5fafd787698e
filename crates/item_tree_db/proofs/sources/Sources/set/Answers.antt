use Rattle.std.proofs.Common.{ℕ, ◌+◌, List, map, subst, ◌∙◌}
use Rattle.item_tree_db.proofs.Common.{CrateData, crate_view, brought, CratesFit, source_place, source_syntax}
use Rattle.item_tree_db.proofs.Steps.{set_made}
use Rattle.item_tree_db.proofs.sources.Sources.set.Goals as goal

pub invariant_of-self-2 : goal.invariant_of-self-2
invariant_of-self-2 c =
    let i = c.self.inside in
    let fresh = c.in-Ok.ensures.rows ∙ (λ j. map (λ krate. brought (i.number + 1) (c.deref-2.ensures.value j) (source_place c.args.source) (source_syntax c.args.source) (crate_view krate)) (c.deref.ensures.value j)) in
    let fits = subst (λ (z : List CrateData × List (List ℕ)). CratesFit (map crate_view z.0) z.1 (source_place c.args.source) (source_syntax c.args.source)) (λ j. (c.deref.ensures.value j, c.deref-2.ensures.value j)) c.in-Ok.ensures.fits in
    let made = set_made i.crates.items i.skipped.items i.start i.number i.places c.set.new.self c.args.self.now c.self.invariant.sound c.self.view_is c.args.source c.in-Ok.fresh.items fresh fits c.in_default.ensures.ok in
    record { few = c.self.invariant.few; sound = made.sound; empty = c.self.invariant.empty }

pub returns-clause-ok : goal.returns-clause-ok
returns-clause-ok c =
    let i = c.self.inside in
    let fresh = c.in-Ok.ensures.rows ∙ (λ j. map (λ krate. brought (i.number + 1) (c.deref-2.ensures.value j) (source_place c.args.source) (source_syntax c.args.source) (crate_view krate)) (c.deref.ensures.value j)) in
    let fits = subst (λ (z : List CrateData × List (List ℕ)). CratesFit (map crate_view z.0) z.1 (source_place c.args.source) (source_syntax c.args.source)) (λ j. (c.deref.ensures.value j, c.deref-2.ensures.value j)) c.in-Ok.ensures.fits in
    (set_made i.crates.items i.skipped.items i.start i.number i.places c.set.new.self c.args.self.now c.self.invariant.sound c.self.view_is c.args.source c.in-Ok.fresh.items fresh fits c.in_default.ensures.ok).after
