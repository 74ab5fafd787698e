use Rattle.std.proofs.Common.{◌≡◌, [], arith, ◌<◌, ℕ, List, length, drop, take, map, sym, ◌∙◌, ap, subst, slice_get, Some, rules, option_map}
use Rattle.item_tree_db.proofs.Common.{nil_from_length, slice_get-map, EditView, edit_view, IsAfter, FirstFit, NamesKnown, State, table_from}
use Rattle.item_tree_db.specs.declared.edit.Edit.{Edit}
use Rattle.item_tree_db.proofs.BodyTexts.{ignores_bodies}
use Rattle.item_tree_db.proofs.Histories.{after_none, after_more, fits_more, footing}
use Rattle.item_tree_db.proofs.Runs.{popped, take_whole, holds_at, known_still}
use Rattle.item_tree_db.proofs.Steps.{footing_of}
use Rattle.item_tree_db.proofs.sources.Sources.edit_all.Goals as goal

pub loop-place-init : goal.loop-place-init
loop-place-init c =
    let none : c.into_iter-place-iterator.result.count ≡ 0 = search rules in
    record {
      rest = search rules;
      after = subst (λ (n : ℕ). IsAfter c.args.self.now (take n (map edit_view c.args.edits.items)) c.args.self.now) (sym none) (after_none c.args.self.now);
      fits = λ m p. absurd (omega (arith, none, p));
    }

pub edit-requires : goal.edit-requires
edit-requires c =
    let it = c.loop-place.place-iterator in
    let known = holds_at edit_view (NamesKnown c.args.self.now) it.count c.args.edits.items c.in-Some.edit c.next.new.self.iter.rest.items (c.loop-place.invariant.rest ∙ c.in-Some.ensures.steps.0.0) c.requires in
    known_still c.args.self.now c.loop-place.self (take it.count (map edit_view c.args.edits.items)) (edit_view c.in-Some.edit) c.loop-place.invariant.after known

pub loop-place-preserved : goal.loop-place-preserved
loop-place-preserved c =
    let old = c.args.self.now in
    let it = c.loop-place.place-iterator in
    let new = c.next.new.self in
    let s = c.in-Some.ensures.steps in
    let edits = map edit_view c.args.edits.items in
    let edit = edit_view c.in-Some.edit in
    let p = popped edit_view it.count c.args.edits.items c.in-Some.edit new.iter.rest.items (c.loop-place.invariant.rest ∙ s.0.0) in
    let at : slice_get edits it.count ≡ Some edit = slice_get-map edit_view c.args.edits.items it.count ∙ ap (option_map edit_view) p.at in
    let after : IsAfter old (take new.count edits) c.edit.new.self = subst (λ (es : List EditView). IsAfter old es c.edit.new.self) (sym (ap (λ (k : ℕ). take k edits) s.2 ∙ p.done)) (after_more old c.loop-place.self c.edit.new.self (take it.count edits) edit c.loop-place.invariant.after c.in_default.ensures.ok) in
    record {
      rest = ap (λ (k : ℕ). drop k c.args.edits.items) s.2 ∙ p.rest;
      after = after;
      fits = subst (FirstFit old edits) (sym s.2) (fits_more old c.loop-place.self edits it.count edit c.loop-place.invariant.fits c.loop-place.invariant.after at c.in_default.ensures.fits);
    }

pub returns-in-Err-clause-place : goal.returns-in-Err-clause-place
returns-in-Err-clause-place c =
    let s = c.in-Some.ensures.steps in
    let p = popped edit_view c.loop-place.place-iterator.count c.args.edits.items c.in-Some.edit c.next.new.self.iter.rest.items (c.loop-place.invariant.rest ∙ s.0.0) in
    ap (λ (k : ℕ). slice_get c.args.edits.items k) s.1 ∙ p.at ∙ ap (λ (x : Edit). Some x) (sym c.in-Err.ensures.returned)

pub returns-in-Err-clause-footing : goal.returns-in-Err-clause-footing
returns-in-Err-clause-footing c =
    let old = c.args.self.now in
    let front = take c.loop-place.place-iterator.count (map edit_view c.args.edits.items) in
    let err = c.in-Err.ensures.err in
    let after = subst (IsAfter old front) (sym err) c.loop-place.invariant.after in
    footing old c.edit.new.self front (λ place i p. c.in-Err.ensures.footing.bounded place i (subst (λ (s : State). i < length s.crates) err p)) after

pub returns-clause-footing : goal.returns-clause-footing
returns-clause-footing c =
    let i = c.self.inside in
    footing_of (table_from i.crates.items i.skipped.items i.start i.number i.places) c.self.invariant.sound c.args.self.now c.loop-place.self (take c.loop-place.place-iterator.count (map edit_view c.args.edits.items)) c.self.view_is c.loop-place.invariant.after

pub returns-clause-bodies : goal.returns-clause-bodies
returns-clause-bodies c =
    let ended : drop c.loop-place.place-iterator.count c.args.edits.items ≡ [] = c.loop-place.invariant.rest ∙ nil_from_length c.loop-place.place-iterator.iter.rest.items (sym c.loop-place.place-iterator.iter.rest.ok.0 ∙ c.in-None.ensures.steps.0.0) in
    ignores_bodies c.args.self.now c.loop-place.self (map edit_view c.args.edits.items) (subst (λ (es : List EditView). IsAfter c.args.self.now es c.loop-place.self) (take_whole edit_view c.loop-place.place-iterator.count c.args.edits.items ended) c.loop-place.invariant.after)
