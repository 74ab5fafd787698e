use Rattle.std.proofs.Common.{◌≡◌, ◌++◌, ◌∷◌, [], inr, List, Option, Some, sym, ap, subst, ◌∙◌, append_assoc, option_map}
use Rattle.item_tree_db.proofs.Common.{AllByRecursion, err_from_is_err_and, CrateView, crate_view, Place, Row, Source, place_cmp_total, TreeFits, TreePasses, fresh_row, Shelved, Places, placed_at, syntax_in, fresh_of, source_syntax}
use Rattle.std.specs.Map.Iter.{deref_pair}
use Rattle.std.proofs.lemmas.Map.Iter.{btree_map_turn}
use Rattle.item_tree_db.proofs.Shelves.{SlotFits, fresh_each, fits_at}
use Rattle.item_tree_db.proofs.shelf.Shelf.lower_for.Goals as goal

pub loop-place-init : goal.loop-place-init
loop-place-init c =
    let names = c.args.skipped.now in
    let krate = Some (crate_view c.args.krate.now) in
    let all : Places → List (Place × Row) = fresh_each (fresh_of c.args.number names krate) in
    let is = c.into_iter-place-iterator.ensures.into_iter_gives.0 ∙ c.self.view_is in record {
      fresh = ap (λ (l : List (Place × Row)). l ++ all c.into_iter-place-iterator.result) c.in_ok-fresh.ensures.items ∙ ap all is;
      fits = λ h. fits_at names krate c.args.self.now (subst (AllByRecursion (SlotFits names krate)) is h);
    }

pub loop-place-preserved : goal.loop-place-preserved
loop-place-preserved c =
    let names = c.args.skipped.now in
    let krate : Option CrateView = Some (crate_view c.args.krate.now) in
    let place = c.in-Some.place.now in
    let all : Places → List (Place × Row) = fresh_each (fresh_of c.args.number names krate) in
    let done = c.loop-place.fresh.items in
    let steps = c.in-Some.ensures.steps in
    let row = c.in_ok-row.ensures.row ∙ ap (λ (o : Option Source). fresh_row c.args.number names place krate (option_map source_syntax o)) c.source.ensures in
    let fits = subst (λ (o : Option Source). TreeFits names place krate (option_map source_syntax o)) c.source.ensures c.in_ok-row.ensures.fits in
    record {
      fresh = ap (λ (l : List (Place × Row)). l ++ all c.next.new.self) c.in_ok-push.ensures.items
          ∙ append_assoc done ((place, c.in_ok-row.row) ∷ []) (all c.next.new.self)
          ∙ (λ j. done ++ (place, row j) ∷ all c.next.new.self)
          ∙ ap (λ (l : Places). done ++ all l) (sym steps)
          ∙ c.loop-place.invariant.fresh;
      fits = λ h. c.loop-place.invariant.fits (subst (AllByRecursion (SlotFits names krate)) (sym steps) (fits, h));
    }

pub returns-in_err-row-clause-refused : goal.returns-in_err-row-clause-refused
returns-in_err-row-clause-refused c =
    let names = c.args.skipped.now in
    let krate : Option CrateView = Some (crate_view c.args.krate.now) in
    let place = c.in-Some.place.now in
    let error = c.in_err-row.field-0.0 in
    let turn = btree_map_turn deref_pair c.loop-place.yielded _ _ _ _ (c.in-Some.place, c.in-Some.entry) c.loop-place.yielded_by c.in-Some.is c.next.ensures.steps place_cmp_total c.self.inside.entries c.into_iter-place-iterator.ensures.into_iter_gives.0 c.len.ensures.ordered in
    let found : placed_at c.args.self.now place ≡ Some c.in-Some.entry.now = ap (λ l. placed_at l place) (sym c.self.view_is) ∙ turn.1 in
    let passes = subst (λ (o : Option Source). TreePasses names place krate (option_map source_syntax o) error) c.source.ensures c.in_err-row.ensures.refused in
    let p = err_from_is_err_and c.from_residual-in_err-row.result c.from_residual-in_err-row.ensures.1 in
    rw (p.1, p.2) (inr (place, subst (λ (o : Option Shelved). TreePasses names place krate (syntax_in o) error) (sym found) passes))
