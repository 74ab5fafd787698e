use Rattle.std.proofs.Common.{length, map, refl, sym, ap, subst, arith}
use Rattle.text_session.proofs.Common.{nat_tests, length-map, State, IsBehind, AreSetTo, IsPlaced, Texts, text_in}
use Rattle.std.proofs.lemmas.List.{length-take}
use Rattle.item_tree.specs.CrateView.{crate_view}
use Rattle.item_tree_db.specs.State.{crate_limit}
use Rattle.text_session.proofs.session.Session.new.Goals as goal

pub invariant_of-result : goal.invariant_of-result
invariant_of-result c = record {
  crates = grind (arith, nat_tests, c.min.ensures, c.len.ensures, ap (λ (s : State). length s.crates) c.new.ensures, length-take crate_limit (map crate_view c.args.crates.items), length-map c.args.crates.items crate_view);
  behind = subst (λ index. IsBehind index c.new.result) (sym c.new-3.ensures) refl;
  placed = subst (λ (texts : Texts). (file : _) → IsPlaced (text_in texts file)) (sym c.new-2.ensures.empty) (λ file. tt);
  read = subst (AreSetTo c.args.edition.year c.new.result) (sym c.new-2.ensures.empty) (λ file. tt);
}
