use Rattle.std.proofs.Common.{subst}
use Rattle.std.proofs.lemmas.Result.{IfOk-weaker}
use Rattle.item_tree_db.proofs.Common.{AreNoted, IfSome_then}
use Rattle.item_tree_db.proofs.PlaceNumbers.{holds_late}
use Rattle.item_tree_db.proofs.shelf.Shelf.places_above.Goals as goal

pub returns : goal.returns
returns c =
    let recent = c.self.inside.recent in
    let noted = subst (AreNoted recent) c.self.view_is c.self.invariant in
    IfOk-weaker c.places_above.result _ _ (λ found h. IfSome_then found h (λ places held. holds_late recent c.args.self.now c.args.above places.keys noted held)) c.places_above.ensures
