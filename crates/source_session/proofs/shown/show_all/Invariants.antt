-- the values so far are those of the shows so far, and the session is as it was, but for its index
use Rattle.std.proofs.Common.{◌≡◌, map, take}
use Rattle.source_session.proofs.Common.{AllZip, IsShowValue}
use Rattle.serde_json.specs.View.{view}
use Rattle.source_session.proofs.shown.show_all.Given as goal

abbrev pub invariant-loop-show : goal.invariant-loop-show
invariant-loop-show l =
    AllZip (IsShowValue l.fn.session.session) (take l.show-index l.shows) (map view l.values.items)
    × (l.session.session ≡ l.fn.session.session)
