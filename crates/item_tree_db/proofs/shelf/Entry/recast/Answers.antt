use Rattle.std.proofs.Common.{ℕ, ◌<◌, ◌≤◌, sym, ap, subst, ◌∙◌}
use Rattle.item_tree_db.proofs.Common.{Row, settled_row, recast_one}
use Rattle.item_tree_db.proofs.Shelves.{written_at, unwritten_at}
use Rattle.item_tree_db.proofs.shelf.Entry.recast.Goals as goal

pub returns-then-index-len : goal.returns-then-index-len
returns-then-index-len c =
    let rows = c.self.inside.rows in
    let f : Row → Row = λ row. settled_row c.args.number row c.args.fresh.now in
    let within = subst (λ (m : ℕ). c.args.index < m) (c.len.ensures ∙ rows.ok.0) c.if-index-len.true in
    let is = written_at f rows.items c.args.index c.index_mut.result.now c.settle_row.new.row c.index_mut.ensures.value c.settle_row.ensures within in
    (λ j. record { source = c.self.inside.source; rows = is j }) ∙ ap (recast_one c.args.number c.args.index c.args.fresh.now) c.self.view_is

pub returns-else-index-len : goal.returns-else-index-len
returns-else-index-len c =
    let rows = c.self.inside.rows in
    let f : Row → Row = λ row. settled_row c.args.number row c.args.fresh.now in
    let past = subst (λ (m : ℕ). m ≤ c.args.index) (c.len.ensures ∙ rows.ok.0) c.if-index-len.false in
    let is = unwritten_at f rows.items c.args.index past in
    sym c.self.view_is ∙ (λ j. record { source = c.self.inside.source; rows = is j }) ∙ ap (recast_one c.args.number c.args.index c.args.fresh.now) c.self.view_is
