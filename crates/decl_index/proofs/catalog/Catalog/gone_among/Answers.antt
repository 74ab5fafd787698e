use Rattle.std.proofs.Common.{◌≡◌, List, Contains, sym, subst, flat_map}
use Rattle.decl_index.proofs.Common.{AreGone, Entry, shelf_entries}
use Rattle.std.proofs.lemmas.Result.{IfOk-weaker}
use Rattle.decl_index.proofs.Common.{Change, gone_at}
use Rattle.decl_index.proofs.ShelfOrder.{stands_listed}
use Rattle.decl_index.proofs.Refreshes.{gone_of_trees}
use Rattle.decl_index.proofs.catalog.Catalog.gone_among.Goals as goal

pub returns : goal.returns
returns c =
    let s = c.args.sources.now in
    let m = c.self.inside.shelves in
    let trees = c.self.inside.trees in
    let all = flat_map (λ (d : Change). gone_at s trees d.0 d.1) c.args.changes in
    let late = λ (e : Entry) (i : Contains (shelf_entries m) e). c.requires e (subst (λ (xs : List Entry). Contains xs e) c.self.view_is i) in
    let gone = gone_of_trees s trees (shelf_entries m) c.args.changes (λ e i. c.self.invariant.filed e (stands_listed m c.self.invariant.shelved e i)) late in
    IfOk-weaker c.gone_among.result (λ gone. gone.items ≡ all) (λ gone. AreGone s c.args.self.now gone.items)
    (λ g is. subst (AreGone s c.args.self.now) (sym is) (subst (λ (old : List Entry). AreGone s old all) c.self.view_is gone)) c.gone_among.ensures
