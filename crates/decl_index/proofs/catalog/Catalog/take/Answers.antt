use Rattle.std.proofs.Common.{◌↔◌, List, Contains, subst}
use Rattle.decl_index.proofs.Common.{Entry, shelf_entries}
use Rattle.decl_index.proofs.Catalogs.{listed_left}
use Rattle.decl_index.proofs.ShelfOrder.{sorted}
use Rattle.decl_index.proofs.catalog.Catalog.take.Goals as goal

pub returns-clause-left : goal.returns-clause-left
returns-clause-left c =
    let m = c.self.inside.shelves in
    let n = c.take_each.new.shelves in
    let gone = c.args.gone.now in
    subst (λ (old : List Entry). (e : Entry) → Contains (shelf_entries n) e ↔ (Contains old e × (Contains gone e → ⊥))) c.self.view_is (listed_left m n c.self.invariant.shelved c.take_each.ensures.shelved gone c.take_each.ensures.left)

pub returns-clause-sorted : goal.returns-clause-sorted
returns-clause-sorted c = sorted c.take_each.new.shelves c.take_each.ensures.shelved
