use Rattle.std.proofs.Common.{[], filter, ap, ◌∙◌, unwrap_or}
use Rattle.decl_index.proofs.Common.{BTreeSet, Entry, Option, shelf_at}
use Rattle.decl_index.specs.Lookup.{entry_has_name}
use Rattle.decl_index.proofs.ShelfOrder.{shelf_is}
use Rattle.decl_index.proofs.catalog.Catalog.get.Goals as goal

pub returns-in-Some : goal.returns-in-Some
returns-in-Some c =
    let s = c.self.inside.shelves in
    let name = c.args.name.now in
    ap (λ (o : Option (BTreeSet Entry)). (unwrap_or o (record { keys = [] })).keys) c.in-Some.ensures.value ∙ ap (λ n. (shelf_at s n).keys) c.text.ensures.value
    ∙ shelf_is s c.self.invariant.shelved name ∙ ap (filter (entry_has_name name)) c.self.view_is

pub returns-in-None : goal.returns-in-None
returns-in-None c =
    let s = c.self.inside.shelves in
    let name = c.args.name.now in
    c.self.invariant.empty ∙ ap (λ (o : Option (BTreeSet Entry)). (unwrap_or o (record { keys = [] })).keys) c.in-None.ensures.value ∙ ap (λ n. (shelf_at s n).keys) c.text.ensures.value
    ∙ shelf_is s c.self.invariant.shelved name ∙ ap (filter (entry_has_name name)) c.self.view_is
