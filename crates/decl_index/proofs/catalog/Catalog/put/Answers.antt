use Rattle.std.proofs.Common.{◌≡◌, ◌↔◌, ◌⊎◌, ◌||◌, true, List, Contains, subst, ◌∙◌}
use Rattle.decl_index.proofs.Common.{Entry, shelf_entries, is_shelved, is_entry_among}
use Rattle.std.proofs.lemmas.Fn.{filter_same}
use Rattle.std.proofs.Common.{rules, not}
use Rattle.decl_index.proofs.Catalogs.{listed_put, news, news_apart}
use Rattle.decl_index.proofs.ShelfOrder.{same_listed}
use Rattle.decl_index.proofs.Order.{err_then, ok_then}
use Rattle.decl_index.proofs.catalog.Catalog.put.Goals as goal

pub put_all-requires-clause-apart : goal.put_all-requires-clause-apart
put_all-requires-clause-apart c q h =
    let is : c.deref-2.result.now ≡ news c.self.inside.shelves c.args.fresh.items = c.deref-2.ensures.value ∙ filter_same _ (λ e. not (is_shelved c.self.inside.shelves e)) _ (λ x b f k. search rules) _ _ c.retain.ensures.filtered in
    news_apart c.self.inside.shelves c.args.fresh.items q (subst (λ (xs : List Entry). is_entry_among q xs ≡ true) is h)

pub returns-clause-ok : goal.returns-clause-ok
returns-clause-ok c =
    let m = c.self.inside.shelves in
    let n = c.put_all.new.shelves in
    let fresh = c.args.fresh.items in
    let is : c.deref-2.result.now ≡ news m fresh = c.deref-2.ensures.value ∙ filter_same _ (λ e. not (is_shelved m e)) _ (λ x b f k. search rules) _ _ c.retain.ensures.filtered in
    ok_then _ _ c.put_all.result
    (λ put. subst (λ (old : List Entry). (e : Entry) → Contains (shelf_entries n) e ↔ (Contains old e ⊎ Contains fresh e)) c.self.view_is
    (listed_put m n c.self.invariant.shelved c.put_all.ensures.shelved fresh (subst (λ (xs : List Entry). (q : Entry) → is_shelved n q ≡ (is_shelved m q || is_entry_among q xs)) is put)))
    c.put_all.ensures.ok

pub returns-clause-err : goal.returns-clause-err
returns-clause-err c = err_then _ _ c.put_all.result (λ same. same_listed c.self.inside.shelves c.put_all.new.shelves c.self.invariant.shelved c.put_all.ensures.shelved same ∙ c.self.view_is) c.put_all.ensures.err
