use Rattle.std.proofs.Common.{◌≡◌, ℕ, true, cond, List, [], Some, IsSome, refl, ap, subst, ◌∙◌, unwrap_or}
use Rattle.std.specs.BTreeMap.{get_by_text}
use Rattle.std.specs.BTreeSet.{contains}
use Rattle.std.proofs.lemmas.Map.Text.{btree_map_updates_text}
use Rattle.decl_index.proofs.Common.{is_at, bytes_eq, update, BTreeSet, Option, Entry, entry_cmp, shelf_at, is_shelved}
use Rattle.decl_index.proofs.ShelfOrder.{shelved_still, shelved_then, stands_still, stands_then}
use Rattle.decl_index.proofs.Order.{on_err}
use Rattle.decl_index.proofs.by_name.put.Goals as goal

pub returns-in_err-insert-in-Some-clause-shelved : goal.returns-in_err-insert-in-Some-clause-shelved
returns-in_err-insert-in-Some-clause-shelved c =
    let m = c.args.shelves.now in
    let set = c.insert.new.self in
    let holds = c.get_mut.follows.holds set in
    let n = c.get_mut.follows.lender set in
    let updates = holds.3 (subst IsSome c.in-Some.ensures.value refl) in
    let old = ap (λ (o : Option (BTreeSet Entry)). unwrap_or o (record { keys = [] })) c.in-Some.ensures.value in
    shelved_still m n c.text.result.now (Some set) (btree_map_updates_text c.text.result.now m n (Some set) updates) (c.in_err-insert-in-Some.ensures.err ∙ ap (λ (s : BTreeSet Entry). s.keys) old) c.requires holds.4 c.insert.ensures.ordered

pub returns-in_err-insert-in-Some-clause-err : goal.returns-in_err-insert-in-Some-clause-err
returns-in_err-insert-in-Some-clause-err c =
    let m = c.args.shelves.now in
    let set = c.insert.new.self in
    let holds = c.get_mut.follows.holds set in
    let n = c.get_mut.follows.lender set in
    let updates = holds.3 (subst IsSome c.in-Some.ensures.value refl) in
    let old = ap (λ (o : Option (BTreeSet Entry)). unwrap_or o (record { keys = [] })) c.in-Some.ensures.value in
    on_err ((q : Entry) → is_shelved n q ≡ is_shelved m q) c.from_residual.result (stands_still m n c.text.result.now (Some set) (btree_map_updates_text c.text.result.now m n (Some set) updates) (c.in_err-insert-in-Some.ensures.err ∙ ap (λ (s : BTreeSet Entry). s.keys) old))

pub returns-in_ok-insert-in-Some-clause-shelved : goal.returns-in_ok-insert-in-Some-clause-shelved
returns-in_ok-insert-in-Some-clause-shelved c =
    let m = c.args.shelves.now in
    let entry = c.args.entry in
    let set = c.insert.new.self in
    let holds = c.get_mut.follows.holds set in
    let n = c.get_mut.follows.lender set in
    let updates = holds.3 (subst IsSome c.in-Some.ensures.value refl) in
    let old = ap (λ (o : Option (BTreeSet Entry)). unwrap_or o (record { keys = [] })) c.in-Some.ensures.value ∙ ap (shelf_at m) c.text.ensures.value in
    let put = λ (cs : List ℕ). subst (λ (name : List ℕ). get_by_text n cs ≡ update bytes_eq (get_by_text m) name (Some set) cs) c.text.ensures.value (btree_map_updates_text c.text.result.now m n (Some set) updates cs) in
    let member = λ (q : Entry). c.in_ok-insert-in-Some.ensures.updates.0 q ∙ ap (λ (s : BTreeSet Entry). cond (is_at (entry_cmp entry) q) true (contains entry_cmp s q)) old in
    shelved_then m n entry (Some set) put true member c.requires holds.4 c.insert.ensures.ordered

pub returns-in_ok-insert-in-Some-clause-ok : goal.returns-in_ok-insert-in-Some-clause-ok
returns-in_ok-insert-in-Some-clause-ok c =
    let m = c.args.shelves.now in
    let entry = c.args.entry in
    let set = c.insert.new.self in
    let holds = c.get_mut.follows.holds set in
    let n = c.get_mut.follows.lender set in
    let updates = holds.3 (subst IsSome c.in-Some.ensures.value refl) in
    let old = ap (λ (o : Option (BTreeSet Entry)). unwrap_or o (record { keys = [] })) c.in-Some.ensures.value ∙ ap (shelf_at m) c.text.ensures.value in
    let put = λ (cs : List ℕ). subst (λ (name : List ℕ). get_by_text n cs ≡ update bytes_eq (get_by_text m) name (Some set) cs) c.text.ensures.value (btree_map_updates_text c.text.result.now m n (Some set) updates cs) in
    let member = λ (q : Entry). c.in_ok-insert-in-Some.ensures.updates.0 q ∙ ap (λ (s : BTreeSet Entry). cond (is_at (entry_cmp entry) q) true (contains entry_cmp s q)) old in
    stands_then m n entry (Some set) put true member
