use Rattle.std.proofs.Common.{rules, ◌≡◌, ℕ, false, cond, List, [], Some, None, IsSome, refl, sym, ap, subst, ◌∙◌, unwrap_or}
use Rattle.std.specs.BTreeMap.{get_by_text}
use Rattle.std.specs.BTreeSet.{contains}
use Rattle.std.proofs.lemmas.Map.Text.{btree_map_updates_text}
use Rattle.decl_index.proofs.Common.{is_at, bytes_eq, update, BTreeSet, Option, Entry, Shelves, entry_cmp, shelf_at, is_shelved}
use Rattle.decl_index.proofs.ShelfOrder.{shelved_then, stands_never, stands_then}
use Rattle.decl_index.proofs.by_name.take_off.Goals as goal

pub returns-in-Some-clause-shelved : goal.returns-in-Some-clause-shelved
returns-in-Some-clause-shelved c =
    let m = c.args.shelves.now in
    let entry = c.args.entry.now in
    let set = c.remove.new.self in
    let holds = c.get_mut.follows.holds set in
    let n = c.get_mut.follows.lender set in
    let updates = holds.3 (subst IsSome c.in-Some.ensures.value refl) in
    let old = ap (λ (o : Option (BTreeSet Entry)). unwrap_or o (record { keys = [] })) c.in-Some.ensures.value ∙ ap (shelf_at m) c.text.ensures.value in
    let put = λ (cs : List ℕ). subst (λ (name : List ℕ). get_by_text n cs ≡ update bytes_eq (get_by_text m) name (Some set) cs) c.text.ensures.value (btree_map_updates_text c.text.result.now m n (Some set) updates cs) in
    let member = λ (q : Entry). c.remove.ensures.updates.0 q ∙ ap (λ (s : BTreeSet Entry). cond (is_at (entry_cmp entry) q) false (contains entry_cmp s q)) old in
    shelved_then m n entry (Some set) put false member c.requires holds.4 c.remove.ensures.ordered

pub returns-in-Some-clause-left : goal.returns-in-Some-clause-left
returns-in-Some-clause-left c =
    let m = c.args.shelves.now in
    let entry = c.args.entry.now in
    let set = c.remove.new.self in
    let holds = c.get_mut.follows.holds set in
    let n = c.get_mut.follows.lender set in
    let updates = holds.3 (subst IsSome c.in-Some.ensures.value refl) in
    let old = ap (λ (o : Option (BTreeSet Entry)). unwrap_or o (record { keys = [] })) c.in-Some.ensures.value ∙ ap (shelf_at m) c.text.ensures.value in
    let put = λ (cs : List ℕ). subst (λ (name : List ℕ). get_by_text n cs ≡ update bytes_eq (get_by_text m) name (Some set) cs) c.text.ensures.value (btree_map_updates_text c.text.result.now m n (Some set) updates cs) in
    let member = λ (q : Entry). c.remove.ensures.updates.0 q ∙ ap (λ (s : BTreeSet Entry). cond (is_at (entry_cmp entry) q) false (contains entry_cmp s q)) old in
    stands_then m n entry (Some set) put false member

pub returns-in_default-clause-left : goal.returns-in_default-clause-left
returns-in_default-clause-left c q =
    let m = c.args.shelves.now in
    let none : get_by_text m c.text.result.now ≡ None = search rules in
    let empty = ap (λ (o : Option (BTreeSet Entry)). (unwrap_or o (record { keys = [] })).keys) (ap (get_by_text m) (sym c.text.ensures.value) ∙ none) in
    ap (λ (n : Shelves). is_shelved n q) c.get_mut.follows.holds-at-none ∙ stands_never m c.args.entry.now empty q
