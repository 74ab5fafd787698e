use Rattle.std.proofs.Common.{rules, ◌≡◌, ℕ, true, cond, List, Some, sym, ap, subst, ◌∙◌, string_bytes}
use Rattle.std.specs.BTreeMap.{get_by_text}
use Rattle.std.proofs.lemmas.Map.Text.{btree_map_updates_text}
use Rattle.decl_index.proofs.Common.{is_at, bytes_eq, update, Entry, entry_cmp, shelf_at}
use Rattle.decl_index.proofs.ShelfOrder.{shelved_same, shelved_then, stands_then}
use Rattle.decl_index.proofs.Order.{empty_has, only_has, only_rises}
use Rattle.decl_index.proofs.by_name.put_first.Goals as goal

pub returns-clause-shelved : goal.returns-clause-shelved
returns-clause-shelved c =
    let m = c.args.shelves.now in
    let n = c.insert.new.self in
    let entry = c.args.entry in
    let set = c.in_ok-shelf.shelf in
    let is : string_bytes c.in_ok-name.name ≡ entry.name = search rules in
    let put = λ (cs : List ℕ). subst (λ (name : List ℕ). get_by_text n cs ≡ update bytes_eq (get_by_text m) name (Some set) cs) is (btree_map_updates_text (string_bytes c.in_ok-name.name) m n (Some set) c.in_ok-insert.ensures.updates cs) in
    let member = λ (q : Entry). only_has set entry c.in_ok-shelf.ensures q ∙ ap (cond (is_at (entry_cmp entry) q) true) (sym (empty_has (shelf_at m entry.name) c.requires.first q)) in
    shelved_then m n entry (Some set) put true member c.requires.shelved c.insert.ensures.ordered (only_rises set entry c.in_ok-shelf.ensures)

pub returns-clause-ok : goal.returns-clause-ok
returns-clause-ok c =
    let m = c.args.shelves.now in
    let n = c.insert.new.self in
    let entry = c.args.entry in
    let set = c.in_ok-shelf.shelf in
    let is : string_bytes c.in_ok-name.name ≡ entry.name = search rules in
    let put = λ (cs : List ℕ). subst (λ (name : List ℕ). get_by_text n cs ≡ update bytes_eq (get_by_text m) name (Some set) cs) is (btree_map_updates_text (string_bytes c.in_ok-name.name) m n (Some set) c.in_ok-insert.ensures.updates cs) in
    let member = λ (q : Entry). only_has set entry c.in_ok-shelf.ensures q ∙ ap (cond (is_at (entry_cmp entry) q) true) (sym (empty_has (shelf_at m entry.name) c.requires.first q)) in
    stands_then m n entry (Some set) put true member

pub returns-in_err-insert-clause-shelved : goal.returns-in_err-insert-clause-shelved
returns-in_err-insert-clause-shelved c = shelved_same c.args.shelves.now c.insert.new.self c.in_err-insert.ensures.err c.requires.shelved
