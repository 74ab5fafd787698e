use Rattle.std.proofs.Common.{◌≡◌, true, cond, [], Some, IsSome, refl, ap, subst, ◌∙◌, unwrap_or}
use Rattle.std.specs.BTreeSet.{contains}
use Rattle.decl_index.proofs.Common.{is_at, BTreeSet, Option, Entry, entry_cmp, is_filed}
use Rattle.decl_index.proofs.TreeChanges.{filed_still, filed_then}
use Rattle.decl_index.proofs.Order.{on_err}
use Rattle.decl_index.proofs.by_tree.file.Goals as goal

pub returns-in_err-insert-in-Some-clause-err : goal.returns-in_err-insert-in-Some-clause-err
returns-in_err-insert-in-Some-clause-err c =
    let t = c.args.trees.now in
    let entry = c.args.entry in
    let set = c.insert.new.self in
    let u = c.get_mut.follows.lender set in
    let updates = (c.get_mut.follows.holds set).3 (subst IsSome c.in-Some.ensures.value refl) in
    let old = ap (λ (o : Option (BTreeSet Entry)). unwrap_or o (record { keys = [] })) c.in-Some.ensures.value in
    on_err ((q : Entry) → is_filed u q ≡ is_filed t q) c.from_residual.result (filed_still t u (entry.place, entry.krate.0) (Some set) updates.0 (c.in_err-insert-in-Some.ensures.err ∙ ap (λ (s : BTreeSet Entry). s.keys) old))

pub returns-in_ok-insert-in-Some-clause-ok : goal.returns-in_ok-insert-in-Some-clause-ok
returns-in_ok-insert-in-Some-clause-ok c =
    let t = c.args.trees.now in
    let entry = c.args.entry in
    let set = c.insert.new.self in
    let u = c.get_mut.follows.lender set in
    let updates = (c.get_mut.follows.holds set).3 (subst IsSome c.in-Some.ensures.value refl) in
    let old = ap (λ (o : Option (BTreeSet Entry)). unwrap_or o (record { keys = [] })) c.in-Some.ensures.value in
    filed_then t u entry (Some set) updates.0 true (λ q. c.in_ok-insert-in-Some.ensures.updates.0 q ∙ ap (λ (s : BTreeSet Entry). cond (is_at (entry_cmp entry) q) true (contains entry_cmp s q)) old)
