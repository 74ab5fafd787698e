use Rattle.std.proofs.Common.{false, cond, [], Some, IsSome, refl, ap, subst, ◌∙◌, unwrap_or}
use Rattle.std.specs.BTreeSet.{contains}
use Rattle.decl_index.proofs.Common.{is_at, BTreeSet, Option, Entry, entry_cmp}
use Rattle.decl_index.proofs.TreeChanges.{filed_then}
use Rattle.decl_index.proofs.by_tree.take_out.Goals as goal

pub returns-in-Some : goal.returns-in-Some
returns-in-Some c =
    let t = c.args.trees.now in
    let entry = c.args.entry.now in
    let set = c.remove.new.self in
    let updates = (c.get_mut.follows.holds set).3 (subst IsSome c.in-Some.ensures.value refl) in
    let old = ap (λ (o : Option (BTreeSet Entry)). unwrap_or o (record { keys = [] })) c.in-Some.ensures.value in
    filed_then t (c.get_mut.follows.lender set) entry (Some set) updates.0 false (λ q. c.remove.ensures.updates.0 q ∙ ap (λ (s : BTreeSet Entry). cond (is_at (entry_cmp entry) q) false (contains entry_cmp s q)) old)
