use Rattle.std.proofs.Common.{ap, ◌∙◌, ◌&&◌, not, take, Bool}
use Rattle.decl_index.proofs.Common.{is_entry_among, is_shelved}
use Rattle.decl_index.proofs.Order.{among_first, back_again}
use Rattle.decl_index.proofs.by_name.put_all.Goals as goal

pub returns-in-Err-clause-err : goal.returns-in-Err-clause-err
returns-in-Err-clause-err c q =
    let entries = c.args.entries.now in
    let some = c.put_each.ensures.some in
    c.take_each.ensures.left q ∙ ap (λ (b : Bool). b && not (is_entry_among q entries)) (some.1 q)
    ∙ back_again (is_shelved c.args.shelves.now q) (is_entry_among q (take some.0 entries)) (is_entry_among q entries) (c.requires.apart q) (among_first q some.0 entries)
