use Rattle.std.proofs.Common.{rules, ◌≡◌, ◌<◌, ◌∙◌, suc, None, length, get_or, arith, nat_le}
use Rattle.std.proofs.lemmas.List.Sorted.{IsPartitionPoint-from_clause}
use Rattle.rust_edits.proofs.Common.{ItemPlace}
use Rattle.rust_edits.proofs.Order.{begun_first, none_about, none_of, some_about}
use Rattle.rust_edits.proofs.Steps.{body_held}
use Rattle.rust_edits.proofs.edit.body_about.Goals as goal

pub returns : goal.returns
returns c =
    let at = c.args.at in
    let items = c.args.items.now in
    let n = c.partition_point-count.result in
    let i = c.in_ok-checked_sub.field-0 in
    let item = c.in_ok-item.item.now in
    let within : i < length items = search rules in
    let is : item ≡ get_or items i item = search rules in
    let next : n ≡ suc i = omega arith in
    record {
      held = body_held items i item within is;
      told = λ ordered.
          let begun = IsPartitionPoint-from_clause (λ (p : ItemPlace). nat_le p.range.start at) items n c.partition_point-count.ensures.partitioned (begun_first at 0 items ordered) (λ a r f k. search rules) in
          some_about at n i items item c.partition_point-count.ensures.bound begun next is;
    }

pub returns-in_err-checked_sub-clause-told : goal.returns-in_err-checked_sub-clause-told
returns-in_err-checked_sub-clause-told c =
    let at = c.args.at in
    let items = c.args.items.now in
    let n = c.partition_point-count.result in
    let none : c.from_residual.result ≡ None = search rules in
    λ ordered.
    let begun = IsPartitionPoint-from_clause (λ (p : ItemPlace). nat_le p.range.start at) items n c.partition_point-count.ensures.partitioned (begun_first at 0 items ordered) (λ a r f k. search rules) in
    none ∙ none_about at n items c.partition_point-count.ensures.bound begun (none_of n c.in_err-checked_sub.ensures)
