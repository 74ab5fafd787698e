use Rattle.std.proofs.Common.{rules, leb}
use Rattle.std.proofs.lemmas.Bool.{leb-true, leb-false}
use Rattle.std.proofs.lemmas.List.Sorted.{IsPartitionedBy-leb, IsPartitionPoint-from_clause}
use Rattle.line_index.proofs.starts.count_up_to.Goals as goal

pub returns-clause-before : goal.returns-clause-before
returns-clause-before c = λ k d low high.
    leb-true _ _ ((IsPartitionPoint-from_clause (λ q. leb q c.args.at) c.args.starts.now c.partition_point.result c.partition_point.ensures.partitioned (IsPartitionedBy-leb (λ x. x) c.args.starts.now c.args.at c.requires) (λ a r f k. search rules)).0 k d low high)

pub returns-clause-behind : goal.returns-clause-behind
returns-clause-behind c = λ k d low high.
    leb-false _ _ ((IsPartitionPoint-from_clause (λ q. leb q c.args.at) c.args.starts.now c.partition_point.result c.partition_point.ensures.partitioned (IsPartitionedBy-leb (λ x. x) c.args.starts.now c.args.at c.requires) (λ a r f k. search rules)).1 k d low high)
