use Rattle.decl_index.proofs.Common.{sym, subst, entry_cmp, IsStrictlySortedBy}
use Rattle.decl_index.proofs.index.DeclIndex.new.Goals as goal

pub invariant_of-result : goal.invariant_of-result
unfolding IsStrictlySortedBy
invariant_of-result c = subst (IsStrictlySortedBy entry_cmp) (sym c.new.ensures) tt
