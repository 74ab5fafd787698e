use Rattle.std.proofs.Common.{rules}
use Rattle.item_tree.proofs.Common.{alias_code}
use Rattle.item_tree.proofs.UseEq.{tells}
use Rattle.item_tree.proofs.use_tree.equal.ImportAliasPartialEq.eq.Goals as goal

pub returns-in-Underscore-Underscore-clause-gives : goal.returns-in-Underscore-Underscore-clause-gives
returns-in-Underscore-Underscore-clause-gives c = tells alias_code _ _ _ (search rules)

pub returns-in-Alias-Alias-clause-gives : goal.returns-in-Alias-Alias-clause-gives
returns-in-Alias-Alias-clause-gives c = tells alias_code _ _ _ (search rules)

pub returns-in_default-clause-gives : goal.returns-in_default-clause-gives
returns-in_default-clause-gives c = tells alias_code _ _ _ (search rules)

pub returns-in_default-2-clause-gives : goal.returns-in_default-2-clause-gives
returns-in_default-2-clause-gives c = tells alias_code _ _ _ (search rules)
