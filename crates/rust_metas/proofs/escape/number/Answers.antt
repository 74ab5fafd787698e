use Rattle.std.proofs.Common.{arith}
use Rattle.rust_metas.proofs.Characters.{small}
use Rattle.rust_metas.proofs.escape.number.Goals as goal

pub overflow_mul-value : goal.overflow_mul-value
overflow_mul-value c = let few = small c.digits.value c.digits.count c.digits.invariant.small c.digits.invariant.few c.if-count-eq6.false in omega arith

pub overflow_add-value : goal.overflow_add-value
overflow_add-value c = let few = small c.digits.value c.digits.count c.digits.invariant.small c.digits.invariant.few c.if-count-eq6.false in let low = c.if-digit-lt16.true in omega arith
