use Rattle.std.proofs.Common.{◌≤◌, ◌-◌, length}
use Rattle.rust_lexer.proofs.Common.{IsBlock}
use Rattle.rust_lexer.proofs.Begins.{IsFound}
use Rattle.rust_lexer.specs.Inner.{IsTokenBoundary}
use Rattle.rust_lexer.proofs.prefix.common_prefix.Given as goal

abbrev pub invariant-tokens : goal.invariant-tokens
invariant-tokens l = record {
  begins : IsTokenBoundary l.ours l.count;
  within : l.count ≤ length l.ours;
  block : IsBlock l.ours l.until l.block;
  found : IsFound l.ours l.theirs l.most l.count l.found;
}

abbrev pub decreases-tokens : goal.decreases-tokens
decreases-tokens l = length l.ours - l.count
