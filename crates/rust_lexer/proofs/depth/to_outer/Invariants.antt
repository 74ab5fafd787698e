use Rattle.std.proofs.Common.{◌≡◌, ◌≤◌, ◌+◌, ◌-◌, length, drop}
use Rattle.rust_lexer.proofs.Common.{IsBlock, to_outer, tokens_from}
use Rattle.rust_lexer.proofs.depth.to_outer.Given as goal

abbrev pub invariant-tokens : goal.invariant-tokens
invariant-tokens l = record {
  same : to_outer l.depth (tokens_from 0 (l.fn.at + l.count) (drop l.count l.fn.text)) ≡ to_outer l.fn.depth (tokens_from 0 l.fn.at l.fn.text);
  within : l.count ≤ length l.fn.text;
  block : IsBlock l.fn.text l.until l.block;
}

abbrev pub decreases-tokens : goal.decreases-tokens
decreases-tokens l = length l.fn.text - l.count
