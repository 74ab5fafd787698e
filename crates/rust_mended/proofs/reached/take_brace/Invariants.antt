use Rattle.std.proofs.Common.{◌≡◌, length}
use Rattle.rust_mended.specs.Mended.{first_brace, closers_behind_brace}
use Rattle.rust_mended.proofs.reached.take_brace.Given as goal

abbrev pub invariant-closers : goal.invariant-closers
invariant-closers l = record {
  first : first_brace l.reaching.items ≡ first_brace l.fn.reaching.items;
  behind : closers_behind_brace l.reaching.items ≡ closers_behind_brace l.fn.reaching.items;
}

abbrev pub decreases-closers : goal.decreases-closers
decreases-closers l = length l.reaching.items
