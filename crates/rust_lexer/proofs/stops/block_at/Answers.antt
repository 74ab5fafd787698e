use Rattle.std.proofs.Common.{◌<◌, ◌∙◌, ap, refl, arith}
use Rattle.std.proofs.lemmas.Simd.{get_or-chunk}
use Rattle.rust_lexer.proofs.Common.{is_stop_byte}
use Rattle.rust_lexer.proofs.stops.block_at.Goals as goal

pub returns-clause-block : goal.returns-clause-block
returns-clause-block c = record {
  begun = omega arith;
  within = c.requires.room (omega (arith, c.if-at-block.false));
  full = λ _. refl;
  told = λ k l. let inside : k < 64 = omega (arith, l) in c.stops.ensures k inside ∙ ap is_stop_byte (get_or-chunk c.args.at 64 c.args.z.now k 0 inside);
}
