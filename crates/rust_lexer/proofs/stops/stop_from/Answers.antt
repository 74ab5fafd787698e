use Rattle.std.proofs.Common.{◌∙◌, sym, arith}
use Rattle.rust_lexer.proofs.Blocks.{found, found_inside, past_block}
use Rattle.rust_lexer.proofs.stops.stop_from.Goals as goal

pub returns-then-bits-ne0-clause-value : goal.returns-then-bits-ne0-clause-value
returns-then-bits-ne0-clause-value c =
    let b = c.block_at.ensures in
    found c.args.z.now c.blocks-2.at c.block_at.result b.block b.holds b.fits (omega (arith, c.if-bits-ne0.true)) ∙ c.blocks-2.invariant.same

pub returns-then-bits-ne0-clause-within : goal.returns-then-bits-ne0-clause-within
returns-then-bits-ne0-clause-within c =
    let b = c.block_at.ensures in
    omega (arith, b.block.within, found_inside c.args.z.now c.blocks-2.at c.block_at.result b.block b.holds b.fits (omega (arith, c.if-bits-ne0.true)))

pub blocks-2-preserved : goal.blocks-2-preserved
blocks-2-preserved c =
    let b = c.block_at.ensures in
    record {
      same = sym (past_block c.args.z.now c.blocks-2.at c.block_at.result b.block b.holds b.fits (omega (arith, c.if-bits-ne0.false))) ∙ c.blocks-2.invariant.same;
      within = b.block.within;
      block = record { begun = omega (arith, b.block.begun, b.holds); within = b.block.within; full = b.block.full; told = b.block.told };
    }
