use Rattle.std.proofs.Common.{◌∙◌, ap}
use Rattle.rust_mended.specs.Texts.{puts_from}
use Rattle.rust_mended.proofs.Puts.{text_puts_rise}
use Rattle.rust_mended.proofs.text.mend.Goals as goal

pub invariant_of-result : goal.invariant_of-result
invariant_of-result c = record {
  rising = text_puts_rise c.args.text.now c.in_ok-mended.puts.items c.in_ok-edits.edits.items c.utf8.text c.in_ok-edits.ensures (c.in_ok-mended.ensures.puts ∙ ap (puts_from 0) c.deref.ensures.value);
}
