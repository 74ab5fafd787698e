use Rattle.std.proofs.Common.{rules}
use Rattle.std.proofs.lemmas.Str.{IsCharBoundary-start}
use Rattle.rust_mended.proofs.replaced.with_edits.Goals as goal

pub edits-init : goal.edits-init
edits-init c = record {
  fits = c.requires;
  begins = IsCharBoundary-start c.args.text.now c.utf8.text;
  text = search rules;
  len = search rules;
  puts = search rules;
}
