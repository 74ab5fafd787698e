use Rattle.std.proofs.Common.{refl, subst}
use Rattle.source_rows.specs.ListedFiles.{closers_in}
use Rattle.itemtree_commands.specs.Answers.{HasListed}
use Rattle.itemtree_commands.proofs.crate_file.CrateFile.read.Goals as goal

pub returns-clause-read : goal.returns-clause-read
returns-clause-read c =
    let found = c.in_ok-listed.listed in record {
      same_path = refl;
      same_text = refl;
      closers = closers_in found.mended;
      source = found.source;
      listed = subst (λ t. HasListed c.args.options.now t (closers_in found.mended) found.source) c.deref.ensures c.in_ok-listed.ensures.tree;
      places = refl;
      use_trees = refl;
      tree = refl;
    }
