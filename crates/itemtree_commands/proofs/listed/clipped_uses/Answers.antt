use Rattle.std.proofs.Common.{subst}
use Rattle.rust_items.specs.SourceFiles.{file_view}
use Rattle.itemtree_commands.specs.Trees.{IsTreeIn}
use Rattle.itemtree_commands.proofs.listed.clipped_uses.Goals as goal

pub returns-clause-tree : goal.returns-clause-tree
returns-clause-tree c =
    let file = file_view c.in_ok-read.read.file in
    record {
      file = file;
      is_clipped = c.in_ok-read.ensures.file;
      is_tree = subst (λ ns. IsTreeIn c.args.options.now.krate ns file c.in_ok-source.source) c.deref.ensures.value c.in_ok-source.ensures.tree;
      uses = c.in_ok-uses.ensures;
    }
