use Rattle.item_tree_tool.proofs.OutlineTexts.{texts_fixed}
use Rattle.item_tree_tool.proofs.outlines.OutlinesShowWriter.are_fixed.Goals as goal

pub returns : goal.returns
returns c = texts_fixed
