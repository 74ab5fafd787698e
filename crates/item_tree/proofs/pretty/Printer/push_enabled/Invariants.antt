use Rattle.std.proofs.Common.{take, flat_map}
use Rattle.item_tree.proofs.Common.{lines_of_text, attr_text, Gains}
use Rattle.item_tree.proofs.pretty.Printer.push_enabled.Given as goal

abbrev pub invariant-loop-attr : goal.invariant-loop-attr
invariant-loop-attr l = Gains l.fn.out l.out (flat_map (λ a. lines_of_text l.self.level (attr_text l.self.edition.now.reserved.items l.opening a)) (take l.attr-index l.attr-items))
