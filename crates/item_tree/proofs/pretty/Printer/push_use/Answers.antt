use Rattle.std.proofs.Common.{append_assoc}
use Rattle.item_tree.proofs.Common.{use_header}
use Rattle.item_tree.proofs.Paging.{gains_item}
use Rattle.item_tree.proofs.pretty.Printer.push_use.Goals as goal

pub returns : goal.returns
unfolding use_header
returns c =
    let a = c.args in
    gains_item c.writeln.result a.out.now c.start_header.new.out c.writeln.new.self a.self.level a.ast_id (use_header a.self.edition.now.reserved.items a.visibility.now a.item.now.tree) _ c.in_ok-start_header.ensures c.writeln.ensures.bytes
    (rw (c.display-visibility.ensures, c.display-tree.ensures, c.use_tree.ensures.value) (simp append_assoc))
