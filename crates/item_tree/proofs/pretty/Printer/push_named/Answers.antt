use Rattle.std.proofs.Common.{append_assoc}
use Rattle.item_tree.proofs.Common.{named_header}
use Rattle.item_tree.proofs.Paging.{gains_item}
use Rattle.item_tree.proofs.pretty.Printer.push_named.Goals as goal

pub returns : goal.returns
unfolding named_header
returns c =
    let a = c.args in
    gains_item c.writeln.result a.out.now c.start_header.new.out c.writeln.new.self a.self.level a.ast_id (named_header a.self.edition.now.reserved.items a.word.now a.end.now a.name.now a.visibility.now) _ c.in_ok-start_header.ensures c.writeln.ensures.bytes
    (rw (c.display-visibility.ensures, c.display-name.ensures) (simp append_assoc))
