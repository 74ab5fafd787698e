use Rattle.std.proofs.Common.{append_assoc}
use Rattle.item_tree.proofs.Common.{macro_rules_header}
use Rattle.item_tree.proofs.Paging.{gains_item}
use Rattle.item_tree.proofs.pretty.Printer.push_macro_rules.Goals as goal

pub returns : goal.returns
unfolding macro_rules_header
returns c =
    let a = c.args in
    gains_item c.writeln.result a.out.now c.start_header.new.out c.writeln.new.self a.self.level a.ast_id (macro_rules_header a.self.edition.now.reserved.items a.item.now.name) _ c.in_ok-start_header.ensures c.writeln.ensures.bytes
    (rw (c.display-name.ensures) (simp append_assoc))
