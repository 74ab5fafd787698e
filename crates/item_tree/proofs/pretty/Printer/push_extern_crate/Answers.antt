use Rattle.std.proofs.Common.{append_assoc}
use Rattle.item_tree.proofs.Common.{extern_crate_header}
use Rattle.item_tree.proofs.Paging.{gains_item}
use Rattle.item_tree.proofs.pretty.Printer.push_extern_crate.Goals as goal

pub returns-in-Some : goal.returns-in-Some
unfolding extern_crate_header
returns-in-Some c =
    let a = c.args in
    gains_item c.writeln.result a.out.now c.start_header.new.out c.writeln.new.self a.self.level a.ast_id (extern_crate_header a.self.edition.now.reserved.items a.item.now.name a.visibility.now a.item.now.alias) _ c.in_ok-start_header.ensures c.writeln.ensures.bytes
    (rw (c.in-Some.is, c.display-visibility.ensures, c.display-name.ensures, c.display-alias.ensures) (simp append_assoc))

pub returns-in-None : goal.returns-in-None
unfolding extern_crate_header
returns-in-None c =
    let a = c.args in
    gains_item c.writeln-in-None.result a.out.now c.start_header.new.out c.writeln-in-None.new.self a.self.level a.ast_id (extern_crate_header a.self.edition.now.reserved.items a.item.now.name a.visibility.now a.item.now.alias) _ c.in_ok-start_header.ensures c.writeln-in-None.ensures.bytes
    (rw (c.in-None.is, c.display-visibility.ensures, c.display-name.ensures) (simp append_assoc))
