use Rattle.std.proofs.Common.{append_assoc}
use Rattle.item_tree.proofs.Common.{on_ok_weaker, id_text, call_id_text}
use Rattle.item_tree.proofs.Paging.{gains_line}
use Rattle.item_tree.proofs.pretty.Printer.push_call_id.Goals as goal

pub returns : goal.returns
unfolding id_text call_id_text
returns c =
    let a = c.args in
    let shown = call_id_text a.ast_id a.item.now.ctxt a.item.now.expand_to in
    on_ok_weaker c.writeln.result (λ written. gains_line a.out.now c.push_indent.new.out c.writeln.new.self a.self.level shown _ c.in_ok-push_indent.ensures written (simp append_assoc)) c.writeln.ensures.bytes
