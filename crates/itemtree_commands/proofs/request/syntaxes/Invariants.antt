use Rattle.std.proofs.Common.{map, take, string_bytes}
use Rattle.itemtree_commands.proofs.Common.{syntax_view}
use Rattle.itemtree_commands.specs.RequestTexts.{AreRead}
use Rattle.itemtree_commands.proofs.request.syntaxes.Given as goal

abbrev pub invariant-loop-text : goal.invariant-loop-text
invariant-loop-text l = record {
  read : AreRead l.edition (map string_bytes (take l.text-index l.fn.texts)) (map syntax_view l.files.items);
}
