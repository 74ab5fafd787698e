use Rattle.std.proofs.Common.{◌≡◌, take, string_bytes}
use Rattle.module_tree.specs.{Inner.texts, Paths.folder_text}
use Rattle.module_tree.proofs.paths.folder_text.Given as goal

abbrev pub invariant-loop-name : goal.invariant-loop-name
invariant-loop-name l = string_bytes l.text ≡ folder_text (texts (take l.name-index l.names))
