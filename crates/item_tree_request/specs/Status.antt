-- The exit status of an error.
use Rattle.std.specs.Prelude.{ℕ}
use Rattle.item_tree_request.specs.declared.error.RunError.{RunError}
use Rattle.item_tree_request.specs.declared.error.RunError.TheVariants.{NotJson, NotRequest, Refused, OutOfMemory, Read, Write}

-- each error's own, but reading and writing share one
abbrev pub status_of : RunError → ℕ
status_of NotJson = 2
status_of NotRequest = 3
status_of (Refused place cause) = 4
status_of OutOfMemory = 5
status_of Read = 6
status_of Write = 6
