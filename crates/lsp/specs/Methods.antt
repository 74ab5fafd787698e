-- The methods of requests and notifications.
use Rattle.std.specs.Prelude.{ℕ, List, codes, bytes_eq, if◌then◌else◌}
use Rattle.lsp.specs.declared.method.RequestMethod.{RequestMethod}
use Rattle.lsp.specs.declared.method.RequestMethod.TheVariants.{Initialize, Shutdown, DocumentSymbol, Ranges, Unknown}
use Rattle.lsp.specs.declared.method.RangeKind.TheVariants.{Folding, Selection, Highlight}
use Rattle.lsp.specs.declared.method.NotificationMethod.{NotificationMethod}
use Rattle.lsp.specs.declared.method.NotificationMethod.TheVariants.{Exit, DidOpen, DidChange, DidClose, Other}

-- what a request asks for
abbrev pub request_method : List ℕ → RequestMethod
request_method word =
    if bytes_eq word (codes "initialize") then Initialize
    else (if bytes_eq word (codes "shutdown") then Shutdown
    else (if bytes_eq word (codes "textDocument/documentSymbol") then DocumentSymbol
    else (if bytes_eq word (codes "textDocument/foldingRange") then Ranges Folding
    else (if bytes_eq word (codes "textDocument/selectionRange") then Ranges Selection
    else (if bytes_eq word (codes "textDocument/documentHighlight") then Ranges Highlight else Unknown)))))

-- what a notification tells
abbrev pub notification_method : List ℕ → NotificationMethod
notification_method word =
    if bytes_eq word (codes "exit") then Exit
    else (if bytes_eq word (codes "textDocument/didOpen") then DidOpen
    else (if bytes_eq word (codes "textDocument/didChange") then DidChange
    else (if bytes_eq word (codes "textDocument/didClose") then DidClose else Other)))
