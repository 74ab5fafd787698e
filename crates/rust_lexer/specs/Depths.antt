-- In how many brackets tokens stand that are in braces, and where the last of these is closed.
use Rattle.std.specs.Prelude.{ℕ, ◌+◌, ◌-◌, ◌==◌, ◌&&◌, ◌||◌, if◌then◌else◌, Option, Some, None, List, [], ◌∷◌}
use Rattle.rust_lexer.specs.declared.depth.Depth.{Depth}
use Rattle.rust_lexer.specs.Piece.{Piece}
use Rattle.rust_lexer.specs.Symbol.{symbol_of}

-- behind a token of this symbol
abbrev pub depth_behind : Depth → ℕ → Depth
depth_behind d c = record {
  braces = if c == 123 then d.braces + 1 else (if c == 125 then d.braces - 1 else d.braces);
  inner = if c == 40 || c == 91 then d.inner + 1 else (if c == 41 || c == 93 then d.inner - 1 else d.inner);
  is_torn = d.is_torn || (d.inner == 0 && (c == 41 || c == 93));
}

-- What is left from the `}` on that closes all of so many braces, and the brackets that it stands in; or nothing.
abbrev pub to_outer : Depth → List Piece → Option (Depth × List Piece)
to_outer d [] = None
to_outer d (t ∷ ts) = if d.braces == 1 && symbol_of t == 125 then Some (d, t ∷ ts) else to_outer (depth_behind d (symbol_of t)) ts
