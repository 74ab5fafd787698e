-- Comments, behind their first two bytes.
use Rattle.std.specs.Prelude.{ℕ, suc, ◌+◌, ◌-◌, Bool, true, false, not, ◌&&◌, ◌||◌, ◌==◌, if◌then◌else◌, List, [], ◌∷◌, slice_index, Option, Some, None}
use Rattle.rust_lexer.specs.declared.kind.DocStyle.{DocStyle}
use Rattle.rust_lexer.specs.declared.kind.DocStyle.TheVariants.{Outer, Inner}
use Rattle.rust_lexer.specs.declared.quoted.Extent.{Extent}
use Rattle.rust_lexer.specs.Quoted.{closed_extent, unclosed_extent}

-- INNER_LINE_DOC `//!` and OUTER_LINE_DOC `///`, but not `////`
abbrev pub line_style : List ℕ → Option DocStyle
line_style z =
    if slice_index z 0 == 33 then Some Inner
    else (if slice_index z 0 == 47 && not (slice_index z 1 == 47) then Some Outer else None)

-- INNER_BLOCK_DOC `/*!` and OUTER_BLOCK_DOC `/**`, but neither `/***` nor `/**/`
abbrev pub block_style : List ℕ → Option DocStyle
block_style z =
    if slice_index z 0 == 33 then Some Inner
    else (if slice_index z 0 == 42 && not (slice_index z 1 == 42 || slice_index z 1 == 47) then Some Outer else None)

-- BLOCK_COMMENT: up to the `*/` that closes it, where `depth` more are open. A byte may be the second of a `/*` or a `*/`.
abbrev pub block : Bool → ℕ → ℕ → List ℕ → Extent
block is_second depth n [] = unclosed_extent n
block true depth n (b ∷ z) = block false depth (suc n) z
block false depth n (b ∷ z) =
    if b == 42 && slice_index z 0 == 47 then (if depth == 0 then closed_extent (n + 2) else block true (depth - 1) (suc n) z)
    else (if b == 47 && slice_index z 0 == 42 then block true (depth + 1) (suc n) z else block false depth (suc n) z)
