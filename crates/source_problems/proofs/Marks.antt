-- Marks that are passed one by one.
use Rattle.std.proofs.Common.{◌≡◌, ◌<◌, ◌+◌, ◌-◌, ℕ, suc, Bool, true, false, if◌then◌else◌, List, Option, Some, None, ap, sym, ◌∙◌, arith}
use Rattle.std.specs.Option.{option_and_then}
use Rattle.rust_lexer.specs.Piece.{Piece}
use Rattle.source_problems.specs.Markers.{behind_first_mark, behind_marks}

-- the marks that are left: one, and those behind it
turn : (i symbol : ℕ) (ts : List Piece) (one all : Option (List Piece)) → i < 7 → behind_first_mark symbol ts ≡ one → behind_marks (7 - i) symbol ts ≡ all → option_and_then (behind_marks (7 - (i + 1)) symbol) one ≡ all
turn i symbol ts one all h e inv =
    let left : suc (7 - (i + 1)) ≡ 7 - i = omega arith in
    ap (option_and_then (behind_marks (7 - (i + 1)) symbol)) (sym e) ∙ ap (λ n. behind_marks n symbol ts) left ∙ inv

pub mark_passed : (i symbol : ℕ) (ts after : List Piece) (all : Option (List Piece)) (is_mark : Bool) → i < 7 → is_mark ≡ true → behind_first_mark symbol ts ≡ (if is_mark then Some after else None) → behind_marks (7 - i) symbol ts ≡ all
    → behind_marks (7 - (i + 1)) symbol after ≡ all
mark_passed i symbol ts after all is_mark h t e inv = turn i symbol ts (Some after) all h (e ∙ ap (λ b. if b then Some after else None) t) inv

pub mark_missed : (i symbol : ℕ) (ts after : List Piece) (all : Option (List Piece)) (is_mark : Bool) → i < 7 → is_mark ≡ false → behind_first_mark symbol ts ≡ (if is_mark then Some after else None) → behind_marks (7 - i) symbol ts ≡ all → all ≡ None
mark_missed i symbol ts after all is_mark h t e inv = sym (turn i symbol ts None all h (e ∙ ap (λ b. if b then Some after else None) t) inv)
