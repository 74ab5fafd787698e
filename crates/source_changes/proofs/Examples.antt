-- Small texts, by computing: their braces stand, and are a hole; those of a `const fn` are none.
use Rattle.std.proofs.Common.{◌≡◌, ℕ, true, false, ◌++◌, None, Some, List, [], ◌∷◌, codes, refl}
use Rattle.hir_input.specs.declared.ids.AstIdKind.TheVariants as kind
use Rattle.hir_input.specs.declared.ids.FileAstId.{FileAstId}
use Rattle.rust_lexer.specs.Bytes.{is_wide_continue, is_wide_start}
use Rattle.rust_lexer.specs.Cut.{first_cut}
use Rattle.rust_lexer.specs.Number.{past_digits}
use Rattle.rust_lexer.specs.Tokens.{tokens}
use Rattle.rust_items.specs.declared.source_file.ItemPlace.{ItemPlace}
use Rattle.rust_edits.specs.Typing.Laws.{with_body}
use Rattle.rust_items.specs.declared.member.MemberKind.TheVariants as members
use Rattle.rust_items.specs.Members.{MemberRead}
use Rattle.source_changes.specs.Typing.{AreBraces, braces, has_hole, is_member_hole}

-- `fn f() { 1 }`, where ` "}" // x` and a line feed is typed
header : List ℕ
header = codes "fn f() "

one : List ℕ
one = codes " 1 "

two : List ℕ
two = codes " \"}\" // x\n"

stand : AreBraces header one two []
unfolding header one two first_cut is_wide_start is_wide_continue past_digits
stand = record {
  opens = record { full = refl; one = refl; plain = refl; unfenced = refl; bare = refl };
  alone = record { full = refl; begins = refl; ends = refl; matched = refl };
  alone_new = record { full = refl; begins = refl; ends = refl; matched = refl };
}

-- a function from the beginning of a text on, with these braces at its end
function : FileAstId → ℕ → ℕ → ItemPlace
function id from to = record { id = record { kind = kind.Fn; hash = id.hash; number = id.number }; range = record { start = 0; end = to }; name = None; body = Some (record { start = from; end = to }) }

both_holes : (id : FileAstId) → (has_hole (with_body header one []) (braces header one) (function id 7 12) ≡ true) × (has_hole (with_body header two []) (braces header two) (function id 7 19) ≡ true)
unfolding header one two function tokens first_cut is_wide_start is_wide_continue past_digits
both_holes id = (refl, refl)

early : List ℕ
early = codes "const fn f() "

no_hole : (id : FileAstId) → has_hole (with_body early one []) (braces early one) (function id 13 18) ≡ false
unfolding early one function tokens first_cut is_wide_start is_wide_continue past_digits
no_hole id = refl

-- ---- a member: `impl S { fn f() { 1 } }`

before : List ℕ
before = codes "impl S "

member : List ℕ
member = codes " fn f() "

space : List ℕ
space = codes " "

-- its braces stand in the text, and in the text of the braces around it
member_stands : AreBraces (before ++ 123 ∷ member) one two (space ++ 125 ∷ []) × AreBraces (123 ∷ member) one two (space ++ 125 ∷ [])
unfolding before member space one two first_cut is_wide_start is_wide_continue past_digits
member_stands = (
  record {
    opens = record { full = refl; one = refl; plain = refl; unfenced = refl; bare = refl };
    alone = record { full = refl; begins = refl; ends = refl; matched = refl };
    alone_new = record { full = refl; begins = refl; ends = refl; matched = refl };
  },
  record {
    opens = record { full = refl; one = refl; plain = refl; unfenced = refl; bare = refl };
    alone = record { full = refl; begins = refl; ends = refl; matched = refl };
    alone_new = record { full = refl; begins = refl; ends = refl; matched = refl };
  },
)

-- a member from behind `impl S { ` on, with these braces at its end
method : ℕ → ℕ → MemberRead
method from to = record { kind = members.Function; name = None; identifier = None; range = record { start = 9; end = to }; body = Some (record { start = from; end = to }); attrs = []; visibility = None }

member_holes : (is_member_hole (with_body before (with_body member one space) []) (braces (before ++ 123 ∷ member) one) (method 16 21) ≡ true)
    × (is_member_hole (with_body before (with_body member two space) []) (braces (before ++ 123 ∷ member) two) (method 16 28) ≡ true)
unfolding before member space one two method tokens first_cut is_wide_start is_wide_continue past_digits
member_holes = (refl, refl)

early_member : List ℕ
early_member = codes " const fn f() "

no_member_hole : is_member_hole (with_body before (with_body early_member one space) []) (braces (before ++ 123 ∷ early_member) one) (method 22 27) ≡ false
unfolding before early_member space one method tokens first_cut is_wide_start is_wide_continue past_digits
no_member_hole = refl
