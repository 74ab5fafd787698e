-- Small texts, by computing.
use Rattle.std.proofs.Common.{◌≡◌, ℕ, true, List, [], ◌∷◌, ◌++◌, refl}
use Rattle.rust_lexer.specs.Bytes.{is_wide_continue, is_wide_start}
use Rattle.rust_lexer.specs.Cut.{first_cut}
use Rattle.rust_lexer.specs.Tokens.{tokens}
use Rattle.rust_mended.specs.declared.bracket.Bracket.TheVariants as bracket
use Rattle.rust_mended.specs.declared.edit.EditKind.TheVariants as edit
use Rattle.rust_mended.specs.Apart.{StandApart, begin_with_item}
use Rattle.rust_mended.specs.Marks.{marks}
use Rattle.rust_mended.specs.Texts.{edits, mended_text}

-- `a(`, blank, and `b{}`
front : List ℕ
front = 97 ∷ 40 ∷ []

item : List ℕ
item = 98 ∷ 123 ∷ 125 ∷ []

apart : StandApart front (32 ∷ []) item
unfolding front item tokens first_cut is_wide_start is_wide_continue
apart = record { blanks = refl; ends = refl; bare = refl; uncut = refl }

begins : begin_with_item (marks item) ≡ true
unfolding item tokens first_cut is_wide_start is_wide_continue
begins = refl

-- what is told of `a(`, and mended
told : edits front ≡ record { at = 2; told = 1; kind = edit.Put bracket.Round } ∷ []
unfolding front edits tokens first_cut is_wide_start is_wide_continue
told = refl

mended : mended_text (front ++ (32 ∷ 10 ∷ item)) ≡ 97 ∷ 40 ∷ 41 ∷ 32 ∷ 10 ∷ item
unfolding front item mended_text edits tokens first_cut is_wide_start is_wide_continue
mended = refl
