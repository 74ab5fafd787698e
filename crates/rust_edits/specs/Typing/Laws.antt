-- The law.
use Rattle.std.specs.Prelude.{◌≡◌, ℕ, Bool, true, false, not, ◌==◌, ◌&&◌, ◌||◌, Some, None, List, [], ◌∷◌, ◌++◌, length, filter}
use Rattle.hir_input.specs.declared.edition.EditionYear.{EditionYear}
use Rattle.hir_input.specs.Bodies.{without_bodies}
use Rattle.rust_lexer.specs.declared.kind.DocStyle.TheVariants.{Inner}
use Rattle.rust_lexer.specs.Alone.{is_fence, is_full, overhang, tokens_in_front, StandsAlone}
use Rattle.rust_lexer.specs.Piece.{Piece}
use Rattle.rust_lexer.specs.Symbol.{symbol_of}
use Rattle.rust_lexer.specs.Tokens.{has_mark, is_shebang, is_significant, tokens_from}
use Rattle.rust_cursor.specs.Words.{by_first, rest}
use Rattle.rust_metas.specs.Attributes.{is_style}
use Rattle.rust_metas.specs.Literals.{style_by}
use Rattle.rust_items.specs.LineEnds.{with_feeds}
use Rattle.rust_items.specs.SourceFiles.{FileView, found_in, IsFileView}
use Rattle.rust_items.specs.Typed.{has_body}

-- a text with this between two braces
abbrev pub with_body : List ℕ → List ℕ → List ℕ → List ℕ
with_body q m s = q ++ 123 ∷ (m ++ 125 ∷ s)

-- The `{` behind these bytes is a token of the text, which begins with neither a byte order mark, a shebang line nor frontmatter: what is
-- typed may close a comment behind `#!`, and so make a shebang line an attribute.
pub record OpensAt (q y : List ℕ) : Type 0 where
  pub full : is_full q ≡ true
  pub one : overhang 0 q (123 ∷ y) ≡ 0
  pub plain : has_mark (q ++ 123 ∷ y) ≡ false
  pub unfenced : is_fence (q ++ 123 ∷ y) ≡ false
  pub bare : is_shebang (tokens_from 0 0 (q ++ 123 ∷ y)) ≡ false

-- The braces are those of an item of the text: its body. Modules, extern blocks and uses have none.
abbrev pub IsBody : EditionYear → List ℕ → List ℕ → List ℕ → Type 0
IsBody edition q m s = has_body (length q) (found_in edition (with_body q m s)).spans ≡ true

-- neither inner documentation comes next, nor `#![`
abbrev pub first_plain : List Piece → Bool
first_plain ts =
    not (is_style Inner (style_by (by_first None (λ t. Some t.kind) ts)) || (by_first 0 symbol_of ts == 35 && (by_first 0 symbol_of (rest ts) == 33 && by_first 0 symbol_of (rest (rest ts)) == 91)))

-- what stands between braces begins, behind white space and comments, with no inner attribute
abbrev pub BeginsPlain : List ℕ → Type 0
BeginsPlain m = first_plain (filter is_significant (tokens_in_front 0 0 m (125 ∷ []))) ≡ true

-- a text of which what stands in a body was typed anew
pub record IsTyped (edition : EditionYear) (q m m' s : List ℕ) : Type 0 where
  pub opens : OpensAt q (m ++ 125 ∷ s)
  pub body : IsBody edition q m s
  pub alone : StandsAlone m
  pub alone_new : StandsAlone m'
  pub begins : BeginsPlain m
  pub begins_new : BeginsPlain m'

-- Whatever is typed inside a body, what is read of the text is the same but for body texts, with the same ids.
abbrev pub TypingInside : Type 0
TypingInside = (edition : EditionYear) (q m m' s old new : List ℕ) (read again : FileView) → with_feeds old ≡ with_body q m s → with_feeds new ≡ with_body q m' s → IsTyped edition q m m' s
    → IsFileView edition old read → IsFileView edition new again → without_bodies read.syntax ≡ without_bodies again.syntax
