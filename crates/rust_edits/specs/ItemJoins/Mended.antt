-- Texts one behind another, of which the brackets are mended.
use Rattle.std.specs.Prelude.{◌≡◌, ◌<◌, ℕ, ◌==◌, Bool, true, false, not, if◌then◌else◌, List, [], ◌∷◌, ◌++◌, length, IsUtf8}
use Rattle.hir_input.specs.declared.edition.EditionYear.{EditionYear}
use Rattle.rust_lexer.specs.Tokens.{tokens, tokens_from}
use Rattle.rust_cursor.specs.Elements.{most_tokens}
use Rattle.rust_mended.specs.Apart.{StandApart, begin_with_item}
use Rattle.rust_mended.specs.Marks.{marks}
use Rattle.rust_mended.specs.Mended.{closers_reaching}
use Rattle.rust_mended.specs.Texts.{is_matched, mended_text}
use Rattle.rust_items.specs.LineEnds.{with_feeds}
use Rattle.rust_items.specs.SourceFiles.{found_in}
use Rattle.rust_edits.specs.ItemJoins.Joined.{EndsWhole, BeginsAnew, ReadsBoth}
use Rattle.rust_edits.specs.ItemJoins.Open.{ReadsOn, StandsBefore}

-- a problem is told of a text
abbrev pub is_told : EditionYear → List ℕ → Bool
is_told edition text = not (length (found_in edition (with_feeds text)).problems == 0)

-- the text that lists are read from: where a problem is told of a text, its mended text
abbrev pub text_for_lists : EditionYear → List ℕ → List ℕ
text_for_lists edition text = if is_told edition text then mended_text text else text

-- the same of three texts without the carriage returns before line feeds
abbrev pub ReadsBothIn : EditionYear → List ℕ → List ℕ → List ℕ → Type 0
ReadsBothIn edition text x y = ReadsBoth edition (with_feeds text) (with_feeds x) (with_feeds y)

-- A text that ends with a whole item at the top when its brackets are mended, and what may stand behind the end of its line.
pub record StandsInFront (edition : EditionYear) (q z s : List ℕ) : Type 0 where
  pub apart : StandApart q z s
  pub whole : EndsWhole true 128 edition (with_feeds (mended_text q))
  pub anew : BeginsAnew edition (with_feeds (z ++ 10 ∷ mended_text s))
  pub short : length (with_feeds (mended_text q ++ (z ++ 10 ∷ mended_text s))) < most_tokens

-- Where the brackets of the first match, whatever is damaged in the second: both are read as alone, and the first as it stands.
abbrev pub ItemsBefore : Type 0
ItemsBefore = (edition : EditionYear) (q z s : List ℕ) → StandsInFront edition q z s → is_matched q ≡ true → ReadsBothIn edition (mended_text (q ++ (z ++ 10 ∷ s))) q (z ++ 10 ∷ mended_text s)

-- Where the second begins with an item in column 0 and has no closer too many: both are read as alone, each mended by itself.
abbrev pub ItemsBehind : Type 0
ItemsBehind = (edition : EditionYear) (q z s : List ℕ) → StandsInFront edition q z s → IsUtf8 q → begin_with_item (marks s) ≡ true → closers_reaching (marks s) ≡ []
    → ReadsBothIn edition (mended_text (q ++ (z ++ 10 ∷ s))) (mended_text q) (z ++ 10 ∷ mended_text s)

-- ---- behind items without their ends

-- A text that may end with such items when its brackets are mended, and with no carriage return.
pub record StandsOpen (edition : EditionYear) (q z s : List ℕ) : Type 0 where
  pub apart : StandApart q z s
  pub feeds : with_feeds (mended_text q ++ (z ++ 10 ∷ mended_text s)) ≡ with_feeds (mended_text q) ++ with_feeds (z ++ 10 ∷ mended_text s)
  pub before : StandsBefore edition (with_feeds (mended_text q)) (with_feeds (z ++ 10 ∷ mended_text s))
  pub short : length (with_feeds (mended_text q ++ (z ++ 10 ∷ mended_text s))) < most_tokens

-- Where the second begins with an item in column 0 and has no closer too many, what is read ends with what is read of the second.
abbrev pub OpenBehind : Type 0
OpenBehind = (edition : EditionYear) (q z s : List ℕ) → StandsOpen edition q z s → IsUtf8 q → begin_with_item (marks s) ≡ true → closers_reaching (marks s) ≡ []
    → ReadsOn edition (with_feeds (mended_text (q ++ (z ++ 10 ∷ s)))) (length (with_feeds (mended_text q))) (with_feeds (z ++ 10 ∷ mended_text s))

-- ---- what lists are read from

-- The same of a text of which no problem is told, in front of any text.
pub record StandsSound (edition : EditionYear) (q z s : List ℕ) : Type 0 where
  pub front : StandsInFront edition q z s
  pub matched : is_matched q ≡ true
  pub sound : is_told edition q ≡ false
  pub plain : tokens (z ++ 10 ∷ s) ≡ tokens_from 0 0 (z ++ 10 ∷ s)
  pub anew : BeginsAnew edition (with_feeds (z ++ 10 ∷ s))
  pub short : length (with_feeds (q ++ (z ++ 10 ∷ s))) < most_tokens

-- what lists are read from is a text and what they are read from of another; both are read as alone
pub record ListsBoth (edition : EditionYear) (q y : List ℕ) : Type 0 where
  pub text : text_for_lists edition (q ++ y) ≡ q ++ text_for_lists edition y
  pub read : ReadsBothIn edition (text_for_lists edition (q ++ y)) q (text_for_lists edition y)

-- So the text that lists are read from has such a text as it stands, and that is read as alone, whether the text behind it is mended or not.
abbrev pub ListsBefore : Type 0
ListsBefore = (edition : EditionYear) (q z s : List ℕ) → StandsSound edition q z s → ListsBoth edition q (z ++ 10 ∷ s)
