-- Texts.
use Rattle.std.specs.Prelude.{ℕ, zero, suc, ◌==◌, if◌then◌else◌, Option, Some, None, List, []}
use Rattle.rust_cursor.specs.Tokens.{Tokens}
use Rattle.rust_cursor.specs.Words.{text, bumped}
use Rattle.rust_cursor.specs.Elements.{most_tokens}
use Rattle.rust_paths.specs.Names.{behind_hash}

-- ---- names

abbrev pub or_all : Option (List ℕ) → List ℕ → List ℕ
or_all None text = text
or_all (Some word) text = word

-- an identifier without `r#`
unfoldable pub bare_name : List ℕ → List ℕ
bare_name text = or_all (behind_hash text) text

-- ---- the last of some tokens

abbrev pub last_text_from : ℕ → ℕ → List ℕ → Tokens → List ℕ
last_text_from zero end last ts = last
last_text_from (suc n) end last ts = if ts.past == end then last else last_text_from n end (text ts) (bumped ts)

-- the text of the last token up to a place
unfoldable pub last_text : ℕ → Tokens → List ℕ
last_text end ts = last_text_from most_tokens end [] ts
