-- Texts one behind another.
use Rattle.std.specs.Prelude.{◌≡◌, ◌≢◌, ◌<◌, ℕ, suc, ◌+◌, Bool, true, false, List, [], ◌∷◌, ◌++◌, length, map, slice_index}
use Rattle.hir_input.specs.declared.edition.EditionYear.{EditionYear}
use Rattle.hir_input.specs.Syntax.{ItemView}
use Rattle.hir_input.specs.Attr.{MetaView}
use Rattle.rust_lexer.specs.declared.kind.DocStyle.TheVariants.{Inner}
use Rattle.rust_lexer.specs.Alone.{Stop, opening, stop, is_fence, EndsAlone}
use Rattle.rust_lexer.specs.Bytes.{is_continuation}
use Rattle.rust_lexer.specs.Tokens.{has_mark, is_shebang, tokens_from}
use Rattle.rust_cursor.specs.Elements.{most_tokens}
use Rattle.rust_cursor.specs.Extents.{goes_on}
use Rattle.rust_cursor.specs.Tokens.{Tokens, tokens_of}
use Rattle.rust_metas.specs.Attributes.{inner_attributes, is_behind}
use Rattle.rust_items.specs.Found.{Found, nothing_found, and_all}
use Rattle.rust_items.specs.Items.{finding_from, is_list_end, items, turn}
use Rattle.rust_items.specs.LineEnds.{moved_span, moved_problem}
use Rattle.rust_items.specs.SourceFiles.{behind_attributes, found_in, read_of}
use Rattle.rust_cursor.specs.Looks.{sees}

-- ---- a text, and what may stand behind it

-- a `;` or a `}`
abbrev pub ends_items : Stop → Bool
ends_items opening = false
ends_items _ = true

-- A text ends with a `;` or a `}` that is a token: none before it takes it. No character is cut off, as none is in a text of UTF-8.
pub record EndsOwn (text : List ℕ) : Type 0 where
  pub before : List ℕ
  pub last : Stop
  pub bytes : text ≡ before ++ stop last ∷ []
  pub ends : ends_items last ≡ true
  pub alone : EndsAlone before last

-- A text begins with no byte order mark, no shebang line and no dashes of frontmatter.
pub record IsBare (text : List ℕ) : Type 0 where
  pub mark : has_mark text ≡ false
  pub shebang : is_shebang (tokens_from 0 0 text) ≡ false
  pub fence : is_fence text ≡ false

-- What may stand behind a whole item: it begins with no inner attribute or inner documentation, and with no `>` or `,`, at which a block
-- in angle brackets would not have been the end.
pub record BeginsAnew (edition : EditionYear) (text : List ℕ) : Type 0 where
  pub bare : IsBare text
  pub uncut : is_continuation (slice_index text 0) ≡ false
  pub outer : sees (is_behind Inner) (tokens_of edition text) ≡ true
  pub still : goes_on (tokens_of edition text) ≡ false

-- What is read of a text at the top, or as what stands between braces up to a `}`, where so many modules more may stand in one another.
abbrev pub read_at : Bool → ℕ → EditionYear → List ℕ → List ItemView × (Found × Tokens)
read_at is_top left edition text = items is_top left nothing_found (behind_attributes edition text)

-- the same in so many turns at most, and what is left then
abbrev pub read_so_far : ℕ → Bool → ℕ → EditionYear → List ℕ → List ItemView × (Found × Tokens)
read_so_far turns is_top left edition text = finding_from (is_list_end is_top) (turn left) turns [] nothing_found (behind_attributes edition text)

-- A text ends there with a whole item: with its own `;` or `}`. Behind so many turns something is left, and no problem more is told. What
-- stands before may be damaged; a text without problems is one behind none.
pub record EndsWhole (is_top : Bool) (left : ℕ) (edition : EditionYear) (text : List ℕ) : Type 0 where
  pub bare : IsBare text
  pub ends : EndsOwn text
  pub turns : ℕ
  pub some : (read_so_far turns is_top left edition text).1.1.left ≢ []
  pub sound : (read_at is_top left edition text).1.0.problems ≡ (read_so_far turns is_top left edition text).1.0.problems
  -- all of the text is read, as it is at the top
  pub spent : is_top ≡ false → (read_at is_top left edition text).1.1.left ≡ []

-- ---- what is read of two texts

-- the inner attributes of a text
abbrev pub text_attrs : EditionYear → List ℕ → List MetaView
text_attrs edition text = (inner_attributes (tokens_of edition text)).0

-- what is found in a text that stands so many bytes further on
abbrev pub found_on : ℕ → Found → Found
found_on d f = let on : ℕ → ℕ = (λ n. n + d) in
    record { rows = f.rows; spans = map (moved_span on) f.spans; use_trees = map on f.use_trees; problems = map (moved_problem on) f.problems }

-- What is read of a text is what is read of the first of two, and then what is read of the second, which stands so much further on.
pub record ReadsBoth (edition : EditionYear) (text x y : List ℕ) : Type 0 where
  pub attrs : text_attrs edition text ≡ text_attrs edition x
  pub items : (read_of edition text).0 ≡ (read_of edition x).0 ++ (read_of edition y).0
  pub found : found_in edition text ≡ and_all (found_on (length x) (found_in edition y)) (found_in edition x)

-- A text that ends with a whole item at the top and any text that begins anew behind it are read one after the other, each as it is read alone.
abbrev pub ItemsJoin : Type 0
ItemsJoin = (edition : EditionYear) (x y : List ℕ) → EndsWhole true 128 edition x → BeginsAnew edition y → length (x ++ y) < most_tokens → ReadsBoth edition (x ++ y) x y

-- ---- between braces

-- what is read there of two texts, one behind the other
pub record ReadsBothAt (is_top : Bool) (left : ℕ) (edition : EditionYear) (x y : List ℕ) : Type 0 where
  pub items : (read_at is_top left edition (x ++ y)).0 ≡ (read_at is_top left edition x).0 ++ (read_at is_top left edition y).0
  pub found : (read_at is_top left edition (x ++ y)).1.0 ≡ and_all (found_on (length x) (read_at is_top left edition y).1.0) (read_at is_top left edition x).1.0

-- Between braces too they are read one after the other.
abbrev pub InsideJoin : Type 0
InsideJoin = (is_top : Bool) (left : ℕ) (edition : EditionYear) (x y : List ℕ) → EndsWhole is_top (suc left) edition x → BeginsAnew edition y → length (x ++ y) < most_tokens
    → ReadsBothAt is_top (suc left) edition x y
