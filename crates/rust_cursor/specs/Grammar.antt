-- Rules, as data: what is read where. Readers are computed from them, and each law of readers is shown once for all rules.
use Rattle.std.specs.Prelude.{◌≡◌, ℕ, Bool, true, false, if◌then◌else◌, Option, Some, None, List, [], bytes_eq}
use Rattle.hir_input.specs.declared.edition.EditionYear.{EditionYear}
use Rattle.rust_lexer.specs.declared.kind.TokenKind.TheVariants as kinds
use Rattle.rust_cursor.specs.Reader.{Reader}
use Rattle.rust_cursor.specs.Words.{symbol, kind, text, bumped, eat, eat_word, eat_pair}
use Rattle.rust_cursor.specs.Brackets.{behind_tree, behind_closed}
use Rattle.rust_cursor.specs.Angles.{behind_angles, behind_field}
use Rattle.rust_cursor.specs.Extents.{tree_text}
use Rattle.rust_cursor.specs.Elements.{turns, one}
use Rattle.rust_cursor.specs.Looks.{is_edge, View, Lookahead, sees, skip, stays_short, may_skip}

-- a view of an identifier, which may be raw
abbrev pub Identifier : Type 0 → Type 0
Identifier A = EditionYear → Bool → List ℕ → Option A

-- nothing is seen of other tokens
abbrev pub by_identifier : {A : Type 0} → Identifier A → View (Option A)
by_identifier view y (Some kinds.Ident) z = view y false z
by_identifier view y (Some kinds.RawIdent) z = view y true z
by_identifier view y _ z = None

-- a token is taken where there is something
abbrev pub taken_with : {A : Type 0} → Option A → Reader (Option A)
taken_with None ts = (None, ts)
taken_with (Some a) ts = (Some a, bumped ts)

-- Whether a rule may take a token at which texts may part, as the `{` in front of a list.
pub data Region : Type 0 where
  outside : Region
  inside : Region

pub data Grammar : Region → Type 0 → Type 1 where
  -- nothing is taken
  gives : {s : Region} {A : Type 0} → A → Grammar s A
  -- a rule, and behind it the rule of what it read
  and_then : {s : Region} {A B : Type 0} → Grammar s A → (A → Grammar s B) → Grammar s B
  -- what the next token shows, which stays
  shows : {s : Region} {A : Type 0} → View A → Grammar s A
  -- what the next token shows, if it is an identifier, which is taken if it shows something
  takes_identifier : {s : Region} {A : Type 0} → Identifier A → Grammar s (Option A)
  -- the first rule behind so many tokens, if this is seen, or else the second
  on_seen : {s : Region} {A : Type 0} (l : Lookahead) (n : ℕ) → may_skip l n ≡ true → Grammar s A → Grammar s A → Grammar s A
  -- whether this punctuation comes next, which is taken
  eats : {s : Region} (c : ℕ) → is_edge c ≡ false → Grammar s Bool
  -- the same of a word
  eats_word : {s : Region} (w : List ℕ) → bytes_eq [] w ≡ false → Grammar s Bool
  -- the same of two symbols with nothing between them
  eats_pair : {s : Region} (c d : ℕ) → is_edge c ≡ false → is_edge d ≡ false → Grammar s Bool
  -- up to the bracket that closes one of this symbol, and it
  passes_closed : {s : Region} → ℕ → Grammar s (Unit {0})
  -- a token, or what stands in brackets
  passes_tree : {s : Region} → Grammar s (Unit {0})
  -- what stands in angle brackets, if one comes next
  passes_angles : {s : Region} → Grammar s (Unit {0})
  -- up to the end of a field
  passes_field : {s : Region} → Grammar s (Unit {0})
  -- a rule again and again, up to where this is seen
  repeats : {s : Region} {A : Type 0} (l : Lookahead) → stays_short l ≡ true → Grammar s A → Grammar s (List A)
  -- a rule of the other side
  from_outside : {A : Type 0} → Grammar outside A → Grammar inside A
  -- any token
  takes_any : Grammar inside (Unit {0})
  -- the text of a token, or of what stands in brackets with these
  takes_text : Grammar inside (List ℕ)
  -- a rule in the bracket that comes next, of which what is left is passed over
  in_bracket : {A : Type 0} → Grammar inside A → Grammar inside A

-- what a rule reads
abbrev pub reads : {s : Region} {A : Type 0} → Grammar s A → Reader A
reads (gives a) ts = (a, ts)
reads (and_then m f) ts = reads (f (reads m ts).0) (reads m ts).1
reads (shows view) ts = (view ts.edition (kind ts) (text ts), ts)
reads (takes_identifier view) ts = taken_with (by_identifier view ts.edition (kind ts) (text ts)) ts
reads (on_seen l n p g h) ts = if sees l ts then reads g (skip n ts) else reads h ts
reads (eats c p) ts = eat c ts
reads (eats_word w p) ts = eat_word w ts
reads (eats_pair c d p q) ts = eat_pair c d ts
reads (passes_closed c) ts = (tt, behind_closed c ts)
reads passes_tree ts = (tt, behind_tree ts)
reads passes_angles ts = (tt, behind_angles ts)
reads passes_field ts = (tt, behind_field ts)
reads (repeats l p g) ts = turns (sees l) (one (reads g)) ts
reads (from_outside g) ts = reads g ts
reads takes_any ts = (tt, bumped ts)
reads takes_text ts = tree_text ts
reads (in_bracket g) ts = ((reads g (bumped ts)).0, behind_closed (symbol ts) (reads g (bumped ts)).1)

infixl 10 ◌>>=◌
abbrev pub ◌>>=◌ : {s : Region} {A B : Type 0} → Grammar s A → (A → Grammar s B) → Grammar s B
◌>>=◌ m f = and_then m f

-- what is read, as something else
abbrev pub reads_as : {s : Region} {A B : Type 0} → (A → B) → Grammar s A → Grammar s B
reads_as f m = and_then m (λ a. gives (f a))
