-- Rules with places, as data. Places are counted from an anchor, so what is read of two texts that look alike is the same, and not only alike.
use Rattle.std.specs.Prelude.{◌≡◌, ℕ, ◌-◌, true, if◌then◌else◌, List}
use Rattle.rust_cursor.specs.Reader.{Reader}
use Rattle.rust_cursor.specs.Words.{symbol, kind, text, at, bumped}
use Rattle.rust_cursor.specs.Brackets.{behind_closed}
use Rattle.rust_cursor.specs.Elements.{turns, one}
use Rattle.rust_cursor.specs.Looks.{View, Lookahead, sees, skip, stays_short, may_skip}
use Rattle.rust_cursor.specs.Grammar.{inside, Grammar, gives, reads}

pub data Anchored : Type 0 → Type 1 where
  -- a rule that tells no place
  unplaced : {A : Type 0} → Grammar inside A → Anchored A
  -- a rule, and behind it the rule of what it read
  then_from : {A B : Type 0} → Anchored A → (A → Anchored B) → Anchored B
  -- the first rule behind so many tokens, if this is seen, or else the second
  from_seen : {A : Type 0} (l : Lookahead) (n : ℕ) → may_skip l n ≡ true → Anchored A → Anchored A → Anchored A
  -- what the next token shows with where it begins and ends, if this is seen, or else the rule
  spans : {A : Type 0} (l : Lookahead) → may_skip l 1 ≡ true → View (ℕ → ℕ → A) → Anchored A → Anchored A
  -- a rule again and again, up to where this is seen
  repeats_from : {A : Type 0} (l : Lookahead) → stays_short l ≡ true → Anchored A → Anchored (List A)
  -- a rule in the bracket that comes next, of which what is left is passed over
  bracket_from : {A : Type 0} → Anchored A → Anchored A

-- what a rule reads, with places from this anchor
abbrev pub reads_from : {A : Type 0} → ℕ → Anchored A → Reader A
reads_from o (unplaced g) ts = reads g ts
reads_from o (then_from m f) ts = reads_from o (f (reads_from o m ts).0) (reads_from o m ts).1
reads_from o (from_seen l n p g h) ts = if sees l ts then reads_from o g (skip n ts) else reads_from o h ts
reads_from o (spans l p view g) ts =
    if sees l ts then (view ts.edition (kind ts) (text ts) (at ts - o) ((bumped ts).past - o), bumped ts) else reads_from o g ts
reads_from o (repeats_from l p g) ts = turns (sees l) (one (reads_from o g)) ts
reads_from o (bracket_from g) ts = ((reads_from o g (bumped ts)).0, behind_closed (symbol ts) (reads_from o g (bumped ts)).1)

-- nothing is taken
abbrev pub gives_from : {A : Type 0} → A → Anchored A
gives_from a = unplaced (gives a)

-- what is read, as something else
abbrev pub reads_from_as : {A B : Type 0} → (A → B) → Anchored A → Anchored B
reads_from_as f m = then_from m (λ a. gives_from (f a))
