-- Readers: each takes tokens from the front, and answers with what it read and what is left.
use Rattle.std.specs.Prelude.{◌≡◌, Bool, if◌then◌else◌, Option, Some, None, Result, Ok, Err}
use Rattle.std.specs.declared.alloc.AllocError.{AllocError}
use Rattle.rust_cursor.specs.Tokens.{Tokens}

abbrev pub Reader : Type 0 → Type 0
Reader A = Tokens → A × Tokens

infixl 10 ◌>>=◌
abbrev pub ◌>>=◌ : {A B : Type 0} → Reader A → (A → Reader B) → Reader B
◌>>=◌ m f = λ ts. f (m ts).0 (m ts).1

abbrev pub pure : {A : Type 0} → A → Reader A
pure a = λ ts. (a, ts)

-- looks at what comes next
abbrev pub look : {A : Type 0} → (Tokens → A) → Reader A
look view = λ ts. (view ts, ts)

-- passes over tokens
abbrev pub pass : (Tokens → Tokens) → Reader (Unit {0})
pass behind = λ ts. (tt, behind ts)

-- what is read where it is to be read
abbrev pub only_if : {A : Type 0} → Reader A → Bool → Reader (Option A)
only_if reader test ts = if test then (Some (reader ts).0, (reader ts).1) else (None, ts)

-- what a function that reads ensures: it read this, unless memory ran out
abbrev pub Gives : {X Y : Type 0} → (X → Y) → Y × Tokens → Result X AllocError → Tokens → Type 0
Gives view reading (Ok x) new = reading ≡ (view x, new)
Gives view reading (Err e) new = Unit {0}
