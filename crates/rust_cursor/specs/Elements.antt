-- What is read again and again.
use Rattle.std.specs.Prelude.{ℕ, zero, suc, Bool, ◌==◌, if◌then◌else◌, Option, option_to_list, List, [], ◌∷◌, ◌++◌}
use Rattle.rust_cursor.specs.Tokens.{Tokens}
use Rattle.rust_cursor.specs.Reader.{Reader}
use Rattle.rust_cursor.specs.Words.{is_at_end}
use Rattle.rust_cursor.specs.Brackets.{behind_tree}

-- no text has more tokens
unfoldable pub most_tokens : ℕ
most_tokens = 18446744073709551615

-- Where no token was taken since this place, one is passed over, or what stands in brackets.
unfoldable pub progress_from : ℕ → Tokens → Tokens
progress_from past ts = if ts.past == past then behind_tree ts else ts

-- As many turns of a reader as stand there before an end, at most so many. A turn that takes nothing passes over a token.
abbrev pub turns_from : {A : Type 0} → (Tokens → Bool) → Reader (List A) → ℕ → List A → Reader (List A)
turns_from ends reader zero done ts = (done, ts)
turns_from ends reader (suc n) done ts =
    if ends ts then (done, ts) else turns_from ends reader n (done ++ (reader ts).0) (progress_from ts.past (reader ts).1)

unfoldable pub turns : {A : Type 0} → (Tokens → Bool) → Reader (List A) → Reader (List A)
turns ends reader ts = turns_from ends reader most_tokens [] ts

-- the elements up to a bracket that closes, or to the end
abbrev pub elements : {A : Type 0} → Reader (List A) → Reader (List A)
elements reader = turns is_at_end reader

-- a reader of one element, and of one or none
abbrev pub one : {A : Type 0} → Reader A → Reader (List A)
one reader ts = ((reader ts).0 ∷ [], (reader ts).1)

abbrev pub perhaps : {A : Type 0} → Reader (Option A) → Reader (List A)
perhaps reader ts = (option_to_list (reader ts).0, (reader ts).1)
