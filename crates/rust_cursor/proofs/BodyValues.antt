-- Readers of two texts that may go into the braces: until one does, what they read is alike, and what is left stands beside.
use Rattle.rust_cursor.proofs.Common.{Tokens, Bodies, Beside}
use Rattle.rust_cursor.proofs.BodyReaders.{Gone}

-- what is read is alike, and what is left stands beside
pub record KeptBy {A : Type 0} (alike : A → A → Type 0) (b : Bodies) (p q : A × Tokens) : Type 0 where
  pub value : alike p.0 q.0
  pub rest : Beside b p.1 q.1

-- the one went into the braces, or what both read is alike
pub data UntilBy {A : Type 0} (alike : A → A → Type 0) (b : Bodies) : A × Tokens → A × Tokens → Type 0 where
  went : {p q : A × Tokens} → Gone b p.1 → UntilBy alike b p q
  stayed : {p q : A × Tokens} → KeptBy alike b p q → UntilBy alike b p q

pub by_stayed : {A B : Type 0} {alike : A → A → Type 0} {b : Bodies} {p q : A × Tokens} → UntilBy alike b p q → (Gone b p.1 → B) → (KeptBy alike b p q → B) → B
by_stayed (went g) lost same = lost g
by_stayed (stayed k) lost same = same k
