-- Places from which spans are counted: they stand before the braces or behind them, as what is left does.
use Rattle.std.proofs.Common.{◌≡◌, ◌≤◌, ◌<◌, ℕ, ◌+◌, ◌-◌, ◌==◌, false, Option, List, [], ◌∷◌, ◌++◌, length, refl, ap, subst, arith, map, nat_lt}
use Rattle.rust_cursor.proofs.Common.{nat_tests, Piece, symbol_of, moved_piece, Tokens, end_of, symbol, at, bumped, Bodies, AreBefore, AreOpen, Beside, ahead, behind}
use Rattle.rust_cursor.proofs.TokenRests.{LeadsTo, here, further, when, bumped_leads}
use Rattle.rust_cursor.proofs.BraceWalks.{tokens_at, bumped_at}
use Rattle.rust_cursor.proofs.PartingReaders.{Onward, into, on}
use Rattle.rust_cursor.proofs.Views.{before_at, behind_at, next_ahead, not_brace}
use Rattle.rust_cursor.proofs.BodyReaders.{over_leads, over_moved, Gone, gone_on, behind_opening}

-- the tokens of the first text before the braces
abbrev ahead_of : Bodies → ℕ → List Piece → List Piece → Option ℕ → Tokens
ahead_of b past x r u = tokens_at b.edition past (x ++ b.opening ∷ (b.old ++ moved_piece b.by b.closing ∷ map (moved_piece b.by) r)) u

-- by the steps from one to the other
data Along : Tokens → Tokens → Type 0 where
  ends : {ts us : Tokens} → ts ≡ us → Along ts us
  goes : {ts us : Tokens} → LeadsTo (bumped ts) us → Along ts us

along : {ts us : Tokens} → LeadsTo ts us → Along ts us
along here = ends refl
along (further p) = goes p

-- what stands past the opening brace went into the braces
past_opening : (b : Bodies) (past : ℕ) (x r : List Piece) (u : Option ℕ) (ts : Tokens) → AreOpen b r → AreBefore b.opening.at past x
    → LeadsTo (ahead_of b past x r u) ts → b.opening.at < ts.past → Gone b ts
past_opening b past [] r u ts o i p far = first (along p)
  where
    first : Along (ahead_of b past [] r u) ts → Gone b ts
    first (ends e) = let same : past ≡ ts.past = ap (λ (t : Tokens). t.past) e in let low : past ≤ b.opening.at = i in absurd (omega (arith, same, low, far))
    first (goes q) = gone_on (behind_opening b past r u o) q
past_opening b past (t ∷ x) r u ts o i p far = first (along p) (λ q. past_opening b (end_of t) x r u ts o i.1 q far)
  where
    first : Along (ahead_of b past (t ∷ x) r u) ts → (LeadsTo (ahead_of b (end_of t) x r u) ts → Gone b ts) → Gone b ts
    first (ends e) more = let same : past ≡ ts.past = ap (λ (t : Tokens). t.past) e in let low : past ≤ b.opening.at = i.0 in absurd (omega (arith, same, low, far))
    first (goes q) more = more (subst (λ (k : Tokens). LeadsTo k ts) (bumped_at b.edition past t (x ++ b.opening ∷ (b.old ++ moved_piece b.by b.closing ∷ map (moved_piece b.by) r)) u) q)

-- A place before the braces, as what is left of both; or one behind them, as that is.
pub data Level (b : Bodies) (a a' : ℕ) (ts us : Tokens) : Type 0 where
  level_ahead : a' ≡ a → ts.past ≤ b.opening.at → Beside b ts us → Level b a a' ts us
  level_behind : (c : ℕ) → a ≡ c + b.by → a' ≡ c + b.by_new → b.opening.at < ts.past → Beside b ts us → Level b a a' ts us

pub level_beside : {b : Bodies} {a a' : ℕ} (ts us : Tokens) → Level b a a' ts us → Beside b ts us
level_beside ts us (level_ahead e i h) = h
level_beside ts us (level_behind c e e' i h) = h

-- the place of what is left
pub level_here : (b : Bodies) (ts us : Tokens) → Beside b ts us → Level b (at ts) (at us) ts us
unfolding at
level_here b ts us (ahead past [] r u u' i j) = level_ahead refl (before_at b.opening.at past [] i) (ahead past [] r u u' i j)
level_here b ts us (ahead past (t ∷ x) r u u' i j) = level_ahead refl (before_at b.opening.at past (t ∷ x) i) (ahead past (t ∷ x) r u u' i j)
level_here b ts us (behind past [] u u' i) = level_behind past refl refl (let far = b.apart in omega arith) (behind past [] u u' i)
level_here b ts us (behind past (t ∷ r) u u' i) = let low : end_of b.closing ≤ past = i.0.0 in let far = b.apart in level_behind t.at refl refl (omega arith) (behind past (t ∷ r) u u' i)

-- what is left of tokens before the braces stands before them, or went into them
ahead_on : {b : Bodies} {vs : Tokens} (ts us : Tokens) → ts.past ≤ b.opening.at → Beside b ts us → LeadsTo ts vs → (b.opening.at < vs.past) → Gone b vs
ahead_on {b} {vs} ts us i (ahead past x r u u' j k) p far = past_opening b past x r u vs k j p far
ahead_on {b} {vs} ts us i (behind past r u u' j) p far = let low = behind_at (end_of b.closing) past r j in let apart = b.apart in absurd (omega arith)

-- and of those behind them behind them
behind_on : {b : Bodies} {vs : Tokens} (ts us : Tokens) → b.opening.at < ts.past → Beside b ts us → LeadsTo ts vs → b.opening.at < vs.past
behind_on {b} {vs} ts us i (ahead past x r u u' j k) p = let low = before_at b.opening.at past x j in absurd (omega arith)
behind_on {b} {vs} ts us i (behind past r u u' j) p =
    let low = behind_at (end_of b.closing + b.by) vs.past vs.left (over_leads (end_of b.closing + b.by) p (over_moved (end_of b.closing) (end_of b.closing + b.by) past b.by r (omega arith) j)) in
    let apart = b.apart in
    omega arith

pub level_on : (b : Bodies) (a a' : ℕ) (ts us vs ws : Tokens) → Level b a a' ts us → LeadsTo ts vs → Beside b vs ws → Onward (Level b a a') (λ ts us. Gone b ts) vs ws
level_on b a a' ts us vs ws (level_ahead e i h) p k =
    when (nat_lt b.opening.at vs.past)
    (λ f. into (ahead_on ts us i h p (grind (arith, nat_tests))))
    (λ f. on (level_ahead e (grind (arith, nat_tests)) k))
level_on b a a' ts us vs ws (level_behind c e e' i h) p k = on (level_behind c e e' (behind_on ts us i h p) k)

from_there : (m n d d' : ℕ) → (m + d') - (n + d') ≡ (m + d) - (n + d)
from_there m n d d' = omega arith

-- how far the next token is from there
pub start_level : (b : Bodies) (a a' : ℕ) (ts us : Tokens) → Level b a a' ts us → at us - a' ≡ at ts - a
unfolding at
start_level b a a' ts us (level_ahead e i (ahead past [] r u u' j k)) = ap (λ n. b.opening.at - n) e
start_level b a a' ts us (level_ahead e i (ahead past (t ∷ x) r u u' j k)) = ap (λ n. t.at - n) e
start_level b a a' ts us (level_ahead e i (behind past r u u' j)) = let low = behind_at (end_of b.closing) past r j in let apart = b.apart in absurd (omega arith)
start_level b a a' ts us (level_behind c e e' i (ahead past x r u u' j k)) = let low = before_at b.opening.at past x j in absurd (omega arith)
start_level b a a' ts us (level_behind c e e' i (behind past [] u u' j)) = rw (e, e') (from_there past c b.by b.by_new)
start_level b a a' ts us (level_behind c e e' i (behind past (t ∷ r) u u' j)) = rw (e, e') (from_there t.at c b.by b.by_new)

end_there : (m n c d d' : ℕ) → (m + d' + n) - (c + d') ≡ (m + d + n) - (c + d)
end_there m n c d d' = omega arith

-- and its end
pub end_level : (b : Bodies) (a a' : ℕ) (ts us : Tokens) → Level b a a' ts us → (symbol ts == 123) ≡ false → (bumped us).past - a' ≡ (bumped ts).past - a
unfolding symbol bumped
end_level b a a' ts us (level_ahead e i (ahead past [] r u u' j k)) f = let is : symbol_of b.opening ≡ 123 = b.opens in absurd (let no = rw is at f in cc)
end_level b a a' ts us (level_ahead e i (ahead past (t ∷ x) r u u' j k)) f = ap (λ n. end_of t - n) e
end_level b a a' ts us (level_ahead e i (behind past r u u' j)) f = let low = behind_at (end_of b.closing) past r j in let apart = b.apart in absurd (omega arith)
end_level b a a' ts us (level_behind c e e' i (ahead past x r u u' j k)) f = let low = before_at b.opening.at past x j in absurd (omega arith)
end_level b a a' ts us (level_behind c e e' i (behind past [] u u' j)) f = rw (e, e') (from_there past c b.by b.by_new)
end_level b a a' ts us (level_behind c e e' i (behind past (t ∷ r) u u' j)) f = rw (e, e') (end_there t.at (length t.text) c b.by b.by_new)

-- behind another token it is level too
pub level_next : (b : Bodies) (a a' : ℕ) (ts us : Tokens) → Level b a a' ts us → (symbol ts == 123) ≡ false → Level b a a' (bumped ts) (bumped us)
unfolding symbol bumped
level_next b a a' ts us (level_ahead e i (ahead past [] r u u' j k)) f = let is : symbol_of b.opening ≡ 123 = b.opens in absurd (let no = rw is at f in cc)
level_next b a a' ts us (level_ahead e i (ahead past (t ∷ x) r u u' j k)) f = level_ahead e (before_at b.opening.at (end_of t) x j.1) (next_ahead b past t x r u u' j.1 k)
level_next b a a' ts us (level_ahead e i (behind past r u u' j)) f = let low = behind_at (end_of b.closing) past r j in let apart = b.apart in absurd (omega arith)
level_next b a a' ts us (level_behind c e e' i h) f = level_behind c e e' (behind_on ts us i h (bumped_leads ts)) (not_brace b ts us h f)
