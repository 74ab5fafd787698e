-- Readers that may go into the braces: they see tokens beside alike until one does.
use Rattle.std.proofs.Common.{◌≡◌, ◌≤◌, ℕ, suc, ◌+◌, length, false, Option, List, [], ◌∷◌, ◌++◌, subst, arith, map}
use Rattle.rust_cursor.proofs.Common.{Piece, moved_piece, Tokens, end_of, Reader, by_first, rest, bumped, Bodies, AreBehind, AreOpen, Beside, ahead, behind}
use Rattle.rust_cursor.proofs.TokenRests.{LeadsTo, here, further}
use Rattle.rust_cursor.proofs.Views.{next_ahead, next_behind, next_none}
use Rattle.rust_cursor.proofs.BraceWalks.{tokens_at}
use Rattle.rust_cursor.proofs.LocalReaders.{Kept}

-- ---- what stands behind a place

bumped_over : (low past : ℕ) (left : List Piece) → AreBehind low past left → AreBehind low (by_first past end_of left) (rest left)
bumped_over low past [] h = h
bumped_over low past (t ∷ ts) h = h.1

-- what is left of it stands behind it too
pub over_leads : {ts us : Tokens} (low : ℕ) → LeadsTo ts us → AreBehind low ts.past ts.left → AreBehind low us.past us.left
unfolding bumped
over_leads low here h = h
over_leads {ts} low (further p) h = over_leads low p (bumped_over low ts.past ts.left h)

pub over_moved : (low low' past d : ℕ) (r : List Piece) → low' ≤ low + d → AreBehind low past r → AreBehind low' (past + d) (map (moved_piece d) r)
over_moved low low' past d [] e h = omega arith
over_moved low low' past d (t ∷ r) e h =
    let first : low ≤ past = h.0.0 in
    let begins : low ≤ t.at = h.0.1 in
    let end : t.at + length t.text + d ≡ t.at + d + length t.text = omega arith in
    ((omega arith, omega arith), subst (λ (n : ℕ). AreBehind low' n (map (moved_piece d) r)) end (over_moved low low' (end_of t) d r e h.1))

over_both : (low past : ℕ) (xs : List Piece) (t : Piece) (ys : List Piece) → AreBehind low past xs → low ≤ t.at → AreBehind low (end_of t) ys → AreBehind low past (xs ++ t ∷ ys)
over_both low past [] t ys h e k = ((h, e), k)
over_both low past (x ∷ xs) t ys h e k = (h.0, over_both low (end_of x) xs t ys h.1 e k)

-- ---- gone

-- what is left stands behind the `{`
pub record Gone (b : Bodies) (ts : Tokens) : Type 0 where
  pub unpassed : b.passed ≡ false
  pub over : AreBehind (suc b.opening.at) ts.past ts.left

pub gone_on : {b : Bodies} {ts us : Tokens} → Gone b ts → LeadsTo ts us → Gone b us
gone_on {b} g p = record { unpassed = g.unpassed; over = over_leads (suc b.opening.at) p g.over }

-- the one went into the braces, or both read the same and stand beside
pub data Until {A : Type 0} (b : Bodies) : A × Tokens → A × Tokens → Type 0 where
  gone : {p q : A × Tokens} → Gone b p.1 → Until b p q
  kept : {p q : A × Tokens} → Kept b p q → Until b p q

abbrev pub UpTo : {A : Type 0} → Bodies → Reader A → Type 0
UpTo b reader = (ts us : Tokens) → Beside b ts us → Until b (reader ts) (reader us)

pub data Onward (b : Bodies) (ts us : Tokens) : Type 0 where
  into : Gone b ts → Onward b ts us
  on : Beside b ts us → Onward b ts us

-- behind the `{`
pub behind_opening : (b : Bodies) (past : ℕ) (r : List Piece) (u : Option ℕ) → AreOpen b r → Gone b (bumped (tokens_at b.edition past (b.opening ∷ (b.old ++ moved_piece b.by b.closing ∷ map (moved_piece b.by) r)) u))
unfolding bumped
behind_opening b past r u j =
    let low = suc b.opening.at in
    let far = b.apart in
    let end : b.closing.at + length b.closing.text + b.by ≡ b.closing.at + b.by + length b.closing.text = omega arith in
    let behind = over_moved (end_of b.closing) low (end_of b.closing) b.by r (omega arith) j.behind in
    record {
      unpassed = j.unpassed;
      over = over_both low (end_of b.opening) b.old (moved_piece b.by b.closing) (map (moved_piece b.by) r) b.old_behind (omega arith) (subst (λ (n : ℕ). AreBehind low n (map (moved_piece b.by) r)) end behind);
    }

-- one token further, which may be the `{`
pub bumped_onward : (b : Bodies) (ts us : Tokens) → Beside b ts us → Onward b (bumped ts) (bumped us)
bumped_onward b ts us (ahead past [] r u u' i j) = into (behind_opening b past r u j)
bumped_onward b ts us (ahead past (t ∷ x) r u u' i j) = on (next_ahead b past t x r u u' i.1 j)
bumped_onward b ts us (behind past [] u u' i) = on (next_none b past u u' i)
bumped_onward b ts us (behind past (t ∷ r) u u' i) = on (next_behind b (past + b.by) (past + b.by_new) t r u u' i.1)

pub by_next : {A : Type 0} {b : Bodies} {ts us : Tokens} → Onward b ts us → (Gone b ts → A) → (Beside b ts us → A) → A
by_next (into g) lost same = lost g
by_next (on h) lost same = same h

pub by_kept : {A B : Type 0} {b : Bodies} {p q : A × Tokens} → Until b p q → (Gone b p.1 → B) → (Kept b p q → B) → B
by_kept (gone g) lost same = lost g
by_kept (kept k) lost same = same k
