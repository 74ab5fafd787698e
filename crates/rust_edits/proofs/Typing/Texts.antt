-- The tokens of two texts that differ between two braces.
use Rattle.std.proofs.Common.{◌≡◌, ◌≤◌, ◌<◌, ℕ, arith, true, false, suc, ◌+◌, Option, List, [], ◌∷◌, ◌++◌, length, refl, ap, sym, subst, ◌∙◌, map}
use Rattle.rust_edits.proofs.Common.{filter, EditionYear, Inner, StandsAlone, opening, tokens_in_front, moved_piece, Piece, symbol_of, is_significant, Tokens, end_of, tokens_of, kind, symbol, bumped, turns, Bodies, AreBehind, Beside, ahead, is_doc, is_attribute, is_behind, inner_attributes, attributes, with_body, OpensAt, first_plain, BeginsPlain, common_steps, open_at, inside_of, body, body_matched, close_of, close_symbol, left_of, front_of, counted_apart, filter_moved, front_same, tokens_at, bumped_at, front_before, left_behind, Moves, SamePlace, BeginPlain, turns_stop}
use Rattle.rust_lexer.proofs.Cases.{when}
use Rattle.rust_lexer.proofs.WholeTexts as wholes
use Rattle.rust_cursor.specs.Looks.{sees}

-- ---- the braces

near : (q m s : List ℕ) → length q < (close_of s).at + (suc (length q) + length m)
near q m s = omega arith

-- what stands between the braces stands behind the `{`
counted_behind : (low past : ℕ) (ts : List Piece) → low ≤ past → AreBehind low past (filter is_significant (map (moved_piece low) ts))
counted_behind low past [] h = h
counted_behind low past (t ∷ ts) h =
    when (is_significant t) (λ e. rw e ((h, omega arith), counted_behind low (end_of (moved_piece low t)) ts (omega arith))) (λ e. rw e (counted_behind low past ts h))

body_behind : (at : ℕ) (m : List ℕ) → AreBehind (suc at) (at + 1) (body at m)
unfolding body inside_of
body_behind at m = counted_behind (suc at) (at + 1) (tokens_in_front 0 0 m (125 ∷ [])) (omega arith)

pub bodies : (edition : EditionYear) (q m m' s : List ℕ) → StandsAlone m → StandsAlone m' → Bodies
bodies edition q m m' s h h' = record {
  edition = edition;
  passed = false;
  opening = open_at (length q);
  closing = close_of s;
  old = body (length q) m;
  new = body (length q) m';
  by = suc (length q) + length m;
  by_new = suc (length q) + length m';
  opens = refl;
  is_bracket = refl;
  closes = close_symbol s;
  old_behind = body_behind (length q) m;
  apart = near q m s;
  apart_new = near q m' s;
  old_matched = body_matched (length q) m h;
  new_matched = body_matched (length q) m' h';
}

pub bodies_at : (edition : EditionYear) (q m m' s : List ℕ) (h : StandsAlone m) (h' : StandsAlone m') → (bodies edition q m m' s h h').opening.at ≡ length q
unfolding bodies
bodies_at edition q m m' s h h' = refl

-- a place of the one text, and that of the other
abbrev pub IsMoved : List ℕ → List ℕ → List ℕ → List ℕ → ℕ → ℕ → Type 0
IsMoved q m m' s = Moves (length q) (end_of (close_of s)) (suc (length q) + length m) (suc (length q) + length m')

-- what is so of the two bodies, and of places that are moved so
pub of_bodies : (edition : EditionYear) (q m m' s : List ℕ) (h : StandsAlone m) (h' : StandsAlone m') (P : List Piece → List Piece → Type 0) → P (body (length q) m) (body (length q) m') → (let b = bodies edition q m m' s h h' in P b.old b.new)
unfolding bodies
of_bodies edition q m m' s h h' P a = a

pub of_places : (edition : EditionYear) (q m m' s : List ℕ) (h : StandsAlone m) (h' : StandsAlone m') (P : (ℕ → ℕ → Type 0) → Type 0) → P (IsMoved q m m' s) → P (SamePlace (bodies edition q m m' s h h'))
unfolding bodies
of_places edition q m m' s h h' P a = a

pub are_moved : (edition : EditionYear) (q m m' s : List ℕ) (h : StandsAlone m) (h' : StandsAlone m') (P : (ℕ → ℕ → Type 0) → Type 0) → P (SamePlace (bodies edition q m m' s h h')) → P (IsMoved q m m' s)
unfolding bodies
are_moved edition q m m' s h h' P a = a

-- ---- the tokens

lexer_opens : (q y : List ℕ) → OpensAt q y → wholes.OpensAt q y
lexer_opens q y o = record { full = o.full; one = o.one; plain = o.plain; unfenced = o.unfenced; bare = o.bare }

pub tokens_beside : (edition : EditionYear) (q m m' s : List ℕ) → OpensAt q (m ++ 125 ∷ s) → (h : StandsAlone m) → (h' : StandsAlone m')
    → Beside (bodies edition q m m' s h h') (tokens_of edition (with_body q m s)) (tokens_of edition (with_body q m' s))
unfolding tokens_of bodies
tokens_beside edition q m m' s o h h' =
    let b = bodies edition q m m' s h h' in
    let p = lexer_opens q (m ++ 125 ∷ s) o in
    let u = (tokens_of edition (with_body q m s)).unended in
    let u' = (tokens_of edition (with_body q m' s)).unended in
    let left = front_of q ++ open_at (length q) ∷ (body (length q) m ++ moved_piece (suc (length q) + length m) (close_of s) ∷ map (moved_piece (suc (length q) + length m)) (left_of s)) in
    subst (λ (l : List Piece). Beside b (tokens_at edition 0 l u) (tokens_of edition (with_body q m' s))) (sym (counted_apart q m m s p h h))
    (subst (λ (l : List Piece). Beside b (tokens_at edition 0 left u) (tokens_at edition 0 l u')) (sym (counted_apart q m m' s p h h'))
    (ahead 0 (front_of q) (left_of s) u u' (front_before q (front_same opening 0 0 q (m ++ 125 ∷ s) [] o.full o.one).0) (record { unpassed = refl; behind = left_behind s })))

-- ---- what the body begins with

plain_behind : (y : EditionYear) (past : ℕ) (l : List Piece) (u : Option ℕ) → first_plain l ≡ true → sees (is_behind Inner) (tokens_at y past l u) ≡ true
unfolding is_behind is_doc is_attribute symbol kind bumped
plain_behind y past l u e = e

no_attributes : (ts : Tokens) → sees (is_behind Inner) ts ≡ true → (inner_attributes ts).0 ≡ []
unfolding inner_attributes attributes turns
no_attributes ts e = ap (λ r. r.0) (turns_stop (sees (is_behind Inner)) _ _ [] ts e)

-- a `}` behind them makes no attribute of these, nor does it matter where they stand
closed_plain : (l : List Piece) (c : Piece) (r : List Piece) → symbol_of c ≡ 125 → first_plain (l ++ c ∷ r) ≡ first_plain l
closed_plain l c r e = grind (arith, common_steps)

moved_plain : (d : ℕ) (l : List Piece) → first_plain (map (moved_piece d) l) ≡ first_plain l
moved_plain d l = grind (arith, common_steps)

pub body_plain : (at : ℕ) (m : List ℕ) (c : Piece) (r : List Piece) → symbol_of c ≡ 125 → first_plain (body at m ++ c ∷ r) ≡ first_plain (filter is_significant (tokens_in_front 0 0 m (125 ∷ [])))
unfolding body inside_of
body_plain at m c r e =
    let ts = tokens_in_front 0 0 m (125 ∷ []) in
    closed_plain (filter is_significant (map (moved_piece (suc at)) ts)) c r e ∙ ap first_plain (filter_moved (suc at) ts) ∙ moved_plain (suc at) (filter is_significant ts)

plain_inside : (y : EditionYear) (at past d : ℕ) (m s : List ℕ) (r : List Piece) (u : Option ℕ) → BeginsPlain m
    → (inner_attributes (bumped (tokens_at y past (open_at at ∷ (body at m ++ moved_piece d (close_of s) ∷ r)) u))).0 ≡ []
plain_inside y at past d m s r u e =
    let l = body at m ++ moved_piece d (close_of s) ∷ r in
    ap (λ t. (inner_attributes t).0) (bumped_at y past (open_at at) l u)
    ∙ no_attributes (tokens_at y (end_of (open_at at)) l u) (plain_behind y (end_of (open_at at)) l u (body_plain at m (moved_piece d (close_of s)) r (close_symbol s) ∙ e))

pub begin_plain : (edition : EditionYear) (q m m' s : List ℕ) (h : StandsAlone m) (h' : StandsAlone m') → BeginsPlain m → BeginsPlain m' → BeginPlain (bodies edition q m m' s h h')
unfolding bodies
begin_plain edition q m m' s h h' p p' = record {
  new_behind = body_behind (length q) m';
  old = λ past r u. plain_inside edition (length q) past (suc (length q) + length m) m s (map (moved_piece (suc (length q) + length m)) r) u p;
  new = λ past r u. plain_inside edition (length q) past (suc (length q) + length m') m' s (map (moved_piece (suc (length q) + length m')) r) u p';
}
