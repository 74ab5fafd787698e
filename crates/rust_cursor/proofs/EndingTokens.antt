-- Tokens of a text that ends with a `;` or a `}`, and the same tokens in a text that goes on behind it; or of any text, and the same tokens at the end of a longer one.
use Rattle.std.proofs.Common.{◌≡◌, ◌≤◌, ◌<◌, ℕ, ◌+◌, ◌==◌, ◌||◌, Bool, true, false, Option, List, [], ◌∷◌, ◌++◌, length, refl, ap, ◌∙◌, sym, subst, arith, map, length-append}
use Rattle.rust_cursor.proofs.Common.{nat_tests, EditionYear, moved_piece, Piece, symbol_of, Tokens, end_of, by_first, rest, symbol, at, bumped, is_glued}
use Rattle.rust_cursor.proofs.TokenRests.{LeadsTo, here, further, when}
use Rattle.rust_cursor.proofs.PartingReaders.{Onward, into, on}
use Rattle.rust_cursor.proofs.TwinTokens.{Twins, is_edge}

-- How far the tokens stand in the long text, what that has behind the last of them, and where its own last is not ended. If they are level,
-- nothing is behind, and the short text may end with any token.
pub record Ending : Type 0 where
  pub by : ℕ
  pub behind : List Piece
  pub unended : Option ℕ
  pub level : Bool
  pub none : level ≡ true → behind ≡ []

abbrev pub is_last : ℕ → Bool
is_last c = c == 59 || c == 125

-- the last of these tokens is a `;` or a `}`
abbrev pub are_ended : List Piece → Bool
are_ended [] = false
are_ended (t ∷ []) = is_last (symbol_of t)
are_ended (t ∷ u ∷ ts) = are_ended (u ∷ ts)

-- what is left of the long text, and of the short one, where its last token is not taken, or they are level
pub data Near (b : Ending) : Tokens → Tokens → Type 0 where
  near : (past : ℕ) (x : List Piece) (u : Option ℕ) (y : EditionYear) → (b.level || are_ended x) ≡ true → Near b
      (record { past = past + b.by; left = map (moved_piece b.by) x ++ b.behind; unended = b.unended; edition = y })
      (record { past = past; left = x; unended = u; edition = y })

-- both went past that token
pub record Gone (b : Ending) (ts us : Tokens) : Type 0 where
  pub few : length ts.left ≤ length b.behind
  pub none : us.left ≡ []
  pub uneven : b.level ≡ false

rest_fewer : (left : List Piece) → length (rest left) ≤ length left
rest_fewer [] = omega arith
rest_fewer (t ∷ left) = omega arith

pub fewer : {ts us : Tokens} → LeadsTo ts us → length us.left ≤ length ts.left
unfolding bumped
fewer here = omega arith
fewer {ts} (further p) = let more = fewer p in let less = rest_fewer ts.left in omega arith

pub nothing : {ts us : Tokens} → LeadsTo ts us → ts.left ≡ [] → us.left ≡ []
unfolding bumped
nothing here e = e
nothing (further p) e = nothing p (ap rest e)

pub gone_on : {b : Ending} {ts us vs ws : Tokens} → Gone b ts us → LeadsTo ts vs → LeadsTo us ws → Gone b vs ws
gone_on g p q = let less = fewer p in let few = g.few in record { few = omega arith; none = nothing q g.none; uneven = g.uneven }

-- ---- views

-- where no token is left of level texts, none is left of either
none_left : (b : Ending) (P : List Piece → Type 0) → (b.level || false) ≡ true → P [] → P b.behind
none_left b P e p = subst P (sym (b.none (when b.level (λ l. l) (λ l. absurd (let no = rw l at e in cc))))) p

pub first_same : (b : Ending) {A : Type 0} (default : A) (view : Piece → A) → ((d : ℕ) (t : Piece) → view (moved_piece d t) ≡ view t) → (ts us : Tokens) → Near b ts us
    → by_first default view us.left ≡ by_first default view ts.left
first_same b default view still ts us (near past [] u y e) = none_left b (λ l. default ≡ by_first default view l) e refl
first_same b default view still ts us (near past (t ∷ x) u y e) = sym (still b.by t)

pub edition_same : (b : Ending) (ts us : Tokens) → Near b ts us → us.edition ≡ ts.edition
edition_same b ts us (near past x u y e) = refl

pub past_same : (b : Ending) (ts us : Tokens) → Near b ts us → ts.past ≡ us.past + b.by
past_same b ts us (near past x u y e) = refl

pub at_same : (b : Ending) (ts us : Tokens) → Near b ts us → at ts ≡ at us + b.by
unfolding at
at_same b ts us (near past [] u y e) = none_left b (λ l. by_first (past + b.by) (λ t. t.at) l ≡ past + b.by) e refl
at_same b ts us (near past (t ∷ x) u y e) = refl

glued_by : (m n d : ℕ) → (m == n) ≡ (m + d == n + d)
glued_by m n d = grind (arith, nat_tests)

pub glued_same : (b : Ending) (ts us : Tokens) → Near b ts us → is_glued us ≡ is_glued ts
unfolding is_glued
glued_same b ts us h = glued_by (at us) us.past b.by ∙ sym (ap (λ n. n == ts.past) (at_same b ts us h) ∙ ap (λ n. at us + b.by == n) (past_same b ts us h))

pub taken_same : (b : Ending) (ts us ts' us' : Tokens) → Near b ts us → Near b ts' us' → (us'.past == us.past) ≡ (ts'.past == ts.past)
taken_same b ts us ts' us' h h' = glued_by us'.past us.past b.by ∙ sym (ap (λ n. n == ts.past) (past_same b ts' us' h') ∙ ap (λ n. us'.past + b.by == n) (past_same b ts us h))

-- before the end more is left, or as much where they are level
pub enough_left : (b : Ending) (ts us : Tokens) → Near b ts us → length b.behind ≤ length ts.left
enough_left b ts us (near past x u y e) =
    let both : length (map (moved_piece b.by) x ++ b.behind) ≡ length (map (moved_piece b.by) x) + length b.behind = length-append (map (moved_piece b.by) x) b.behind in
    omega arith

pub more_left : (b : Ending) (ts us : Tokens) → b.level ≡ false → Near b ts us → length b.behind < length ts.left
more_left b ts us l (near past [] u y e) = absurd (let no = rw l at e in cc)
more_left b ts us l (near past (t ∷ x) u y e) =
    let both : length (map (moved_piece b.by) x ++ b.behind) ≡ length (map (moved_piece b.by) x) + length b.behind = length-append (map (moved_piece b.by) x) b.behind in
    omega arith

-- what is left of the long text where nothing is left of the short one
pub left_behind : (b : Ending) (ts us : Tokens) → Near b ts us → us.left ≡ [] → ts.left ≡ b.behind
left_behind b ts us (near past x u y e) none = ap (λ l. map (moved_piece b.by) l ++ b.behind) none

-- ---- one token further

pub next_near : (b : Ending) (past : ℕ) (t : Piece) (x : List Piece) (u : Option ℕ) (y : EditionYear) → (b.level || are_ended x) ≡ true
    → Near b (bumped (record { past = past + b.by; left = map (moved_piece b.by) (t ∷ x) ++ b.behind; unended = b.unended; edition = y })) (bumped (record { past = past; left = t ∷ x; unended = u; edition = y }))
unfolding bumped
next_near b past t x u y e =
    let place : t.at + length t.text + b.by ≡ t.at + b.by + length t.text = omega arith in
    subst (λ (n : ℕ). Near b (record { past = n; left = map (moved_piece b.by) x ++ b.behind; unended = b.unended; edition = y }) (record { past = end_of t; left = x; unended = u; edition = y })) place
    (near (end_of t) x u y e)

-- where nothing is left, nothing is taken
pub still_near : (b : Ending) (past : ℕ) (u : Option ℕ) (y : EditionYear) → (b.level || false) ≡ true
    → Near b (bumped (record { past = past + b.by; left = b.behind; unended = b.unended; edition = y })) (bumped (record { past = past; left = []; unended = u; edition = y }))
unfolding bumped
still_near b past u y e =
    let l : b.level ≡ true = when b.level (λ l. l) (λ l. absurd (let no = rw l at e in cc)) in
    let left : b.behind ≡ [] = b.none l in
    subst (λ (n : ℕ). Near b (record { past = n; left = rest b.behind; unended = b.unended; edition = y }) (record { past = past; left = []; unended = u; edition = y }))
    (none_left b (λ l. past + b.by ≡ by_first (past + b.by) end_of l) e refl)
    (subst (λ (l : List Piece). Near b (record { past = past + b.by; left = l; unended = b.unended; edition = y }) (record { past = past; left = []; unended = u; edition = y })) (left ∙ sym (ap rest left)) (near past [] u y e))

pub level_ended : (l : Bool) (x : List Piece) → l ≡ true → (l || are_ended x) ≡ true
level_ended l x e = rw e refl

last_gone : (b : Ending) (past : ℕ) (t : Piece) (u : Option ℕ) (y : EditionYear) → b.level ≡ false
    → Gone b (bumped (record { past = past + b.by; left = map (moved_piece b.by) (t ∷ []) ++ b.behind; unended = b.unended; edition = y })) (bumped (record { past = past; left = t ∷ []; unended = u; edition = y }))
unfolding bumped
last_gone b past t u y l = record { few = omega arith; none = refl; uneven = l }

-- which may be that one
pub bumped_onward : (b : Ending) (ts us : Tokens) → Near b ts us → Onward (Near b) (Gone b) (bumped ts) (bumped us)
bumped_onward b ts us (near past [] u y e) = on (still_near b past u y e)
bumped_onward b ts us (near past (t ∷ []) u y e) = when b.level (λ l. on (next_near b past t [] u y (level_ended b.level [] l))) (λ l. into (last_gone b past t u y l))
bumped_onward b ts us (near past (t ∷ v ∷ x) u y e) = on (next_near b past t (v ∷ x) u y e)

other_last : (l c : Bool) → (l || c) ≡ true → c ≡ false → l ≡ true
other_last true c e f = refl
other_last false c e f = sym f ∙ e

pub not_last : (b : Ending) (ts us : Tokens) → Near b ts us → is_last (symbol ts) ≡ false → Near b (bumped ts) (bumped us)
unfolding symbol
not_last b ts us (near past [] u y e) f = still_near b past u y e
not_last b ts us (near past (t ∷ []) u y e) f = next_near b past t [] u y (level_ended b.level [] (other_last b.level (is_last (symbol_of t)) e f))
not_last b ts us (near past (t ∷ v ∷ x) u y e) f = next_near b past t (v ∷ x) u y e

-- ---- they look alike

-- no symbol of an edge is the last
pub edge_off : (c : ℕ) → is_edge c ≡ false → is_last c ≡ false
edge_off c e = when (c == 123) (λ f. absurd (let no = rw f at e in cc)) (λ f. let g = rw f at e in g)

abbrev pub near_twins : Ending → Twins
near_twins b = record { are = Near b; edition = edition_same b; first = λ A d v s ts us h. first_same b d v s ts us h; glued = glued_same b; next = λ ts us h e. not_last b ts us h (edge_off (symbol ts) e) }
