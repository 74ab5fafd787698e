-- What is seen of tokens beside.
use Rattle.std.proofs.Common.{◌≡◌, ◌≤◌, ◌<◌, ℕ, ◌+◌, ◌==◌, true, false, Option, List, [], ◌∷◌, ◌++◌, length, refl, ◌∙◌, sym, subst, arith, map, nat_lt}
use Rattle.rust_cursor.proofs.Common.{nat_tests, TokenKind, Piece, symbol_of, moved_piece, Tokens, end_of, is_open, is_close, word_by, by_first, symbol, word, text, at, is_empty, is_at_open, is_at_end, bumped, is_glued, Bodies, AreBefore, AreBehind, AreOpen, Beside, ahead, behind}
use Rattle.rust_lexer.specs.declared.kind.TokenKind.TheVariants as kinds
use Rattle.rust_cursor.proofs.TokenRests.{when}
use Rattle.rust_cursor.proofs.TwinTokens.{Twins, is_edge}

-- a view of a token that asks not where it stands
pub first_same : (b : Bodies) {A : Type 0} (default : A) (view : Piece → A) → ((d : ℕ) (t : Piece) → view (moved_piece d t) ≡ view t) → (ts us : Tokens) → Beside b ts us
    → by_first default view us.left ≡ by_first default view ts.left
first_same b default view still ts us (behind past (t ∷ r) u u' i) = still b.by_new t ∙ sym (still b.by t)
first_same b default view still ts us (ahead past [] r u u' i j) = refl
first_same b default view still ts us _ = refl

pub symbol_same : (b : Bodies) (ts us : Tokens) → Beside b ts us → symbol us ≡ symbol ts
unfolding symbol
symbol_same b ts us h = first_same b 0 symbol_of (λ d t. refl) ts us h

pub word_same : (b : Bodies) (ts us : Tokens) → Beside b ts us → word us ≡ word ts
unfolding word
word_same b ts us h = first_same b [] (λ t. word_by t.kind t.text) (λ d t. refl) ts us h

pub text_same : (b : Bodies) (ts us : Tokens) → Beside b ts us → text us ≡ text ts
unfolding text
text_same b ts us h = first_same b [] (λ t. t.text) (λ d t. refl) ts us h

pub empty_same : (b : Bodies) (ts us : Tokens) → Beside b ts us → is_empty us ≡ is_empty ts
unfolding is_empty
empty_same b ts us h = first_same b true (λ _. false) (λ d t. refl) ts us h

pub open_same : (b : Bodies) (ts us : Tokens) → Beside b ts us → is_at_open us ≡ is_at_open ts
unfolding is_at_open
open_same b ts us h = first_same b false is_open (λ d t. refl) ts us h

pub end_same : (b : Bodies) (ts us : Tokens) → Beside b ts us → is_at_end us ≡ is_at_end ts
unfolding is_at_end
end_same b ts us h = first_same b true is_close (λ d t. refl) ts us h

pub edition_same : (b : Bodies) (ts us : Tokens) → Beside b ts us → us.edition ≡ ts.edition
edition_same b ts us (ahead past x r u u' i j) = refl
edition_same b ts us (behind past r u u' i) = refl

glued_by : (m n d d' : ℕ) → (m + d' == n + d') ≡ (m + d == n + d)
glued_by m n d d' = grind (arith, nat_tests)

pub glued_same : (b : Bodies) (ts us : Tokens) → Beside b ts us → is_glued us ≡ is_glued ts
unfolding is_glued at
glued_same b ts us (behind past [] u u' i) = glued_by past past b.by b.by_new
glued_same b ts us (behind past (t ∷ r) u u' i) = glued_by t.at past b.by b.by_new
glued_same b ts us (ahead past [] r u u' i j) = refl
glued_same b ts us (ahead past (t ∷ x) r u u' i j) = refl

-- ---- one token further

pub next_ahead : (b : Bodies) (past : ℕ) (t : Piece) (x r : List Piece) (u u' : Option ℕ) → AreBefore b.opening.at (end_of t) x → AreOpen b r
    → Beside b (bumped (record { past = past; left = t ∷ (x ++ b.opening ∷ (b.old ++ moved_piece b.by b.closing ∷ map (moved_piece b.by) r)); unended = u; edition = b.edition }))
    (bumped (record { past = past; left = t ∷ (x ++ b.opening ∷ (b.new ++ moved_piece b.by_new b.closing ∷ map (moved_piece b.by_new) r)); unended = u'; edition = b.edition }))
unfolding bumped
next_ahead b past t x r u u' i j = ahead (end_of t) x r u u' i j

-- behind a token that stands behind the braces; where the one before it ended does not matter
pub next_behind : (b : Bodies) (past past' : ℕ) (t : Piece) (r : List Piece) (u u' : Option ℕ) → AreBehind (end_of b.closing) (end_of t) r
    → Beside b (bumped (record { past = past; left = moved_piece b.by t ∷ map (moved_piece b.by) r; unended = u; edition = b.edition })) (bumped (record { past = past'; left = moved_piece b.by_new t ∷ map (moved_piece b.by_new) r; unended = u'; edition = b.edition }))
unfolding bumped
next_behind b past past' t r u u' i =
    let old : t.at + length t.text + b.by ≡ t.at + b.by + length t.text = omega arith in
    let new : t.at + length t.text + b.by_new ≡ t.at + b.by_new + length t.text = omega arith in
    subst (λ (n : ℕ). Beside b (record { past = n; left = map (moved_piece b.by) r; unended = u; edition = b.edition }) (record { past = t.at + b.by_new + length t.text; left = map (moved_piece b.by_new) r; unended = u'; edition = b.edition })) old
    (subst (λ (n : ℕ). Beside b (record { past = t.at + length t.text + b.by; left = map (moved_piece b.by) r; unended = u; edition = b.edition }) (record { past = n; left = map (moved_piece b.by_new) r; unended = u'; edition = b.edition })) new (behind (end_of t) r u u' i))

pub next_none : (b : Bodies) (past : ℕ) (u u' : Option ℕ) → end_of b.closing ≤ past
    → Beside b (bumped (record { past = past + b.by; left = []; unended = u; edition = b.edition })) (bumped (record { past = past + b.by_new; left = []; unended = u'; edition = b.edition }))
unfolding bumped
next_none b past u u' i = behind past [] u u' i

pub not_brace : (b : Bodies) (ts us : Tokens) → Beside b ts us → (symbol ts == 123) ≡ false → Beside b (bumped ts) (bumped us)
unfolding symbol
not_brace b ts us (ahead past [] r u u' i j) e = let is : symbol_of b.opening ≡ 123 = b.opens in absurd (let no = rw is at e in cc)
not_brace b ts us (ahead past (t ∷ x) r u u' i j) e = next_ahead b past t x r u u' i.1 j
not_brace b ts us (behind past [] u u' i) e = next_none b past u u' i
not_brace b ts us (behind past (t ∷ r) u u' i) e = next_behind b (past + b.by) (past + b.by_new) t r u u' i.1

-- another symbol or a word comes next
pub other_symbol : (c : ℕ) (ts : Tokens) → (symbol ts == c) ≡ true → (c == 123) ≡ false → (symbol ts == 123) ≡ false
other_symbol c ts e f = grind (arith, nat_tests)

none_here : (left : List Piece) → (by_first 0 symbol_of left == 123) ≡ true → by_first [] (λ t. word_by t.kind t.text) left ≡ []
none_here [] e = refl
none_here (t ∷ left) e = by t.kind t.text e
  where
    by : (k : TokenKind) (z : List ℕ) → (symbol_of (record { kind = k; text = z; at = 0 }) == 123) ≡ true → word_by k z ≡ []
    by kinds.Ident z e = absurd cc
    by _ z e = refl

-- at a brace there is no word
pub brace_word : (ts : Tokens) → (symbol ts == 123) ≡ true → word ts ≡ []
unfolding symbol word
brace_word ts e = none_here ts.left e

-- ---- whether a token was taken

pub before_at : (at past : ℕ) (x : List Piece) → AreBefore at past x → past ≤ at
before_at at past [] h = h
before_at at past (t ∷ x) h = h.0

pub behind_at : (low past : ℕ) (r : List Piece) → AreBehind low past r → low ≤ past
behind_at low past [] h = h
behind_at low past (t ∷ r) h = h.0.0

apart_tests : (m n m' n' : ℕ) → m < n → m' < n' → (n' == m') ≡ (n == m)
apart_tests m n m' n' h h' = grind (arith, nat_tests)

apart_back : (m n m' n' : ℕ) → m < n → m' < n' → (m' == n') ≡ (m == n)
apart_back m n m' n' h h' = grind (arith, nat_tests)

lower_by : (m n d d' : ℕ) → nat_lt (m + d') (n + d') ≡ nat_lt (m + d) (n + d)
lower_by m n d d' = grind (arith, nat_tests)

lower_tests : (m n m' n' : ℕ) → m < n → m' < n' → nat_lt m' n' ≡ nat_lt m n
lower_tests m n m' n' h h' = grind (arith, nat_tests)

higher_tests : (m n m' n' : ℕ) → m < n → m' < n' → nat_lt n' m' ≡ nat_lt n m
higher_tests m n m' n' h h' = grind (arith, nat_tests)

-- in each text what is before the braces ends before what is behind them
parted : (b : Bodies) (past past' : ℕ) (x r : List Piece) → AreBefore b.opening.at past x → AreBehind (end_of b.closing) past' r
    → (past < past' + b.by) × (past < past' + b.by_new)
parted b past past' x r i j =
    let low = before_at b.opening.at past x i in
    let high = behind_at (end_of b.closing) past' r j in
    let old = b.apart in
    let new = b.apart_new in
    (omega arith, omega arith)

-- one reader took nothing where the other took nothing
pub taken_same : (b : Bodies) (ts us ts' us' : Tokens) → Beside b ts us → Beside b ts' us' → (us'.past == us.past) ≡ (ts'.past == ts.past)
taken_same b ts us ts' us' (ahead past x r u v i j) (ahead past' x' r' u' v' i' j') = refl
taken_same b ts us ts' us' (ahead past x r u v i j) (behind past' r' u' v' i') =
    let p = parted b past past' x r' i i' in apart_tests past (past' + b.by) past (past' + b.by_new) p.0 p.1
taken_same b ts us ts' us' (behind past r u v i) (ahead past' x' r' u' v' i' j') =
    let p = parted b past' past x' r i' i in apart_back past' (past + b.by) past' (past + b.by_new) p.0 p.1
taken_same b ts us ts' us' (behind past r u v i) (behind past' r' u' v' i') = glued_by past' past b.by b.by_new

-- one stands before the other in both texts
pub before_same : (b : Bodies) (ts us ts' us' : Tokens) → Beside b ts us → Beside b ts' us' → nat_lt us.past us'.past ≡ nat_lt ts.past ts'.past
before_same b ts us ts' us' (ahead past x r u v i j) (ahead past' x' r' u' v' i' j') = refl
before_same b ts us ts' us' (ahead past x r u v i j) (behind past' r' u' v' i') =
    let p = parted b past past' x r' i i' in lower_tests past (past' + b.by) past (past' + b.by_new) p.0 p.1
before_same b ts us ts' us' (behind past r u v i) (ahead past' x' r' u' v' i' j') =
    let p = parted b past' past x' r i' i in higher_tests past' (past + b.by) past' (past + b.by_new) p.0 p.1
before_same b ts us ts' us' (behind past r u v i) (behind past' r' u' v' i') = lower_by past past' b.by b.by_new

-- ---- tokens beside look alike

pub no_brace : (c : ℕ) → is_edge c ≡ false → (c == 123) ≡ false
no_brace c e = when (c == 123) (λ f. absurd (let no = rw f at e in cc)) (λ f. f)

abbrev pub beside_twins : Bodies → Twins
beside_twins b = record { are = Beside b; edition = edition_same b; first = λ A d v s ts us h. first_same b d v s ts us h; glued = glued_same b; next = λ ts us h e. not_brace b ts us h (no_brace (symbol ts) e) }
