-- Tokens of two texts that look alike: what is seen of the one is seen of the other, and so it is behind each token at which no texts part.
use Rattle.std.proofs.Common.{◌≡◌, ℕ, ◌==◌, ◌&&◌, Bool, true, false, None, Some, List, [], ◌∷◌, refl, ap, arith, bytes_eq}
use Rattle.rust_cursor.proofs.Common.{and_parts, nat_tests, TokenKind, moved_piece, Piece, symbol_of, Tokens, is_open, is_close, word_by, identifies, documents, by_first, symbol, word, kind, text, is_empty, is_at_open, is_at_end, is_at_identifier, is_at_doc, bumped, is_glued, is_pair}
use Rattle.rust_lexer.specs.declared.kind.TokenKind.TheVariants as kinds
use Rattle.rust_cursor.specs.Nests.{is_literal_kind}
use Rattle.rust_cursor.proofs.TokenRests.{when}
pub use Rattle.rust_cursor.specs.Looks.{is_edge}

pub record Twins : Type 1 where
  pub are : Tokens → Tokens → Type 0
  pub edition : (ts us : Tokens) → are ts us → us.edition ≡ ts.edition
  -- a view of the next token that asks not where it stands
  pub first : (A : Type 0) (default : A) (view : Piece → A) → ((d : ℕ) (t : Piece) → view (moved_piece d t) ≡ view t) → (ts us : Tokens) → are ts us → by_first default view us.left ≡ by_first default view ts.left
  pub glued : (ts us : Tokens) → are ts us → is_glued us ≡ is_glued ts
  pub next : (ts us : Tokens) → are ts us → is_edge (symbol ts) ≡ false → are (bumped ts) (bumped us)

-- ---- views

pub symbol_same : (b : Twins) (ts us : Tokens) → b.are ts us → symbol us ≡ symbol ts
unfolding symbol
symbol_same b ts us h = b.first ℕ 0 symbol_of (λ d t. refl) ts us h

pub word_same : (b : Twins) (ts us : Tokens) → b.are ts us → word us ≡ word ts
unfolding word
word_same b ts us h = b.first (List ℕ) [] (λ t. word_by t.kind t.text) (λ d t. refl) ts us h

pub kind_same : (b : Twins) (ts us : Tokens) → b.are ts us → kind us ≡ kind ts
unfolding kind
kind_same b ts us h = b.first _ None (λ t. Some t.kind) (λ d t. refl) ts us h

pub text_same : (b : Twins) (ts us : Tokens) → b.are ts us → text us ≡ text ts
unfolding text
text_same b ts us h = b.first (List ℕ) [] (λ t. t.text) (λ d t. refl) ts us h

pub empty_same : (b : Twins) (ts us : Tokens) → b.are ts us → is_empty us ≡ is_empty ts
unfolding is_empty
empty_same b ts us h = b.first Bool true (λ _. false) (λ d t. refl) ts us h

pub open_same : (b : Twins) (ts us : Tokens) → b.are ts us → is_at_open us ≡ is_at_open ts
unfolding is_at_open
open_same b ts us h = b.first Bool false is_open (λ d t. refl) ts us h

pub end_same : (b : Twins) (ts us : Tokens) → b.are ts us → is_at_end us ≡ is_at_end ts
unfolding is_at_end
end_same b ts us h = b.first Bool true is_close (λ d t. refl) ts us h

pub identifier_same : (b : Twins) (ts us : Tokens) → b.are ts us → is_at_identifier us ≡ is_at_identifier ts
unfolding is_at_identifier
identifier_same b ts us h = b.first Bool false (λ t. identifies t.kind) (λ d t. refl) ts us h

pub doc_same : (b : Twins) (ts us : Tokens) → b.are ts us → is_at_doc us ≡ is_at_doc ts
unfolding is_at_doc
doc_same b ts us h = b.first Bool false (λ t. documents t.kind) (λ d t. refl) ts us h

pub word_test : (b : Twins) (w : List ℕ) (ts us : Tokens) → b.are ts us → bytes_eq (word us) w ≡ bytes_eq (word ts) w
word_test b w ts us h = ap (λ z. bytes_eq z w) (word_same b ts us h)

pub symbol_test : (b : Twins) (c : ℕ) (ts us : Tokens) → b.are ts us → (symbol us == c) ≡ (symbol ts == c)
symbol_test b c ts us h = ap (λ s. s == c) (symbol_same b ts us h)

-- ---- an edge is no word

-- what a token with such a symbol does not show
pub at_edge : {A : Type 0} (default : A) (view : TokenKind → List ℕ → A) → ((k : TokenKind) (z : List ℕ) → is_edge (symbol_of (record { kind = k; text = z; at = 0 })) ≡ true → view k z ≡ default)
    → (left : List Piece) → is_edge (by_first 0 symbol_of left) ≡ true → by_first default (λ t. view t.kind t.text) left ≡ default
at_edge default view none [] e = refl
at_edge default view none (t ∷ left) e = none t.kind t.text e

no_word : (k : TokenKind) (z : List ℕ) → is_edge (symbol_of (record { kind = k; text = z; at = 0 })) ≡ true → word_by k z ≡ []
no_word kinds.Ident z e = absurd cc
no_word _ z e = refl

pub edge_word : (ts : Tokens) → is_edge (symbol ts) ≡ true → word ts ≡ []
unfolding symbol word
edge_word ts e = at_edge [] (λ k z. word_by k z) no_word ts.left e

no_identifier : (k : TokenKind) (z : List ℕ) → is_edge (symbol_of (record { kind = k; text = z; at = 0 })) ≡ true → identifies k ≡ false
no_identifier kinds.Ident z e = absurd cc
no_identifier kinds.RawIdent z e = absurd cc
no_identifier _ z e = refl

pub edge_identifier : (ts : Tokens) → is_edge (symbol ts) ≡ true → is_at_identifier ts ≡ false
unfolding symbol is_at_identifier
edge_identifier ts e = at_edge false (λ k z. identifies k) no_identifier ts.left e

no_documents : (k : TokenKind) (z : List ℕ) → is_edge (symbol_of (record { kind = k; text = z; at = 0 })) ≡ true → documents k ≡ false
no_documents (kinds.LineComment _) z e = absurd cc
no_documents (kinds.BlockComment _) z e = absurd cc
no_documents _ z e = refl

pub edge_doc : (ts : Tokens) → is_edge (symbol ts) ≡ true → is_at_doc ts ≡ false
unfolding symbol is_at_doc
edge_doc ts e = at_edge false (λ k z. documents k) no_documents ts.left e

no_literal : (k : TokenKind) (z : List ℕ) → is_edge (symbol_of (record { kind = k; text = z; at = 0 })) ≡ true → is_literal_kind (Some k) ≡ false
no_literal (kinds.Literal _) z e = absurd cc
no_literal _ z e = refl

first_literal : (left : List Piece) → is_edge (by_first 0 symbol_of left) ≡ true → is_literal_kind (by_first None (λ t. Some t.kind) left) ≡ false
first_literal [] e = refl
first_literal (t ∷ left) e = no_literal t.kind t.text e

pub edge_literal : (ts : Tokens) → is_edge (symbol ts) ≡ true → is_literal_kind (kind ts) ≡ false
unfolding symbol kind
edge_literal ts e = first_literal ts.left e

pub edge_test : (b : Twins) (ts us : Tokens) → b.are ts us → is_edge (symbol ts) ≡ true → is_edge (symbol us) ≡ true
edge_test b ts us h e = rw (symbol_same b ts us h) e

-- ---- behind a word or a symbol

other_symbol : (c : ℕ) (ts : Tokens) → (symbol ts == c) ≡ true → is_edge c ≡ false → is_edge (symbol ts) ≡ false
other_symbol c ts e f = grind (arith, nat_tests)

pub word_no_edge : (w : List ℕ) (ts : Tokens) → bytes_eq [] w ≡ false → bytes_eq (word ts) w ≡ true → is_edge (symbol ts) ≡ false
word_no_edge w ts empty e = when (is_edge (symbol ts)) (λ f. let none : bytes_eq (word ts) w ≡ false = rw (edge_word ts f) empty in absurd cc) (λ f. f)

pub after_word : (b : Twins) (w : List ℕ) (ts us : Tokens) → bytes_eq [] w ≡ false → b.are ts us → bytes_eq (word ts) w ≡ true → b.are (bumped ts) (bumped us)
after_word b w ts us empty h e = b.next ts us h (word_no_edge w ts empty e)

pub after_symbol : (b : Twins) (c : ℕ) (ts us : Tokens) → is_edge c ≡ false → b.are ts us → (symbol ts == c) ≡ true → b.are (bumped ts) (bumped us)
after_symbol b c ts us other h e = b.next ts us h (other_symbol c ts e other)

pub pair_same : (b : Twins) (c d : ℕ) (ts us : Tokens) → is_edge c ≡ false → b.are ts us → is_pair c d us ≡ is_pair c d ts
unfolding is_pair
pair_same b c d ts us f h =
    when (symbol ts == c)
    (λ e. let n = after_symbol b c ts us f h e in rw (symbol_same b ts us h, b.glued (bumped ts) (bumped us) n, symbol_same b (bumped ts) (bumped us) n) refl)
    (λ e. rw (symbol_same b ts us h, e) refl)

-- behind two symbols
pub after_pair : (b : Twins) (c d : ℕ) (ts us : Tokens) → is_edge c ≡ false → is_edge d ≡ false → b.are ts us → is_pair c d ts ≡ true → b.are (bumped (bumped ts)) (bumped (bumped us))
unfolding is_pair
after_pair b c d ts us p q h e =
    let both = and_parts (symbol ts == c) (is_glued (bumped ts) && symbol (bumped ts) == d) e in
    after_symbol b d (bumped ts) (bumped us) q (after_symbol b c ts us p h both.0) (and_parts (is_glued (bumped ts)) (symbol (bumped ts) == d) both.1).1
