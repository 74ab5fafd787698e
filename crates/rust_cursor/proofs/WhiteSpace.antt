-- White space counts for nothing.
use Rattle.std.proofs.Common.{◌≡◌, ℕ, true, false, Option, None, List, [], ◌∷◌, IsTrue, refl, sym, ap, ◌∙◌, filter}
use Rattle.rust_lexer.specs.Tokens.{is_nil, is_significant_kind}
use Rattle.rust_cursor.proofs.Common.{TokenKind, Piece, is_significant, last_unended, place_if_open}
use Rattle.rust_lexer.specs.declared.kind.TokenKind.TheVariants as kinds

found_by : (k : TokenKind) (text : List ℕ) (at : ℕ) (ts : List Piece) → k ≡ kinds.Whitespace → (let t : Piece = record { kind = k; text = text; at = at } in
    filter is_significant (t ∷ ts) ≡ filter is_significant ts)
found_by k text at ts e = rw e refl

pub white_found : (t : Piece) (old new : List Piece) → t.kind ≡ kinds.Whitespace → old ≡ t ∷ new → filter is_significant new ≡ filter is_significant old
white_found t old new e is = sym (ap (filter is_significant) is ∙ found_by t.kind t.text t.at new e)

last_by : (k : TokenKind) (text : List ℕ) (at : ℕ) (last : Option ℕ) (ts : List Piece) → k ≡ kinds.Whitespace → (let t : Piece = record { kind = k; text = text; at = at } in
    last_unended last (t ∷ ts) ≡ last_unended None ts)
last_by k text at last ts e = rw e refl

pub white_last : (t : Piece) (last : Option ℕ) (old new : List Piece) → t.kind ≡ kinds.Whitespace → old ≡ t ∷ new → last_unended None new ≡ last_unended last old
white_last t last old new e is = sym (ap (last_unended last) is ∙ last_by t.kind t.text t.at last new e)

-- ---- a token of a short path

counted_by : (k : TokenKind) (text : List ℕ) (at : ℕ) (ts : List Piece) → is_significant_kind k ≡ true → (let t : Piece = record { kind = k; text = text; at = at } in
    filter is_significant (t ∷ ts) ≡ t ∷ filter is_significant ts)
counted_by k text at ts e = rw e refl

pub frequent_found : (t : Piece) (old new : List Piece) → IsTrue (is_significant t) → old ≡ t ∷ new → filter is_significant old ≡ t ∷ filter is_significant new
frequent_found t old new counts e = ap (filter is_significant) e ∙ counted_by t.kind t.text t.at new counts

-- where more tokens are left, the last one does not tell
last_left : (last other : Option ℕ) (ts : List Piece) → is_nil ts ≡ false → last_unended last ts ≡ last_unended other ts
last_left last other [] e = absurd cc
last_left last other (t ∷ ts) e = refl

pub frequent_last : (t : Piece) (last : Option ℕ) (old new : List Piece) → is_nil new ≡ false → old ≡ t ∷ new → last_unended last new ≡ last_unended last old
frequent_last t last old new more e = last_left last (place_if_open t) new more ∙ sym (ap (last_unended last) e)
