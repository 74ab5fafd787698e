-- The name of an item is written at the name's place.
use Rattle.std.proofs.Common.{◌≡◌, ◌⊎◌, inl, inr, ◌==◌, ◌+◌, ℕ, Bool, true, false, Option, Some, None, List, [], ◌∷◌, ◌++◌, length, refl, sym, subst, ap, ◌∙◌, append_assoc, length-append, if◌then◌else◌, option_map, slice_range, bytes_eq, eqb-true}
use Rattle.rust_items.proofs.Common.{list_any, filter, Piece, EditionYear, Tokens, tokens_of, end_of, word_by, by_first, rest, word, kind, text, at, is_empty, bumped, LeadsTo, here, further, through, when, TextRange, Placed, placed_if, placed_name, taken_with, name, next_name, name_text, plain_name, raw_name, behind_hash, unless_path_keyword, as_name, is_keyword, is_path_keyword, is_underscore, placed_next, name_read, written_name, named_or, with_feeds, place_in, moved_range, IsWritten}
use Rattle.std.proofs.lemmas.Slice.Eq.{bytes_eq-Decides}
use Rattle.rust_lexer.specs.declared.kind.TokenKind.{TokenKind}
use Rattle.rust_lexer.specs.declared.kind.TokenKind.TheVariants as kinds
use Rattle.rust_lexer.specs.Tokens.{tokens, is_significant, text_of, AreInPlace}
use Rattle.rust_lexer.proofs.Laws.{tokens_lossless, tokens_placed}
use Rattle.hir_input.specs.Name.{is_name}
use Rattle.rust_paths.proofs.Naming.{by_kind}
use Rattle.rust_items.proofs.LineEnds.{part_moved}

-- ---- a name of a token

-- a text is a name, or `r#` and then the name
abbrev pub IsSpelled : List ℕ → List ℕ → Type 0
IsSpelled name w = (w ≡ name) ⊎ (w ≡ 114 ∷ 35 ∷ name)

-- a name, if there is one, is the text of a token that is left
pub data IsToken : Tokens → Option (List ℕ) → Option TextRange → Type 0 where
  untold : {ts : Tokens} → IsToken ts None None
  told : {ts : Tokens} {name : List ℕ} (t : Tokens) → LeadsTo ts t → is_empty t ≡ false → is_name name ≡ true → IsSpelled name (text t)
      → IsToken ts (Some name) (Some (record { start = at t; end = (bumped t).past }))

pub told_behind : {ts us : Tokens} → LeadsTo ts us → (o : Option (List ℕ)) (r : Option TextRange) → IsToken us o r → IsToken ts o r
told_behind p o r untold = untold
told_behind p o r (told t before some is spelled) = told t (through p before) some is spelled

kept_if : {A : Type 0} (t : Bool) (o : Option A) (n : A) → (if t then None else o) ≡ Some n → o ≡ Some n
kept_if true o n e = absurd cc
kept_if false o n e = e

plain_spelled : (edition : EditionYear) (w n : List ℕ) → plain_name edition w ≡ Some n → w ≡ n
unfolding plain_name
plain_spelled edition w n e =
    let same : Some w ≡ Some n = kept_if (is_underscore w) (Some w) n (kept_if (is_path_keyword w) _ n (kept_if (is_keyword edition w) _ n e)) in cc

hash_spelled : (w n : List ℕ) → behind_hash w ≡ Some n → w ≡ 114 ∷ 35 ∷ n
hash_spelled [] n e = absurd cc
hash_spelled (b ∷ []) n e = absurd cc
hash_spelled (b ∷ c ∷ w) n e =
    when (b == 114)
    (λ s. when (c == 35)
    (λ t. let first : b ≡ 114 = eqb-true b 114 s in let second : c ≡ 35 = eqb-true c 35 t in let same : Some w ≡ Some n = rw (s, t) at e in cc)
    (λ t. let none : None ≡ Some n = rw (s, t) at e in absurd cc))
    (λ s. let none : None ≡ Some n = rw s at e in absurd cc)

raw_spelled : (o : Option (List ℕ)) (n : List ℕ) → unless_path_keyword o ≡ Some n → o ≡ Some n
raw_spelled None n e = absurd cc
raw_spelled (Some w) n e = kept_if (is_underscore w) (Some w) n (kept_if (is_path_keyword w) _ n e)

text_spelled : (edition : EditionYear) (k : Option TokenKind) (w n : List ℕ) → name_text edition k w ≡ Some n → IsSpelled n w
unfolding raw_name
text_spelled edition (Some kinds.Ident) w n e = inl (plain_spelled edition w n e)
text_spelled edition (Some kinds.RawIdent) w n e = inr (hash_spelled w n (raw_spelled (behind_hash w) n e))
text_spelled edition _ w n e = absurd cc

as_same : (o : Option (List ℕ)) (n : List ℕ) → as_name o ≡ Some n → (o ≡ Some n) × (is_name n ≡ true)
as_same None n e = absurd cc
as_same (Some w) n e =
    when (is_name w) (λ h. let same : Some w ≡ Some n = rw h at e in let here : w ≡ n = cc in (same, rw here at h)) (λ h. let none : None ≡ Some n = rw h at e in absurd cc)

next_spelled : (ts : Tokens) (n : List ℕ) → next_name ts ≡ Some n → (is_name n ≡ true) × IsSpelled n (text ts)
unfolding next_name
next_spelled ts n e = let h = as_same (name_text ts.edition (kind ts) (text ts)) n (by_kind ts.edition (kind ts) (text ts) ∙ e) in (h.1, text_spelled ts.edition (kind ts) (text ts) n h.0)

placed_same : (ts : Tokens) (o : Option (List ℕ)) (p : Placed) → next_name ts ≡ o → placed_if (at ts) (taken_with o ts).0 (taken_with o ts).1.past ≡ Some p → next_name ts ≡ Some p.name
placed_same ts None p n e = absurd cc
placed_same ts (Some w) p n e = let same : record { name = w; start = at ts; end = (bumped ts).past } ≡ p = cc in n ∙ ap (λ q. Some q.name) same

next_placed : (ts : Tokens) (p : Placed) → (placed_name ts).0 ≡ Some p → next_name ts ≡ Some p.name
unfolding placed_name name next_name
next_placed ts p e = placed_same ts (next_name ts) p refl e

read_told : (ts : Tokens) (o : Option Placed) → (placed_name ts).0 ≡ o → IsToken ts (name_read o (text ts)).name (name_read o (text ts)).range
read_told ts None e = untold
read_told ts (Some p) e =
    let n = placed_next ts p e in
    let s = next_spelled ts p.name (next_placed ts p e) in
    rw (n.start, n.end) (told ts here n.some s.0 s.1)

pub named_told : (ts : Tokens) → IsToken ts (written_name ts).0.name (written_name ts).0.range
unfolding written_name
named_told ts = read_told ts (placed_name ts).0 refl

-- a word is the text of its token
word_first : (left : List Piece) (b : ℕ) (z : List ℕ) → by_first [] (λ t. word_by t.kind t.text) left ≡ b ∷ z → (by_first true (λ _. false) left ≡ false) × (by_first [] (λ t. t.text) left ≡ b ∷ z)
word_first [] b z e = absurd cc
word_first (t ∷ ts) b z e = (refl, word_text t.kind t.text b z e)
  where
    word_text : (k : TokenKind) (w : List ℕ) (b : ℕ) (z : List ℕ) → word_by k w ≡ b ∷ z → w ≡ b ∷ z
    word_text kinds.Ident w b z e = e
    word_text _ w b z e = absurd cc

word_told : (ts : Tokens) (b : ℕ) (z : List ℕ) → word ts ≡ b ∷ z → is_name (b ∷ z) ≡ true → IsToken ts (Some (b ∷ z)) (Some (record { start = at ts; end = (bumped ts).past }))
unfolding word text is_empty
word_told ts b z e is = let f = word_first ts.left b z e in told ts here f.0 is (inl f.1)

as_some : (w : List ℕ) → is_name w ≡ true → as_name (Some w) ≡ Some w
as_some w e = rw e refl

pub named_or_told : (b : ℕ) (z : List ℕ) → is_name (b ∷ z) ≡ true → (ts : Tokens) → IsToken ts (named_or (b ∷ z) ts).0.name (named_or (b ∷ z) ts).0.range
unfolding named_or
named_or_told b z is ts =
    when (bytes_eq (word ts) (b ∷ z))
    (λ e. let same : word ts ≡ b ∷ z = (bytes_eq-Decides (word ts) (b ∷ z)).0 e in rw e (rw (same, as_some (b ∷ z) is) (word_told ts b z same is)))
    (λ e. rw e (named_told ts))

-- ---- where tokens stand in a text

-- a text is a part of another, behind so many bytes
record IsPart (z : List ℕ) (place : ℕ) (w : List ℕ) : Type 0 where
  pub front : List ℕ
  pub back : List ℕ
  pub whole : z ≡ front ++ (w ++ back)
  pub before : length front ≡ place

abbrev AreParts : List ℕ → List Piece → Type 0
AreParts z [] = Unit {0}
AreParts z (t ∷ ts) = IsPart z t.at t.text × AreParts z ts

parts_from : (z front : List ℕ) (ts : List Piece) → AreInPlace (length front) ts → z ≡ front ++ text_of ts → AreParts z (filter is_significant ts)
parts_from z front [] p e = tt
parts_from z front (t ∷ ts) p e =
    let later = parts_from z (front ++ t.text) ts (subst (λ (n : ℕ). AreInPlace n ts) (sym (length-append front t.text)) p.1) (e ∙ sym (append_assoc front t.text (text_of ts))) in
    let first : IsPart z t.at t.text = record { front = front; back = text_of ts; whole = e; before = sym p.0 } in
    when (is_significant t) (λ s. rw s (first, later)) (λ s. rw s later)

parts_rest : (z : List ℕ) (left : List Piece) → AreParts z left → AreParts z (rest left)
parts_rest z [] h = tt
parts_rest z (t ∷ ts) h = h.1

parts_behind : (z : List ℕ) {ts us : Tokens} → LeadsTo ts us → AreParts z ts.left → AreParts z us.left
unfolding bumped
parts_behind z here h = h
parts_behind z {ts} (further p) h = parts_behind z p (parts_rest z ts.left h)

text_parts : (edition : EditionYear) (z : List ℕ) → AreParts z (tokens_of edition z).left
unfolding tokens_of
text_parts edition z = parts_from z [] (tokens z) (tokens_placed z) (sym (tokens_lossless z))

first_part : (z : List ℕ) (past : ℕ) (left : List Piece) → AreParts z left → by_first true (λ _. false) left ≡ false
    → IsPart z (by_first past (λ t. t.at) left) (by_first [] (λ t. t.text) left) × (by_first past end_of left ≡ by_first past (λ t. t.at) left + length (by_first [] (λ t. t.text) left))
first_part z past [] h e = absurd cc
first_part z past (t ∷ ts) h e = (h.0, refl)

token_part : (edition : EditionYear) (z : List ℕ) (t : Tokens) → LeadsTo (tokens_of edition z) t → is_empty t ≡ false → IsPart z (at t) (text t) × ((bumped t).past ≡ at t + length (text t))
unfolding bumped at text is_empty
token_part edition z t p e = first_part z t.past t.left (parts_behind z p (text_parts edition z)) e

-- ---- in the text as it is

no_feed : (n : List ℕ) → is_name n ≡ true → list_any (λ c. c == 10) n ≡ false
no_feed [] e = refl
no_feed (b ∷ z) e = when (list_any (λ c. c == 10) (b ∷ z)) (λ h. let wrong : false ≡ true = rw h at e in absurd cc) (λ h. h)

spelled_feed : (n w : List ℕ) → is_name n ≡ true → IsSpelled n w → list_any (λ c. c == 10) w ≡ false
spelled_feed n w e (inl s) = rw s (no_feed n e)
spelled_feed n w e (inr s) = rw s (no_feed n e)

spelled_at : (n w v : List ℕ) → v ≡ w → IsSpelled n w → IsSpelled n v
spelled_at n w v e (inl s) = inl (e ∙ s)
spelled_at n w v e (inr s) = inr (e ∙ s)

-- a name that is told of the text with line feeds alone is written in the text
pub told_written : (edition : EditionYear) (z : List ℕ) (o : Option (List ℕ)) (r : Option TextRange) → IsToken (tokens_of edition (with_feeds z)) o r → IsWritten z o (option_map (moved_range (place_in z)) r)
told_written edition z o r untold = tt
told_written edition z o r (told {name = n} t leads some is spelled) =
    let p = token_part edition (with_feeds z) t leads some in
    let w = p.0 in
    let moved = part_moved z w.front (text t) w.back w.whole (spelled_feed n (text t) is spelled) in
    let here : slice_range z (place_in z (at t)) (place_in z (bumped t).past) ≡ text t =
    subst (λ (m : ℕ). slice_range z (place_in z (at t)) (place_in z m) ≡ text t) (sym p.1)
    (subst (λ (m : ℕ). slice_range z (place_in z m) (place_in z (m + length (text t))) ≡ text t) w.before moved) in
    spelled_at n (text t) _ here spelled
