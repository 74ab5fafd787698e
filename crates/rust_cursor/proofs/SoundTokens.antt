-- Tokens whose brackets are told by their kind, as those of a text.
use Rattle.std.proofs.Common.{◌≡◌, ℕ, ◌==◌, ◌||◌, true, false, List, [], ◌∷◌, length, refl, ◌∙◌, sym, filter}
use Rattle.rust_cursor.proofs.Common.{eqb-true, or_parts, EditionYear, TokenKind, Piece, symbol_of, All-head, All-tail, is_significant, tokens, Tokens, tokens_of, opens, closes, is_open, is_close, by_first, rest, symbol, is_empty, is_at_open, is_at_end, bumped, opens_other, closes_other, closing}
use Rattle.rust_lexer.specs.declared.kind.TokenKind.TheVariants as kinds
use Rattle.rust_lexer.proofs.Braces.{is_open_kind, is_close_kind, IsBracket, AreBrackets, tokens_brackets}
use Rattle.rust_cursor.proofs.TokenRests.{end_some, LeadsTo, here, further, when}
use Rattle.rust_cursor.proofs.TokenPlaces.{IsLaid, behind, tokens_laid}
use Rattle.rust_cursor.proofs.ClosingBrace.{Shuts, by_brace, by_other}

-- ---- tokens whose brackets are told by their kind

pub record IsBrace (t : Piece) : Type 0 where
  pub opening : is_open t ≡ (symbol_of t == 123 || opens_other (symbol_of t))
  pub closing : is_close t ≡ (symbol_of t == 125 || closes_other (symbol_of t))

abbrev pub AreBraces : List Piece → Type 0
AreBraces [] = Unit {0}
AreBraces (t ∷ ts) = IsBrace t × AreBraces ts

pub record IsSound (end : ℕ) (ts : Tokens) : Type 0 where
  pub laid : IsLaid end ts
  pub braces : AreBraces ts.left

rest_braces : (left : List Piece) → AreBraces left → AreBraces (rest left)
rest_braces [] h = h
rest_braces (t ∷ ts) h = h.1

braces_on : {ts us : Tokens} → LeadsTo ts us → AreBraces ts.left → AreBraces us.left
unfolding bumped
braces_on here h = h
braces_on {ts} (further p) h = braces_on p (rest_braces ts.left h)

pub sound_on : {ts us : Tokens} (end : ℕ) → LeadsTo ts us → IsSound end ts → IsSound end us
sound_on end p s = record { laid = (behind end p s.laid).laid; braces = braces_on p s.braces }

open_first : (left : List Piece) → AreBraces left → by_first false is_open left ≡ (by_first 0 symbol_of left == 123 || opens_other (by_first 0 symbol_of left))
open_first [] h = refl
open_first (t ∷ ts) h = h.0.opening

pub open_is : (end : ℕ) (ts : Tokens) → IsSound end ts → is_at_open ts ≡ (symbol ts == 123 || opens_other (symbol ts))
unfolding is_at_open symbol
open_is end ts s = open_first ts.left s.braces

end_first : (left : List Piece) → AreBraces left → by_first true (λ _. false) left ≡ false → by_first true is_close left ≡ (by_first 0 symbol_of left == 125 || closes_other (by_first 0 symbol_of left))
end_first [] h e = absurd cc
end_first (t ∷ ts) h e = h.0.closing

pub end_is : (end : ℕ) (ts : Tokens) → IsSound end ts → is_empty ts ≡ false → is_at_end ts ≡ (symbol ts == 125 || closes_other (symbol ts))
unfolding is_empty is_at_end symbol
end_is end ts s e = end_first ts.left s.braces e

-- no bracket closes there
pub record NoCloser (s : ℕ) : Type 0 where
  pub no_brace : (s == 125) ≡ false
  pub no_other : closes_other s ≡ false

pub not_end : (end : ℕ) (ts : Tokens) → IsSound end ts → is_at_end ts ≡ false → NoCloser (symbol ts)
not_end end ts s e =
    let some = end_some ts e in
    let p = or_parts (symbol ts == 125) (closes_other (symbol ts)) (sym (end_is end ts s some) ∙ e) in
    record { no_brace = p.0; no_other = p.1 }

pub other_opens : (s : ℕ) → opens_other s ≡ true → NoCloser s
other_opens s f =
    when (s == 40) (λ e. rw (eqb-true s 40 e) (record { no_brace = refl; no_other = refl }))
    (λ e. let r = rw e at f in rw (eqb-true s 91 r) (record { no_brace = refl; no_other = refl }))

-- a bracket opens there
pub data OpensAt (s : ℕ) : Type 0 where
  curly : (s == 123) ≡ true → OpensAt s
  round : (s == 123) ≡ false → opens_other s ≡ true → OpensAt s

pub opens_at : (end : ℕ) (ts : Tokens) → IsSound end ts → is_at_open ts ≡ true → OpensAt (symbol ts)
opens_at end ts s e =
    let f = sym (open_is end ts s) ∙ e in
    when (symbol ts == 123) (λ g. curly g) (λ g. let r = rw g at f in round g r)

pub opens_no_closer : (s : ℕ) → OpensAt s → NoCloser s
opens_no_closer s (curly e) = rw (eqb-true s 123 e) (record { no_brace = refl; no_other = refl })
opens_no_closer s (round e f) = other_opens s f

pub closer_shuts : {A : Type 0} (c k j : ℕ) (ts : Tokens) → NoCloser (symbol ts) → Shuts c k j ts → A
closer_shuts c k j ts n (by_brace z f) = absurd (let no = n.no_brace in cc)
closer_shuts c k j ts n (by_other z y g f h) = absurd (let no = n.no_other in cc)

-- ---- the tokens of a text

counted_braces : (ts : List Piece) → AreBrackets ts → AreBraces (filter is_significant ts)
counted_braces [] h = tt
counted_braces (t ∷ ts) h =
    let one = All-head IsBracket t ts h in
    let rest = counted_braces ts (All-tail IsBracket t ts h) in
    when (is_significant t) (λ e. rw e (record { opening = by_opens t.kind (symbol_of t) one.opening; closing = by_closes t.kind (symbol_of t) one.closing }, rest)) (λ e. rw e rest)
  where
    by_opens : (k : TokenKind) (s : ℕ) → is_open_kind k ≡ (s == 123 || opens_other s) → opens k ≡ (s == 123 || opens_other s)
    by_opens kinds.OpenDelim s e = e
    by_opens _ s e = e

    by_closes : (k : TokenKind) (s : ℕ) → is_close_kind k ≡ (s == 125 || closes_other s) → closes k ≡ (s == 125 || closes_other s)
    by_closes kinds.CloseDelim s e = e
    by_closes _ s e = e

pub tokens_sound : (edition : EditionYear) (text : List ℕ) → IsSound (length text) (tokens_of edition text)
unfolding tokens_of
tokens_sound edition text = record { laid = tokens_laid edition text; braces = counted_braces (tokens text) (tokens_brackets text) }
