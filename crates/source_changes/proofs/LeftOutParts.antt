-- Texts that differ in a part that is left out have the same tokens that count.
use Rattle.std.proofs.Common.{◌≡◌, ◌≤◌, ◌<◌, ◌+◌, ◌++◌, ℕ, suc, Bool, true, false, List, [], ◌∷◌, length, All, refl, sym, ap, ◌∙◌, arith, nat_le, map}
use Rattle.std.proofs.lemmas.List.Elements.{All-head, All-tail}
use Rattle.rust_lexer.specs.Alone.{moved_piece}
use Rattle.rust_lexer.specs.Piece.{Piece}
use Rattle.rust_lexer.specs.Symbol.{symbol_of}
use Rattle.rust_lexer.proofs.Cases.{when}
use Rattle.std.proofs.lemmas.Bool.Decides.{nat_tests}
use Rattle.source_changes.specs.Inner.{ComeBehind, IsBefore}
use Rattle.source_changes.specs.Skeletons.{is_begun, kept_tokens, not_over, text_if_kept}
use Rattle.source_changes.specs.declared.kept.Hole.{Hole}
use Rattle.source_changes.proofs.Holes.{KeepsAlike, come_behind, inside_left, kept_step}

-- a part in a text with so many bytes in front
abbrev pub moved_on : ℕ → Hole → Hole
moved_on by h = record { start = h.start + by; end = h.end + by }

-- at two places either both stand in the first of some parts that do not end before, or neither does
abbrev pub LeavesAlike : ℕ → List Hole → ℕ → List Hole → Type 0
LeavesAlike at holes at' holes' = is_begun at (not_over at holes) ≡ is_begun at' (not_over at' holes')

-- the same tokens, each text's so many bytes further on
moved_alike : (docs : Bool) (holes holes' : List Hole) (d d' before place place' : ℕ) (ts : List Piece) → ((at : ℕ) → LeavesAlike (at + d) holes (at + d') holes') → ComeBehind place (map (moved_piece d) ts) → ComeBehind place' (map (moved_piece d') ts)
    → kept_tokens docs holes before (map (moved_piece d) ts) ≡ kept_tokens docs holes' before (map (moved_piece d') ts)
moved_alike docs holes holes' d d' before place place' [] same a a' = refl
moved_alike docs holes holes' d d' before place place' (t ∷ ts) same a a' =
    let size = length t.text in
    let here : text_if_kept docs (not_over (t.at + d) holes) before (moved_piece d t) ≡ text_if_kept docs (not_over (t.at + d') holes') before (moved_piece d' t) = rw (same t.at) refl in
    kept_step docs holes before place (moved_piece d t) (map (moved_piece d) ts) a
    ∙ ap (λ l. l ++ kept_tokens docs holes (symbol_of t) (map (moved_piece d) ts)) here
    ∙ ap (λ l. text_if_kept docs (not_over (t.at + d') holes') before (moved_piece d' t) ++ l) (moved_alike docs holes holes' d d' (symbol_of t) (t.at + d + size) (t.at + d' + size) ts same a.1.1 a'.1.1)
    ∙ sym (kept_step docs holes' before place' (moved_piece d' t) (map (moved_piece d') ts) a')

-- the same tokens in front of others
pub front_alike : (docs : Bool) (holes holes' : List Hole) (before place from from' : ℕ) (front ts ts' : List Piece) → ((at : ℕ) → at < place → LeavesAlike at holes at holes') → All (λ t. t.at < place) front
    → ComeBehind from (front ++ ts) → ComeBehind from' (front ++ ts') → KeepsAlike docs holes ts holes' ts' → kept_tokens docs holes before (front ++ ts) ≡ kept_tokens docs holes' before (front ++ ts')
front_alike docs holes holes' before place from from' [] ts ts' same low a a' rest = rest before before
front_alike docs holes holes' before place from from' (t ∷ front) ts ts' same low a a' rest =
    let next = t.at + length t.text in
    let here : text_if_kept docs (not_over t.at holes) before t ≡ text_if_kept docs (not_over t.at holes') before t = rw (same t.at (All-head (λ t. t.at < place) t front low)) refl in
    kept_step docs holes before from t (front ++ ts) a
    ∙ ap (λ l. l ++ kept_tokens docs holes (symbol_of t) (front ++ ts)) here
    ∙ ap (λ l. text_if_kept docs (not_over t.at holes') before t ++ l) (front_alike docs holes holes' (symbol_of t) place next next front ts ts' same (All-tail (λ t. t.at < place) t front low) a.1.1 a'.1.1 rest)
    ∙ sym (kept_step docs holes' before from' t (front ++ ts') a')

-- ---- which parts leave out what

-- parts that begin and end no sooner leave out nothing before
pub same_front : (at place : ℕ) (front holes holes' : List Hole) → at < place → IsBefore place holes → IsBefore place holes' → LeavesAlike at (front ++ holes) at (front ++ holes')
same_front at place [] holes holes' low b b' = none holes b ∙ sym (none holes' b')
  where
    none : (hs : List Hole) → IsBefore place hs → is_begun at (not_over at hs) ≡ false
    none [] b = refl
    none (h ∷ hs) b =
        let over : nat_le h.end at ≡ false = grind (arith, nat_tests) in
        let begun : nat_le h.start at ≡ false = grind (arith, nat_tests) in
        rw (over, begun) refl
same_front at place (h ∷ front) holes holes' low b b' =
    when (nat_le h.end at) (λ e. rw e (same_front at place front holes holes' low b b')) (λ e. rw e refl)

-- these end up to a place
abbrev pub EndBy : ℕ → List Hole → Type 0
EndBy place [] = Unit {0}
EndBy place (h ∷ hs) = (h.end ≤ place) × EndBy place hs

pub passed_front : (at place : ℕ) (front holes : List Hole) → place ≤ at → EndBy place front → not_over at (front ++ holes) ≡ not_over at holes
passed_front at place [] holes le e = refl
passed_front at place (h ∷ front) holes le e =
    let over : nat_le h.end at ≡ true = grind (arith, nat_tests) in rw over (passed_front at place front holes le e.1)

moved_over : (at d : ℕ) (holes : List Hole) → LeavesAlike at holes (at + d) (map (moved_on d) holes)
moved_over at d [] = refl
moved_over at d (h ∷ hs) =
    let over : nat_le (h.end + d) (at + d) ≡ nat_le h.end at = grind (arith, nat_tests) in
    let begun : nat_le (h.start + d) (at + d) ≡ nat_le h.start at = grind (arith, nat_tests) in
    when (nat_le h.end at) (λ e. rw (over, e) (moved_over at d hs)) (λ e. rw (over, e, begun) refl)

-- ---- a part that is left out, in two texts

-- What stands behind the `{` at a place, up to the `}`: it is left out, whatever it is, and so are these parts in front of it, and these behind the `}`.
abbrev pub holes_about : ℕ → ℕ → List Hole → List Hole → List Hole
holes_about from to before behind = before ++ record { start = suc from; end = to } ∷ map (moved_on to) behind

behind_close : (from to at : ℕ) (before behind : List Hole) → EndBy (suc from) before → from < to → LeavesAlike (at + to) (holes_about from to before behind) at behind
behind_close from to at before behind e some =
    let over : nat_le to (at + to) ≡ true = grind (arith, nat_tests) in
    ap (is_begun (at + to)) (passed_front (at + to) (suc from) before (record { start = suc from; end = to } ∷ map (moved_on to) behind) (omega (arith, some)) e)
    ∙ rw over (sym (moved_over at to behind))

in_hole : (from to at : ℕ) (before behind : List Hole) → EndBy (suc from) before → suc from ≤ at → at < to → is_begun at (not_over at (holes_about from to before behind)) ≡ true
in_hole from to at before behind e low high =
    let over : nat_le to at ≡ false = grind (arith, nat_tests) in
    let begun : nat_le (suc from) at ≡ true = grind (arith, nat_tests) in
    ap (is_begun at) (passed_front at (suc from) before (record { start = suc from; end = to } ∷ map (moved_on to) behind) low e) ∙ rw (over, begun) refl

-- these stand between the `{` and the `}`
abbrev pub AreInside : ℕ → ℕ → List Piece → Type 0
AreInside from to ts = All (λ t. (suc from ≤ t.at) × (t.at < to)) ts

-- the `}` is one mark with nothing that stands before it
rest_lone : (d : ℕ) (docs : Bool) (hs : List Hole) (e : Piece) (ts : List Piece) → symbol_of e ≡ 125 → KeepsAlike docs hs (map (moved_piece d) (e ∷ ts)) hs (map (moved_piece d) (e ∷ ts))
rest_lone d docs hs e ts is b b' =
    let here : text_if_kept docs (not_over (e.at + d) hs) b (moved_piece d e) ≡ text_if_kept docs (not_over (e.at + d) hs) b' (moved_piece d e) = rw is refl in
    ap (λ l. l ++ kept_tokens docs (not_over (e.at + d) hs) (symbol_of e) (map (moved_piece d) ts)) here

module _ (docs : Bool) (from to to' : ℕ) (before behind : List Hole) (ended : EndBy (suc from) before) (some : from < to) (some' : from < to') where
  abbrev hs : List Hole
  hs = holes_about from to before behind

  abbrev hs' : List Hole
  hs' = holes_about from to' before behind

  -- from the `}` on
  rest_alike : (place place' : ℕ) (e : Piece) (ts : List Piece) → symbol_of e ≡ 125 → ComeBehind place (map (moved_piece to) (e ∷ ts)) → ComeBehind place' (map (moved_piece to') (e ∷ ts)) → KeepsAlike docs hs (map (moved_piece to) (e ∷ ts)) hs' (map (moved_piece to') (e ∷ ts))
  rest_alike place place' e ts is a a' b b' =
      rest_lone to docs hs e ts is b b'
      ∙ moved_alike docs hs hs' to to' b' place place' (e ∷ ts) (λ at. behind_close from to at before behind ended some ∙ sym (behind_close from to' at before behind ended some')) a a'

  -- from the `{` on
  brace_alike : (place place' : ℕ) (o e : Piece) (inside inside' ts : List Piece) → symbol_of o ≡ 123 → symbol_of e ≡ 125 → o.at ≡ from → AreInside from to inside → AreInside from to' inside'
      → ComeBehind place (o ∷ (inside ++ map (moved_piece to) (e ∷ ts))) → ComeBehind place' (o ∷ (inside' ++ map (moved_piece to') (e ∷ ts)))
      → KeepsAlike docs hs (o ∷ (inside ++ map (moved_piece to) (e ∷ ts))) hs' (o ∷ (inside' ++ map (moved_piece to') (e ∷ ts)))
  brace_alike place place' o e inside inside' ts is ends at within within' a a' b b' =
      let rest = map (moved_piece to) (e ∷ ts) in
      let rest' = map (moved_piece to') (e ∷ ts) in
      let next = o.at + length o.text in
      let left = come_behind next inside rest a.1.1 in
      let left' = come_behind next inside' rest' a'.1.1 in
      let same : LeavesAlike o.at hs o.at hs' = same_front o.at (suc from) before _ _ (omega (arith, at)) (omega arith, omega (arith, some)) (omega arith, omega (arith, some')) in
      let here : text_if_kept docs (not_over o.at hs) b o ≡ text_if_kept docs (not_over o.at hs') b' o = rw (is, same) refl in
      kept_step docs hs b place o (inside ++ rest) a
      ∙ ap (λ l. l ++ kept_tokens docs hs (symbol_of o) (inside ++ rest)) here
      ∙ ap (λ l. text_if_kept docs (not_over o.at hs') b' o ++ l)
      (inside_left docs hs (symbol_of o) 0 (suc from) to next inside rest (λ at low high. in_hole from to at before behind ended low high) within a.1.1 (rest_lone to docs hs e ts ends)
      ∙ rest_alike next next e ts ends left left' 0 0
      ∙ sym (inside_left docs hs' (symbol_of o) 0 (suc from) to' next inside' rest' (λ at low high. in_hole from to' at before behind ended low high) within' a'.1.1 (rest_lone to' docs hs' e ts ends)))
      ∙ sym (kept_step docs hs' b' place' o (inside' ++ rest') a')

  -- the same is kept of both texts
  pub typed_alike : (place place' : ℕ) (front : List Piece) (o e : Piece) (inside inside' ts : List Piece) → All (λ t. t.at < from) front → symbol_of o ≡ 123 → symbol_of e ≡ 125 → o.at ≡ from → AreInside from to inside → AreInside from to' inside'
      → ComeBehind place (front ++ o ∷ (inside ++ map (moved_piece to) (e ∷ ts))) → ComeBehind place' (front ++ o ∷ (inside' ++ map (moved_piece to') (e ∷ ts)))
      → kept_tokens docs hs 0 (front ++ o ∷ (inside ++ map (moved_piece to) (e ∷ ts))) ≡ kept_tokens docs hs' 0 (front ++ o ∷ (inside' ++ map (moved_piece to') (e ∷ ts)))
  typed_alike place place' front o e inside inside' ts low is ends at within within' a a' =
      front_alike docs hs hs' 0 from place place' front _ _ (λ k lower. same_front k from before _ _ lower (omega arith, omega (arith, some)) (omega arith, omega (arith, some'))) low a a'
      (brace_alike _ _ o e inside inside' ts is ends at within within' (come_behind place front _ a) (come_behind place' front _ a'))
