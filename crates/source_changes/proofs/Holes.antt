-- What stands in a part that is left out, or in an attribute that documents, is passed over at once.
use Rattle.std.proofs.Common.{◌≡◌, ◌≤◌, ◌<◌, ◌+◌, ◌++◌, ◌==◌, ◌&&◌, ℕ, zero, suc, Bool, true, false, Option, Some, None, List, [], ◌∷◌, length, All, is_some, if◌then◌else◌, refl, sym, ap, ◌∙◌, subst, arith, nat_le}
use Rattle.std.proofs.lemmas.Bool.{eqb-true, leb-true}
use Rattle.std.proofs.lemmas.List.{length-append}
use Rattle.std.proofs.lemmas.List.Elements.{All-cons, All-head, All-nil, All-tail}
use Rattle.rust_lexer.specs.Depths.{depth_behind, to_outer}
use Rattle.rust_lexer.specs.Piece.{Piece}
use Rattle.rust_lexer.specs.Symbol.{symbol_of}
use Rattle.rust_lexer.specs.Tokens.{AreInPlace, is_significant}
use Rattle.rust_lexer.specs.declared.depth.Depth.{Depth}
use Rattle.rust_cursor.proofs.LocalReaders.{both_true}
use Rattle.rust_lexer.proofs.Cases.{when}
use Rattle.source_changes.specs.DocAttributes.{as_comment, behind_tests, comment_if, doc_left, doc_list, docs_as_comments, inner_doc_list}
use Rattle.source_changes.specs.Inner.{ComeBehind, ends_behind}
use Rattle.source_changes.specs.Skeletons.{counts, is_begun, is_one_mark, kept_tokens, not_over, text_if_kept}
use Rattle.source_changes.specs.declared.kept.Hole.{Hole}
use Rattle.source_changes.proofs.AsComments.{brace_parts, is_brace, no_attribute, placed, still_behind}
use Rattle.source_changes.proofs.Common.{nat_tests}

pub sooner : (n m : ℕ) (ts : List Piece) → n ≤ m → ComeBehind m ts → ComeBehind n ts
sooner n m [] le a = tt
sooner n m (t ∷ ts) le a = (omega (arith, le, a.0), a.1)

-- tokens that are in place, and not empty, come one behind the other
pub after_all : (at : ℕ) (ts : List Piece) → AreInPlace at ts → All (λ t. 0 < length t.text) ts → ComeBehind at ts
after_all at [] p a = tt
after_all at (t ∷ ts) p a =
    let next = after_all (at + length t.text) ts p.1 (All-tail (λ t. 0 < length t.text) t ts a) in
    (omega (arith, p.0), (All-head (λ t. 0 < length t.text) t ts a, sooner (t.at + length t.text) (at + length t.text) ts (omega (arith, p.0)) next))

-- those behind some of these
pub come_behind : (place : ℕ) (front ts : List Piece) → ComeBehind place (front ++ ts) → ComeBehind place ts
come_behind place [] ts b = b
come_behind place (t ∷ front) ts b = sooner place (t.at + length t.text) ts (omega (arith, b.0)) (come_behind (t.at + length t.text) front ts b.1.1)

-- ---- parts that end before tokens

not_over_later : (place at : ℕ) (holes : List Hole) → place ≤ at → not_over at (not_over place holes) ≡ not_over at holes
not_over_later place at [] le = refl
not_over_later place at (h ∷ hs) le =
    when (nat_le h.end place)
    (λ c. let over : nat_le h.end at ≡ true = grind (arith, nat_tests) in rw (c, over) (not_over_later place at hs le))
    (λ c. rw c refl)

pub uncounted : (docs : Bool) (holes : List Hole) (before : ℕ) (t : Piece) → counts docs t ≡ false → text_if_kept docs holes before t ≡ []
uncounted docs holes before t c = rw c refl

-- they count for none of these
pub kept_later : (docs : Bool) (place behind : ℕ) (holes : List Hole) (before : ℕ) (ts : List Piece) → place ≤ behind → ComeBehind behind ts → kept_tokens docs (not_over place holes) before ts ≡ kept_tokens docs holes before ts
kept_later docs place behind holes before [] le a = refl
kept_later docs place behind holes before (t ∷ ts) le a =
    ap (λ hs. text_if_kept docs hs before t ++ kept_tokens docs hs (symbol_of t) ts) (not_over_later place t.at holes (omega (arith, le, a.0)))

-- tokens as they come in the text
pub kept_step : (docs : Bool) (holes : List Hole) (before place : ℕ) (t : Piece) (ts : List Piece) → ComeBehind place (t ∷ ts)
    → kept_tokens docs holes before (t ∷ ts) ≡ text_if_kept docs (not_over t.at holes) before t ++ kept_tokens docs holes (symbol_of t) ts
kept_step docs holes before place t ts a =
    ap (λ l. text_if_kept docs (not_over t.at holes) before t ++ l) (kept_later docs t.at (t.at + length t.text) holes (symbol_of t) ts (omega arith) a.1.1)

-- ---- marks

-- a token that is no mark with what stands before it
pub alone : (t : Piece) (ts : List Piece) → ((before : ℕ) → is_one_mark before (symbol_of t) ≡ false)
    → (docs : Bool) (holes : List Hole) (before other : ℕ) → kept_tokens docs holes before (t ∷ ts) ≡ kept_tokens docs holes other (t ∷ ts)
alone t ts e docs holes before other =
    let first = not_over t.at holes in ap (λ l. l ++ kept_tokens docs first (symbol_of t) ts) (same first)
  where
    same : (first : List Hole) → text_if_kept docs first before t ≡ text_if_kept docs first other t
    same first = rw (e before, e other) refl

closing : (t : Piece) → symbol_of t ≡ 125 → (before : ℕ) → is_one_mark before (symbol_of t) ≡ false
closing t e before = rw e refl

-- the same where it may begin an attribute that documents
pub docs_alone : (t : Piece) (ts : List Piece) → ((before : ℕ) → is_one_mark before (symbol_of t) ≡ false)
    → (docs : Bool) (holes : List Hole) (before other : ℕ) → kept_tokens docs holes before (docs_as_comments docs 0 (t ∷ ts)) ≡ kept_tokens docs holes other (docs_as_comments docs 0 (t ∷ ts))
docs_alone t ts e docs holes before other = by (doc_left docs t ts) (docs_as_comments docs (doc_left docs t ts) ts)
  where
    by : (n : ℕ) (us : List Piece) → kept_tokens docs holes before (comment_if n t ∷ us) ≡ kept_tokens docs holes other (comment_if n t ∷ us)
    by zero us = alone t us e docs holes before other
    by (suc n) us = alone (as_comment t) us (λ b. refl) docs holes before other

-- ---- attributes that document

shown : Option (List Piece) → List Piece
shown None = []
shown (Some ts) = ts

-- what is left of tokens behind a place, behind an attribute of which so much was left
record AttributePassed (left place : ℕ) (ts us : List Piece) : Type 0 where
  after : ComeBehind place us
  fewer : length us ≤ length ts
  same : (holes : List Hole) → kept_tokens false holes 0 (docs_as_comments false left ts) ≡ kept_tokens false holes 0 (docs_as_comments false 0 us)

attribute_passed : (ps : List (Piece → Bool)) (place : ℕ) (ts us : List Piece) → behind_tests ps ts ≡ Some us → ComeBehind place ts → AttributePassed (length ps) place ts us
unfolding shown
attribute_passed [] place ts us e b = subst (AttributePassed 0 place ts) (ap shown e) (record { after = b; fewer = omega arith; same = λ holes. refl })
attribute_passed (p ∷ ps) place [] us e b = absurd cc
attribute_passed (p ∷ ps) place (t ∷ ts) us e b =
    let next = t.at + length t.text in
    when (is_significant t)
    (λ s. when (p t)
    (λ q. let on : behind_tests (p ∷ ps) (t ∷ ts) ≡ behind_tests ps ts = rw (s, q) refl in one (length ps) s (attribute_passed ps next ts us (sym on ∙ e) b.1.1))
    (λ q. let on : behind_tests (p ∷ ps) (t ∷ ts) ≡ None = rw (s, q) refl in let no : None ≡ Some us = sym on ∙ e in absurd cc))
    (λ s. let on : behind_tests (p ∷ ps) (t ∷ ts) ≡ behind_tests (p ∷ ps) ts = rw s refl in one (suc (length ps)) s (attribute_passed (p ∷ ps) next ts us (sym on ∙ e) b.1.1))
  where
    one : (n : ℕ) {c : Bool} → is_significant t ≡ c → AttributePassed (if c then length ps else suc (length ps)) (t.at + length t.text) ts us → AttributePassed (suc (length ps)) place (t ∷ ts) us
    one n s r = record {
      after = sooner place (t.at + length t.text) us (omega (arith, b.0)) r.after;
      fewer = omega (arith, r.fewer);
      same = λ holes.
          kept_later false t.at (t.at + length t.text) holes 0 _ (omega arith) (still_behind false (if is_significant t then length ps else suc (length ps)) (t.at + length t.text) ts b.1.1)
          ∙ ap (λ d. kept_tokens false holes 0 (docs_as_comments false (if d then length ps else suc (length ps)) ts)) s ∙ r.same holes;
    }

-- behind a token an attribute is passed, if that documents, and told as a comment, or else nothing
pub record AttributeTold (docs is_passed : Bool) (t : Piece) (ts us : List Piece) : Type 0 where
  pub same : (holes : List Hole) (before : ℕ) → kept_tokens docs holes before (docs_as_comments docs 0 (t ∷ ts)) ≡ (if is_passed then kept_tokens docs holes 0 (docs_as_comments docs 0 us) else kept_tokens docs holes before (t ∷ docs_as_comments docs 0 us))
  pub after : ComeBehind (t.at + length t.text) us
  pub fewer : length us ≤ length ts

told_by : (left : ℕ) (ps : List (Piece → Bool)) (t : Piece) (ts us : List Piece) → length ps ≡ suc left → doc_left false t ts ≡ suc left → behind_tests ps ts ≡ Some us → ComeBehind (t.at + length t.text) ts → AttributeTold false true t ts us
told_by left ps t ts us is n f b =
    let next = t.at + length t.text in
    let r = subst (λ k. AttributePassed k next ts us) is (attribute_passed ps next ts us f b) in
    record {
      same = λ holes before.
          ap (λ k. kept_tokens false holes before (comment_if k t ∷ docs_as_comments false k ts)) n
          ∙ kept_later false t.at next holes 0 _ (omega arith) (still_behind false (suc left) next ts b) ∙ r.same holes;
      after = r.after;
      fewer = r.fewer;
    }

pub outer_told : (docs : Bool) (t : Piece) (ts us : List Piece) → docs ≡ false → symbol_of t ≡ 35 → behind_tests doc_list ts ≡ Some us → ComeBehind (t.at + length t.text) ts → AttributeTold docs true t ts us
outer_told docs t ts us e h f b =
    let n : doc_left false t ts ≡ 5 = rw (h, ap is_some f) refl in subst (λ d. AttributeTold d true t ts us) (sym e) (told_by 4 doc_list t ts us refl n f b)

pub inner_told : (docs is_passed : Bool) (t : Piece) (ts us : List Piece) → docs ≡ false → symbol_of t ≡ 35 → behind_tests doc_list ts ≡ None
    → (is_passed ≡ true → behind_tests inner_doc_list ts ≡ Some us) → (is_passed ≡ false → behind_tests inner_doc_list ts ≡ None) → (is_passed ≡ false → us ≡ ts) → ComeBehind (t.at + length t.text) ts → AttributeTold docs is_passed t ts us
inner_told docs true t ts us e h f all none same b =
    let n : doc_left false t ts ≡ 6 = rw (h, ap is_some f, ap is_some (all refl)) refl in subst (λ d. AttributeTold d true t ts us) (sym e) (told_by 5 inner_doc_list t ts us refl n (all refl) b)
inner_told docs false t ts us e h f all none same b =
    let n : doc_left docs t ts ≡ 0 = rw (e, h, ap is_some f, ap is_some (none refl)) refl in
    subst (AttributeTold docs false t ts) (sym (same refl)) (record { same = λ holes before. ap (kept_tokens docs holes before) (no_attribute docs t ts n); after = b; fewer = omega arith })

-- ---- braces

-- whatever stands before these, in both texts, the same of them is kept
abbrev pub KeepsAlike : Bool → List Hole → List Piece → List Hole → List Piece → Type 0
KeepsAlike docs holes ts holes' ts' = (before before' : ℕ) → kept_tokens docs holes before ts ≡ kept_tokens docs holes' before' ts'

-- tokens in a part that is left out count for none in front of one that is no mark with any
pub inside_left : (docs : Bool) (holes : List Hole) (before before' from to place : ℕ) (inside ts : List Piece) → ((at : ℕ) → from ≤ at → at < to → is_begun at (not_over at holes) ≡ true) → All (λ t. (from ≤ t.at) × (t.at < to)) inside
    → ComeBehind place (inside ++ ts) → KeepsAlike docs holes ts holes ts → kept_tokens docs holes before (inside ++ ts) ≡ kept_tokens docs holes before' ts
inside_left docs holes before before' from to place [] ts left within a rest = rest before before'
inside_left docs holes before before' from to place (t ∷ inside) ts left within a rest =
    let in_part = All-head (λ t. (from ≤ t.at) × (t.at < to)) t inside within in
    let begun = left t.at in_part.0 in_part.1 in
    let none : text_if_kept docs (not_over t.at holes) before t ≡ [] = when (counts docs t) (λ c. rw (c, begun) refl) (λ c. rw c refl) in
    kept_step docs holes before place t (inside ++ ts) a
    ∙ ap (λ l. l ++ kept_tokens docs holes (symbol_of t) (inside ++ ts)) none
    ∙ inside_left docs holes (symbol_of t) before' from to (t.at + length t.text) inside ts left (All-tail (λ t. (from ≤ t.at) × (t.at < to)) t inside within) a.1.1 rest

-- these stand between two places
within : (low place : ℕ) (front : List Piece) (o : Piece) (ts : List Piece) → low ≤ place → ComeBehind place (front ++ o ∷ ts) → All (λ t. (low ≤ t.at) × (t.at < o.at)) front
within low place [] o ts le b = All-nil (λ t. (low ≤ t.at) × (t.at < o.at))
within low place (t ∷ front) o ts le b =
    let next = t.at + length t.text in
    All-cons (λ t. (low ≤ t.at) × (t.at < o.at)) t front (omega (arith, le, b.0), omega (arith, b.1.0, (come_behind next front (o ∷ ts) b.1.1).0))
    (within low next front o ts (omega (arith, le, b.0)) b.1.1)

-- what is left of tokens behind a place, up to a part's end, of which none is kept
pub record Passed (holes : List Hole) (place : ℕ) (ts us : List Piece) : Type 0 where
  pub after : ComeBehind place us
  pub fewer : length us ≤ length ts
  pub same : ends_behind us holes ≡ true → (docs : Bool) (before other : ℕ) → kept_tokens docs holes other (docs_as_comments docs 0 us) ≡ kept_tokens docs holes before (docs_as_comments docs 0 ts)

passed : (h : Hole) (hs : List Hole) (place : ℕ) (front : List Piece) (o : Piece) (ts : List Piece) → h.start ≤ place → symbol_of o ≡ 125 → ComeBehind place (front ++ o ∷ ts) → Passed (h ∷ hs) place (front ++ o ∷ ts) (o ∷ ts)
passed h hs place front o ts from closes b =
    let brace : is_brace o ≡ true = rw closes refl in
    let size = length-append front (o ∷ ts) in
    record {
      after = come_behind place front (o ∷ ts) b;
      fewer = omega (arith, size);
      same = λ ends docs before other.
          let rest = docs_as_comments docs 0 ts in
          let parts = brace_parts docs front o ts brace in
          ap (kept_tokens docs (h ∷ hs) other) (brace_parts docs [] o ts brace)
          ∙ sym (inside_left docs (h ∷ hs) before other h.start o.at place (docs_as_comments docs 0 front) (o ∷ rest) (in_hole (leb-true o.at h.end ends))
          (placed (λ k. (h.start ≤ k) × (k < o.at)) docs 0 front (within h.start place front o ts from b)) (subst (ComeBehind place) parts (still_behind docs 0 place (front ++ o ∷ ts) b))
          (λ c d. alone o rest (closing o closes) docs (h ∷ hs) c d))
          ∙ sym (ap (kept_tokens docs (h ∷ hs) before) parts);
    }
  where
    in_hole : o.at ≤ h.end → (at : ℕ) → h.start ≤ at → at < o.at → is_begun at (not_over at (h ∷ hs)) ≡ true
    in_hole le at low high =
        let over : nat_le h.end at ≡ false = grind (arith, nat_tests) in
        let begun : nat_le h.start at ≡ true = grind (arith, nat_tests) in
        rw (over, begun) refl

abbrev behind : Option (Depth × List Piece) → List Piece
behind None = []
behind (Some p) = p.1

-- up to a `}`
record Led (ts us : List Piece) : Type 0 where
  front : List Piece
  close : Piece
  rest : List Piece
  is : ts ≡ front ++ us
  begins : us ≡ close ∷ rest
  closes : symbol_of close ≡ 125

led : (d d' : Depth) (ts us : List Piece) → to_outer d ts ≡ Some (d', us) → Led ts us
led d d' [] us e = absurd cc
led d d' (t ∷ ts) us e =
    when (d.braces == 1 && symbol_of t == 125)
    (λ c. let here : to_outer d (t ∷ ts) ≡ Some (d, t ∷ ts) = rw c refl in
    let same : t ∷ ts ≡ us = ap behind (sym here ∙ e) in record { front = []; close = t; rest = ts; is = same; begins = sym same; closes = eqb-true _ _ (both_true _ _ c).1 })
    (λ c. let on : to_outer d (t ∷ ts) ≡ to_outer (depth_behind d (symbol_of t)) ts = rw c refl in
    let l = led (depth_behind d (symbol_of t)) d' ts us (sym on ∙ e) in record { front = t ∷ l.front; close = l.close; rest = l.rest; is = ap (λ k. t ∷ k) l.is; begins = l.begins; closes = l.closes })

-- up to the `}` that closes what is around, which comes next
pub hole_passed : (holes : List Hole) (d d' : Depth) (place : ℕ) (ts us : List Piece) → is_begun place holes ≡ true → ComeBehind place ts → to_outer d ts ≡ Some (d', us) → Passed holes place ts us
hole_passed [] d d' place ts us b a e = absurd cc
hole_passed (h ∷ hs) d d' place ts us b a e =
    let l = led d d' ts us e in
    let all : ts ≡ l.front ++ l.close ∷ l.rest = l.is ∙ ap (λ k. l.front ++ k) l.begins in
    let p = passed h hs place l.front l.close l.rest (leb-true h.start place b) l.closes (subst (ComeBehind place) all a) in
    subst (λ k. Passed (h ∷ hs) place ts k) (sym l.begins) (subst (λ k. Passed (h ∷ hs) place k (l.close ∷ l.rest)) (sym all) p)
