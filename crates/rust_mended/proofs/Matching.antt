-- The brackets of the mended marks match, and no mark is lost.
use Rattle.std.proofs.Common.{◌≡◌, refl, ◌∙◌, ap, ℕ, Bool, true, false, if◌then◌else◌, List, [], ◌∷◌, Option, Some, None}
use Rattle.std.specs.List.{flat_map}
use Rattle.rust_mended.specs.declared.bracket.Bracket.{Bracket}
use Rattle.rust_mended.specs.declared.bracket.Bracket.TheVariants as bracket
use Rattle.rust_mended.specs.declared.mark.Mark.{Mark}
use Rattle.rust_mended.specs.declared.mark.MarkKind.{MarkKind}
use Rattle.rust_mended.specs.declared.mark.MarkKind.TheVariants as mark
use Rattle.rust_mended.specs.declared.mark.Opened.{Opened}
use Rattle.rust_mended.specs.Mended.{Written, kept, put, left, closed, is_brace, closer_by, closers_reaching, all_ended, ends_before_item, end_before, is_owed, owed_closer, close_own, fits_closer, close_far, keeps, opened_by, mark_taken, written_from, all_written, mark_by, source_by, mended_marks, matches_last, matched_by, match_from, all_match}

-- ---- the mended marks match

abbrev pub brackets : List Opened → List Bracket
brackets [] = []
brackets (o ∷ os) = o.bracket ∷ brackets os

-- what is written matches behind these brackets
abbrev Matches : List Written → List Bracket → Type 0
Matches ws st = match_from (flat_map mark_by ws) st ≡ true

-- what is left matches, whatever is open
abbrev Fits : (List Opened → List Written) → Type 0
Fits K = (us : List Opened) → Matches (K us) (brackets us)

if_match : (b : Bool) (x y : List Written) (st : List Bracket) → Matches x st → Matches y st → Matches (if b then x else y) st
if_match true x y st hx hy = hx
if_match false x y st hx hy = hy

closes_same : (b : Bracket) (rest : List Bracket → Bool) (os : List Bracket) → matches_last b rest (b ∷ os) ≡ rest os
closes_same bracket.Brace rest os = refl
closes_same bracket.Round rest os = refl
closes_same bracket.Square rest os = refl

-- a closer of the last bracket
put_match : (at : ℕ) (o : Opened) (ws : List Written) (st : List Bracket) → Matches ws st → Matches (put at o ∷ ws) (o.bracket ∷ st)
put_match at o ws st h = closes_same o.bracket (match_from (flat_map mark_by ws)) st ∙ h

closed_match : (t : Mark) (b : Bracket) (ws : List Written) (st : List Bracket) → Matches ws st → Matches (closed t b ∷ ws) (b ∷ st)
closed_match t b ws st h = closes_same b (match_from (flat_map mark_by ws)) st ∙ h

ends_match : (at : ℕ) → Fits (all_ended at)
ends_match at [] = refl
ends_match at (o ∷ os) = put_match at o (all_ended at os) (brackets os) (ends_match at os)

end_before_match : (t : Mark) (os : List Opened) (K : List Opened → List Written) → Fits K → Matches (end_before t os K) (brackets os)
end_before_match t [] K h = h []
end_before_match t (o ∷ os) K h =
    if_match (ends_before_item t o) (put t.behind o ∷ end_before t os K) (K (o ∷ os)) (brackets (o ∷ os))
    (put_match t.behind o (end_before t os K) (brackets os) (end_before_match t os K h)) (h (o ∷ os))

close_own_match : (t : Mark) (os : List Opened) (K : List Opened → List Written) → Fits K → Matches (close_own t os K) (brackets os)
close_own_match t [] K h = h []
close_own_match t (o ∷ os) K h =
    if_match o.is_closed (closed t o.bracket ∷ K os) (put t.behind o ∷ close_own t os K) (brackets (o ∷ os))
    (closed_match t o.bracket (K os) (brackets os) (h os)) (put_match t.behind o (close_own t os K) (brackets os) (close_own_match t os K h))

close_far_match : (t : Mark) (os : List Opened) (K : List Opened → List Written) → Fits K → Matches (close_far t os K) (brackets os)
close_far_match t [] K h = h []
close_far_match t (o ∷ os) K h =
    let one : List Written = closed t o.bracket ∷ K os in
    let two : List Written = put t.behind o ∷ close_far t os K in
    if_match o.is_closed (left t ∷ K (o ∷ os)) (if fits_closer t o then one else two) (brackets (o ∷ os)) (h (o ∷ os))
    (if_match (fits_closer t o) one two (brackets (o ∷ os))
    (closed_match t o.bracket (K os) (brackets os) (h os)) (put_match t.behind o (close_far t os K) (brackets os) (close_far_match t os K h)))

taken_match : (k : MarkKind) (t : Mark) → t.kind ≡ k → (c : Option Mark) (K : List Opened → List Written) → Fits K → Fits (mark_taken k t c K)
taken_match (mark.Open b) t p c K h os =
    let us : List Opened = opened_by b t (keeps b t os c) os ∷ os in
    ap (λ k. matched_by k (match_from (flat_map mark_by (K us))) (brackets os)) p ∙ opened_match b t (keeps b t os c) os K h
  where
    opened_match : (b : Bracket) (t : Mark) (c : Option Mark) (os : List Opened) (K : List Opened → List Written) → Fits K → Matches (K (opened_by b t c os ∷ os)) (b ∷ brackets os)
    opened_match b t None os K h = h (opened_by b t None os ∷ os)
    opened_match b t (Some c) os K h = h (opened_by b t (Some c) os ∷ os)
taken_match (mark.Close b) t p c K h os =
    if_match (is_owed t (owed_closer os)) (close_own t os K) (if is_brace b then close_far t os K else left t ∷ K os) (brackets os) (close_own_match t os K h)
    (if_match (is_brace b) (close_far t os K) (left t ∷ K os) (brackets os) (close_far_match t os K h) (h os))
taken_match mark.Item t p c K h os =
    end_before_match t os (λ us. kept t ∷ K us) (λ us. ap (λ k. matched_by k (match_from (flat_map mark_by (K us))) (brackets us)) p ∙ h us)

written_from_match : (at : ℕ) (ts : List Mark) → Fits (written_from at ts)
written_from_match at [] os = ends_match at os
written_from_match at (t ∷ ts) os = taken_match t.kind t refl (closer_by t.kind (closers_reaching ts)) (written_from at ts) (written_from_match at ts) os

-- whatever the marks are, the brackets of the mended ones all match
pub mended_match : (at : ℕ) (ts : List Mark) → all_match (mended_marks at ts) ≡ true
mended_match at ts = written_from_match at ts []

-- ---- no mark is lost

-- these marks are what is written, whatever is open
abbrev Tells : List Mark → (List Opened → List Written) → Type 0
Tells ts K = (us : List Opened) → flat_map source_by (K us) ≡ ts

if_tells : (b : Bool) (x y : List Written) (ts : List Mark) → flat_map source_by x ≡ ts → flat_map source_by y ≡ ts → flat_map source_by (if b then x else y) ≡ ts
if_tells true x y ts hx hy = hx
if_tells false x y ts hx hy = hy

ends_tell : (at : ℕ) (os : List Opened) → flat_map source_by (all_ended at os) ≡ []
ends_tell at [] = refl
ends_tell at (o ∷ os) = ends_tell at os

end_before_tells : (t : Mark) (ts : List Mark) (os : List Opened) (K : List Opened → List Written) → Tells ts K → flat_map source_by (end_before t os K) ≡ ts
end_before_tells t ts [] K h = h []
end_before_tells t ts (o ∷ os) K h =
    if_tells (ends_before_item t o) (put t.behind o ∷ end_before t os K) (K (o ∷ os)) ts (end_before_tells t ts os K h) (h (o ∷ os))

close_own_tells : (t : Mark) (ts : List Mark) (os : List Opened) (K : List Opened → List Written) → Tells ts K → flat_map source_by (close_own t os K) ≡ t ∷ ts
close_own_tells t ts [] K h = ap (λ xs. t ∷ xs) (h [])
close_own_tells t ts (o ∷ os) K h =
    if_tells o.is_closed (closed t o.bracket ∷ K os) (put t.behind o ∷ close_own t os K) (t ∷ ts) (ap (λ xs. t ∷ xs) (h os)) (close_own_tells t ts os K h)

close_far_tells : (t : Mark) (ts : List Mark) (os : List Opened) (K : List Opened → List Written) → Tells ts K → flat_map source_by (close_far t os K) ≡ t ∷ ts
close_far_tells t ts [] K h = ap (λ xs. t ∷ xs) (h [])
close_far_tells t ts (o ∷ os) K h =
    let one : List Written = closed t o.bracket ∷ K os in
    let two : List Written = put t.behind o ∷ close_far t os K in
    if_tells o.is_closed (left t ∷ K (o ∷ os)) (if fits_closer t o then one else two) (t ∷ ts) (ap (λ xs. t ∷ xs) (h (o ∷ os)))
    (if_tells (fits_closer t o) one two (t ∷ ts) (ap (λ xs. t ∷ xs) (h os)) (close_far_tells t ts os K h))

taken_tells : (k : MarkKind) (t : Mark) (c : Option Mark) (ts : List Mark) (K : List Opened → List Written) → Tells ts K → Tells (t ∷ ts) (mark_taken k t c K)
taken_tells (mark.Open b) t c ts K h os = ap (λ xs. t ∷ xs) (h (opened_by b t (keeps b t os c) os ∷ os))
taken_tells (mark.Close b) t c ts K h os =
    if_tells (is_owed t (owed_closer os)) (close_own t os K) (if is_brace b then close_far t os K else left t ∷ K os) (t ∷ ts) (close_own_tells t ts os K h)
    (if_tells (is_brace b) (close_far t os K) (left t ∷ K os) (t ∷ ts) (close_far_tells t ts os K h) (ap (λ xs. t ∷ xs) (h os)))
taken_tells mark.Item t c ts K h os = end_before_tells t (t ∷ ts) os (λ us. kept t ∷ K us) (λ us. ap (λ xs. t ∷ xs) (h us))

written_from_tells : (at : ℕ) (ts : List Mark) → Tells ts (written_from at ts)
written_from_tells at [] os = ends_tell at os
written_from_tells at (t ∷ ts) os = taken_tells t.kind t (closer_by t.kind (closers_reaching ts)) ts (written_from at ts) (written_from_tells at ts) os

-- all marks are written, in their order
pub written_sources : (at : ℕ) (ts : List Mark) → flat_map source_by (all_written at ts) ≡ ts
written_sources at ts = written_from_tells at ts []
