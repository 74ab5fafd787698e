-- Edits come in the order of their places, and stand where tokens begin and end.
use Rattle.std.proofs.Common.{◌≡◌, refl, ℕ, ◌≤◌, ◌+◌, Bool, true, false, if◌then◌else◌, List, [], ◌∷◌, Option, arith}
use Rattle.std.specs.List.{flat_map}
use Rattle.rust_mended.specs.declared.bracket.Bracket.{Bracket}
use Rattle.rust_mended.specs.declared.edit.Edit.{Edit}
use Rattle.rust_mended.specs.declared.mark.Mark.{Mark}
use Rattle.rust_mended.specs.declared.mark.MarkKind.{MarkKind}
use Rattle.rust_mended.specs.declared.mark.MarkKind.TheVariants as mark
use Rattle.rust_mended.specs.declared.mark.Opened.{Opened}
use Rattle.rust_mended.specs.Mended.{Written, kept, put, left, closed, is_brace, is_closer_of, closer_by, closers_reaching, all_ended, ends_before_item, end_before, is_owed, owed_closer, close_own, fits_closer, close_far, keeps, opened_by, mark_taken, written_from, all_written}
use Rattle.rust_mended.specs.Texts.{mending_edit}
use Rattle.rust_mended.specs.Steps.{EditsFit}

-- a closer stands behind what ends before it
abbrev pub CloserFits : (ℕ → Type 0) → MarkKind → Mark → Type 0
CloserFits P (mark.Close b) t = (t.behind ≤ t.at) × (P t.at × P (t.at + 1))
CloserFits P _ t = Unit {0}

-- the place from which on the edits stand that come behind a mark
abbrev pub past_mark : MarkKind → Mark → ℕ
past_mark (mark.Close b) t = t.at + 1
past_mark _ t = t.behind

-- marks in the order of their places from one on, and then the last place
abbrev pub MarksFit : (ℕ → Type 0) → ℕ → ℕ → List Mark → Type 0
MarksFit P last at [] = (at ≤ last) × P last
MarksFit P last at (t ∷ ts) = (at ≤ t.behind) × (P t.behind × (CloserFits P t.kind t × MarksFit P last (past_mark t.kind t) ts))

-- ---- the walk

abbrev Fits : (ℕ → Type 0) → ℕ → List Written → Type 0
Fits P at ws = EditsFit P at (flat_map mending_edit ws)

abbrev pub Follows : (ℕ → Type 0) → ℕ → (List Opened → List Written) → Type 0
Follows P at K = (us : List Opened) → Fits P at (K us)

pub before_fits : (P : ℕ → Type 0) (n at : ℕ) (es : List Edit) → n ≤ at → EditsFit P at es → EditsFit P n es
before_fits P n at [] l h = tt
before_fits P n at (e ∷ es) l h = let first : at ≤ e.at = h.0 in (omega arith, h.1)

if_fits : (P : ℕ → Type 0) (n : ℕ) (b : Bool) (x y : List Written) → Fits P n x → Fits P n y → Fits P n (if b then x else y)
if_fits P n true x y hx hy = hx
if_fits P n false x y hx hy = hy

put_fits : (P : ℕ → Type 0) (n at : ℕ) (o : Opened) (ws : List Written) → n ≤ at → P at → Fits P at ws → Fits P n (put at o ∷ ws)
put_fits P n at o ws l p h = (l, (p, (p, h)))

left_fits : (P : ℕ → Type 0) (n : ℕ) (t : Mark) (ws : List Written) → n ≤ t.at → P t.at → P (t.at + 1) → Fits P (t.at + 1) ws → Fits P n (left t ∷ ws)
left_fits P n t ws l p q h = (l, (p, (q, h)))

closed_fits : (P : ℕ → Type 0) (n : ℕ) (t : Mark) (b : Bracket) (ws : List Written) → n ≤ t.at → P t.at → P (t.at + 1) → Fits P (t.at + 1) ws → Fits P n (closed t b ∷ ws)
closed_fits P n t b ws l p q h = by_kind (is_closer_of b t.kind) refl
  where
    by_kind : (x : Bool) → is_closer_of b t.kind ≡ x → Fits P n (closed t b ∷ ws)
    by_kind true e = rw e (before_fits P n (t.at + 1) (flat_map mending_edit ws) (omega arith) h)
    by_kind false e = rw e (l, (p, (q, h)))

ends_fit : (P : ℕ → Type 0) (n at : ℕ) (os : List Opened) → n ≤ at → P at → Fits P n (all_ended at os)
ends_fit P n at [] l p = tt
ends_fit P n at (o ∷ os) l p = put_fits P n at o (all_ended at os) l p (ends_fit P at at os (omega arith) p)

end_before_fits : (P : ℕ → Type 0) (n : ℕ) (t : Mark) (os : List Opened) (K : List Opened → List Written) → n ≤ t.behind → P t.behind → Follows P t.behind K → Fits P n (end_before t os K)
end_before_fits P n t [] K l p h = before_fits P n t.behind (flat_map mending_edit (K [])) l (h [])
end_before_fits P n t (o ∷ os) K l p h =
    if_fits P n (ends_before_item t o) (put t.behind o ∷ end_before t os K) (K (o ∷ os))
    (put_fits P n t.behind o (end_before t os K) l p (end_before_fits P t.behind t os K (omega arith) p h))
    (before_fits P n t.behind (flat_map mending_edit (K (o ∷ os))) l (h (o ∷ os)))

close_own_fits : (P : ℕ → Type 0) (n : ℕ) (t : Mark) (os : List Opened) (K : List Opened → List Written) → n ≤ t.behind → P t.behind → (t.behind ≤ t.at) × (P t.at × P (t.at + 1)) → Follows P (t.at + 1) K
    → Fits P n (close_own t os K)
close_own_fits P n t [] K l p c h = let at : t.behind ≤ t.at = c.0 in left_fits P n t (K []) (omega arith) c.1.0 c.1.1 (h [])
close_own_fits P n t (o ∷ os) K l p c h =
    let at : t.behind ≤ t.at = c.0 in
    if_fits P n o.is_closed (closed t o.bracket ∷ K os) (put t.behind o ∷ close_own t os K)
    (closed_fits P n t o.bracket (K os) (omega arith) c.1.0 c.1.1 (h os))
    (put_fits P n t.behind o (close_own t os K) l p (close_own_fits P t.behind t os K (omega arith) p c h))

close_far_fits : (P : ℕ → Type 0) (n : ℕ) (t : Mark) (os : List Opened) (K : List Opened → List Written) → n ≤ t.behind → P t.behind → (t.behind ≤ t.at) × (P t.at × P (t.at + 1)) → Follows P (t.at + 1) K
    → Fits P n (close_far t os K)
close_far_fits P n t [] K l p c h = let at : t.behind ≤ t.at = c.0 in left_fits P n t (K []) (omega arith) c.1.0 c.1.1 (h [])
close_far_fits P n t (o ∷ os) K l p c h =
    let at : t.behind ≤ t.at = c.0 in
    let one : List Written = closed t o.bracket ∷ K os in
    let two : List Written = put t.behind o ∷ close_far t os K in
    if_fits P n o.is_closed (left t ∷ K (o ∷ os)) (if fits_closer t o then one else two)
    (left_fits P n t (K (o ∷ os)) (omega arith) c.1.0 c.1.1 (h (o ∷ os)))
    (if_fits P n (fits_closer t o) one two
    (closed_fits P n t o.bracket (K os) (omega arith) c.1.0 c.1.1 (h os))
    (put_fits P n t.behind o (close_far t os K) l p (close_far_fits P t.behind t os K (omega arith) p c h)))

pub taken_fits : (P : ℕ → Type 0) (n : ℕ) (k : MarkKind) (t : Mark) (c : Option Mark) (os : List Opened) (K : List Opened → List Written) → n ≤ t.behind → P t.behind → CloserFits P k t → Follows P (past_mark k t) K
    → Fits P n (mark_taken k t c K os)
taken_fits P n (mark.Open b) t c os K l p f h =
    let us : List Opened = opened_by b t (keeps b t os c) os ∷ os in before_fits P n t.behind (flat_map mending_edit (K us)) l (h us)
taken_fits P n (mark.Close b) t c os K l p f h =
    let at : t.behind ≤ t.at = f.0 in
    if_fits P n (is_owed t (owed_closer os)) (close_own t os K) (if is_brace b then close_far t os K else left t ∷ K os)
    (close_own_fits P n t os K l p f h)
    (if_fits P n (is_brace b) (close_far t os K) (left t ∷ K os) (close_far_fits P n t os K l p f h) (left_fits P n t (K os) (omega arith) f.1.0 f.1.1 (h os)))
taken_fits P n mark.Item t c os K l p f h = end_before_fits P n t os (λ us. kept t ∷ K us) l p h

pub written_from_fits : (P : ℕ → Type 0) (last n : ℕ) (ts : List Mark) → MarksFit P last n ts → Follows P n (written_from last ts)
written_from_fits P last n [] h os = ends_fit P n last os h.0 h.1
written_from_fits P last n (t ∷ ts) h os =
    taken_fits P n t.kind t (closer_by t.kind (closers_reaching ts)) os (written_from last ts) h.0 h.1.0 h.1.1.0 (written_from_fits P last (past_mark t.kind t) ts h.1.1.1)

pub edits_fit : (P : ℕ → Type 0) (last : ℕ) (ts : List Mark) → MarksFit P last 0 ts → EditsFit P 0 (flat_map mending_edit (all_written last ts))
edits_fit P last ts h = written_from_fits P last 0 ts h []
