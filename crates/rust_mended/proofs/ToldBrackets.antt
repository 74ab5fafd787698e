-- Nothing is told exactly where all brackets match, and what is told is told at a bracket of the text.
use Rattle.std.proofs.Common.{◌≡◌, refl, ◌∙◌, ap, sym, subst, ℕ, Bool, true, false, ◌||◌, if◌then◌else◌, List, [], ◌∷◌, ◌++◌, Option, Some, None}
use Rattle.std.specs.Bool.{Decides}
use Rattle.std.specs.List.{AllByRecursion, flat_map, list_any}
use Rattle.rust_lexer.specs.Tokens.{tokens}
use Rattle.rust_mended.specs.declared.bracket.Bracket.{Bracket}
use Rattle.rust_mended.specs.declared.bracket.Bracket.TheVariants as bracket
use Rattle.rust_mended.specs.declared.edit.Edit.{Edit}
use Rattle.rust_mended.specs.declared.edit.EditKind.TheVariants as edit
use Rattle.rust_mended.specs.declared.mark.Mark.{Mark}
use Rattle.rust_mended.specs.declared.mark.MarkKind.{MarkKind}
use Rattle.rust_mended.specs.declared.mark.MarkKind.TheVariants as mark
use Rattle.rust_mended.specs.declared.mark.Opened.{Opened}
use Rattle.rust_mended.specs.Marks.{last_end, marks, text_begin}
use Rattle.rust_mended.specs.Mended.{Written, kept, put, left, closed, is_brace, is_same, is_closer_of, closer_by, closers_reaching, all_ended, ends_before_item, end_before, is_owed, owed_closer, close_own, fits_closer, close_far, keeps, opened_by, mark_taken, written_from, all_written, mark_by, closer_for, source_by, all_match}
use Rattle.rust_mended.specs.Texts.{edits, is_matched, mending_edit, tells, is_turn, AreTurnedWhereTold}
use Rattle.rust_mended.proofs.Matching.{mended_match, written_sources}
use Rattle.rust_mended.proofs.MatchedMarks.{marks_match, no_truth, own_edit, same_is, same_place, text_edits}

-- ---- nothing is told

abbrev IsNone : List Edit → Type 0
IsNone [] = Unit
IsNone (e ∷ es) = ⊥

no_edit : (e : Edit) (es : List Edit) → e ∷ es ≡ [] → ⊥
no_edit e es p = subst IsNone (sym p) tt

closer_kind : (b : Bracket) (k : MarkKind) → is_closer_of b k ≡ true → k ≡ mark.Close b
closer_kind b (mark.Close c) e = ap mark.Close (sym (same_is b c e))
closer_kind b (mark.Open c) e = absurd (no_truth e)
closer_kind b mark.Item e = absurd (no_truth e)

turns_nothing : (t : Mark) (b : Bracket) (ws : List Written) (x : Bool) → is_closer_of b t.kind ≡ x → flat_map mending_edit (closed t b ∷ ws) ≡ [] → (flat_map mending_edit ws ≡ [] → flat_map mark_by ws ≡ flat_map source_by ws)
    → closer_for t b ∷ flat_map mark_by ws ≡ t ∷ flat_map source_by ws
turns_nothing t b ws true p e h =
    ap (λ k. record { kind = k; at = t.at; behind = t.behind; indent = t.indent; begins_line = t.begins_line } ∷ flat_map mark_by ws) (sym (closer_kind b t.kind p))
    ∙ ap (λ ts. t ∷ ts) (h (sym (own_edit t b ws p) ∙ e))
turns_nothing t b ws false p e h = absurd (no_edit _ _ (sym (ap (λ x. (if x then [] else record { at = t.at; told = t.at; kind = edit.Turn b } ∷ []) ++ flat_map mending_edit ws) p) ∙ e))

-- where nothing is told, the mended marks are the marks
mends_nothing : (ws : List Written) → flat_map mending_edit ws ≡ [] → flat_map mark_by ws ≡ flat_map source_by ws
mends_nothing [] e = refl
mends_nothing (kept t ∷ ws) e = ap (λ ts. t ∷ ts) (mends_nothing ws e)
mends_nothing (put at o ∷ ws) e = absurd (no_edit _ _ e)
mends_nothing (left t ∷ ws) e = absurd (no_edit _ _ e)
mends_nothing (closed t b ∷ ws) e = turns_nothing t b ws (is_closer_of b t.kind) refl e (mends_nothing ws)

marks_of_none : (at : ℕ) (ts : List Mark) → flat_map mending_edit (all_written at ts) ≡ [] → all_match ts ≡ true
marks_of_none at ts e = ap all_match (sym (mends_nothing (all_written at ts) e ∙ written_sources at ts)) ∙ mended_match at ts

pub nothing_told : (text : List ℕ) → Decides (is_matched text) (edits text ≡ [])
unfolding edits is_matched
nothing_told text = (
  text_edits text,
  λ e. sym (marks_match text_begin (tokens text) []) ∙ marks_of_none (last_end text) (marks text) e,
)

-- ---- what is told

-- these edits are of such a kind
abbrev pub AllTold : (Edit → Type 0) → List Written → Type 0
AllTold P ws = AllByRecursion P (flat_map mending_edit ws)

-- what is told of an open bracket, wherever it ends
abbrev Opens : (Edit → Type 0) → Bracket → ℕ → Type 0
Opens P b at = (end : ℕ) → P (record { at = end; told = at; kind = edit.Put b })

abbrev pub AllOpens : (Edit → Type 0) → List Opened → Type 0
AllOpens P os = AllByRecursion (λ o. Opens P o.bracket o.at) os

-- what is told of a mark
abbrev pub Tells : (Edit → Type 0) → MarkKind → ℕ → Type 0
Tells P (mark.Open b) at = Opens P b at
Tells P (mark.Close c) at = P (record { at = at; told = at; kind = edit.Leave }) × ((b : Bracket) → is_same b c ≡ false → P (record { at = at; told = at; kind = edit.Turn b }))
Tells P mark.Item at = Unit {0}

abbrev pub Follows : (Edit → Type 0) → (List Opened → List Written) → Type 0
Follows P K = (us : List Opened) → AllOpens P us → AllTold P (K us)

if_told : (P : Edit → Type 0) (b : Bool) (x y : List Written) → AllTold P x → AllTold P y → AllTold P (if b then x else y)
if_told P true x y h g = h
if_told P false x y h g = g

closed_told : (P : Edit → Type 0) (t : Mark) (b : Bracket) (ws : List Written) (c : Bracket) → t.kind ≡ mark.Close c → Tells P (mark.Close c) t.at → AllTold P ws → AllTold P (closed t b ∷ ws)
closed_told P t b ws c p h g = by_kind (is_same b c) refl
  where
    by_kind : (x : Bool) → is_same b c ≡ x → AllTold P (closed t b ∷ ws)
    by_kind true e = rw (p, e) g
    by_kind false e = rw (p, e) (h.1 b e, g)

ends_told : (P : Edit → Type 0) (at : ℕ) → Follows P (all_ended at)
ends_told P at [] h = tt
ends_told P at (o ∷ os) h = (h.0 at, ends_told P at os h.1)

end_before_told : (P : Edit → Type 0) (t : Mark) (os : List Opened) (K : List Opened → List Written) → Follows P K → AllOpens P os → AllTold P (end_before t os K)
end_before_told P t [] K f h = f [] tt
end_before_told P t (o ∷ os) K f h =
    if_told P (ends_before_item t o) (put t.behind o ∷ end_before t os K) (K (o ∷ os)) (h.0 t.behind, end_before_told P t os K f h.1) (f (o ∷ os) h)

close_own_told : (P : Edit → Type 0) (t : Mark) (c : Bracket) → t.kind ≡ mark.Close c → Tells P (mark.Close c) t.at → (os : List Opened) (K : List Opened → List Written) → Follows P K → AllOpens P os → AllTold P (close_own t os K)
close_own_told P t c p g [] K f h = (g.0, f [] tt)
close_own_told P t c p g (o ∷ os) K f h =
    if_told P o.is_closed (closed t o.bracket ∷ K os) (put t.behind o ∷ close_own t os K)
    (closed_told P t o.bracket (K os) c p g (f os h.1)) (h.0 t.behind, close_own_told P t c p g os K f h.1)

close_far_told : (P : Edit → Type 0) (t : Mark) (c : Bracket) → t.kind ≡ mark.Close c → Tells P (mark.Close c) t.at → (os : List Opened) (K : List Opened → List Written) → Follows P K → AllOpens P os → AllTold P (close_far t os K)
close_far_told P t c p g [] K f h = (g.0, f [] tt)
close_far_told P t c p g (o ∷ os) K f h =
    let one : List Written = closed t o.bracket ∷ K os in
    let two : List Written = put t.behind o ∷ close_far t os K in
    if_told P o.is_closed (left t ∷ K (o ∷ os)) (if fits_closer t o then one else two) (g.0, f (o ∷ os) h)
    (if_told P (fits_closer t o) one two (closed_told P t o.bracket (K os) c p g (f os h.1)) (h.0 t.behind, close_far_told P t c p g os K f h.1))

pub taken_told : (P : Edit → Type 0) (k : MarkKind) (t : Mark) → t.kind ≡ k → Tells P k t.at → (c : Option Mark) (K : List Opened → List Written) → Follows P K → Follows P (mark_taken k t c K)
taken_told P (mark.Open b) t p g c K f os h = f (opened_by b t (keeps b t os c) os ∷ os) (by (keeps b t os c), h)
  where
    by : (m : Option Mark) → Opens P (opened_by b t m os).bracket (opened_by b t m os).at
    by None = g
    by (Some c) = g
taken_told P (mark.Close b) t p g c K f os h =
    if_told P (is_owed t (owed_closer os)) (close_own t os K) (if is_brace b then close_far t os K else left t ∷ K os) (close_own_told P t b p g os K f h)
    (if_told P (is_brace b) (close_far t os K) (left t ∷ K os) (close_far_told P t b p g os K f h) (g.0, f os h))
taken_told P mark.Item t p g c K f os h = end_before_told P t os (λ us. kept t ∷ K us) f h

abbrev pub AllMarks : (Edit → Type 0) → List Mark → Type 0
AllMarks P ts = AllByRecursion (λ t. Tells P t.kind t.at) ts

written_told : (P : Edit → Type 0) (at : ℕ) (ts : List Mark) → AllMarks P ts → Follows P (written_from at ts)
written_told P at [] g os h = ends_told P at os h
written_told P at (t ∷ ts) g os h = taken_told P t.kind t refl g.0 (closer_by t.kind (closers_reaching ts)) (written_from at ts) (written_told P at ts g.1) os h

-- ---- of which mark

-- it is told of one of these
abbrev IsTold : List Mark → Edit → Type 0
IsTold ts e = list_any (tells e) ts ≡ true

-- each mark of these is one of all
abbrev AreOf : List Mark → List Mark → Type 0
AreOf ts all = AllByRecursion (λ t. (e : Edit) → tells e t ≡ true → IsTold all e) ts

or_right : (a b : Bool) → b ≡ true → (a || b) ≡ true
or_right true b h = refl
or_right false b h = h

or_left : (a b : Bool) → a ≡ true → (a || b) ≡ true
or_left true b h = refl
or_left false b h = absurd (no_truth h)

are_more : (ts all : List Mark) (u : Mark) → AreOf ts all → AreOf ts (u ∷ all)
are_more [] all u h = tt
are_more (t ∷ ts) all u h = (λ e p. or_right (tells e u) (list_any (tells e) all) (h.0 e p), are_more ts all u h.1)

are_all : (ts : List Mark) → AreOf ts ts
are_all [] = tt
are_all (t ∷ ts) = (λ e p. or_left (tells e t) (list_any (tells e) ts) p, are_more ts ts t (are_all ts))

same_bracket : (b : Bracket) → is_same b b ≡ true
same_bracket bracket.Brace = refl
same_bracket bracket.Round = refl
same_bracket bracket.Square = refl

told_of : (k : MarkKind) (t : Mark) (all : List Mark) → t.kind ≡ k → ((e : Edit) → tells e t ≡ true → IsTold all e) → Tells (IsTold all) k t.at
told_of (mark.Open b) t all p h = λ end. h (record { at = end; told = t.at; kind = edit.Put b }) (rw (same_place t.at, p) (same_bracket b))
told_of (mark.Close c) t all p h = (
  h (record { at = t.at; told = t.at; kind = edit.Leave }) (rw (same_place t.at, p) refl),
  λ b e. h (record { at = t.at; told = t.at; kind = edit.Turn b }) (rw (same_place t.at, p, e) refl),
)
told_of mark.Item t all p h = tt

are_told : (ts all : List Mark) → AreOf ts all → AllMarks (IsTold all) ts
are_told [] all h = tt
are_told (t ∷ ts) all h = (told_of t.kind t all refl h.0, are_told ts all h.1)

pub told_at_marks : (text : List ℕ) → AllByRecursion (λ e. list_any (tells e) (marks text) ≡ true) (edits text)
unfolding edits
told_at_marks text = written_told (IsTold (marks text)) (last_end text) (marks text) (are_told (marks text) (marks text) (are_all (marks text))) [] tt

-- ---- where a byte is replaced

turned_if : (x : Bool) (e : Edit) (es : List Edit) → e.at ≡ e.told → AreTurnedWhereTold es → AreTurnedWhereTold ((if x then [] else e ∷ []) ++ es)
turned_if true e es h g = g
turned_if false e es h g = (λ i. h, g)

written_where_told : (ws : List Written) → AreTurnedWhereTold (flat_map mending_edit ws)
written_where_told [] = tt
written_where_told (kept t ∷ ws) = written_where_told ws
written_where_told (put at o ∷ ws) = (λ i. absurd (no_truth i), written_where_told ws)
written_where_told (left t ∷ ws) = (λ i. refl, written_where_told ws)
written_where_told (closed t b ∷ ws) =
    turned_if (is_closer_of b t.kind) (record { at = t.at; told = t.at; kind = edit.Turn b }) (flat_map mending_edit ws) refl (written_where_told ws)

pub turned_where_told : (text : List ℕ) → AreTurnedWhereTold (edits text)
unfolding edits
turned_where_told text = written_where_told (all_written (last_end text) (marks text))
