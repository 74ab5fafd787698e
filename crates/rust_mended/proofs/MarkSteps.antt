-- The steps of the code are the definition.
use Rattle.std.proofs.Common.{◌≡◌, refl, ◌∙◌, ap, sym, ℕ, Bool, true, false, if◌then◌else◌, List, [], ◌∷◌, ◌++◌, append_assoc, Option, Some, None}
use Rattle.rust_lexer.specs.Piece.{Piece}
use Rattle.rust_mended.specs.declared.line.Line.{Line}
use Rattle.rust_mended.specs.declared.mark.Mark.{Mark}
use Rattle.rust_mended.specs.declared.mark.MarkKind.{MarkKind}
use Rattle.rust_mended.specs.declared.mark.MarkKind.TheVariants as mark
use Rattle.rust_mended.specs.declared.mark.Opened.{Opened}
use Rattle.rust_mended.specs.Marks.{and_marks, marks_from, line_behind, mark_kind_of}
use Rattle.rust_mended.specs.Mended.{Written, kept, put, left, closed}
use Rattle.rust_mended.specs.Mended as spec
use Rattle.rust_mended.specs.Steps.{Reach, and_marked, reach_before, marked_list, MendingStep, before_step, end_before_step, close_own_step, close_far_step, taken_step, written_marks}

-- ---- marks

and_marks_append : (k : Option MarkKind) (l : Line) (t : Piece) (ms : List Mark) → and_marks k l t [] ++ ms ≡ and_marks k l t ms
and_marks_append None l t ms = refl
and_marks_append (Some k) l t ms = refl

-- behind one more token
pub marks_step : (done all : List Mark) (l : Line) (t : Piece) (ts : List Piece) → done ++ marks_from l (t ∷ ts) ≡ all
    → (done ++ and_marks (mark_kind_of l t) l t []) ++ marks_from (line_behind l t) ts ≡ all
marks_step done all l t ts e =
    append_assoc done (and_marks (mark_kind_of l t) l t []) (marks_from (line_behind l t) ts)
    ∙ ap (λ ms. done ++ ms) (and_marks_append (mark_kind_of l t) l t (marks_from (line_behind l t) ts))
    ∙ e

-- ---- what closes them

pub reach_append : (ts : List Mark) (t : Mark) (r : Reach) → reach_before (ts ++ (t ∷ [])) r ≡ reach_before ts (and_marked t r)
reach_append [] t r = refl
reach_append (u ∷ ts) t r = ap (and_marked u) (reach_append ts t r)

reach_is : (ts : List Mark) → (reach_before ts ([], [])).1 ≡ spec.closers_reaching ts
reach_is [] = refl
reach_is (t ∷ ts) = ap (spec.closers_reached t.kind t) (reach_is ts)

-- ---- the walk

step_if : (b : Bool) (x y : List Written) (s r : MendingStep) (K : List Opened → List Written) → x ≡ s.0 ++ K s.1 → y ≡ r.0 ++ K r.1
    → (if b then x else y) ≡ (if b then s else r).0 ++ K (if b then s else r).1
step_if true x y s r K h g = h
step_if false x y s r K h g = g

end_before_is : (t : Mark) (os : List Opened) (K : List Opened → List Written) → spec.end_before t os K ≡ (end_before_step t os).0 ++ K (end_before_step t os).1
end_before_is t [] K = refl
end_before_is t (o ∷ os) K =
    step_if (spec.ends_before_item t o) (put t.behind o ∷ spec.end_before t os K) (K (o ∷ os)) (before_step (put t.behind o) (end_before_step t os)) ([], o ∷ os) K
    (ap (λ ws. put t.behind o ∷ ws) (end_before_is t os K)) refl

close_own_is : (t : Mark) (os : List Opened) (K : List Opened → List Written) → spec.close_own t os K ≡ (close_own_step t os).0 ++ K (close_own_step t os).1
close_own_is t [] K = refl
close_own_is t (o ∷ os) K =
    step_if o.is_closed (closed t o.bracket ∷ K os) (put t.behind o ∷ spec.close_own t os K) (closed t o.bracket ∷ [], os) (before_step (put t.behind o) (close_own_step t os)) K
    refl (ap (λ ws. put t.behind o ∷ ws) (close_own_is t os K))

close_far_is : (t : Mark) (os : List Opened) (K : List Opened → List Written) → spec.close_far t os K ≡ (close_far_step t os).0 ++ K (close_far_step t os).1
close_far_is t [] K = refl
close_far_is t (o ∷ os) K =
    let one : List Written = closed t o.bracket ∷ K os in
    let two : List Written = put t.behind o ∷ spec.close_far t os K in
    let first : MendingStep = (closed t o.bracket ∷ [], os) in
    let second : MendingStep = before_step (put t.behind o) (close_far_step t os) in
    step_if o.is_closed (left t ∷ K (o ∷ os)) (if spec.fits_closer t o then one else two) (left t ∷ [], o ∷ os) (if spec.fits_closer t o then first else second) K
    refl (step_if (spec.fits_closer t o) one two first second K refl (ap (λ ws. put t.behind o ∷ ws) (close_far_is t os K)))

pub taken_is : (k : MarkKind) (t : Mark) (c : Option Mark) (os : List Opened) (K : List Opened → List Written) → spec.mark_taken k t c K os ≡ (taken_step k t c os).0 ++ K (taken_step k t c os).1
taken_is (mark.Open b) t c os K = refl
taken_is (mark.Close b) t c os K =
    let other : MendingStep = if spec.is_brace b then close_far_step t os else (left t ∷ [], os) in
    step_if (spec.is_owed t (spec.owed_closer os)) (spec.close_own t os K) (if spec.is_brace b then spec.close_far t os K else left t ∷ K os) (close_own_step t os) other K
    (close_own_is t os K) (step_if (spec.is_brace b) (spec.close_far t os K) (left t ∷ K os) (close_far_step t os) (left t ∷ [], os) K (close_far_is t os K) refl)
taken_is mark.Item t c os K =
    end_before_is t os (λ us. kept t ∷ K us) ∙ sym (append_assoc (end_before_step t os).0 (kept t ∷ []) (K (end_before_step t os).1))

walked_is : (at : ℕ) (ts : List Mark) (os : List Opened) → written_marks at (marked_list ts) os ≡ spec.written_from at ts os
walked_is at [] os = refl
walked_is at (t ∷ ts) os =
    let cs : List Mark = (reach_before ts ([], [])).1 in
    let s : MendingStep = taken_step t.kind t (spec.closer_by t.kind cs) os in
    ap (λ ws. s.0 ++ ws) (walked_is at ts s.1)
    ∙ sym (taken_is t.kind t (spec.closer_by t.kind cs) os (spec.written_from at ts))
    ∙ ap (λ cs. spec.mark_taken t.kind t (spec.closer_by t.kind cs) (spec.written_from at ts) os) (reach_is ts)

pub walked_whole : (at : ℕ) (ts : List Mark) → written_marks at (marked_list ts) [] ≡ spec.all_written at ts
walked_whole at ts = walked_is at ts []
