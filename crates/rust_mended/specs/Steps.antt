-- The steps of the code: what each writes, and what is open then.
use Rattle.std.specs.Prelude.{◌≡◌, ◌≤◌, ℕ, if◌then◌else◌, List, [], ◌∷◌, ◌++◌, flat_map, Option}
use Rattle.rust_mended.specs.declared.bracket.Bracket.{Bracket}
use Rattle.rust_mended.specs.declared.edit.Edit.{Edit}
use Rattle.rust_mended.specs.declared.mark.Mark.{Mark}
use Rattle.rust_mended.specs.declared.mark.MarkKind.{MarkKind}
use Rattle.rust_mended.specs.declared.mark.MarkKind.TheVariants as mark
use Rattle.rust_mended.specs.declared.mark.Opened.{Opened}
use Rattle.rust_mended.specs.declared.reached.Marked.{Marked}
use Rattle.rust_mended.specs.Mended.{Written, kept, put, left, closed, is_brace, closer_by, closers_reached, all_ended, ends_before_item, keeps, opened_by, owed_closer, is_owed, fits_closer}
use Rattle.rust_mended.specs.Texts.{mending_edit, past_edit}

-- the marks, each with what closes it, and the closers that are left
abbrev pub Reach : Type 0
Reach = List Marked × List Mark

abbrev pub and_marked : Mark → Reach → Reach
and_marked t r = (record { mark = t; closer = closer_by t.kind r.1 } ∷ r.0, closers_reached t.kind t r.1)

abbrev pub reach_before : List Mark → Reach → Reach
reach_before [] r = r
reach_before (t ∷ ts) r = and_marked t (reach_before ts r)

abbrev pub marked_list : List Mark → List Marked
marked_list ts = (reach_before ts ([], [])).0

-- what is written, and what is open then
abbrev pub MendingStep : Type 0
MendingStep = List Written × List Opened

abbrev pub before_step : Written → MendingStep → MendingStep
before_step w s = (w ∷ s.0, s.1)

abbrev pub end_before_step : Mark → List Opened → MendingStep
end_before_step t [] = ([], [])
end_before_step t (o ∷ os) = if ends_before_item t o then before_step (put t.behind o) (end_before_step t os) else ([], o ∷ os)

abbrev pub close_own_step : Mark → List Opened → MendingStep
close_own_step t [] = (left t ∷ [], [])
close_own_step t (o ∷ os) = if o.is_closed then (closed t o.bracket ∷ [], os) else before_step (put t.behind o) (close_own_step t os)

abbrev pub close_far_step : Mark → List Opened → MendingStep
close_far_step t [] = (left t ∷ [], [])
close_far_step t (o ∷ os) =
    if o.is_closed then (left t ∷ [], o ∷ os)
    else (if fits_closer t o then (closed t o.bracket ∷ [], os) else before_step (put t.behind o) (close_far_step t os))

abbrev pub close_step : Bracket → Mark → List Opened → MendingStep
close_step b t os = if is_owed t (owed_closer os) then close_own_step t os else (if is_brace b then close_far_step t os else (left t ∷ [], os))

-- an item stays behind what ends before it
abbrev pub and_kept : Mark → MendingStep → MendingStep
and_kept t s = (s.0 ++ (kept t ∷ []), s.1)

abbrev pub taken_step : MarkKind → Mark → Option Mark → List Opened → MendingStep
taken_step (mark.Open b) t closer os = (kept t ∷ [], opened_by b t (keeps b t os closer) os ∷ os)
taken_step (mark.Close b) t closer os = close_step b t os
taken_step mark.Item t closer os = and_kept t (end_before_step t os)

abbrev pub written_marks : ℕ → List Marked → List Opened → List Written
written_marks at [] os = all_ended at os
written_marks at (m ∷ ms) os = (taken_step m.mark.kind m.mark m.closer os).0 ++ written_marks at ms (taken_step m.mark.kind m.mark m.closer os).1

-- behind the edits that there are come those of a step
abbrev pub AddsEdits : MendingStep → List Edit → List Edit → List Opened → Type 0
AddsEdits s old new os = (new ≡ old ++ flat_map mending_edit s.0) × (os ≡ s.1)

-- edits in the order of their places from one on, each at a place of which this holds
abbrev pub EditsFit : (ℕ → Type 0) → ℕ → List Edit → Type 0
EditsFit P at [] = Unit {0}
EditsFit P at (e ∷ es) = (at ≤ e.at) × (P e.at × (P (past_edit e) × EditsFit P (past_edit e) es))
