-- Marks whose brackets all match: a bracket that nothing closes ends before an item, and a `}` further out than its brace closes another.
use Rattle.std.specs.Prelude.{ℕ, zero, Bool, true, false, not, ◌&&◌, if◌then◌else◌, nat_le, nat_lt, nat_eq, List, [], ◌∷◌, flat_map, Option, Some, None}
use Rattle.rust_mended.specs.declared.bracket.Bracket.{Bracket}
use Rattle.rust_mended.specs.declared.bracket.Bracket.TheVariants as bracket
use Rattle.rust_mended.specs.declared.mark.Mark.{Mark}
use Rattle.rust_mended.specs.declared.mark.MarkKind.{MarkKind}
use Rattle.rust_mended.specs.declared.mark.MarkKind.TheVariants as mark
use Rattle.rust_mended.specs.declared.mark.Opened.{Opened}

abbrev pub is_brace : Bracket → Bool
is_brace bracket.Brace = true
is_brace bracket.Round = false
is_brace bracket.Square = false

abbrev pub is_same : Bracket → Bracket → Bool
is_same bracket.Brace bracket.Brace = true
is_same bracket.Round bracket.Round = true
is_same bracket.Square bracket.Square = true
is_same _ _ = false

-- a closer of such a bracket
abbrev pub is_closer_of : Bracket → MarkKind → Bool
is_closer_of b (mark.Close c) = is_same b c
is_closer_of b _ = false

-- ---- what closes a bracket: a `}` the last open brace, and another closer the last open bracket, if that is no brace

abbrev pub closes_brace : MarkKind → Bool
closes_brace k = is_closer_of bracket.Brace k

-- the first brace of these closers, and what is behind it
abbrev pub first_brace : List Mark → Option Mark
first_brace [] = None
first_brace (c ∷ cs) = if closes_brace c.kind then Some c else first_brace cs

abbrev pub closers_behind_brace : List Mark → List Mark
closers_behind_brace [] = []
closers_behind_brace (c ∷ cs) = if closes_brace c.kind then cs else closers_behind_brace cs

-- the first, if that is no brace, and what is behind it
abbrev pub first_other : List Mark → Option Mark
first_other [] = None
first_other (c ∷ cs) = if closes_brace c.kind then None else Some c

abbrev pub closers_behind_other : List Mark → List Mark
closers_behind_other [] = []
closers_behind_other (c ∷ cs) = if closes_brace c.kind then c ∷ cs else cs

-- what closes a bracket of the closers behind it, and what is left of these
abbrev pub closer_of : Bracket → List Mark → Option Mark
closer_of b cs = if is_brace b then first_brace cs else first_other cs

abbrev pub closers_past : Bracket → List Mark → List Mark
closers_past b cs = if is_brace b then closers_behind_brace cs else closers_behind_other cs

abbrev pub closers_reached : MarkKind → Mark → List Mark → List Mark
closers_reached (mark.Open b) t cs = closers_past b cs
closers_reached (mark.Close b) t cs = t ∷ cs
closers_reached mark.Item t cs = cs

-- the closers of these marks that close what stands before them
abbrev pub closers_reaching : List Mark → List Mark
closers_reaching [] = []
closers_reaching (t ∷ ts) = closers_reached t.kind t (closers_reaching ts)

abbrev pub closer_by : MarkKind → List Mark → Option Mark
closer_by (mark.Open b) cs = closer_of b cs
closer_by (mark.Close b) cs = None
closer_by mark.Item cs = None

-- ---- what becomes of the marks

-- a mark that stays, the closer of an open bracket that is put at a place, a closer that is left out, and one that closes such a bracket
pub data Written : Type 0 where
  kept : Mark → Written
  put : ℕ → Opened → Written
  left : Mark → Written
  closed : Mark → Bracket → Written

-- all that is open ends at this place, the last first
abbrev pub all_ended : ℕ → List Opened → List Written
all_ended at [] = []
all_ended at (o ∷ os) = put at o ∷ all_ended at os

-- what nothing closes and is no further out than this item ends before it, the last first; then the rest
abbrev pub ends_before_item : Mark → Opened → Bool
ends_before_item t o = not o.is_closed && nat_le t.indent o.indent

abbrev pub end_before : Mark → List Opened → (List Opened → List Written) → List Written
end_before t [] rest = rest []
end_before t (o ∷ os) rest = if ends_before_item t o then put t.behind o ∷ end_before t os rest else rest (o ∷ os)

-- A brace directly in a bracket that nothing closes does not keep its `}`, if that begins a line further out than the brace's and no
-- further in than that bracket's.
abbrev pub is_far : Mark → Opened → Mark → Bool
is_far t o c = not o.is_closed && (c.begins_line && (nat_lt c.indent t.indent && nat_le c.indent o.indent))

abbrev pub kept_if : Bool → Option Mark → Option Mark
kept_if is_lost c = if is_lost then None else c

abbrev pub is_lost : Mark → Opened → Option Mark → Bool
is_lost t o None = false
is_lost t o (Some c) = is_far t o c

abbrev pub keeps : Bracket → Mark → List Opened → Option Mark → Option Mark
keeps b t [] closer = closer
keeps b t (o ∷ os) closer = kept_if (is_brace b && is_lost t o closer) closer

-- what closes the last of these that is closed
abbrev pub owed_closer : List Opened → Option ℕ
owed_closer [] = None
owed_closer (o ∷ os) = o.owed

abbrev pub opened_by : Bracket → Mark → Option Mark → List Opened → Opened
opened_by b t None os = record { bracket = b; at = t.at; indent = t.indent; is_closed = false; owed = owed_closer os }
opened_by b t (Some c) os = record { bracket = b; at = t.at; indent = t.indent; is_closed = true; owed = Some c.at }

abbrev pub is_owed : Mark → Option ℕ → Bool
is_owed t None = false
is_owed t (Some at) = nat_eq at t.at

-- it closes the last of these that is closed, and what nothing closes behind that ends before
abbrev pub close_own : Mark → List Opened → (List Opened → List Written) → List Written
close_own t [] rest = left t ∷ rest []
close_own t (o ∷ os) rest = if o.is_closed then closed t o.bracket ∷ rest os else put t.behind o ∷ close_own t os rest

-- a brace that nothing closes and is no further in than this `}`, which begins a line
abbrev pub fits_closer : Mark → Opened → Bool
fits_closer t o = is_brace o.bracket && (t.begins_line && nat_le o.indent t.indent)

-- It closes the last such brace, directly in which or in each other all behind that ends before; or all that ends, and it is left out.
abbrev pub close_far : Mark → List Opened → (List Opened → List Written) → List Written
close_far t [] rest = left t ∷ rest []
close_far t (o ∷ os) rest =
    if o.is_closed then left t ∷ rest (o ∷ os)
    else (if fits_closer t o then closed t o.bracket ∷ rest os else put t.behind o ∷ close_far t os rest)

-- a closer closes its own bracket; a `}` that has none closes another, and any other closer is left out
abbrev pub close_with : Bracket → Mark → List Opened → (List Opened → List Written) → List Written
close_with b t os rest = if is_owed t (owed_closer os) then close_own t os rest else (if is_brace b then close_far t os rest else left t ∷ rest os)

abbrev pub mark_taken : MarkKind → Mark → Option Mark → (List Opened → List Written) → List Opened → List Written
mark_taken (mark.Open b) t closer rest os = kept t ∷ rest (opened_by b t (keeps b t os closer) os ∷ os)
mark_taken (mark.Close b) t closer rest os = close_with b t os rest
mark_taken mark.Item t closer rest os = end_before t os (λ us. kept t ∷ rest us)

-- what becomes of these marks by what is open before them; at the end what is open ends at this place
abbrev pub written_from : ℕ → List Mark → List Opened → List Written
written_from at [] os = all_ended at os
written_from at (t ∷ ts) os = mark_taken t.kind t (closer_by t.kind (closers_reaching ts)) (written_from at ts) os

abbrev pub all_written : ℕ → List Mark → List Written
all_written at ts = written_from at ts []

-- ---- the marks that it makes

-- a closer that is put
abbrev pub put_mark : ℕ → Bracket → Mark
put_mark at b = record { kind = mark.Close b; at = at; behind = at; indent = zero; begins_line = false }

abbrev pub closer_for : Mark → Bracket → Mark
closer_for t b = record { kind = mark.Close b; at = t.at; behind = t.behind; indent = t.indent; begins_line = t.begins_line }

abbrev pub mark_by : Written → List Mark
mark_by (kept t) = t ∷ []
mark_by (put at o) = put_mark at o.bracket ∷ []
mark_by (left t) = []
mark_by (closed t b) = closer_for t b ∷ []

-- the mark that it was
abbrev pub source_by : Written → List Mark
source_by (kept t) = t ∷ []
source_by (put at o) = []
source_by (left t) = t ∷ []
source_by (closed t b) = t ∷ []

-- the mended marks
abbrev pub mended_marks : ℕ → List Mark → List Mark
mended_marks at ts = flat_map mark_by (all_written at ts)

-- ---- all brackets match: each closer closes the last open bracket, which is of its kind, and none is open at the end

abbrev pub matches_last : Bracket → (List Bracket → Bool) → List Bracket → Bool
matches_last b rest [] = false
matches_last b rest (o ∷ os) = if is_same o b then rest os else false

abbrev pub matched_by : MarkKind → (List Bracket → Bool) → List Bracket → Bool
matched_by (mark.Open b) rest os = rest (b ∷ os)
matched_by (mark.Close b) rest os = matches_last b rest os
matched_by mark.Item rest os = rest os

abbrev pub none_left : List Bracket → Bool
none_left [] = true
none_left (o ∷ os) = false

abbrev pub match_from : List Mark → List Bracket → Bool
match_from [] os = none_left os
match_from (t ∷ ts) os = matched_by t.kind (match_from ts) os

abbrev pub all_match : List Mark → Bool
all_match ts = match_from ts []
