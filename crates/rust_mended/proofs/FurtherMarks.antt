-- Marks further on are mended as they are: the edits stand further on.
use Rattle.std.proofs.Common.{◌≡◌, refl, ◌∙◌, ap, ℕ, ◌+◌, ◌<◌, ◌==◌, Bool, true, false, ◌&&◌, nat_eq, if◌then◌else◌, List, [], ◌∷◌, length, map, Option, Some, None, option_map, arith}
use Rattle.std.proofs.lemmas.Bool.{cond_both, ne_eqb}
use Rattle.std.proofs.lemmas.Bool.Decides.{nat_tests}
use Rattle.std.specs.List.{flat_map}
use Rattle.rust_lexer.specs.declared.kind.TokenKind.{TokenKind}
use Rattle.rust_lexer.specs.declared.kind.TokenKind.TheVariants as kind
use Rattle.rust_lexer.specs.Piece.{Piece}
use Rattle.rust_lexer.specs.Symbol.{symbol_from, symbol_of}
use Rattle.rust_lexer.specs.Tokens.{tokens}
use Rattle.rust_lexer.proofs.Cases.{when}
use Rattle.rust_lexer.proofs.Laws.{AreSome, tokens_not_empty}
use Rattle.rust_mended.specs.declared.bracket.Bracket.{Bracket}
use Rattle.rust_mended.specs.declared.bracket.Bracket.TheVariants as bracket
use Rattle.rust_mended.specs.declared.edit.EditKind.TheVariants as edit
use Rattle.rust_mended.specs.declared.line.Line.{Line}
use Rattle.rust_mended.specs.declared.mark.Mark.{Mark}
use Rattle.rust_mended.specs.declared.mark.MarkKind.{MarkKind}
use Rattle.rust_mended.specs.declared.mark.MarkKind.TheVariants as mark
use Rattle.rust_mended.specs.declared.mark.Opened.{Opened}
use Rattle.rust_mended.specs.Apart.{behind_further, edit_further, mark_further, seam}
use Rattle.rust_mended.specs.Marks.{bracket_of, is_between, is_closing_symbol, is_opening_symbol, last_end, line_behind, line_behind_all, and_marks, marks, marks_from, may_begin_item, place_behind, text_begin}
use Rattle.rust_mended.specs.Mended.{Written, kept, put, left, closed, is_brace, is_closer_of, closes_brace, first_brace, closers_behind_brace, first_other, closers_behind_other, closer_of, closers_past, closers_reached, closer_by, closers_reaching, all_ended, ends_before_item, end_before, is_owed, owed_closer, is_lost, close_own, fits_closer, close_far, keeps, opened_by, mark_taken, written_from, all_written}
use Rattle.rust_mended.specs.Texts.{edit_moved, edits, mending_edit}
use Rattle.rust_mended.proofs.Places.{some_first, some_rest}
use Rattle.rust_mended.proofs.MatchedMarks.{no_truth}

-- ---- behind an opening bracket no mark is before the first token

-- what ends before these marks, or at this place, ends at such a place
abbrev pub EndAt : (ℕ → Type 0) → ℕ → List Mark → Type 0
EndAt P at [] = P at
EndAt P at (t ∷ ts) = P t.behind × EndAt P at ts

-- so does what is opened by this mark
abbrev pub OpenEndsAt : (ℕ → Type 0) → MarkKind → ℕ → List Mark → Type 0
OpenEndsAt P (mark.Open b) at ts = EndAt P at ts
OpenEndsAt P _ at ts = Unit {0}

abbrev pub OpensEndAt : (ℕ → Type 0) → ℕ → List Mark → Type 0
OpensEndAt P at [] = Unit {0}
OpensEndAt P at (t ∷ ts) = OpenEndsAt P t.kind at ts × OpensEndAt P at ts

-- behind the first token of a text
abbrev pub IsSome : ℕ → Type 0
IsSome n = 0 < n

is_opener : (k : TokenKind) (b : ℕ) → is_opening_symbol (symbol_from k b) ≡ true → is_between k ≡ false
is_opener kind.ByteOrderMark b e = absurd (no_truth e)
is_opener kind.Shebang b e = absurd (no_truth e)
is_opener kind.Frontmatter b e = absurd (no_truth e)
is_opener kind.Whitespace b e = absurd (no_truth e)
is_opener (kind.LineComment d) b e = absurd (no_truth e)
is_opener (kind.BlockComment d) b e = absurd (no_truth e)
is_opener _ b e = refl

behind_some : (l : Line) (t : Piece) → 0 < length t.text → 0 < l.behind → 0 < place_behind l t
behind_some l t some h = cond_both (is_between t.kind) l.behind (t.at + length t.text) (λ n. 0 < n) (λ _. h) (λ _. omega arith)

opener_some : (l : Line) (t : Piece) → 0 < length t.text → is_opening_symbol (symbol_of t) ≡ true → 0 < place_behind l t
opener_some l t some e = rw (is_opener t.kind _ e) (omega arith)

and_behind : (at : ℕ) (k : Option MarkKind) (l : Line) (t : Piece) (ms : List Mark) → 0 < l.behind → EndAt IsSome at ms → EndAt IsSome at (and_marks k l t ms)
and_behind at None l t ms h g = g
and_behind at (Some k) l t ms h g = (h, g)

pub are_behind : (l : Line) (ts : List Piece) → AreSome ts → 0 < l.behind → EndAt IsSome (line_behind_all l ts).behind (marks_from l ts)
are_behind l [] s h = h
are_behind l (t ∷ ts) s h =
    and_behind (line_behind_all (line_behind l t) ts).behind _ l t (marks_from (line_behind l t) ts) h
    (are_behind (line_behind l t) ts (some_rest t ts s) (behind_some l t (some_first t ts s) h))

and_opens : (at : ℕ) (l : Line) (t : Piece) (ms : List Mark) (a b may : Bool) → (a ≡ true → EndAt IsSome at ms) → OpensEndAt IsSome at ms
    → OpensEndAt IsSome at (and_marks (if a then Some (mark.Open (bracket_of (symbol_of t))) else (if b then Some (mark.Close (bracket_of (symbol_of t))) else (if may then Some mark.Item else None))) l t ms)
and_opens at l t ms true b may h g = (h refl, g)
and_opens at l t ms false true may h g = (tt, g)
and_opens at l t ms false false true h g = (tt, g)
and_opens at l t ms false false false h g = g

opens_from : (l : Line) (ts : List Piece) → AreSome ts → OpensEndAt IsSome (line_behind_all l ts).behind (marks_from l ts)
opens_from l [] s = tt
opens_from l (t ∷ ts) s =
    and_opens (line_behind_all (line_behind l t) ts).behind l t (marks_from (line_behind l t) ts) (is_opening_symbol (symbol_of t)) (is_closing_symbol (symbol_of t)) (l.is_first && may_begin_item t.kind (symbol_of t))
    (λ e. are_behind (line_behind l t) ts (some_rest t ts s) (opener_some l t (some_first t ts s) e)) (opens_from (line_behind l t) ts (some_rest t ts s))

-- ---- what is open, further on

-- Where places of marks are changed so that two are the same as before, and places behind alike, where something ends.
module _ (place behind : ℕ → ℕ) (P : ℕ → Type 0) (same : (m n : ℕ) → nat_eq (place m) (place n) ≡ nat_eq m n) (fits : (n : ℕ) → P n → behind n ≡ place n) where
  abbrev pub on : Mark → Mark
  on t = record { kind = t.kind; at = place t.at; behind = behind t.behind; indent = t.indent; begins_line = t.begins_line }

  abbrev pub opened_on : Opened → Opened
  opened_on o = record { bracket = o.bracket; at = place o.at; indent = o.indent; is_closed = o.is_closed; owed = option_map place o.owed }

  abbrev pub all_on : List Opened → List Opened
  all_on os = map opened_on os

  -- the edits are those, further on
  abbrev pub Further : List Written → List Written → Type 0
  Further ws us = flat_map mending_edit us ≡ map (edit_moved place) (flat_map mending_edit ws)

  first_brace_on : (cs : List Mark) → first_brace (map on cs) ≡ option_map on (first_brace cs)
  first_brace_on [] = refl
  first_brace_on (c ∷ cs) = when (closes_brace c.kind) (λ e. rw e refl) (λ e. rw e (first_brace_on cs))

  behind_brace_on : (cs : List Mark) → closers_behind_brace (map on cs) ≡ map on (closers_behind_brace cs)
  behind_brace_on [] = refl
  behind_brace_on (c ∷ cs) = when (closes_brace c.kind) (λ e. rw e refl) (λ e. rw e (behind_brace_on cs))

  first_other_on : (cs : List Mark) → first_other (map on cs) ≡ option_map on (first_other cs)
  first_other_on [] = refl
  first_other_on (c ∷ cs) = when (closes_brace c.kind) (λ e. rw e refl) (λ e. rw e refl)

  behind_other_on : (cs : List Mark) → closers_behind_other (map on cs) ≡ map on (closers_behind_other cs)
  behind_other_on [] = refl
  behind_other_on (c ∷ cs) = when (closes_brace c.kind) (λ e. rw e refl) (λ e. rw e refl)

  closer_on : (b : Bracket) (cs : List Mark) → closer_of b (map on cs) ≡ option_map on (closer_of b cs)
  closer_on bracket.Brace cs = first_brace_on cs
  closer_on bracket.Round cs = first_other_on cs
  closer_on bracket.Square cs = first_other_on cs

  past_on : (b : Bracket) (cs : List Mark) → closers_past b (map on cs) ≡ map on (closers_past b cs)
  past_on bracket.Brace cs = behind_brace_on cs
  past_on bracket.Round cs = behind_other_on cs
  past_on bracket.Square cs = behind_other_on cs

  pub reached_on : (k : MarkKind) (t : Mark) (cs : List Mark) → closers_reached k (on t) (map on cs) ≡ map on (closers_reached k t cs)
  reached_on (mark.Open b) t cs = past_on b cs
  reached_on (mark.Close b) t cs = refl
  reached_on mark.Item t cs = refl

  pub reaching_on : (ts : List Mark) → closers_reaching (map on ts) ≡ map on (closers_reaching ts)
  reaching_on [] = refl
  reaching_on (t ∷ ts) = ap (closers_reached t.kind (on t)) (reaching_on ts) ∙ reached_on t.kind t (closers_reaching ts)

  keeps_on : (b : Bracket) (t : Mark) (os : List Opened) (c : Option Mark) → keeps b (on t) (all_on os) (option_map on c) ≡ option_map on (keeps b t os c)
  keeps_on b t [] c = refl
  keeps_on b t (o ∷ os) None = when (is_brace b) (λ e. rw e refl) (λ e. rw e refl)
  keeps_on b t (o ∷ os) (Some c) = when (is_brace b && is_lost t o (Some c)) (λ e. rw e refl) (λ e. rw e refl)

  owed_on : (os : List Opened) → owed_closer (all_on os) ≡ option_map place (owed_closer os)
  owed_on [] = refl
  owed_on (o ∷ os) = refl

  opened_by_on : (b : Bracket) (t : Mark) (c : Option Mark) (os : List Opened) → opened_by b (on t) (option_map on c) (all_on os) ≡ opened_on (opened_by b t c os)
  opened_by_on b t None os = ap (λ n. record { bracket = b; at = place t.at; indent = t.indent; is_closed = false; owed = n }) (owed_on os)
  opened_by_on b t (Some c) os = refl

  is_owed_on : (t : Mark) (m : Option ℕ) → is_owed (on t) (option_map place m) ≡ is_owed t m
  is_owed_on t None = refl
  is_owed_on t (Some n) = same n t.at

  owes_on : (t : Mark) (os : List Opened) → is_owed (on t) (owed_closer (all_on os)) ≡ is_owed t (owed_closer os)
  owes_on t os = ap (is_owed (on t)) (owed_on os) ∙ is_owed_on t (owed_closer os)

  -- ---- the walk

  -- what is open was opened in these texts' second
  abbrev pub IfOpen : List Opened → ℕ → List Mark → Type 0
  IfOpen [] at ts = Unit {0}
  IfOpen (o ∷ os) at ts = EndAt P at ts

  fewer_open : (o : Opened) (os : List Opened) (at : ℕ) (ts : List Mark) → EndAt P at ts → IfOpen os at ts
  fewer_open o [] at ts h = tt
  fewer_open o (p ∷ os) at ts h = h

  next_open : (os : List Opened) (at : ℕ) (t : Mark) (ts : List Mark) → IfOpen os at (t ∷ ts) → IfOpen os at ts
  next_open [] at t ts h = tt
  next_open (o ∷ os) at t ts h = h.1

  abbrev pub Follows : ℕ → List Mark → (List Opened → List Written) → (List Opened → List Written) → Type 0
  Follows at ts K L = (us : List Opened) → IfOpen us at ts → Further (K us) (L (all_on us))

  if_further : (b : Bool) (x y x' y' : List Written) → Further x x' → Further y y' → Further (if b then x else y) (if b then x' else y')
  if_further true x y x' y' h g = h
  if_further false x y x' y' h g = g

  put_further : (n : ℕ) (o : Opened) (ws us : List Written) → P n → Further ws us → Further (put n o ∷ ws) (put (behind n) (opened_on o) ∷ us)
  put_further n o ws us p h =
      ap (λ m. record { at = m; told = place o.at; kind = edit.Put o.bracket } ∷ flat_map mending_edit us) (fits n p)
      ∙ ap (λ es. record { at = place n; told = place o.at; kind = edit.Put o.bracket } ∷ es) h

  left_further : (t : Mark) (ws us : List Written) → Further ws us → Further (left t ∷ ws) (left (on t) ∷ us)
  left_further t ws us h = ap (λ es. record { at = place t.at; told = place t.at; kind = edit.Leave } ∷ es) h

  closed_further : (t : Mark) (b : Bracket) (ws us : List Written) → Further ws us → Further (closed t b ∷ ws) (closed (on t) b ∷ us)
  closed_further t b ws us h = when (is_closer_of b t.kind) (λ e. rw e h) (λ e. rw e (ap (λ es. record { at = place t.at; told = place t.at; kind = edit.Turn b } ∷ es) h))

  ends_further : (at : ℕ) (os : List Opened) → IfOpen os at [] → Further (all_ended at os) (all_ended (behind at) (all_on os))
  ends_further at [] h = refl
  ends_further at (o ∷ os) h = put_further at o (all_ended at os) (all_ended (behind at) (all_on os)) h (ends_further at os (fewer_open o os at [] h))

  module _ (at : ℕ) (t : Mark) (ts : List Mark) where
    end_before_further : (os : List Opened) (K L : List Opened → List Written) → Follows at ts K L → IfOpen os at (t ∷ ts) → Further (end_before t os K) (end_before (on t) (all_on os) L)
    end_before_further [] K L f h = f [] tt
    end_before_further (o ∷ os) K L f h =
        if_further (ends_before_item t o) (put t.behind o ∷ end_before t os K) (K (o ∷ os)) (put (behind t.behind) (opened_on o) ∷ end_before (on t) (all_on os) L) (L (all_on (o ∷ os)))
        (put_further t.behind o (end_before t os K) (end_before (on t) (all_on os) L) h.0 (end_before_further os K L f (fewer_open o os at (t ∷ ts) h))) (f (o ∷ os) h.1)

    close_own_further : (os : List Opened) (K L : List Opened → List Written) → Follows at ts K L → IfOpen os at (t ∷ ts) → Further (close_own t os K) (close_own (on t) (all_on os) L)
    close_own_further [] K L f h = left_further t (K []) (L []) (f [] tt)
    close_own_further (o ∷ os) K L f h =
        if_further o.is_closed (closed t o.bracket ∷ K os) (put t.behind o ∷ close_own t os K) (closed (on t) o.bracket ∷ L (all_on os)) (put (behind t.behind) (opened_on o) ∷ close_own (on t) (all_on os) L)
        (closed_further t o.bracket (K os) (L (all_on os)) (f os (fewer_open o os at ts h.1)))
        (put_further t.behind o (close_own t os K) (close_own (on t) (all_on os) L) h.0 (close_own_further os K L f (fewer_open o os at (t ∷ ts) h)))

    close_far_further : (os : List Opened) (K L : List Opened → List Written) → Follows at ts K L → IfOpen os at (t ∷ ts) → Further (close_far t os K) (close_far (on t) (all_on os) L)
    close_far_further [] K L f h = left_further t (K []) (L []) (f [] tt)
    close_far_further (o ∷ os) K L f h =
        let one : List Written = closed t o.bracket ∷ K os in
        let two : List Written = put t.behind o ∷ close_far t os K in
        let one' : List Written = closed (on t) o.bracket ∷ L (all_on os) in
        let two' : List Written = put (behind t.behind) (opened_on o) ∷ close_far (on t) (all_on os) L in
        if_further o.is_closed (left t ∷ K (o ∷ os)) (if fits_closer t o then one else two) (left (on t) ∷ L (all_on (o ∷ os))) (if fits_closer t o then one' else two')
        (left_further t (K (o ∷ os)) (L (all_on (o ∷ os))) (f (o ∷ os) h.1))
        (if_further (fits_closer t o) one two one' two'
        (closed_further t o.bracket (K os) (L (all_on os)) (f os (fewer_open o os at ts h.1)))
        (put_further t.behind o (close_far t os K) (close_far (on t) (all_on os) L) h.0 (close_far_further os K L f (fewer_open o os at (t ∷ ts) h))))

    pub taken_further : (k : MarkKind) (cs : List Mark) (os : List Opened) (K L : List Opened → List Written) → OpenEndsAt P k at ts → Follows at ts K L → IfOpen os at (t ∷ ts)
        → Further (mark_taken k t (closer_by k cs) K os) (mark_taken k (on t) (closer_by k (map on cs)) L (all_on os))
    taken_further (mark.Open b) cs os K L g f h =
        let o : Opened = opened_by b t (keeps b t os (closer_of b cs)) os in
        let same : opened_by b (on t) (keeps b (on t) (all_on os) (closer_of b (map on cs))) (all_on os) ≡ opened_on o =
        ap (λ c. opened_by b (on t) (keeps b (on t) (all_on os) c) (all_on os)) (closer_on b cs)
        ∙ ap (λ c. opened_by b (on t) c (all_on os)) (keeps_on b t os (closer_of b cs))
        ∙ opened_by_on b t (keeps b t os (closer_of b cs)) os in
        ap (λ p. flat_map mending_edit (L (p ∷ all_on os))) same ∙ f (o ∷ os) g
    taken_further (mark.Close b) cs os K L g f h =
        rw (owes_on t os)
        (if_further (is_owed t (owed_closer os)) (close_own t os K) (if is_brace b then close_far t os K else left t ∷ K os) (close_own (on t) (all_on os) L) (if is_brace b then close_far (on t) (all_on os) L else left (on t) ∷ L (all_on os))
        (close_own_further os K L f h)
        (if_further (is_brace b) (close_far t os K) (left t ∷ K os) (close_far (on t) (all_on os) L) (left (on t) ∷ L (all_on os))
        (close_far_further os K L f h) (left_further t (K os) (L (all_on os)) (f os (next_open os at t ts h)))))
    taken_further mark.Item cs os K L g f h = end_before_further os (λ us. kept t ∷ K us) (λ us. kept (on t) ∷ L us) f h

  pub written_further : (at : ℕ) (ts : List Mark) → OpensEndAt P at ts → Follows at ts (written_from at ts) (written_from (behind at) (map on ts))
  written_further at [] g os h = ends_further at os h
  written_further at (t ∷ ts) g os h =
      ap (λ cs. flat_map mending_edit (mark_taken t.kind (on t) (closer_by t.kind cs) (written_from (behind at) (map on ts)) (all_on os))) (reaching_on ts)
      ∙ taken_further at t ts t.kind (closers_reaching ts) os (written_from at ts) (written_from (behind at) (map on ts)) g.0 (written_further at ts g.1) h

-- ---- of a text that stands apart

pub same_on : (d m n : ℕ) → nat_eq (m + d) (n + d) ≡ nat_eq m n
same_on d m n = grind (arith, nat_tests)

pub behind_on : (q z : List ℕ) (n : ℕ) → 0 < n → behind_further q z n ≡ n + seam q z
behind_on q z n some = let other : (n == 0) ≡ false = ne_eqb n 0 (omega arith) in rw other refl

pub edits_further : (q z s : List ℕ) → flat_map mending_edit (all_written (behind_further q z (last_end s)) (map (mark_further q z) (marks s))) ≡ map (edit_further q z) (edits s)
unfolding edits
edits_further q z s =
    written_further (λ n. n + seam q z) (behind_further q z) IsSome (same_on (seam q z)) (behind_on q z) (last_end s) (marks s) (opens_from text_begin (tokens s) (tokens_not_empty s)) [] tt
