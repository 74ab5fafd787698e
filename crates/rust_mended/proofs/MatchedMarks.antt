-- Marks whose brackets match stay as they are, and what is behind them is mended by itself.
use Rattle.std.proofs.Common.{◌≡◌, refl, ◌∙◌, ap, sym, subst, ℕ, Bool, true, false, not, ◌&&◌, nat_le, nat_eq, if◌then◌else◌, List, [], ◌∷◌, ◌++◌, append-nil, Option, Some, None, ◌-◌, arith}
use Rattle.std.proofs.lemmas.Bool.{eqb-false, true_from_ne_false}
use Rattle.std.specs.List.{flat_map}
use Rattle.rust_lexer.specs.Piece.{Piece}
use Rattle.rust_lexer.specs.Symbol.{symbol_of}
use Rattle.rust_lexer.specs.Tokens.{tokens}
use Rattle.rust_mended.specs.declared.bracket.Bracket.{Bracket}
use Rattle.rust_mended.specs.declared.bracket.Bracket.TheVariants as bracket
use Rattle.rust_mended.specs.declared.line.Line.{Line}
use Rattle.rust_mended.specs.declared.mark.Mark.{Mark}
use Rattle.rust_mended.specs.declared.mark.MarkKind.{MarkKind}
use Rattle.rust_mended.specs.declared.mark.MarkKind.TheVariants as mark
use Rattle.rust_mended.specs.declared.mark.Opened.{Opened}
use Rattle.rust_mended.specs.Mended.{matches_last, Written, kept, put, left, closed, is_brace, is_same, is_closer_of, closes_brace, first_brace, closers_behind_brace, closer_of, closers_past, closers_reached, closer_by, closers_reaching, end_before, is_owed, owed_closer, close_own, close_far, keeps, kept_if, opened_by, mark_taken, written_from, all_written, matched_by, match_from, all_match}
use Rattle.rust_mended.specs.Marks.{and_marks, bracket_of, text_begin, is_closing_symbol, is_opening_symbol, last_end, line_behind, marks, marks_from, may_begin_item}
use Rattle.rust_mended.specs.Texts.{mending_edit, with_edits, edits, is_matched, mended_text, place_back, place_back_by, puts, puts_from, tokens_match}
use Rattle.rust_mended.proofs.Matching.{brackets}

abbrev TrueFalse : Bool → Type 0
TrueFalse true = Unit
TrueFalse false = ⊥

pub no_truth : false ≡ true → ⊥
no_truth e = subst TrueFalse (sym e) tt

pub same_place : (n : ℕ) → nat_eq n n ≡ true
same_place n = true_from_ne_false (nat_eq n n) (λ e. eqb-false n n e refl)

pub same_is : (a b : Bracket) → is_same a b ≡ true → a ≡ b
same_is bracket.Brace bracket.Brace e = refl
same_is bracket.Round bracket.Round e = refl
same_is bracket.Square bracket.Square e = refl
same_is bracket.Brace bracket.Round e = absurd (no_truth e)
same_is bracket.Brace bracket.Square e = absurd (no_truth e)
same_is bracket.Round bracket.Brace e = absurd (no_truth e)
same_is bracket.Round bracket.Square e = absurd (no_truth e)
same_is bracket.Square bracket.Brace e = absurd (no_truth e)
same_is bracket.Square bracket.Round e = absurd (no_truth e)

both_true : (x y : Bool) → (if x then y else false) ≡ true → (x ≡ true) × (y ≡ true)
both_true true y e = (refl, e)
both_true false y e = absurd (no_truth e)

first_if : (b : Bool) (x y : List Written) → b ≡ true → (if b then x else y) ≡ x
first_if true x y e = refl
first_if false x y e = absurd (no_truth e)

-- closers of these kinds, and then these
abbrev Kinds : List Bracket → List Mark → List Mark → Type 0
Kinds [] cs S = cs ≡ S
Kinds (b ∷ st) [] S = ⊥
Kinds (b ∷ st) (c ∷ cs) S = (c.kind ≡ mark.Close b) × Kinds st cs S

-- a bracket takes its own closer
past_own : (b : Bracket) (c : Mark) (cs : List Mark) → c.kind ≡ mark.Close b → closers_past b (c ∷ cs) ≡ cs
past_own bracket.Brace c cs p = ap (λ k. if closes_brace k then cs else closers_behind_brace cs) p
past_own bracket.Round c cs p = ap (λ k. if closes_brace k then c ∷ cs else cs) p
past_own bracket.Square c cs p = ap (λ k. if closes_brace k then c ∷ cs else cs) p

closer_own : (b : Bracket) (c : Mark) (cs : List Mark) → c.kind ≡ mark.Close b → closer_of b (c ∷ cs) ≡ Some c
closer_own bracket.Brace c cs p = ap (λ k. if closes_brace k then Some c else first_brace cs) p
closer_own bracket.Round c cs p = ap (λ k. if closes_brace k then None else Some c) p
closer_own bracket.Square c cs p = ap (λ k. if closes_brace k then None else Some c) p

kinds_past : (b : Bracket) (st : List Bracket) (R S : List Mark) → Kinds (b ∷ st) R S → Kinds st (closers_past b R) S
kinds_past b st [] S h = absurd h
kinds_past b st (c ∷ cs) S h = subst (λ xs. Kinds st xs S) (sym (past_own b c cs h.0)) h.1

reached_by : (k : MarkKind) (t : Mark) → t.kind ≡ k → (rest : List Bracket → Bool) (R S : List Mark) → ((st : List Bracket) → rest st ≡ true → Kinds st R S)
    → (st : List Bracket) → matched_by k rest st ≡ true → Kinds st (closers_reached k t R) S
reached_by (mark.Open b) t p rest R S h st m = kinds_past b st R S (h (b ∷ st) m)
reached_by (mark.Close b) t p rest R S h [] m = absurd (no_truth m)
reached_by (mark.Close b) t p rest R S h (o ∷ os) m =
    let two : (is_same o b ≡ true) × (rest os ≡ true) = both_true (is_same o b) (rest os) m in
    (p ∙ ap mark.Close (sym (same_is o b two.0)), h os two.1)
reached_by mark.Item t p rest R S h st m = h st m

reaching_matched : (q s : List Mark) (st : List Bracket) → match_from q st ≡ true → Kinds st (closers_reaching (q ++ s)) (closers_reaching s)
reaching_matched [] s [] m = refl
reaching_matched [] s (o ∷ os) m = absurd (no_truth m)
reaching_matched (t ∷ q) s st m = reached_by t.kind t refl (match_from q) (closers_reaching (q ++ s)) (closers_reaching s) (reaching_matched q s) st m

-- these closers are those of what is open, and then come others
abbrev Owes : List Opened → List Mark → List Mark → Type 0
Owes [] cs S = cs ≡ S
Owes (o ∷ os) [] S = ⊥
Owes (o ∷ os) (c ∷ cs) S = (o.is_closed ≡ true) × ((o.owed ≡ Some c.at) × Owes os cs S)

owes_closed : (o : Opened) (os : List Opened) (cs S : List Mark) → Owes (o ∷ os) cs S → o.is_closed ≡ true
owes_closed o os [] S h = absurd h
owes_closed o os (c ∷ cs) S h = h.0

stays_open : (c x : Bool) (a b : List Written) → c ≡ true → (if not c && x then a else b) ≡ b
stays_open true x a b e = refl
stays_open false x a b e = absurd (no_truth e)

end_before_closed : (t : Mark) (os : List Opened) (K : List Opened → List Written) (cs S : List Mark) → Owes os cs S → end_before t os K ≡ K os
end_before_closed t [] K cs S h = refl
end_before_closed t (o ∷ os) K cs S h = stays_open o.is_closed (nat_le t.indent o.indent) (put t.behind o ∷ end_before t os K) (K (o ∷ os)) (owes_closed o os cs S h)

-- a bracket in a closed one keeps its closer
not_lost : (b x y : Bool) (c : Option Mark) → x ≡ true → kept_if (b && (not x && y)) c ≡ c
not_lost true true y c e = refl
not_lost false true y c e = refl
not_lost b false y c e = absurd (no_truth e)

keeps_whole : (b : Bracket) (t : Mark) (os : List Opened) (c : Mark) (cs S : List Mark) → Owes os cs S → keeps b t os (Some c) ≡ Some c
keeps_whole b t [] c cs S h = refl
keeps_whole b t (o ∷ os) c cs S h = not_lost (is_brace b) o.is_closed _ (Some c) (owes_closed o os cs S h)

owes_opened : (b : Bracket) (t : Mark) (os : List Opened) (R S : List Mark) → Kinds (b ∷ brackets os) R S → Owes os (closers_past b R) S
    → Owes (opened_by b t (keeps b t os (closer_of b R)) os ∷ os) R S
owes_opened b t os [] S k h = absurd k
owes_opened b t os (c ∷ cs) S k h =
    let below : Owes os cs S = subst (λ xs. Owes os xs S) (past_own b c cs k.0) h in
    let keeps_it : keeps b t os (closer_of b (c ∷ cs)) ≡ Some c = ap (keeps b t os) (closer_own b c cs k.0) ∙ keeps_whole b t os c cs S below in
    subst (λ x. Owes (opened_by b t x os ∷ os) (c ∷ cs) S) (sym keeps_it) (refl, (refl, below))

-- ---- what the rest does

-- the bracket of a frame is the one that was opened
opened_bracket : (b : Bracket) (t : Mark) (c : Option Mark) (os : List Opened) → (opened_by b t c os).bracket ≡ b
opened_bracket b t None os = refl
opened_bracket b t (Some c) os = refl

-- marks that stay, and then come these edits
abbrev Joins : (List Opened → List Written) → (List Bracket → Bool) → List Mark → List Mark → (ws : List Written) → Type 0
Joins K rest R S ws = (us : List Opened) → Owes us R S → rest (brackets us) ≡ true → flat_map mending_edit (K us) ≡ flat_map mending_edit ws

-- a closer of its own kind is no edit
pub own_edit : (t : Mark) (b : Bracket) (ws : List Written) → is_closer_of b t.kind ≡ true → flat_map mending_edit (closed t b ∷ ws) ≡ flat_map mending_edit ws
own_edit t b ws e = rw e refl

taken_whole : (k : MarkKind) (t : Mark) → t.kind ≡ k → (R S : List Mark) (K : List Opened → List Written) (rest : List Bracket → Bool) (ws : List Written)
    → ((st : List Bracket) → rest st ≡ true → Kinds st R S) → Joins K rest R S ws → (os : List Opened) → Owes os (closers_reached k t R) S → matched_by k rest (brackets os) ≡ true
    → flat_map mending_edit (mark_taken k t (closer_by k R) K os) ≡ flat_map mending_edit ws
taken_whole (mark.Open b) t p R S K rest ws r h os w m =
    let f : Opened = opened_by b t (keeps b t os (closer_of b R)) os in
    h (f ∷ os) (owes_opened b t os R S (r (b ∷ brackets os) m) w) (ap (λ x. rest (x ∷ brackets os)) (opened_bracket b t (keeps b t os (closer_of b R)) os) ∙ m)
taken_whole (mark.Close b) t p R S K rest ws r h [] w m = absurd (no_truth m)
taken_whole (mark.Close b) t p R S K rest ws r h (o ∷ os) w m =
    let two : (is_same o.bracket b ≡ true) × (rest (brackets os) ≡ true) = both_true (is_same o.bracket b) (rest (brackets os)) m in
    let own : is_owed t (owed_closer (o ∷ os)) ≡ true = ap (is_owed t) w.1.0 ∙ same_place t.at in
    ap (flat_map mending_edit) (first_if (is_owed t (owed_closer (o ∷ os))) (close_own t (o ∷ os) K) (if is_brace b then close_far t (o ∷ os) K else left t ∷ K (o ∷ os)) own
    ∙ first_if o.is_closed (closed t o.bracket ∷ K os) (put t.behind o ∷ close_own t os K) w.0)
    ∙ own_edit t o.bracket (K os) (ap (is_closer_of o.bracket) p ∙ two.0)
    ∙ h os w.1.1 two.1
taken_whole mark.Item t p R S K rest ws r h os w m =
    ap (flat_map mending_edit) (end_before_closed t os (λ us. kept t ∷ K us) R S w) ∙ h os w m

written_from_whole : (at : ℕ) (q s : List Mark) → Joins (written_from at (q ++ s)) (match_from q) (closers_reaching (q ++ s)) (closers_reaching s) (all_written at s)
written_from_whole at [] s [] w m = refl
written_from_whole at [] s (o ∷ os) w m = absurd (no_truth m)
written_from_whole at (t ∷ q) s os w m =
    taken_whole t.kind t refl (closers_reaching (q ++ s)) (closers_reaching s) (written_from at (q ++ s)) (match_from q) (all_written at s) (reaching_matched q s) (written_from_whole at q s) os w m

-- behind marks that match, the edits are those of what is behind
pub edits_behind_matched : (at : ℕ) (q s : List Mark) → all_match q ≡ true → flat_map mending_edit (all_written at (q ++ s)) ≡ flat_map mending_edit (all_written at s)
edits_behind_matched at q s m = written_from_whole at q s [] (reaching_matched q s [] m) m

-- marks that match need no edit
pub no_edits : (at : ℕ) (ts : List Mark) → all_match ts ≡ true → flat_map mending_edit (all_written at ts) ≡ []
no_edits at ts m = ap (λ us. flat_map mending_edit (all_written at us)) (sym (append-nil ts)) ∙ edits_behind_matched at ts [] m

-- ---- texts

closes_alike : (b : Bracket) (rest more : List Bracket → Bool) → ((us : List Bracket) → rest us ≡ more us) → (os : List Bracket) → matches_last b rest os ≡ matches_last b more os
closes_alike b rest more h [] = refl
closes_alike b rest more h (o ∷ os) = ap (λ x. if is_same o b then x else false) (h os)

-- a mark matches as its token does
mark_matches : (l : Line) (t : Piece) (ms : List Mark) (rest : List Bracket → Bool) (a b may : Bool) → ((us : List Bracket) → match_from ms us ≡ rest us) → (os : List Bracket)
    → match_from (and_marks (if a then Some (mark.Open (bracket_of (symbol_of t))) else (if b then Some (mark.Close (bracket_of (symbol_of t))) else (if may then Some mark.Item else None))) l t ms) os
    ≡ (if a then rest (bracket_of (symbol_of t) ∷ os) else (if b then matches_last (bracket_of (symbol_of t)) rest os else rest os))
mark_matches l t ms rest true b may h os = h (bracket_of (symbol_of t) ∷ os)
mark_matches l t ms rest false true may h os = closes_alike (bracket_of (symbol_of t)) (match_from ms) rest h os
mark_matches l t ms rest false false true h os = h os
mark_matches l t ms rest false false false h os = h os

pub marks_match : (l : Line) (ts : List Piece) (os : List Bracket) → match_from (marks_from l ts) os ≡ tokens_match ts os
marks_match l [] os = refl
marks_match l (t ∷ ts) os =
    mark_matches l t (marks_from (line_behind l t) ts) (tokens_match ts) (is_opening_symbol (symbol_of t)) (is_closing_symbol (symbol_of t)) (l.is_first && may_begin_item t.kind (symbol_of t)) (marks_match (line_behind l t) ts) os

pub text_edits : (text : List ℕ) → is_matched text ≡ true → edits text ≡ []
unfolding edits is_matched
text_edits text m = no_edits (last_end text) (marks text) (marks_match text_begin (tokens text) [] ∙ m)

pub text_stays : (text : List ℕ) → is_matched text ≡ true → mended_text text ≡ text
unfolding mended_text
text_stays text m = ap (with_edits text 0) (text_edits text m)

pub places_stay : (text : List ℕ) (at : ℕ) → is_matched text ≡ true → place_back text at ≡ at
unfolding place_back puts
places_stay text at m = let none : at - 0 ≡ at = omega arith in ap (λ es. place_back_by (puts_from 0 es) at) (text_edits text m) ∙ none
