-- For the crate's own functions: rows with their labels as keys, and what of a text is passed over.
use Rattle.std.specs.Prelude.{◌≡◌, ◌≤◌, ◌<◌, ℕ, ◌+◌, ◌++◌, All, Bool, true, false, not, ◌&&◌, is_some, nat_le, length, if◌then◌else◌, List, [], ◌∷◌, Option, Some, None}
use Rattle.std.specs.Borrow.{Bor}
use Rattle.source_changes.specs.declared.matching.Keyed.{Keyed}
use Rattle.source_changes.specs.declared.matching.Match.{Match}
use Rattle.source_changes.specs.Matches.{match_map}
use Rattle.rust_lexer.specs.Piece.{Piece}
use Rattle.source_changes.specs.declared.doc_attributes.Sign.{Sign}
use Rattle.source_changes.specs.declared.doc_attributes.Sign.TheVariants as signs
use Rattle.source_changes.specs.declared.kept.Hole.{Hole}
use Rattle.source_changes.specs.declared.kept.Kept.{Kept}
use Rattle.source_changes.specs.declared.kept.Told.{Told}
use Rattle.source_changes.specs.declared.row_changes.Row as code_row
use Rattle.source_changes.specs.declared.row_changes.Change as code_change
use Rattle.source_changes.specs.declared.moved.Frame as code_frame
use Rattle.source_changes.specs.declared.moved.Standing as code_standing
use Rattle.source_changes.specs.RowChanges.{TextRow, RowChange}
use Rattle.source_changes.specs.ChangeViews.{row_change_view, text_row_view}
use Rattle.source_changes.specs.DocAttributes.{behind_tests, docs_as_comments, is_bare_string, is_doc_name, is_symbol}
use Rattle.source_changes.specs.Moves.{Frame, Standing, StandingRow}
use Rattle.source_changes.specs.Skeletons.{kept_tokens, without_returns}

abbrev pub with_label : TextRow → List ℕ × TextRow
with_label r = (r.label, r)

abbrev pub labelled_view : Keyed (Bor (List ℕ)) code_row.Row → List ℕ × TextRow
labelled_view k = (k.key.now, text_row_view k.item)

abbrev pub row_match : {K : Type 0} → Match (Bor (Keyed K code_row.Row)) → Match TextRow
row_match m = match_map (λ k. text_row_view k.now.item) m

abbrev pub frame_view : code_frame.Frame → Frame
frame_view f = record { end = f.end; label = f.label.now; rank = f.rank }

abbrev pub standing_view : code_standing.Standing → Standing
standing_view s = record { label = s.label.now; around = s.around.now; rank = s.rank }

abbrev pub standing_row_view : Keyed code_standing.Standing code_row.Row → StandingRow
standing_row_view k = (standing_view k.key, text_row_view k.item)

abbrev pub found_row_change : Option code_change.Change → List RowChange
found_row_change None = []
found_row_change (Some c) = row_change_view c ∷ []

-- each begins at a place or behind it, and none is empty
abbrev pub ComeBehind : ℕ → List Piece → Type 0
ComeBehind place [] = Unit {0}
ComeBehind place (t ∷ ts) = (place ≤ t.at) × ((0 < length t.text) × ComeBehind (t.at + length t.text) ts)

-- the first of some parts ends where the next token begins, or later
abbrev pub ends_behind : List Piece → List Hole → Bool
ends_behind (t ∷ ts) (h ∷ hs) = nat_le t.at h.end
ends_behind _ _ = false

-- the texts of the tokens that are taken of what is left
abbrev pub left_texts : Kept → List (List ℕ)
left_texts left = kept_tokens left.has_docs left.holes.now left.before (docs_as_comments left.has_docs 0 left.lexer)

-- what tells a token
abbrev pub told_text : Told → List ℕ
told_text t = (if t.is_joint then 1 else 0) ∷ without_returns t.text.now

-- the test that such a token of an attribute passes
abbrev pub sign_test : Sign → Piece → Bool
sign_test signs.Bang = is_symbol 33
sign_test signs.Open = is_symbol 91
sign_test signs.Name = is_doc_name
sign_test signs.Equals = is_symbol 61
sign_test signs.Text = is_bare_string
sign_test signs.Close = is_symbol 93

-- these do not begin with what passes the last of some tests in turn
abbrev pub are_apart : List (Piece → Bool) → List Piece → Bool
are_apart [] ts = true
are_apart (p ∷ ps) ts = not (is_some (behind_tests (p ∷ ps) ts)) && are_apart ps ts

-- whatever stands before these, it is no mark with the first of them, and none of its attributes that document ends in them
pub record IsLone (has_docs : Bool) (ts : List Piece) : Type 0 where
  pub no_mark : (holes : List Hole) (before other : ℕ) → kept_tokens has_docs holes before (docs_as_comments has_docs 0 ts) ≡ kept_tokens has_docs holes other (docs_as_comments has_docs 0 ts)
  pub apart : (front : List Piece) → docs_as_comments has_docs 0 (front ++ ts) ≡ docs_as_comments has_docs 0 front ++ docs_as_comments has_docs 0 ts

-- a text in front of others, if it is taken
abbrev pub text_first : Bool → List ℕ → List (List ℕ) → List (List ℕ)
text_first is_taken text more = if is_taken then text ∷ more else more

-- the first of some parts neither begins nor ends before a place
abbrev pub IsBefore : ℕ → List Hole → Type 0
IsBefore place [] = Unit {0}
IsBefore place (h ∷ hs) = (place ≤ h.start) × (place ≤ h.end)

-- some parts and others leave out the same of tokens that begin before a place
abbrev pub AreSameUntil : ℕ → List Hole → List Hole → Type 0
AreSameUntil place holes others =
    (has_docs : Bool) (before : ℕ) (front : List Piece) → All (λ t. t.at < place) front → kept_tokens has_docs holes before front ≡ kept_tokens has_docs others before front
