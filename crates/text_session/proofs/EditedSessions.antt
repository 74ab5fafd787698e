-- What edits make of a session.
use Rattle.std.proofs.Common.{◌≡◌, ◌≢◌, ℕ, ◌<◌, ◌≤◌, ◌==◌, suc, true, false, if◌then◌else◌, inl, inr, List, [], ◌∷◌, ◌++◌, Option, Some, None, IfSome, All, Result, Ok, Err, OnOk, IfOk, IfErr, MatchResult, slice_get, length, map, take, refl, sym, ap, subst, ◌∙◌, arith}
use Rattle.text_session.proofs.Common.{length-map, take_all, All-take, option_map, option_or, unwrap_or, after_join, last_append, or_else, EditionYear, Edit, EditView, edit_view, edits_before, last_number, FirstFit, IsCause, IsRefusal, IsAfter, IsFooting, last_some, State, after_none, IndexView, TextEdit, EditError, NotChanged, IsPlaced, LeavesPlaced, AreTogether, TellsFault, session_of, edit_refusal, made_count, outcome_of, Session, AreMade, IsEdited, IsRefused, IsStopped, IsUnedited, AreTouched, IsBehindBy, Touched, Texts, TextChange, text_in, text_after, left_text, AreMeant, FailsAt}
use Rattle.item_tree.specs.declared.fault.EditFault.{EditFault}
use Rattle.item_tree.specs.declared.fault.EditFault.TheVariants.{TooManyEdits, Lower}
use Rattle.item_tree.specs.declared.fault.LowerError.TheVariants.{TooManyItems, TooManyVisibilities, TooManyUseTrees, TooManyAttributes, TooManySupers, OutOfMemory}
use Rattle.item_tree_db.specs.declared.edit.AllRefused.{AllRefused}
use Rattle.std.proofs.lemmas.Option.{slice_get-map, slice_get_within}
use Rattle.text_session.specs.declared.error.EditError.TheVariants as why
use Rattle.text_session.proofs.KeptTexts.{text_over}
use Rattle.text_session.proofs.MeantEdits.{meant_length}
use Rattle.text_session.proofs.ReadTexts.{AreLeft, left_first, same_length, set_after}
use Rattle.text_session.proofs.Touching.{behind_by_after, touched_first}

-- ---- the places of texts

placed_leaves : (file : ℕ) (c : TextChange) → LeavesPlaced c → IfSome (left_text file c) IsPlaced
placed_leaves file None h = tt
placed_leaves file (Some c) h = elim (c.0 == file) as (λ b. IfSome (if b then Some c.1 else None) IsPlaced) [ true ↦ h | false ↦ tt ]

some_either : {A : Type 0} (P : A → Type 0) (a b : Option A) → IfSome a P → IfSome b P → IfSome (option_or a b) P
some_either P None b h k = k
some_either P (Some a) b h k = h

some_else : {A : Type 0} (P : A → Type 0) (o : Option A) (d : A) → IfSome o P → P d → P (unwrap_or o d)
some_else P None d h k = k
some_else P (Some a) d h k = h

placed_last : (file : ℕ) (cs : List TextChange) → All LeavesPlaced cs → IfSome (last_some (left_text file) cs) IsPlaced
placed_last file [] h = tt
placed_last file (c ∷ cs) h = some_either IsPlaced (last_some (left_text file) cs) (left_text file c) (placed_last file cs (λ k d within. h (suc k) d (omega (arith, within)))) (placed_leaves file c (h 0 None (omega arith)))

placed_after : (texts : Texts) (cs : List TextChange) → ((file : ℕ) → IsPlaced (text_in texts file)) → All LeavesPlaced cs → (file : ℕ) → IsPlaced (text_after (text_in texts) cs file)
placed_after texts cs old new file = some_else IsPlaced (last_some (left_text file) cs) (text_in texts file) (placed_last file cs new) (old file)

-- ---- what belongs together

-- after edits of the table and changes of the texts
pub together_after : (count : ℕ) (edition : EditionYear) (s u : State) (edits : List EditView) (old new : Texts) (changes : List TextChange) (index : IndexView) (were are : Touched) → AreTogether count edition s old index were → IsBehindBy index are u → IsAfter s edits u
    → All LeavesPlaced changes → ((file : ℕ) → text_in new file ≡ text_after (text_in old) changes file) → ((file : ℕ) → AreLeft edition file edits changes) → AreTogether count edition u new index are
together_after count edition s u edits old new changes index were are t behind after placed texts left = record {
  crates = t.crates ∙ sym after.count;
  behind = behind;
  placed = λ file. subst IsPlaced (sym (texts file)) (placed_after old changes t.placed placed file);
  read = set_after edition s u edits old new changes t.read after texts left;
}

-- ---- outcomes

-- nothing is made
pub made_none : (s u : Session) → u.edition ≡ s.edition → u.table ≡ s.table → ((file : ℕ) → text_in u.texts file ≡ text_in s.texts file) → AreMade s [] [] u
made_none s u edition table texts = record { edition = edition; table = subst (IsAfter s.table []) (sym table) (after_none s.table); texts = texts }

pub stopped_none : (s : Session) (asked : List TextEdit) (u : Session) → u.edition ≡ s.edition → u.table ≡ s.table → ((file : ℕ) → text_in u.texts file ≡ text_in s.texts file) → IsStopped s asked u
stopped_none s asked u edition table texts = record { edits = []; changes = []; count = 0; meant = inl refl; made = made_none s u edition table texts; rest = inl refl; in_range = inl refl; fits = λ m less. absurd (omega (arith, less)) }

-- memory runs out, or an edit means nothing
pub unmeant : (s : Session) (asked : List TextEdit) (e : EditError) → TellsFault (FailsAt s.edition.0 (text_in s.texts) asked) e → IsUnedited s asked s e
unmeant s asked (NotChanged place cause) h = (h, refl)
unmeant s asked why.OutOfMemory h = stopped_none s asked s refl refl (λ file. refl)
unmeant s asked e h = absurd h

-- an edit is refused, or memory runs out in it
module _ (s : Session) (asked : List TextEdit) (u : Session) (edits : List EditView) (changes : List TextChange) (place : ℕ) (meant : AreMeant s.edition.0 (text_in s.texts) asked edits changes) (made : AreMade s (take place edits) (take place changes) u)
    (in_range : u.table.number ≤ last_number) (fits : FirstFit s.table edits place) (edit : EditView) (found : slice_get edits place ≡ Some edit) where
  -- for a size
  by_size : (cause : EditFault) → IsCause u.table edit cause → (u.table.number ≡ last_number → cause ≡ TooManyEdits) → cause ≢ Lower OutOfMemory → IsRefused s asked u place cause
  by_size cause refused full size =
      record { edits = edits; changes = changes; meant = meant; made = made; in_range = in_range; fits = fits; edit = edit; found = found; refused = refused; size = size; full = full }

  -- it is one of those that are asked for
  in_asked : place < length asked
  in_asked = omega (arith, slice_get_within edits place edit found, same_length s.edition.0 (text_in s.texts) asked edits changes meant, meant_length s.edition.0 (text_in s.texts) asked edits changes meant)

  pub refused_at : (cause : EditFault) → IsCause u.table edit cause → (u.table.number ≡ last_number → cause ≡ TooManyEdits) → IsUnedited s asked u (edit_refusal place cause)
  refused_at TooManyEdits h full = by_size TooManyEdits h full (λ e. cc)
  refused_at (Lower TooManyItems) h full = by_size (Lower TooManyItems) h full (λ e. cc)
  refused_at (Lower TooManyVisibilities) h full = by_size (Lower TooManyVisibilities) h full (λ e. cc)
  refused_at (Lower TooManyUseTrees) h full = by_size (Lower TooManyUseTrees) h full (λ e. cc)
  refused_at (Lower TooManyAttributes) h full = by_size (Lower TooManyAttributes) h full (λ e. cc)
  refused_at (Lower TooManySupers) h full = by_size (Lower TooManySupers) h full (λ e. cc)
  refused_at (Lower OutOfMemory) h full = record { edits = edits; changes = changes; count = place; meant = inr meant; made = made; rest = inr in_asked; in_range = inr in_range; fits = fits }

-- ---- edits in two goes

pub made_join : (s u v : Session) (es fs : List EditView) (cs ds : List TextChange) → AreMade s es cs u → AreMade u fs ds v → AreMade s (es ++ fs) (cs ++ ds) v
made_join s u v es fs cs ds a b = record {
  edition = b.edition ∙ a.edition;
  table = after_join s.table u.table v.table es fs a.table b.table;
  texts = λ file.
      b.texts file
      ∙ ap (unwrap_or (last_some (left_text file) ds)) (a.texts file)
      ∙ sym (or_else (last_some (left_text file) ds) (last_some (left_text file) cs) (text_in s.texts file))
      ∙ ap (λ o. unwrap_or o (text_in s.texts file)) (sym (last_append (left_text file) cs ds));
}

-- ---- what the table answers

-- it refuses an edit of a list
abbrev pub IsRefusalIn : State → AllRefused → Type 0
IsRefusalIn u all = IsRefusal u all.refused

-- the first edits of the table lead where it stands, all of them or those before the refused one
pub after_first : (s u : State) (edits : List Edit) (made : Result ℕ AllRefused) → OnOk made (IsAfter s (map edit_view edits) u) → IfErr made (λ all. IsAfter s (edits_before all edits) u)
    → IsAfter s (take (made_count (length edits) made) (map edit_view edits)) u
after_first s u edits (Ok number) ok err = subst (λ es. IsAfter s es u) (sym (take_all (length edits) (map edit_view edits) (omega (arith, length-map edits edit_view)))) ok
after_first s u edits (Err all) ok err = err

-- what all edits come to
module _ (s u : Session) (asked : List TextEdit) (edits : List Edit) (changes : List TextChange) (meant : AreMeant s.edition.0 (text_in s.texts) asked (map edit_view edits) changes) where
  edited_by : (number : ℕ) → AreMade s (take (length edits) (map edit_view edits)) (take (length edits) changes) u → number ≡ u.table.number → number ≤ last_number → FirstFit s.table (map edit_view edits) (length edits) → IsEdited s asked u
  edited_by number made is small fit =
      let es = map edit_view edits in
      let whole = length-map edits edit_view in
      let all = subst (λ xs. AreMade s xs (take (length edits) changes) u) (take_all (length edits) es (omega (arith, whole))) made in
      let both = subst (λ cs. AreMade s es cs u) (take_all (length edits) changes (omega (arith, whole, same_length s.edition.0 (text_in s.texts) asked es changes meant))) all in
      record { edits = es; changes = changes; meant = meant; made = both; in_range = omega (arith, small, is); fits = subst (FirstFit s.table es) (sym whole) fit }

  pub outcome_by : (made : Result ℕ AllRefused) → AreMade s (take (made_count (length edits) made) (map edit_view edits)) (take (made_count (length edits) made) changes) u
      → IfOk made (λ number. number ≡ u.table.number) → IfOk made (λ number. number ≤ last_number) → OnOk made (FirstFit s.table (map edit_view edits) (length edits))
      → IfErr made (λ all. slice_get edits all.place ≡ Some all.refused.edit) → IfErr made (λ all. FirstFit s.table (map edit_view edits) all.place) → IfErr made (IsRefusalIn u.table)
      → IfErr made (λ all. u.table.number ≡ last_number → all.refused.cause ≡ TooManyEdits) → IfErr made (λ all. u.table.number ≤ last_number)
      → MatchResult (outcome_of made) (λ _. IsEdited s asked u) (IsUnedited s asked u)
  outcome_by (Ok number) both is small fit found before cause full range = edited_by number both is small fit
  outcome_by (Err all) both is small fit found before cause full range =
      let es = map edit_view edits in
      let at = slice_get-map edit_view edits all.place ∙ ap (option_map edit_view) found in
      refused_at s asked u es changes all.place meant both range before (edit_view all.refused.edit) at all.refused.cause cause full

-- ---- a table and the texts of its files

-- room was made for the texts, the table answered, and the first changes were made
module _ (s u : State) (old room new : Texts) (edits : List Edit) (changes : List TextChange) (made : Result ℕ AllRefused) (n : ℕ) (ok : OnOk made (IsAfter s (map edit_view edits) u)) (refused : IfErr made (λ all. IsAfter s (edits_before all edits) u))
    (count_is : n ≡ made_count (length edits) made) (same : (file : ℕ) → text_in room file ≡ text_in old file) (put : (file : ℕ) → text_in new file ≡ text_after (text_in room) (take n changes) file) where
  texts_after : (file : ℕ) → text_in new file ≡ text_after (text_in old) (take (made_count (length edits) made) changes) file
  texts_after file = put file ∙ text_over old room (take n changes) same file ∙ ap (λ k. text_after (text_in old) (take k changes) file) count_is

  pub files_made : (edition : EditionYear × List (List ℕ)) → AreMade (session_of edition s old) (take (made_count (length edits) made) (map edit_view edits)) (take (made_count (length edits) made) changes) (session_of edition u new)
  files_made edition = record { edition = refl; table = after_first s u edits made ok refused; texts = texts_after }

  pub files_together : (count : ℕ) (edition : EditionYear) (asked : List TextEdit) (were are : Touched) → AreMeant edition (text_in old) asked (map edit_view edits) changes → AreTouched (map edit_view edits) were are → (index : IndexView) → AreTogether count edition s old index were
      → IsFooting s u → All LeavesPlaced changes → AreTogether count edition u new index are
  files_together count edition asked were are meant touched index t footing placed =
      let k = made_count (length edits) made in
      let es = take k (map edit_view edits) in
      let after = after_first s u edits made ok refused in
      let behind = behind_by_after s u es index were are after footing (touched_first k (map edit_view edits) were are touched) t.behind in
      together_after count edition s u es old new (take k changes) index were are t behind after (All-take LeavesPlaced k changes placed) texts_after (λ file. left_first k edition (text_in old) asked (map edit_view edits) changes file meant)
