-- Edits inside bodies.
use Rattle.std.proofs.Common.{◌≡◌, ◌≢◌, ℕ, zero, suc, ◌+◌, ◌<◌, ◌≤◌, ◌==◌, Bool, true, false, if◌then◌else◌, List, [], ◌∷◌, Option, Some, None, IfSome, IfNone, OnSome, is_some, Result, Ok, Err, All, slice_get, length, map, take, drop, refl, sym, ap, subst, ◌∙◌, append_assoc, arith, IsCharBoundary, nat_le, string_bytes}
use Rattle.text_session.proofs.Common.{list_all, and_parts, nat_tests, get_or-map, length-map, EditionYear, Place, File, IsSetAgain, EditView, set, IsFooting, FitsAfter, last_number, State, present, ItemPlace, FileView, IsFileView, bare_file, HasPlaces, IsReadMoved, edited_text, has_item, has_place, shifted_item, shifted_place, shifted_problem, HasTextOf, IsListedFile, closers_in, is_cut, TextRange, AreDistinct, IndexView, ChangeFault, SourceText, TextEdit, set_text, change_text, AreSetTo, AreTogether, IsPlaced, IsSetTo, LeavesPlaced, session_of, CanReplace, HasRoom, IsInside, IsMadeAlone, IsMadeOrNot, IsRetyped, IsRetypedIf, MakesAlone, IsEdited, TextChange, IsKept, IsReading, Texts, bytes_kept, change_fault, changed_text, spliced_text, text_after, text_in, unless_fault, Touched, IsAfter, AreMeant}
use Rattle.std.specs.String.{string_capacity, string_len}
use Rattle.std.specs.String.Boundary.{IsSplitPoint}
use Rattle.std.specs.declared.alloc.AllocError.{AllocError}
use Rattle.std.specs.declared.alloc.Global.{Global}
use Rattle.std.specs.declared.string.String.{String}
use Rattle.rust_edits.specs.declared.shift.Shift.{Shift}
use Rattle.source_rows.specs.declared.mended_file.MendedFile.{MendedFile}
use Rattle.source_rows.proofs.ListedTexts.{listed_whole, no_problems, whole_listed}
use Rattle.text_session.specs.declared.inside.Inside.{Inside}
use Rattle.text_session.proofs.KeptTexts.{text_step}
use Rattle.text_session.proofs.EditedSessions.{together_after}
use Rattle.text_session.proofs.ReadTexts.{left_first}
use Rattle.text_session.proofs.Touching.{behind_by_again}
use Rattle.text_session.proofs.SplicedTexts.{begins, ends, fault_short}

-- ---- a text in place

pub split_point : (bs : List ℕ) (n : ℕ) → IsCharBoundary bs n → IsSplitPoint bs n
split_point bs n h = (h.0, λ _ within high. h.1 within high)

module _ (text : String Global) (range : TextRange) (typed : List ℕ) (cut : is_cut (string_bytes text) range ≡ true) where
  in_order : range.start ≤ range.end
  in_order = grind (arith, nat_tests, (and_parts (nat_le range.start range.end) _ cut).0)

  can_replace : (made : Option (String Global)) → HasRoom text range typed made → CanReplace text range typed made
  can_replace made room = record { order = in_order; start = begins (string_bytes text) range cut; end = ends (string_bytes text) range cut; room = room }

  pub room_left : string_len text + length typed ≤ string_capacity text → CanReplace text range typed None
  room_left h = can_replace None h

  pub room_made : (made : String Global) → string_bytes made ≡ spliced_text (string_bytes text) range typed → CanReplace text range typed (Some made)
  room_made made h = can_replace (Some made) h

-- ---- places

distinct_moved : (shift : Shift) (ps : List ItemPlace) → AreDistinct ps → AreDistinct (map (shifted_item shift) ps)
distinct_moved shift ps distinct i j d less within =
    let inside : j < length ps = omega (arith, within, length-map ps (shifted_item shift)) in
    λ same. distinct i j d less inside (ap (λ (p : ItemPlace). p.id) (sym (get_or-map (shifted_item shift) ps i d d (omega (arith, less, inside)))) ∙ same ∙ ap (λ (p : ItemPlace). p.id) (get_or-map (shifted_item shift) ps j d d inside))

some_same : {A : Type 0} (a b : A) → Some a ≡ Some b → a ≡ b
some_same a b e = cc

-- an edit that sets a file again, and is the only one, by what it changes and by what is then left
alone_by : (edition : EditionYear) (s u : State) (old new : Texts) (asked : List TextEdit) (edit : EditView) (change : TextChange) (place : Place) → AreMeant edition (text_in old) asked (edit ∷ []) (change ∷ []) → IsAfter s (edit ∷ []) u → IsSetAgain s place u
    → IsFooting s u → FitsAfter s [] edit → u.number ≤ last_number → LeavesPlaced change → ((file : ℕ) → text_in new file ≡ text_after (text_in old) (change ∷ []) file) → IsMadeAlone edition s old asked u new
alone_by edition s u old new asked edit change place meant after again footing fits number placed texts =
    record { edit = edit; change = change; meant = meant; after = after; place = place; again = again; footing = footing; fits = fits; number = number; placed = placed; texts = texts }

-- ---- the text of a file that is changed inside a body

-- where no closer was put, no mended text was read
unmended_text : (text : List ℕ) (mended : Option MendedFile) → closers_in mended ≡ None → HasTextOf text mended
unmended_text text None e = tt
unmended_text text (Some m) e = absurd cc

module _ (edition : EditionYear) (s u : State) (old new : Texts) (file : ℕ) (range : TextRange) (typed : List ℕ) (text after : SourceText) (inside : Inside)
    (had : text_in old file ≡ Some text) (has : text_in new file ≡ Some after) (others : (f : ℕ) → f ≢ file → text_in new f ≡ text_in old f)
    (is : IsInside text range typed inside) (retyped : IsRetyped range typed inside.edit.shift text after) (again : IsSetAgain s (File (record { 0 = file })) u)
    (read : IsSetTo edition (present s (File (record { 0 = file }))) text) where
  abbrev bytes : List ℕ
  bytes = string_bytes text.text

  abbrev shift : Shift
  shift = inside.edit.shift

  abbrev full : FileView
  full = read.is_kept.is_read.read

  bare_is : read.read ≡ bare_file full
  bare_is = read.is_kept.is_read.bare

  places_are : full.places ≡ text.places.items
  places_are = ap (λ (f : FileView). f.places) (sym bare_is) ∙ sym read.is_kept.places

  uses_are : full.use_trees ≡ text.use_trees.items
  uses_are = ap (λ (f : FileView). f.use_trees) (sym bare_is) ∙ sym read.is_kept.use_trees

  problems_are : full.problems ≡ text.problems.items
  problems_are = ap (λ (f : FileView). f.problems) (sym bare_is) ∙ sym read.is_kept.problems

  -- there is no problem, so the text itself was read
  none_before : full.problems ≡ []
  none_before = problems_are ∙ no_problems text.problems.items is.faultless

  own : (closers_in text.mended ≡ None) × IsFileView edition bytes full
  own = listed_whole edition bytes (closers_in text.mended) full read.is_kept.is_read.is_read none_before

  moved : IsReadMoved inside.edit edition (edited_text bytes range typed) full
  moved = is.reads edition full places_are own.1

  all : HasPlaces shift full
  all = is.places edition full places_are own.1

  abbrev now : FileView
  now = bare_file moved.again

  -- nor is there one then
  none_behind : moved.again.problems ≡ []
  none_behind = moved.moved.problems is.keeps ∙ ap (map (shifted_problem shift)) none_before

  unmended : closers_in after.mended ≡ None
  unmended = ap closers_in retyped.mended ∙ own.0

  listed : IsListedFile edition (spliced_text bytes range typed) (closers_in after.mended) moved.again
  listed = subst (λ c. IsListedFile edition (spliced_text bytes range typed) c moved.again) (sym unmended)
      (whole_listed edition (spliced_text bytes range typed) moved.again (subst (λ x. IsFileView edition x moved.again) (sym (append_assoc (take range.start bytes) typed (drop range.end bytes))) moved.is_read) none_behind)

  kept_after : IsKept edition (spliced_text bytes range typed) now after
  kept_after = record {
    text_is = retyped.text;
    short = fault_short bytes range typed is.fits;
    is_read = record { read = moved.again; is_read = listed; bare = refl };
    mended = unmended_text (spliced_text bytes range typed) after.mended unmended;
    places = retyped.places (ap (list_all (has_item shift)) (sym places_are) ∙ all.items) ∙ ap (map (shifted_item shift)) (sym places_are) ∙ sym moved.moved.items;
    use_trees = retyped.use_trees (ap (list_all (has_place shift)) (sym uses_are) ∙ all.use_trees) ∙ ap (map (shifted_place shift)) (sym uses_are) ∙ sym moved.moved.use_trees;
    problems = retyped.problems ∙ no_problems text.problems.items is.faultless ∙ sym none_behind;
  }

  abbrev edit : EditView
  edit = set (File (record { 0 = file })) again.syntax

  abbrev change : TextChange
  change = Some (file, Some after)

  syntax_is : again.syntax ≡ now.syntax
  syntax_is = some_same again.syntax read.read.syntax (sym again.had ∙ read.syntax_is) ∙ ap (λ (f : FileView). f.syntax) bare_is ∙ moved.moved.syntax

  reading : IsReading edition file (spliced_text bytes range typed) edit change
  reading = record {
    read = now;
    edit_is = ap (set (File (record { 0 = file }))) syntax_is;
    kept = after;
    change_is = refl;
    is_kept = kept_after;
  }

  changed : changed_text (bytes_kept (text_in old file)) range typed ≡ Ok (spliced_text bytes range typed)
  changed = ap (λ t. changed_text (bytes_kept t) range typed) had ∙ ap (λ f. unless_fault f (spliced_text bytes range typed)) is.fits

  texts : (f : ℕ) → text_in new f ≡ text_after (text_in old) (change ∷ []) f
  texts = text_step old new file (Some after) [] (λ f. elim (file == f) as (λ b. (file == f) ≡ b → text_in new f ≡ (if b then Some after else text_in old f)) [
    | true ↦ λ e. let same : f ≡ file = grind (arith, nat_tests, e) in ap (text_in new) same ∙ has
    | false ↦ λ e. others f (λ same. let wrong : (file == f) ≡ true = grind (arith, nat_tests, same) in absurd cc)
  ] refl)

  -- is a change of it
  pub made_alone : AreDistinct text.places.items → IsFooting s u → u.number ≤ last_number → IsMadeAlone edition s old (change_text file range typed ∷ []) u new
  made_alone distinct footing number =
      let placed = subst AreDistinct (sym (retyped.places (ap (list_all (has_item shift)) (sym places_are) ∙ all.items))) (distinct_moved shift text.places.items distinct) in
      alone_by edition s u old new (change_text file range typed ∷ []) edit change (File (record { 0 = file })) ((spliced_text bytes range typed, changed, reading), tt) again.after again footing again.fits number placed texts

retyped_to : (range : TextRange) (typed : List ℕ) (move : Shift) (text : SourceText) (new : Option SourceText) → IsRetypedIf range typed move (Some text) new → (after : SourceText) × (new ≡ Some after) × IsRetyped range typed move text after
retyped_to range typed move text None h = absurd h
retyped_to range typed move text (Some after) h = (after, refl, h)

module _ (s u : State) (old : Texts) (file : ℕ) (text : SourceText) (had : text_in old file ≡ Some text) (footing : IsFooting s u) where
  abbrev place : Place
  place = File (record { 0 = file })

  is_read : (edition : EditionYear) → AreSetTo edition s old → IsSetTo edition (present s place) text
  is_read edition are = subst (λ t. IfSome t (IsSetTo edition (present s place))) had (are file)

  is_placed : ((f : ℕ) → IsPlaced (text_in old f)) → AreDistinct text.places.items
  is_placed placed = subst IsPlaced had (placed file)

  -- its text is changed in place
  pub change_alone : (new : Texts) (range : TextRange) (typed : List ℕ) (inside : Inside) → IsInside text range typed inside → IsRetypedIf range typed inside.edit.shift (text_in old file) (text_in new file)
      → ((f : ℕ) → f ≢ file → text_in new f ≡ text_in old f) → IsSetAgain s place u → u.number ≤ last_number
      → (edition : EditionYear) → AreSetTo edition s old → ((f : ℕ) → IsPlaced (text_in old f)) → IsMadeAlone edition s old (change_text file range typed ∷ []) u new
  change_alone new range typed inside is retyped others again number edition are placed =
      let at = retyped_to range typed inside.edit.shift text (text_in new file) (subst (λ t. IsRetypedIf range typed inside.edit.shift t (text_in new file)) had retyped) in
      made_alone edition s u old new file range typed text at.0 inside had at.1 others is at.2 again (is_read edition are) (is_placed placed) footing number

-- ---- a file that is set to the text that it has

-- the text of a file, put in its place, is a change to itself
still : (old : Texts) (file : ℕ) (text : SourceText) → text_in old file ≡ Some text → (f : ℕ) → text_in old f ≡ text_after (text_in old) (Some (file, Some text) ∷ []) f
still old file text had = text_step old old file (Some text) [] (λ f. elim (file == f) as (λ b. (file == f) ≡ b → text_in old f ≡ (if b then Some text else text_in old f)) [
  | true ↦ λ e. let same : f ≡ file = grind (arith, nat_tests, e) in ap (text_in old) same ∙ had
  | false ↦ λ e. refl
] refl)

pub same_alone : (edition : EditionYear) (s u : State) (old : Texts) (file : ℕ) (text : SourceText) (made : List ℕ) → text_in old file ≡ Some text → made ≡ string_bytes text.text → IsSetAgain s (File (record { 0 = file })) u → IsFooting s u → u.number ≤ last_number
    → IsSetTo edition (present s (File (record { 0 = file }))) text → AreDistinct text.places.items → IsMadeAlone edition s old (set_text file made ∷ []) u old
same_alone edition s u old file text made had is again footing number read distinct =
    let place = File (record { 0 = file }) in
    let reading : IsReading edition file made (set place again.syntax) (Some (file, Some text)) = record {
      read = read.read;
      edit_is = ap (set place) (some_same again.syntax read.read.syntax (sym again.had ∙ read.syntax_is));
      kept = text;
      change_is = refl;
      is_kept = subst (λ x. IsKept edition x read.read text) (sym is) read.is_kept;
    } in
    alone_by edition s u old old (set_text file made ∷ []) (set place again.syntax) (Some (file, Some text)) place (reading, tt) again.after again footing again.fits number distinct (still old file text had)

-- ---- a file that is set to another text

only_text : (fault : Option ChangeFault) (made text : List ℕ) → unless_fault fault made ≡ Ok text → text ≡ made
only_text None made text e = cc
only_text (Some cause) made text e = absurd cc

-- changing its text by the difference is setting it
pub set_alone : (edition : EditionYear) (s u : State) (old new : Texts) (file : ℕ) (range : TextRange) (typed made : List ℕ) (text : SourceText) → text_in old file ≡ Some text → made ≡ spliced_text (string_bytes text.text) range typed
    → IsMadeAlone edition s old (change_text file range typed ∷ []) u new → IsMadeAlone edition s old (set_text file made ∷ []) u new
set_alone edition s u old new file range typed made text had is m =
    let text_is = only_text (change_fault (string_bytes text.text) range typed) (spliced_text (string_bytes text.text) range typed) m.meant.0.0 (ap (λ t. changed_text (bytes_kept t) range typed) (sym had) ∙ m.meant.0.1) ∙ sym is in
    alone_by edition s u old new (set_text file made ∷ []) m.edit m.change m.place (subst (λ x. IsReading edition file x m.edit m.change) text_is m.meant.0.2, tt) m.after m.again m.footing m.fits m.number m.placed m.texts

-- the same, made or not
pub set_by_change : (s u : State) (old new : Texts) (file : ℕ) (range : TextRange) (typed made : List ℕ) (text : SourceText) (r : Result Bool AllocError) → text_in old file ≡ Some text → made ≡ spliced_text (string_bytes text.text) range typed
    → MakesAlone s old (change_text file range typed ∷ []) u new r → MakesAlone s old (set_text file made ∷ []) u new r
set_by_change s u old new file range typed made text (Ok true) had is h = λ edition are placed. set_alone edition s u old new file range typed made text had is (h edition are placed)
set_by_change s u old new file range typed made text (Ok false) had is h = h
set_by_change s u old new file range typed made text (Err e) had is h = h

-- and where the text is the same
pub set_by_itself : (s u : State) (old : Texts) (file : ℕ) (text : SourceText) (made : List ℕ) (found : Option ℕ) → text_in old file ≡ Some text → made ≡ string_bytes text.text → IsFooting s u → OnSome found (IsSetAgain s (File (record { 0 = file })) u)
    → IfSome found (λ n. n ≡ u.number) → IfSome found (λ n. n ≤ last_number) → IfNone found (u ≡ s) → MakesAlone s old (set_text file made ∷ []) u old (Ok (is_some found))
set_by_itself s u old file text made None had is footing again number small none = λ edition are placed. (none, refl)
set_by_itself s u old file text made (Some n) had is footing again number small none = λ edition are placed.
    same_alone edition s u old file text made had is again footing (omega (arith, number, small)) (is_read s u old file text had footing edition are) (is_placed s u old file text had footing placed)

-- ---- the only edit

module _ (edition : EditionYear) (s u : State) (old new : Texts) (asked : List TextEdit) (r : Result Bool AllocError) (are : AreSetTo edition s old) (placed : (file : ℕ) → IsPlaced (text_in old file)) (makes : MakesAlone s old asked u new r) where
  by_result : (b : Result Bool AllocError) → r ≡ b → IsMadeOrNot (IsMadeAlone edition s old asked u new) ((u ≡ s) × (new ≡ old)) b
  by_result b is = subst (IsMadeOrNot (IsMadeAlone edition s old asked u new) ((u ≡ s) × (new ≡ old))) is (makes edition are placed)

  -- it is made
  pub made_by : (b : Bool) → r ≡ Ok b → b ≡ true → IsMadeAlone edition s old asked u new
  made_by b is holds = by_result (Ok true) (is ∙ ap Ok holds)

  -- or nothing is
  pub none_by : (b : Bool) → r ≡ Ok b → b ≡ false → (u ≡ s) × (new ≡ old)
  none_by b is fails = by_result (Ok false) (is ∙ ap Ok fails)

  pub none_if : (e : AllocError) → r ≡ Err e → (u ≡ s) × (new ≡ old)
  none_if e is = by_result (Err e) is

module _ (edition : EditionYear) (s u : State) (old new : Texts) (asked : List TextEdit) (m : IsMadeAlone edition s old asked u new) where
  fits_alone : (n : ℕ) → n < 1 → IfSome (slice_get (m.edit ∷ []) n) (FitsAfter s (take n (m.edit ∷ [])))
  fits_alone zero less = m.fits
  fits_alone (suc n) less = absurd (omega (arith, less))

  pub edited_alone : (reserved : List (List ℕ)) → IsEdited (session_of (edition, reserved) s old) asked (session_of (edition, reserved) u new)
  edited_alone reserved = record {
    edits = m.edit ∷ [];
    changes = m.change ∷ [];
    meant = m.meant;
    made = record { edition = refl; table = m.after; texts = m.texts };
    in_range = m.number;
    fits = fits_alone;
  }

  placed_alone : All LeavesPlaced (m.change ∷ [])
  placed_alone zero d within = m.placed
  placed_alone (suc n) d within = absurd (omega (arith, within))

  pub together_alone : (touched : Touched) (count : ℕ) (index : IndexView) → AreTogether count edition s old index touched → AreTogether count edition u new index touched
  together_alone touched count index t =
      let behind = behind_by_again s u m.place index touched m.again m.footing t.behind in
      together_after count edition s u (m.edit ∷ []) old new (m.change ∷ []) index touched touched t behind m.after placed_alone m.texts (λ file. left_first 1 edition (text_in old) asked (m.edit ∷ []) (m.change ∷ []) file m.meant)
