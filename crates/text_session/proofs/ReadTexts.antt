-- What edits leave of the syntax and of the text of a file: both are of one reading.
use Rattle.std.proofs.Common.{◌≡◌, ℕ, zero, suc, ◌==◌, Bool, true, false, if◌then◌else◌, List, [], ◌∷◌, Option, Some, None, IfSome, length, take, refl, sym, ap, subst, arith}
use Rattle.text_session.proofs.Common.{take_all, option_or, unwrap_or, EditionYear, Place, File, Block, EditView, set, remove, set_cfg, IsAfter, last_some, sets, State, present, SourceText, TextEdit, of_table, set_text, change_text, AreSetTo, IsEdited, IsSetTo, Session, AreMeant, TextChange, FileTexts, IsKept, IsReading, Means, Texts, forgets, left_text, text_after, text_in, text_of_place}
use Rattle.hir_input.specs.Syntax.{SyntaxView}

-- what is left of the syntax of a file, and of its text, if anything is
abbrev pub AreOfOne : EditionYear → Option (Option SyntaxView) → Option (Option SourceText) → Type 0
AreOfOne edition None None = Unit {0}
AreOfOne edition (Some syntax) (Some text) = IfSome text (IsSetTo edition syntax)
AreOfOne edition None (Some text) = ⊥
AreOfOne edition (Some syntax) None = ⊥

-- the same by edits of the table, and by changes of the texts
abbrev pub AreLeft : EditionYear → ℕ → List EditView → List TextChange → Type 0
AreLeft edition file edits changes = AreOfOne edition (last_some (sets (File (record { 0 = file }))) edits) (last_some (left_text file) changes)

-- ---- one edit

one_if : (edition : EditionYear) (b : Bool) (syntax : Option SyntaxView) (text : Option SourceText) → IfSome text (IsSetTo edition syntax) → AreOfOne edition (if b then Some syntax else None) (if b then Some text else None)
one_if edition true syntax text h = h
one_if edition false syntax text h = tt

one_forgotten : (edition : EditionYear) (e : EditView) (file : ℕ) → AreOfOne edition (sets (File (record { 0 = file })) e) (left_text file (forgets e))
one_forgotten edition (set (File at) syntax) file = one_if edition (at.0 == file) (Some syntax) None tt
one_forgotten edition (set (Block block) syntax) file = tt
one_forgotten edition (remove (File at)) file = one_if edition (at.0 == file) None None tt
one_forgotten edition (remove (Block block)) file = tt
one_forgotten edition (set_cfg krate options) file = tt

one_read : (edition : EditionYear) (at : ℕ) (text : List ℕ) (e : EditView) (c : TextChange) (file : ℕ) → IsReading edition at text e c → AreOfOne edition (sets (File (record { 0 = file })) e) (left_text file c)
one_read edition at text e c file r =
    let kept = r.kept in
    let is : IsSetTo edition (Some r.read.syntax) kept = record { read = r.read; is_kept = subst (λ x. IsKept edition x r.read kept) (sym r.is_kept.text_is) r.is_kept; syntax_is = refl } in
    subst (λ d. AreOfOne edition (sets (File (record { 0 = file })) e) (left_text file d)) (sym r.change_is)
    (subst (λ f. AreOfOne edition (sets (File (record { 0 = file })) f) (left_text file (Some (at, Some kept)))) (sym r.edit_is)
    (one_if edition (at == file) (Some r.read.syntax) (Some kept) is))

one_meant : (edition : EditionYear) (texts : FileTexts) (l : TextEdit) (e : EditView) (c : TextChange) (file : ℕ) → Means edition texts l e c → AreOfOne edition (sets (File (record { 0 = file })) e) (left_text file c)
one_meant edition texts (of_table f) e c file h =
    subst (λ d. AreOfOne edition (sets (File (record { 0 = file })) e) (left_text file d)) (sym h.1)
    (subst (λ g. AreOfOne edition (sets (File (record { 0 = file })) g) (left_text file (forgets f))) (sym h.0) (one_forgotten edition f file))
one_meant edition texts (set_text at text) e c file h = one_read edition at text e c file h
one_meant edition texts (change_text at range new) e c file h = one_read edition at h.0 e c file h.2

-- ---- edits, one after another

one_or : (edition : EditionYear) (a b : Option (Option SyntaxView)) (c d : Option (Option SourceText)) → AreOfOne edition a c → AreOfOne edition b d → AreOfOne edition (option_or a b) (option_or c d)
one_or edition None b None d h k = k
one_or edition (Some a) b (Some c) d h k = h
one_or edition None b (Some c) d h k = absurd h
one_or edition (Some a) b None d h k = absurd h

-- the first of them
pub left_first : (n : ℕ) (edition : EditionYear) (texts : FileTexts) (ls : List TextEdit) (es : List EditView) (cs : List TextChange) (file : ℕ) → AreMeant edition texts ls es cs → AreLeft edition file (take n es) (take n cs)
left_first zero edition texts ls es cs file h = tt
left_first (suc n) edition texts [] [] [] file h = tt
left_first (suc n) edition texts (l ∷ ls) (e ∷ es) (c ∷ cs) file h =
    one_or edition (last_some (sets (File (record { 0 = file }))) (take n es)) (sets (File (record { 0 = file })) e) (last_some (left_text file) (take n cs)) (left_text file c)
    (left_first n edition (text_after texts (c ∷ [])) ls es cs file h.1) (one_meant edition texts l e c file h.0)
left_first (suc n) edition texts [] (e ∷ es) cs file h = absurd h
left_first (suc n) edition texts [] [] (c ∷ cs) file h = absurd h
left_first (suc n) edition texts (l ∷ ls) [] cs file h = absurd h
left_first (suc n) edition texts (l ∷ ls) (e ∷ es) [] file h = absurd h

-- ---- all files

pub same_length : (edition : EditionYear) (texts : FileTexts) (ls : List TextEdit) (es : List EditView) (cs : List TextChange) → AreMeant edition texts ls es cs → length cs ≡ length es
same_length edition texts [] [] [] h = refl
same_length edition texts (l ∷ ls) (e ∷ es) (c ∷ cs) h = ap suc (same_length edition (text_after texts (c ∷ [])) ls es cs h.1)
same_length edition texts ls es cs h = absurd h

one_else : (edition : EditionYear) (a : Option (Option SyntaxView)) (c : Option (Option SourceText)) (syntax : Option SyntaxView) (text : Option SourceText) → AreOfOne edition a c → IfSome text (IsSetTo edition syntax)
    → IfSome (unwrap_or c text) (IsSetTo edition (unwrap_or a syntax))
one_else edition None None syntax text h k = k
one_else edition (Some a) (Some c) syntax text h k = h
one_else edition None (Some c) syntax text h k = absurd h
one_else edition (Some a) None syntax text h k = absurd h

pub set_after : (edition : EditionYear) (s u : State) (edits : List EditView) (old new : Texts) (changes : List TextChange) → AreSetTo edition s old → IsAfter s edits u → ((file : ℕ) → text_in new file ≡ text_after (text_in old) changes file)
    → ((file : ℕ) → AreLeft edition file edits changes) → AreSetTo edition u new
set_after edition s u edits old new changes are after texts left file =
    let at = File (record { 0 = file }) in
    subst (λ t. IfSome t (IsSetTo edition (present u at))) (sym (texts file))
    (subst (λ x. IfSome (text_after (text_in old) changes file) (IsSetTo edition x)) (sym (after.syntaxes at))
    (one_else edition (last_some (sets at) edits) (last_some (left_text file) changes) (present s at) (text_in old file) (left file) (are file)))

-- of the text of a place
pub set_at : (edition : EditionYear) (table : State) (texts : Texts) → AreSetTo edition table texts → (place : Place) → IfSome (text_of_place texts place) (IsSetTo edition (present table place))
set_at edition table texts are (File file) = are file.0
set_at edition table texts are (Block block) = tt

-- so it is after edits that are all made
pub set_edited : (s u : Session) (asked : List TextEdit) → AreSetTo s.edition.0 s.table s.texts → IsEdited s asked u → AreSetTo u.edition.0 u.table u.texts
set_edited s u asked are e =
    let n = length e.edits in
    let left : (file : ℕ) → AreLeft s.edition.0 file e.edits e.changes = λ file.
    subst (λ es. AreLeft s.edition.0 file es e.changes) (take_all n e.edits (omega arith))
    (subst (AreLeft s.edition.0 file (take n e.edits)) (take_all n e.changes (omega (arith, same_length s.edition.0 (text_in s.texts) asked e.edits e.changes e.meant)))
    (left_first n s.edition.0 (text_in s.texts) asked e.edits e.changes file e.meant)) in
    subst (λ (edition : EditionYear × List (List ℕ)). AreSetTo edition.0 u.table u.texts) (sym e.made.edition)
    (set_after s.edition.0 s.table u.table e.edits s.texts u.texts e.changes are e.made.table e.made.texts left)
