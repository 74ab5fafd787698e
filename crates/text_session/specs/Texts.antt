-- The texts of files, and what edits leave of them.
use Rattle.std.specs.Prelude.{◌≡◌, ◌≤◌, ℕ, zero, suc, ◌^◌, ◌==◌, Bool, true, ◌||◌, nat_lt, List, [], ◌∷◌, ◌++◌, length, take, drop, if◌then◌else◌, Option, Some, None, option_map, Result, Ok, Err, string_bytes, option_and_then, unwrap_or}
use Rattle.std.specs.BTreeMap.{is_at}
use Rattle.std.specs.Map.{lookup}
use Rattle.std.specs.Ordering.{nat_cmp}
use Rattle.hir_input.specs.declared.edition.EditionYear.{EditionYear}
use Rattle.item_tree_db.specs.declared.place.Place.{Place}
use Rattle.item_tree_db.specs.declared.place.Place.TheVariants.{File, Block}
use Rattle.item_tree_db.specs.Edits.{EditView, set, remove, set_cfg}
use Rattle.item_tree_db.specs.History.{last_some}
use Rattle.rust_items.specs.SourceFiles.{FileView}
use Rattle.rust_items.specs.MemberLists.{is_cut}
use Rattle.rust_paths.specs.declared.names.TextRange.{TextRange}
use Rattle.source_rows.specs.ListedFiles.{HasTextOf, IsListedBare, closers_in}
use Rattle.text_session.specs.declared.splice.ChangeFault.{ChangeFault}
use Rattle.text_session.specs.declared.splice.ChangeFault.TheVariants.{NoText, OutsideText, CutsCharacter, TooLong}
use Rattle.text_session.specs.declared.texts.SourceText.{SourceText}
use Rattle.text_session.specs.Edits.{TextEdit, of_table, set_text, change_text}

-- what is kept for files, in the order of their numbers
abbrev pub Texts : Type 0
Texts = List (ℕ × Option SourceText)

-- what is kept for a file, if anything was
abbrev pub slot_in : Texts → ℕ → Option (Option SourceText)
slot_in texts file = lookup (is_at (nat_cmp file)) texts

-- the text of a file
abbrev pub text_in : Texts → ℕ → Option SourceText
text_in texts file = option_and_then (λ text. text) (slot_in texts file)

-- the text of a place; a block has none
abbrev pub text_of_place : Texts → Place → Option SourceText
text_of_place texts (File file) = text_in texts file.0
text_of_place texts (Block block) = None

-- what an edit leaves of the text of a file, if it sets or removes the file
abbrev pub TextChange : Type 0
TextChange = Option (ℕ × Option SourceText)

-- a file that an edit of the table sets or removes has no text
abbrev pub forgets : EditView → TextChange
forgets (set (File file) syntax) = Some (file.0, None)
forgets (set (Block block) syntax) = None
forgets (remove (File file)) = Some (file.0, None)
forgets (remove (Block block)) = None
forgets (set_cfg krate options) = None

-- what it leaves of this file
abbrev pub left_text : ℕ → TextChange → Option (Option SourceText)
left_text file None = None
left_text file (Some (at, text)) = if at == file then Some text else None

-- the texts of all files, by their numbers
abbrev pub FileTexts : Type 0
FileTexts = ℕ → Option SourceText

-- the text of a file after edits: what the last of them leaves that sets or removes the file
abbrev pub text_after : FileTexts → List TextChange → FileTexts
text_after texts changes file = unwrap_or (last_some (left_text file) changes) (texts file)

-- ---- a range of a text replaced

-- a text with what stands in a range of it replaced
abbrev pub spliced_text : List ℕ → TextRange → List ℕ → List ℕ
spliced_text text range new = take range.start text ++ new ++ drop range.end text

-- a range does not stand in a text
abbrev pub is_outside : List ℕ → TextRange → Bool
is_outside text range = nat_lt range.end range.start || nat_lt (length text) range.end

-- a text has more bytes than the ids of items are distinct for
abbrev pub is_long : List ℕ → Bool
is_long text = nat_lt (2 ^ 32) (length text)

-- why a range of a text cannot be replaced, if it cannot
abbrev pub change_fault : List ℕ → TextRange → List ℕ → Option ChangeFault
change_fault text range new =
    if is_outside text range then Some (OutsideText (length text))
    else (if is_cut text range then (if is_long (spliced_text text range new) then Some TooLong else None) else Some CutsCharacter)

-- a text, unless there is a fault
abbrev pub unless_fault : Option ChangeFault → List ℕ → Result (List ℕ) ChangeFault
unless_fault None text = Ok text
unless_fault (Some cause) text = Err cause

-- the text of a file with a range replaced, or why it cannot be
abbrev pub changed_text : Option (List ℕ) → TextRange → List ℕ → Result (List ℕ) ChangeFault
changed_text None range new = Err NoText
changed_text (Some text) range new = unless_fault (change_fault text range new) (spliced_text text range new)

-- the bytes of a text
abbrev pub bytes_kept : Option SourceText → Option (List ℕ)
bytes_kept text = option_map (λ t. string_bytes t.text) text

-- ---- what edits mean

-- the text has at most 2^32 bytes, this is what lists read of it in an edition, without the texts of bodies, and it is kept with that: with the mended text, if that was read, the places of items and use trees, and the problems
pub record IsKept (edition : EditionYear) (text : List ℕ) (read : FileView) (kept : SourceText) : Type 0 where
  pub text_is : string_bytes kept.text ≡ text
  pub short : length text ≤ 2 ^ 32
  pub is_read : IsListedBare edition text (closers_in kept.mended) read
  pub mended : HasTextOf text kept.mended
  pub places : kept.places.items ≡ read.places
  pub use_trees : kept.use_trees.items ≡ read.use_trees
  pub problems : kept.problems.items ≡ read.problems

-- the file is set to what lists read of the text in an edition, and the text is kept
pub record IsReading (edition : EditionYear) (file : ℕ) (text : List ℕ) (edit : EditView) (change : TextChange) : Type 0 where
  pub read : FileView
  pub edit_is : edit ≡ set (File (record { 0 = file })) read.syntax
  pub kept : SourceText
  pub change_is : change ≡ Some (file, Some kept)
  pub is_kept : IsKept edition text read kept

-- an edit over these texts means this edit of the table, and leaves this of a text; a change is the setting of the changed text
abbrev pub Means : EditionYear → FileTexts → TextEdit → EditView → TextChange → Type 0
Means edition texts (of_table e) edit change = (edit ≡ e) × (change ≡ forgets e)
Means edition texts (set_text file text) edit change = IsReading edition file text edit change
Means edition texts (change_text file range new) edit change =
    (text : List ℕ) × (changed_text (bytes_kept (texts file)) range new ≡ Ok text) × IsReading edition file text edit change

-- each of them does, over the texts that those before it leave
abbrev pub AreMeant : EditionYear → FileTexts → List TextEdit → List EditView → List TextChange → Type 0
AreMeant edition texts [] [] [] = Unit {0}
AreMeant edition texts (l ∷ ls) (e ∷ es) (c ∷ cs) = Means edition texts l e c × AreMeant edition (text_after texts (c ∷ [])) ls es cs
AreMeant edition texts [] (e ∷ es) cs = ⊥
AreMeant edition texts [] [] (c ∷ cs) = ⊥
AreMeant edition texts (l ∷ ls) [] cs = ⊥
AreMeant edition texts (l ∷ ls) (e ∷ es) [] = ⊥

-- ---- edits that mean nothing

-- an edit means nothing over these texts, for this reason
abbrev pub Fails : FileTexts → TextEdit → ChangeFault → Type 0
Fails texts (of_table e) cause = ⊥
Fails texts (set_text file text) cause = (is_long text ≡ true) × (cause ≡ TooLong)
Fails texts (change_text file range new) cause = changed_text (bytes_kept (texts file)) range new ≡ Err cause

-- the edit at this place is the first of them that means nothing
abbrev pub FailsAt : EditionYear → FileTexts → List TextEdit → ℕ → ChangeFault → Type 0
FailsAt edition texts [] place cause = ⊥
FailsAt edition texts (l ∷ ls) zero cause = Fails texts l cause
FailsAt edition texts (l ∷ ls) (suc place) cause =
    (e : EditView) × (c : TextChange) × Means edition texts l e c × FailsAt edition (text_after texts (c ∷ [])) ls place cause
