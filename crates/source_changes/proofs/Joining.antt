-- Two files are compared by what is found of each.
use Rattle.std.proofs.Common.{◌≡◌, ◌≤◌, ◌==◌, ℕ, Bool, false, true, List, [], ◌∷◌, length, map, ap, arith, sym, ◌∙◌, string_bytes, ◌↔◌, IsTrue}
use Rattle.hir_input.specs.declared.edition.EditionYear.{EditionYear}
use Rattle.rust_items.specs.declared.source_file.ItemPlace.{ItemPlace}
use Rattle.rust_items.specs.declared.source_file.SourceFile.{SourceFile}
use Rattle.rust_items.specs.SourceFiles.{FileView, IsClippedFile, file_view}
use Rattle.source_changes.specs.declared.row_changes.Change as code_change
use Rattle.source_changes.specs.ChangeViews.{row_change_view}
use Rattle.source_changes.specs.RowChanges.{row_changes, seen_changes}
use Rattle.source_changes.specs.Moves.{row_moves}
use Rattle.source_changes.specs.Outside.{outside_rows}
use Rattle.source_changes.specs.Parts.{Part, item_parts}
use Rattle.source_changes.specs.Rows.{part_rows}
use Rattle.source_rows.specs.Sources.{Source}
use Rattle.list_forms.specs.declared.lines.Form.{Form}
use Rattle.source_changes.specs.declared.Compared.{Compared}
use Rattle.source_changes.specs.Changes.{AreParts, seen_texts, compared_lines, lines_between, or_else, row_texts, rows_standing, IsCompared, IsComparedInPublic, AreLinesBetween}

-- the parts of a text with these items: what is wanted of it changes no place
pub are_parts : {w : _} (edition : EditionYear) (text : List ℕ) (file : SourceFile) (items : List ItemPlace) (ps : List Part) → IsClippedFile w edition text (file_view file) → items ≡ file.places.items → ps ≡ item_parts edition text items → AreParts edition text ps
are_parts edition text file items ps is same e = (is.read, is.is_read, e ∙ ap (item_parts edition text) (same ∙ ap (λ (f : FileView). f.places) is.clipped))

pub compared : (edition : EditionYear) (d : Bool) (k : Form) (old new : Source) (c : Compared) (olds news olds_a news_a olds_b news_b : List Part) → AreParts edition old.text olds → AreParts edition new.text news → olds_a ≡ olds → news_a ≡ news → olds_b ≡ olds → news_b ≡ news
    → (IsTrue c.is_same ↔ (seen_texts d old.text olds_a ≡ seen_texts d new.text news_a)) → string_bytes c.text ≡ compared_lines edition c.is_same false d k old new olds_b news_b → IsCompared edition d k old new c
compared edition d k old new c olds news olds_a news_a olds_b news_b a b p q r s same text =
    let before : seen_texts d old.text olds_a ≡ seen_texts d old.text olds = ap (seen_texts d old.text) p in
    let after : seen_texts d new.text news_a ≡ seen_texts d new.text news = ap (seen_texts d new.text) q in
    (olds, news, a, b, ((λ h. sym before ∙ same.0 h ∙ after), (λ h. same.1 (before ∙ h ∙ sym after))), text ∙ (λ i. compared_lines edition c.is_same false d k old new (r i) (s i)))

-- the lines between two files, by what is found of each
pub lines_compared : (edition : EditionYear) (d : Bool) (k : Form) (old new : Source) (lines : List ℕ) (olds news olds_a news_a : List Part) → AreParts edition old.text olds → AreParts edition new.text news → olds_a ≡ olds → news_a ≡ news
    → lines ≡ lines_between edition false d k old new olds_a news_a → AreLinesBetween edition d k old new lines
lines_compared edition d k old new lines olds news olds_a news_a a b p q e = (olds, news, a, b, e ∙ (λ i. lines_between edition false d k old new (p i) (q i)))

-- where nothing differs by its label, lines tell what moved
pub moved_lines : (edition : EditionYear) (p d : Bool) (k : Form) (old new : Source) (olds news : List Part) (items moves : List code_change.Change) → length items ≡ 0 → 1 ≤ length moves
    → map row_change_view items ≡ seen_changes p (row_changes (part_rows d old.text olds) (part_rows d new.text news)) → map row_change_view moves ≡ seen_changes p (row_moves (rows_standing d old.text olds) (rows_standing d new.text news))
    → row_texts k old new (map row_change_view moves) ≡ lines_between edition p d k old new olds news
moved_lines edition p d k old new olds news (x ∷ xs) moves none some i g = absurd (omega (arith, none))
moved_lines edition p d k old new olds news [] [] none some i g = absurd (omega (arith, some))
moved_lines edition p d k old new olds news [] (m ∷ ms) none some i g =
    λ j. row_texts k old new (or_else (i j) (or_else (g j) (row_changes (outside_rows p d edition old.text olds) (outside_rows p d edition new.text news))))

-- of what is public, by what is found of each
pub in_public : (edition : EditionYear) (d : Bool) (k : Form) (old new : Source) (c : Compared) (olds news olds_a news_a : List Part) → AreParts edition old.text olds → AreParts edition new.text news → olds_a ≡ olds → news_a ≡ news
    → string_bytes c.text ≡ lines_between edition true d k old new olds_a news_a → c.is_same ≡ (length (string_bytes c.text) == 0) → IsComparedInPublic edition d k old new c
in_public edition d k old new c olds news olds_a news_a a b p q text same = (olds, news, a, b, text ∙ (λ i. lines_between edition true d k old new (p i) (q i)), same)
