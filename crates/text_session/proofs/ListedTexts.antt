-- The text that lists are read from is that of the laws on items beside others.
use Rattle.std.proofs.Common.{◌≡◌, refl, sym, ap, ◌∙◌, ℕ, suc, not, ◌==◌, if◌then◌else◌, List, [], ◌∷◌, length, map, arith, Option}
use Rattle.std.proofs.lemmas.Bool.{ne_eqb}
use Rattle.hir_input.specs.declared.edition.EditionYear.{EditionYear}
use Rattle.rust_edits.specs.ItemJoins.Mended.{text_for_lists}
use Rattle.rust_items.specs.LineEnds.{moved_problem, place_in, with_feeds}
use Rattle.rust_items.specs.SourceFiles.{FileView, found_in}
use Rattle.rust_items.specs.declared.log.Problem.{Problem}
use Rattle.rust_items.specs.declared.source_file.ItemPlace.{ItemPlace}
use Rattle.rust_mended.specs.declared.edit.Edit.{Edit}
use Rattle.rust_mended.specs.Texts.{edits, mended_text, puts}
use Rattle.rust_mended.proofs.MatchedMarks.{text_stays}
use Rattle.rust_mended.proofs.ToldBrackets.{nothing_told}
use Rattle.source_rows.specs.Listed.{Closers}
use Rattle.source_rows.specs.ListedFiles.{IsListedFile, closers_by, listed_closers, listed_text}

by_edits : (text : List ℕ) (items : List ItemPlace) (es : List Edit) → edits text ≡ es → listed_text text (closers_by items es (puts text)) ≡ mended_text text
by_edits text items [] p = sym (text_stays text ((nothing_told text).1 p))
by_edits text items (e ∷ es) p = refl

mended_if_told : (text : List ℕ) (k : ℕ) → (if not (suc k == 0) then mended_text text else text) ≡ mended_text text
mended_if_told text k = ap (λ t. if not t then mended_text text else text) (ne_eqb (suc k) 0 (λ e. omega (arith, e)))

-- problems are told where they stand in the text, so there are as many as were found
by_problems : (text : List ℕ) (items : List ItemPlace) (place : ℕ → ℕ) (found : List Problem)
    → listed_text text (listed_closers text (map (moved_problem place) found) items) ≡ (if not (length found == 0) then mended_text text else text)
by_problems text items place [] = refl
by_problems text items place (q ∷ qs) = by_edits text items (edits text) refl ∙ sym (mended_if_told text (length qs))

pub listed_is : (edition : EditionYear) (text : List ℕ) (closers : Option Closers) (file : FileView) → IsListedFile edition text closers file → listed_text text closers ≡ text_for_lists edition text
listed_is edition text closers file is =
    ap (listed_text text) (is.is_mended ∙ ap (λ ps. listed_closers text ps is.read.places) is.is_own.problems)
    ∙ by_problems text is.read.places (place_in text) (found_in edition (with_feeds text)).problems
