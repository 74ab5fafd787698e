-- The texts of shows over a table: what fixes them, and one after another.
use Rattle.std.proofs.Common.{◌≡◌, ℕ, ◌+◌, ◌<◌, List, [], ◌∷◌, ◌++◌, All, length, map, take, get_or, suc, sym, subst, ap, ◌∙◌, append-nil, arith}
use Rattle.item_tree_request.proofs.Common.{AllByRecursion, AllZip, concat, length-take, length-map, take_more, crate_view, State, crate_limit, new_table, unfolding_at, change_number, EditView, edit_view, NamesKnown, IsAfter, import_lines, table_change_line, heading, page_text, imports_text, printed_as, AreChanges, IsPrinted, Knows, AreFixed, IsAdded, AreJoined, NamesCrate, EditNamesCrate}
use Rattle.std.proofs.lemmas.List.Folds.{concat-append}
use Rattle.item_tree.specs.declared.crate_data.CrateData.{CrateData}
use Rattle.item_tree.specs.Page.{page}
use Rattle.item_tree_db.specs.declared.place.Place.{Place}
use Rattle.item_tree_db.specs.declared.edit.Edit.{Edit}
use Rattle.item_tree_db.specs.declared.edit.Edit.TheVariants.{SetFile, RemoveFile, SetBlock, RemoveBlock, SetCfg}
use Rattle.item_tree_db.specs.Since.{Change, IsLate, IsSince}
use Rattle.item_tree_request.specs.declared.request.show.Show.{Show}
use Rattle.item_tree_request.specs.declared.request.show.Show.TheVariants.{OfTree, Changed}
use Rattle.item_tree_request.specs.declared.request.show.TreeShow.{TreeShow}
use Rattle.item_tree_request.specs.declared.request.show.ShowKind.{ShowKind}
use Rattle.item_tree_request.specs.declared.request.show.ShowKind.TheVariants.{Page, Tree, Imports}

-- ---- two tables that the same edits lead to

module _ (s u v : State) (edits : List EditView) (a : IsAfter s edits u) (b : IsAfter s edits v) where
  pub trees-same : (place : Place) (i : ℕ) → i < length s.crates → unfolding_at u place i ≡ unfolding_at v place i
  trees-same place i known = a.unfoldings place i known ∙ sym (b.unfoldings place i known)

  numbers-same : (place : Place) (i : ℕ) → i < length s.crates → change_number u place i ≡ change_number v place i
  numbers-same place i known = a.changes place i known ∙ sym (b.changes place i known)

  pub heading-same : (show : TreeShow) → show.krate.0 < length s.crates → heading u show ≡ heading v show
  heading-same show known = ap (λ n. table_change_line (show.place, show.krate, n)) (numbers-same show.place show.krate.0 known)

  printed_as-same : (kind : ShowKind) (reserved : List (List ℕ)) (show : TreeShow) → show.krate.0 < length s.crates → printed_as kind reserved u show ≡ printed_as kind reserved v show
  unfolding page_text imports_text
  printed_as-same Page reserved show known = ap (page reserved) (trees-same show.place show.krate.0 known)
  printed_as-same Tree reserved show known =
      ap (λ text. text ++ page reserved (unfolding_at u show.place show.krate.0)) (heading-same show known)
      ∙ ap (λ t. heading v show ++ page reserved t) (trees-same show.place show.krate.0 known)
  printed_as-same Imports reserved show known = ap (λ t. import_lines reserved t.forest) (trees-same show.place show.krate.0 known)

  late-same : (n : ℕ) (c : Change) → IsLate u n c → IsLate v n c
  late-same n c late = record {
    known = omega (arith, late.known, a.count, b.count);
    number = late.number ∙ numbers-same c.0 c.1.0 (omega (arith, late.known, a.count));
    above = late.above;
    above_start = omega (arith, late.above_start, a.start, b.start);
  }

pub changes-same : (s u v : State) (edits : List EditView) → IsAfter s edits u → IsAfter s edits v → (n : ℕ) (text : List ℕ) → AreChanges u n text → AreChanges v n text
changes-same s u v edits a b n text are =
    let since : IsSince v n are.0 = record {
      late = λ k d within. late-same s u v edits a b n (get_or are.0 k d) (are.1.late k d within);
      whole = λ c late. are.1.whole c (late-same s v u edits b a n c late);
      in_order = are.1.in_order;
    } in
    (are.0, since, are.2)

pub printed_fixed : AreFixed IsPrinted
printed_fixed s u v edits a b reserved (OfTree show) text known is = is ∙ printed_as-same s u v edits a b show.kind reserved show known
printed_fixed s u v edits a b reserved (Changed since) text known is = changes-same s u v edits a b since text is

-- ---- one text after another

AllZip-push : {A B : Type 0} → (R : A → B → Type 0) (xs : List A) (ys : List B) (x : A) (y : B) → AllZip R xs ys → R x y → AllZip R (xs ++ x ∷ []) (ys ++ y ∷ [])
AllZip-push R [] [] x y are is = (is, tt)
AllZip-push R [] (z ∷ ys) x y are is = absurd are
AllZip-push R (w ∷ xs) [] x y are is = absurd are
AllZip-push R (w ∷ xs) (z ∷ ys) x y are is = (are.0, AllZip-push R xs ys x y are.1 is)

-- the text of the next one
pub joined-more : (IsText : Show → List ℕ → Type 0) (shows : List Show) (i : ℕ) (d : Show) (old new : List ℕ) → i < length shows
    → AreJoined IsText (take i shows) old → IsAdded (IsText (get_or shows i d)) old new → AreJoined IsText (take (i + 1) shows) new
joined-more IsText shows i d old new within are adds =
    let next = get_or shows i d in
    subst (λ front. AreJoined IsText front new) (sym (take_more shows i d within)) (
      are.0 ++ adds.0 ∷ [],
      AllZip-push IsText (take i shows) are.0 next adds.0 are.1 adds.1,
      adds.2 ∙ ap (λ text. text ++ adds.0) are.2 ∙ ap (λ text. concat are.0 ++ text) (sym (append-nil adds.0)) ∙ sym (concat-append are.0 (adds.0 ∷ [])),
    )

-- ---- crates of a new table

-- the crate that a show names is one of the table that edits lead to from a new one of these crates
module _ (crates : List CrateData) (skipped : List (List ℕ)) (start : ℕ) (edits : List EditView) (u : State) (after : IsAfter (new_table (map crate_view crates) skipped start) edits u) where
  show_known : (show : Show) → NamesCrate (length crates) show → Knows u show
  show_known (OfTree show) named = omega (arith, named.0, named.1, after.count, length-take crate_limit (map crate_view crates), length-map crates crate_view)
  show_known (Changed since) named = tt

  pub shows_known : (shows : List Show) → All (NamesCrate (length crates)) shows → All (Knows u) shows
  shows_known shows named = λ k d within. show_known (get_or shows k d) (named k d within)

edit_known : (crates : List CrateData) (skipped : List (List ℕ)) (start : ℕ) (e : Edit) → EditNamesCrate (length crates) e → NamesKnown (new_table (map crate_view crates) skipped start) (edit_view e)
edit_known crates skipped start (SetFile file syntax) named = tt
edit_known crates skipped start (RemoveFile file) named = tt
edit_known crates skipped start (SetBlock block syntax) named = tt
edit_known crates skipped start (RemoveBlock block) named = tt
edit_known crates skipped start (SetCfg krate options) named = omega (arith, named.0, named.1, length-take crate_limit (map crate_view crates), length-map crates crate_view)

-- the edits of a request name crates of a new table of its crates
pub edits_known : (crates : List CrateData) (skipped : List (List ℕ)) (start : ℕ) (edits : List Edit) → All (EditNamesCrate (length crates)) edits → AllByRecursion (NamesKnown (new_table (map crate_view crates) skipped start)) (map edit_view edits)
edits_known crates skipped start [] named = tt
edits_known crates skipped start (e ∷ es) named = (edit_known crates skipped start e (named 0 e (omega arith)), edits_known crates skipped start es (λ k d within. named (suc k) d (omega (arith, within))))
