use Rattle.std.proofs.Common.{◌≡◌, ℕ, ◌+◌, List, [], ◌∷◌, Some, sym, subst, refl}
use Rattle.item_tree_db.proofs.Common.{SyntaxView, CrateData, syntax_view, Place, Places, State, File, present, set, IsFooting, IsSound, Table, state_of, table_from}
use Rattle.item_tree_db.specs.Again.{IsSetAgain}
use Rattle.item_tree_db.proofs.BodyTexts.{ignores_bodies}
use Rattle.item_tree_db.proofs.Histories.{after_none}
use Rattle.item_tree_db.proofs.Steps.{again_fits, again_made, footing_of}
use Rattle.item_tree_db.proofs.sources.Sources.set_again.Goals as goal

-- a table in which nothing was set again
same_footing : (t : Table) → IsSound t → (s : State) → state_of t ≡ s → IsFooting s s
same_footing t sound s is = footing_of t sound s s [] is (after_none s)

pub returns-in_err-file_syntax-clause-footing : goal.returns-in_err-file_syntax-clause-footing
returns-in_err-file_syntax-clause-footing c = same_footing _ c.self.invariant.sound _ c.self.view_is

pub returns-in_err-self-inside-clause-footing : goal.returns-in_err-self-inside-clause-footing
returns-in_err-self-inside-clause-footing c = same_footing _ c.self.invariant.sound _ c.self.view_is

-- a table under its next number
again : (crates : List CrateData) (skipped : List (List ℕ)) (start number : ℕ) (places : Places) (s : State) (sound : IsSound (table_from crates skipped start number places)) (is : state_of (table_from crates skipped start number places) ≡ s) (place : Place) (syntax : SyntaxView) → present s place ≡ Some syntax
    → (next : ℕ) → next ≡ number + 1 → IsSetAgain s place (state_of (table_from crates skipped start next places)) × IsFooting s (state_of (table_from crates skipped start next places))
again crates skipped start number places s sound is place syntax had next e =
    let made = again_made crates skipped start number places places s sound is place syntax had in
    let fits = again_fits crates skipped start number places places s sound is place syntax had in
    subst (λ (n : ℕ). IsSetAgain s place (state_of (table_from crates skipped start n places)) × IsFooting s (state_of (table_from crates skipped start n places))) (sym e) (
      record { syntax = syntax; had = had; after = made.after; bodies = ignores_bodies s _ (set place syntax ∷ []) made.after; fits = fits },
      footing_of _ made.sound s _ (set place syntax ∷ []) refl made.after,
    )

pub returns-clause-again : goal.returns-clause-again
returns-clause-again c =
    let i = c.self.inside in
    (again i.crates.items i.skipped.items i.start i.number i.places c.args.self.now c.self.invariant.sound c.self.view_is (File c.args.file) (syntax_view c.in_ok-file_syntax.field-0.now) (sym c.in_ok-file_syntax.ensures) _ c.in_ok-self-inside.ensures.1).0

pub returns-clause-footing : goal.returns-clause-footing
returns-clause-footing c =
    let i = c.self.inside in
    (again i.crates.items i.skipped.items i.start i.number i.places c.args.self.now c.self.invariant.sound c.self.view_is (File c.args.file) (syntax_view c.in_ok-file_syntax.field-0.now) (sym c.in_ok-file_syntax.ensures) _ c.in_ok-self-inside.ensures.1).1
