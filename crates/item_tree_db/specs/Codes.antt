-- Codes of what tables are seen as, which the models of their types ask for. No contract says more by them.
use Rattle.std.specs.Prelude.{ℕ, List, Option, refl}
use Rattle.std.specs.Coded.{Coded, code_by, coded×, coded_list, coded_option, coded_ℕ}
use Rattle.hir_input.specs.Syntax.{SyntaxView}
use Rattle.hir_input.specs.Code.Syntax.{syntax_code}
use Rattle.item_tree.specs.CrateView.{CrateView}
use Rattle.item_tree.specs.Code.Crate.{crate_code}
use Rattle.item_tree_db.specs.contracts.place.Place as place
use Rattle.item_tree_db.specs.declared.place.Place.{Place}
use Rattle.item_tree_db.specs.State.{Held, State}

abbrev pub names_code : Coded (List (List ℕ))
names_code = coded_list (coded_list coded_ℕ)

abbrev pub held_code : Coded Held
held_code =
    code_by (Option SyntaxView × List ℕ)
    (coded× (coded_option syntax_code) (coded_list coded_ℕ))
    (λ h. (h.syntax, h.changed))
    (λ p. record { syntax = p.0; changed = p.1 })
    (λ _. refl)

-- tables in code
abbrev pub state_code : Coded State
state_code =
    code_by (List CrateView × (List (List ℕ) × (ℕ × (ℕ × List (Place × Held)))))
    (coded× (coded_list crate_code) (coded× names_code (coded× coded_ℕ (coded× coded_ℕ (coded_list (coded× place.the_row.coded held_code))))))
    (λ s. (s.crates, (s.skipped, (s.start, (s.number, s.places)))))
    (λ p. record { crates = p.0; skipped = p.1.0; start = p.1.1.0; number = p.1.1.1.0; places = p.1.1.1.1 })
    (λ _. refl)
