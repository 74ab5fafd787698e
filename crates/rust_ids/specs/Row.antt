-- What the id of an item is made from.
use Rattle.std.specs.Prelude.{ℕ, List, refl}
use Rattle.std.specs.Coded.{Coded, code_by, coded×, coded_ℕ, coded_list}
use Rattle.hir_input.specs.declared.ids.AstIdKind.{AstIdKind}
use Rattle.hir_input.specs.contracts.ids.AstIdKind as kinds

-- how many modules and extern blocks it stands in, its kind, and the name that is hashed
pub record Row : Type 0 where
  pub depth : ℕ
  pub kind : AstIdKind
  pub name : List ℕ

-- rows in code
abbrev pub coded_row : Coded Row
coded_row = code_by (ℕ × (AstIdKind × List ℕ)) (coded× coded_ℕ (coded× kinds.the_row.coded (coded_list coded_ℕ)))
    (λ r. (r.depth, (r.kind, r.name))) (λ p. record { depth = p.0; kind = p.1.0; name = p.1.1 }) (λ _. refl)
