-- What the set of names that are declared for sure says of a crate.
use Rattle.std.proofs.Common.{◌≡◌, ◌↔◌, ℕ, Bool, true, false, List, Option, Some, None, if◌then◌else◌, refl, sym, ap, subst, ◌∙◌}
use Rattle.std.specs.List.{filter_map, list_any, Contains}
use Rattle.std.specs.Option.{option_and_then}
use Rattle.std.proofs.lemmas.Bool.{eqb-true, false≢true}
use Rattle.std.proofs.lemmas.Option.{none-some, same_Some}
use Rattle.std.proofs.lemmas.List.Folds.{list_any_at}
use Rattle.std.proofs.lemmas.Map.Views.{Contains-from_any}
use Rattle.def_map.specs.declared.{facts.Declared.Declared, facts.ImportTable.ImportTable, kinds.Namespace.Namespace, numbers.Numbers.Numbers, rows.ItemKey.ItemKey}
use Rattle.def_map.specs.declared.kinds.Namespace.TheVariants.{Types, Values, Macros}
use Rattle.def_map.specs.contracts.kinds.NamespacePartialEq.TheImpl as namespaces
use Rattle.def_map.specs.Closure.{hides}
use Rattle.def_map.specs.Crates.{NameDeclaration}
use Rattle.def_map.specs.Lowering.{declaration_by, declared_eq, sure_name, sure_by}
use Rattle.def_map.proofs.Deciding.{both_of, both, itself, hides_of}
use Rattle.def_map.proofs.Listing.{contains_kept, contains_source}

same_namespaces : (a b : Namespace) → namespaces.ghosts.eq a b ≡ true → a ≡ b
same_namespaces Types Types h = refl
same_namespaces Values Values h = refl
same_namespaces Macros Macros h = refl
same_namespaces Types Values h = absurd (false≢true h)
same_namespaces Types Macros h = absurd (false≢true h)
same_namespaces Values Types h = absurd (false≢true h)
same_namespaces Values Macros h = absurd (false≢true h)
same_namespaces Macros Types h = absurd (false≢true h)
same_namespaces Macros Values h = absurd (false≢true h)

namespace_itself : (a : Namespace) → namespaces.ghosts.eq a a ≡ true
namespace_itself Types = refl
namespace_itself Values = refl
namespace_itself Macros = refl

pub same_declared : (a b : Declared) → declared_eq a b ≡ true → a ≡ b
same_declared a b h =
    let first = both_of _ _ h in let second = both_of _ _ first.1 in
    λ i. record { home = eqb-true a.home b.home first.0 i; namespace = same_namespaces a.namespace b.namespace second.0 i; name = eqb-true a.name b.name second.1 i }

declared_itself : (a : Declared) → declared_eq a a ≡ true
declared_itself a = both _ _ (itself a.home) (both _ _ (namespace_itself a.namespace) (itself a.name))

any_of : (d : Declared) (ds : List Declared) → Contains ds d → list_any (declared_eq d) ds ≡ true
any_of d ds (k, low, e) = list_any_at (declared_eq d) ds k d low (subst (λ x. declared_eq d x ≡ true) (sym e) (declared_itself d))

if_sure : (b : Bool) (d e : Declared) → (if b then Some d else None) ≡ Some e → (b ≡ true) × (d ≡ e)
if_sure true d e h = (refl, same_Some d e h)
if_sure false d e h = absurd (none-some e h)

module _ (n : Numbers) (rows : List (NameDeclaration (List ℕ) ItemKey)) where
  abbrev lowered : List (NameDeclaration ℕ ℕ)
  lowered = filter_map (declaration_by n) rows

  -- a declaration for sure with these
  abbrev IsSure : ℕ → Namespace → ℕ → Type 0
  IsSure m ns name = (x : NameDeclaration ℕ ℕ) × Contains lowered x × (x.parent ≡ m) × (x.namespace ≡ ns) × (x.name ≡ name) × (x.is_sure ≡ true)

  abbrev found : List Declared
  found = filter_map (sure_by n) rows

  from_row : (d : Declared) (row : NameDeclaration (List ℕ) ItemKey) → Contains rows row → sure_by n row ≡ Some d → IsSure d.home d.namespace d.name
  from_row d row has is = by (declaration_by n row) refl is
    where
      by : (o : Option (NameDeclaration ℕ ℕ)) → declaration_by n row ≡ o → option_and_then sure_name o ≡ Some d → IsSure d.home d.namespace d.name
      by None e h = absurd (none-some d h)
      by (Some x) e h = let s = if_sure x.is_sure _ d h in
          (x, contains_kept (declaration_by n) rows row x has e, ap (λ (y : Declared). y.home) s.1, ap (λ (y : Declared). y.namespace) s.1, ap (λ (y : Declared). y.name) s.1, s.0)

  to_found : (m : ℕ) (ns : Namespace) (name : ℕ) → IsSure m ns name → Contains found (record { home = m; namespace = ns; name = name })
  to_found m ns name (x, has, e1, e2, e3, sure) =
      let s = contains_source (declaration_by n) rows x has in
      let d : Declared = record { home = x.parent; namespace = x.namespace; name = x.name } in
      let is : sure_by n s.0 ≡ Some d = ap (option_and_then sure_name) s.2 ∙ ap (λ b. if b then Some d else None) sure in
      subst (Contains found) (λ i. record { home = e1 i; namespace = e2 i; name = e3 i }) (contains_kept (sure_by n) rows s.0 d s.1 is)

  pub hides_sure : (t : ImportTable) → ((d : Declared) → list_any (declared_eq d) t.declared.keys ≡ list_any (declared_eq d) found) → (m : ℕ) (ns : Namespace) (name : ℕ)
      → (hides t m ns name ≡ true) ↔ IsSure m ns name
  hides_sure t all m ns name =
      let d : Declared = record { home = m; namespace = ns; name = name } in
      let is : hides t m ns name ≡ list_any (declared_eq d) found = sym (hides_of t m ns name) ∙ all d in (
        λ h. let s = contains_source (sure_by n) rows d (Contains-from_any same_declared d found (sym is ∙ h)) in from_row d s.0 s.1 s.2,
        λ sure. is ∙ any_of d found (to_found m ns name sure),
      )
