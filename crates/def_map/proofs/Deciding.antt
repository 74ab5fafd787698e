-- `==` decides whether two are one.
use Rattle.std.proofs.Common.{◌≡◌, ℕ, Bool, true, false, ◌==◌, ◌&&◌, refl, ap, subst}
use Rattle.std.specs.List.{list_any}
use Rattle.std.specs.Bool.{Decides}
use Rattle.std.proofs.lemmas.Bool.{eqb-true, eq-eqb, false≢true}
use Rattle.def_map.specs.declared.{facts.Declared.Declared, facts.Fact.Fact, facts.ImportTable.ImportTable, facts.Thing.Thing, kinds.Namespace.Namespace, kinds.Visibility.Visibility}
use Rattle.def_map.specs.declared.facts.Fact.TheVariants.{Names, EveryName, Stands, Gives, Copies}
use Rattle.def_map.specs.declared.facts.Thing.TheVariants.{Module as module_thing, Item, Scope, Unseen}
use Rattle.def_map.specs.declared.kinds.Namespace.TheVariants.{Types, Values, Macros}
use Rattle.def_map.specs.declared.kinds.Visibility.TheVariants.{Public, Module as within}
use Rattle.def_map.specs.contracts.facts.DeclaredPartialEq.TheImpl as declared
use Rattle.def_map.specs.contracts.facts.FactPartialEq.TheImpl as facts
use Rattle.def_map.specs.contracts.facts.ThingPartialEq.TheImpl as things
use Rattle.def_map.specs.contracts.kinds.NamespacePartialEq.TheImpl as namespaces
use Rattle.def_map.specs.contracts.kinds.VisibilityPartialEq.TheImpl as visibilities
use Rattle.def_map.specs.Closure.{same_namespace, same_declared, hides}

pub both_of : (a b : Bool) → (a && b) ≡ true → (a ≡ true) × (b ≡ true)
both_of true b e = (refl, e)
both_of false b e = absurd (false≢true e)

pub both : (a b : Bool) → a ≡ true → b ≡ true → (a && b) ≡ true
both true b e f = f
both false b e f = absurd (false≢true e)

pub itself : (a : ℕ) → (a == a) ≡ true
itself a = eq-eqb a a refl

-- ---- namespaces, things, visibilities

namespace_is : (a b : Namespace) → namespaces.ghosts.eq a b ≡ same_namespace a b
namespace_is Types Types = refl
namespace_is Values Values = refl
namespace_is Macros Macros = refl
namespace_is Types Values = refl
namespace_is Types Macros = refl
namespace_is Values Types = refl
namespace_is Values Macros = refl
namespace_is Macros Types = refl
namespace_is Macros Values = refl

namespace_same : (a b : Namespace) → namespaces.ghosts.eq a b ≡ true → a ≡ b
namespace_same Types Types h = refl
namespace_same Values Values h = refl
namespace_same Macros Macros h = refl
namespace_same Types Values h = absurd (false≢true h)
namespace_same Types Macros h = absurd (false≢true h)
namespace_same Values Types h = absurd (false≢true h)
namespace_same Values Macros h = absurd (false≢true h)
namespace_same Macros Types h = absurd (false≢true h)
namespace_same Macros Values h = absurd (false≢true h)

namespace_itself : (a : Namespace) → namespaces.ghosts.eq a a ≡ true
namespace_itself Types = refl
namespace_itself Values = refl
namespace_itself Macros = refl

thing_same : (a b : Thing) → things.ghosts.eq a b ≡ true → a ≡ b
thing_same (module_thing a) (module_thing b) h = ap module_thing (eqb-true a b h)
thing_same (Item a) (Item b) h = ap Item (eqb-true a b h)
thing_same (Scope a) (Scope b) h = ap Scope (eqb-true a b h)
thing_same Unseen Unseen h = refl
thing_same _ _ h = absurd (false≢true h)

thing_itself : (a : Thing) → things.ghosts.eq a a ≡ true
thing_itself (module_thing a) = itself a
thing_itself (Item a) = itself a
thing_itself (Scope a) = itself a
thing_itself Unseen = refl

visibility_same : (a b : Visibility) → visibilities.ghosts.eq a b ≡ true → a ≡ b
visibility_same Public Public h = refl
visibility_same (within a) (within b) h = ap within (eqb-true a b h)
visibility_same _ _ h = absurd (false≢true h)

visibility_itself : (a : Visibility) → visibilities.ghosts.eq a a ≡ true
visibility_itself Public = refl
visibility_itself (within a) = itself a

-- ---- facts

fact_same : (f g : Fact) → facts.ghosts.eq f g ≡ true → f ≡ g
fact_same (Names a b c d e) (Names m n o p q) h =
    let h1 = both_of _ _ h in
    let h2 = both_of _ _ h1.1 in
    let h3 = both_of _ _ h2.1 in
    let h4 = both_of _ _ h3.1 in
    λ i. Names (eqb-true a m h1.0 i) (namespace_same b n h2.0 i) (eqb-true c o h3.0 i) (thing_same d p h4.0 i) (visibility_same e q h4.1 i)
fact_same (EveryName a b c) (EveryName m n o) h =
    let h1 = both_of _ _ h in
    let h2 = both_of _ _ h1.1 in
    λ i. EveryName (eqb-true a m h1.0 i) (namespace_same b n h2.0 i) (visibility_same c o h2.1 i)
fact_same (Stands a b c) (Stands m n o) h =
    let h1 = both_of _ _ h in
    let h2 = both_of _ _ h1.1 in
    λ i. Stands (eqb-true a m h1.0 i) (eqb-true b n h2.0 i) (thing_same c o h2.1 i)
fact_same (Gives a b c d) (Gives m n o p) h =
    let h1 = both_of _ _ h in
    let h2 = both_of _ _ h1.1 in
    let h3 = both_of _ _ h2.1 in
    λ i. Gives (eqb-true a m h1.0 i) (namespace_same b n h2.0 i) (thing_same c o h3.0 i) (visibility_same d p h3.1 i)
fact_same (Copies a b c) (Copies m n o) h =
    let h1 = both_of _ _ h in
    let h2 = both_of _ _ h1.1 in
    λ i. Copies (eqb-true a m h1.0 i) (eqb-true b n h2.0 i) (visibility_same c o h2.1 i)
fact_same _ _ h = absurd (false≢true h)

fact_itself : (f : Fact) → facts.ghosts.eq f f ≡ true
fact_itself (Names a b c d e) = both _ _ (itself a) (both _ _ (namespace_itself b) (both _ _ (itself c) (both _ _ (thing_itself d) (visibility_itself e))))
fact_itself (EveryName a b c) = both _ _ (itself a) (both _ _ (namespace_itself b) (visibility_itself c))
fact_itself (Stands a b c) = both _ _ (itself a) (both _ _ (itself b) (thing_itself c))
fact_itself (Gives a b c d) = both _ _ (itself a) (both _ _ (namespace_itself b) (both _ _ (thing_itself c) (visibility_itself d)))
fact_itself (Copies a b c) = both _ _ (itself a) (both _ _ (itself b) (visibility_itself c))

pub fact_decides : (f g : Fact) → Decides (facts.ghosts.eq f g) (f ≡ g)
fact_decides f g = (fact_same f g, λ e. subst (λ x. facts.ghosts.eq f x ≡ true) e (fact_itself f))

-- ---- names that are declared for sure

declared_is : (a b : Declared) → declared.ghosts.eq a b ≡ same_declared a b
declared_is a b = ap (λ s. (a.home == b.home) && (s && (a.name == b.name))) (namespace_is a.namespace b.namespace)

pub hides_of : (t : ImportTable) (home : ℕ) (ns : Namespace) (name : ℕ)
    → list_any (declared.ghosts.eq (record { home = home; namespace = ns; name = name })) t.declared.keys ≡ hides t home ns name
unfolding hides
hides_of t home ns name = λ i. list_any (λ d. declared_is (record { home = home; namespace = ns; name = name }) d i) t.declared.keys
