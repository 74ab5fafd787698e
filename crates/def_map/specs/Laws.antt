-- What is said to be wrong stays wrong, whatever macros expand to and whatever other crates hold.
use Rattle.std.specs.Prelude.{◌≡◌, ◌<◌, ◌≤◌, ◌⊎◌, ℕ, true, List, Option, Some, None, slice_get, length, Contains}
use Rattle.def_map.specs.declared.kinds.Namespace.{Namespace}
use Rattle.def_map.specs.declared.kinds.Namespace.TheVariants.{Macros}
use Rattle.def_map.specs.declared.kinds.Visibility.{Visibility}
use Rattle.def_map.specs.declared.kinds.Visibility.TheVariants.{Public}
use Rattle.def_map.specs.Crates.{Crate, Thing, a_module, an_item, a_scope, unseen, NameDeclaration, Binding, a_glob, a_name, underscore, nameless, PathImport, Veil, parent_of, module_sees, Hides}
use Rattle.def_map.specs.Facts.{stands, is_glob_import, IsImport, IsOther, IsFree, Derives}
use Rattle.def_map.specs.Verdicts.{is_at_least, LeadsNowhere, IsTooWide, HasNoName}

-- a parent stands before its modules
abbrev pub IsRising : List (Option ℕ) → Type 0
IsRising parents = (m parent : ℕ) → parent_of parents m ≡ Some parent → parent < m

module _ {I : Type 0} where
  abbrev pub IsModuleOf : List (Option ℕ) → Thing I → Type 0
  IsModuleOf parents (a_module m) = m < length parents
  IsModuleOf parents (an_item x) = Unit {0}
  IsModuleOf parents (a_scope x) = Unit {0}
  IsModuleOf parents unseen = Unit {0}

  -- a thing may turn out to be another: what is unseen is anything, and the inside of a scope may be a module
  abbrev pub Becomes : Thing I → Thing I → Type 0
  Becomes (a_module m) t = t ≡ a_module m
  Becomes (an_item x) t = t ≡ an_item x
  Becomes (a_scope x) t = (t ≡ a_scope x) ⊎ ((m : ℕ) × (t ≡ a_module m))
  Becomes unseen t = Unit {0}

-- the modules that a crate speaks of are its own, and an import is visible where it stands
pub record IsWhole {N I : Type 0} (c : Crate N I) : Type 0 where
  pub root : 0 < length c.parents
  pub rising : IsRising c.parents
  pub declarations : (x : NameDeclaration N I) → Contains c.declarations x → IsModuleOf c.parents x.thing
  pub others : (n : N) (t : Thing I) → IsOther c.others n t → IsModuleOf c.parents t
  pub imports : (i : ℕ) (u : PathImport N) → IsImport c i u → (u.parent < length c.parents) × (module_sees c.parents u.parent u.visibility ≡ true)

-- where a module may have any macro, the root may have: a macro call may write a macro that it exports
abbrev pub LetsExport : {N I : Type 0} → Crate N I → Type 0
LetsExport c = (x : Veil) → Contains c.veils x → x.namespace ≡ Macros → Contains c.veils (record { parent = 0; namespace = Macros; visibility = Public })

module _ {N I : Type 0} (c d : Crate N I) where
  abbrev pub IsNew : ℕ → Type 0
  IsNew m = length c.parents ≤ m

  -- a veil of c covers a name in a module for those who see it, and the module does not declare the name for sure
  abbrev pub IsUnderVeil : ℕ → Namespace → Option N → Visibility → Type 0
  IsUnderVeil m ns name v = (x : Veil) × Contains c.veils x × (x.parent ≡ m) × (x.namespace ≡ ns) × (is_at_least d.parents x.visibility v ≡ true) × IsFree c m ns name

  -- c has the declaration, for as many at least, of a thing that may turn out to be this
  abbrev pub IsDeclarationKept : NameDeclaration N I → Type 0
  IsDeclarationKept y = (x : NameDeclaration N I) × Contains c.declarations x × (x.parent ≡ y.parent) × (x.namespace ≡ y.namespace) × (x.name ≡ y.name)
      × Becomes x.thing y.thing × (is_at_least d.parents x.visibility y.visibility ≡ true)

  -- a macro that a macro call exports, brought by a glob of the root, unless the module declares that name for sure
  abbrev pub IsExported : NameDeclaration N I → Type 0
  IsExported y = (i : ℕ) × (u : PathImport N) × IsImport d i u × (is_glob_import u ≡ true) × Derives d (stands i (length u.names) (a_module 0)) × (u.parent ≡ y.parent)
      × (y.namespace ≡ Macros) × (is_at_least d.parents u.visibility y.visibility ≡ true) × IsFree c y.parent Macros (Some y.name)

  -- what an import binds is under veils
  abbrev pub BindsUnderVeil : PathImport N → Binding N → Type 0
  BindsUnderVeil u a_glob = (ns : Namespace) → IsUnderVeil u.parent ns None u.visibility
  BindsUnderVeil u (a_name n) = (ns : Namespace) → IsUnderVeil u.parent ns (Some n) u.visibility
  BindsUnderVeil u underscore = Unit {0}
  BindsUnderVeil u nameless = Unit {0}

  -- d completes c: it has c's modules, imports and sure items; of others what c has, what is under veils, and macros that globs of the root bring; new modules hold anything
  pub record Completes : Type 0 where
    pub modules : (m : ℕ) → m < length c.parents → slice_get d.parents m ≡ slice_get c.parents m
    pub rising : IsRising d.parents
    pub edition : d.is_2015 ≡ c.is_2015
    pub imports : (i : ℕ) (u : PathImport N) → IsImport c i u → IsImport d i u
    pub sure : (m : ℕ) (ns : Namespace) (n : N) → Hides c m ns n → Hides d m ns n
    pub declarations : (y : NameDeclaration N I) → Contains d.declarations y → IsDeclarationKept y ⊎ (IsNew y.parent ⊎ (IsUnderVeil y.parent y.namespace (Some y.name) y.visibility ⊎ IsExported y))
    pub veils : (x : Veil) → Contains d.veils x → IsNew x.parent ⊎ IsUnderVeil x.parent x.namespace None x.visibility
    pub more_imports : (i : ℕ) (u : PathImport N) → IsImport d i u → IsImport c i u ⊎ (IsNew u.parent ⊎ BindsUnderVeil u u.binding)
    pub others : (n : N) (t : Thing I) → IsOther d.others n t → (before : Thing I) × IsOther c.others n before × Becomes before t

  abbrev pub StaysWrong : Type 0
  StaysWrong = IsWhole c → Completes → (i : ℕ) → LeadsNowhere c i → LeadsNowhere d i

  abbrev pub StaysTooWide : Type 0
  StaysTooWide = IsWhole c → Completes → (i : ℕ) → IsTooWide c i → IsTooWide d i

-- an import is wrong: it leads to nothing, what it names is seen by fewer than it, or it has no name
abbrev pub IsWrong : {N I : Type 0} → Crate N I → ℕ → Type 0
IsWrong c i = LeadsNowhere c i ⊎ (IsTooWide c i ⊎ HasNoName c i)

-- a crate completes itself, so there are completions
abbrev pub CompletesItself : {N I : Type 0} → Crate N I → Type 0
CompletesItself c = IsWhole c → Completes c c
