-- What the names of a crate stand for, and where the paths of its imports lead: by rules, each of which only adds.
use Rattle.std.specs.Prelude.{◌≡◌, ℕ, suc, ltb, Bool, true, false, List, [], Option, Some, None, slice_get, if◌then◌else◌, length, Contains}
use Rattle.def_map.specs.declared.kinds.Namespace.{Namespace}
use Rattle.def_map.specs.declared.kinds.Namespace.TheVariants.{Types, Values, Macros}
use Rattle.def_map.specs.declared.kinds.PathStart.{PathStart}
use Rattle.def_map.specs.declared.kinds.PathStart.TheVariants.{Crate as from_root, Super, Plain, Abs}
use Rattle.def_map.specs.declared.kinds.Visibility.{Visibility}
use Rattle.def_map.specs.declared.kinds.Visibility.TheVariants.{Public, Module}
use Rattle.def_map.specs.Crates.{Crate, Thing, a_module, an_item, a_scope, unseen, NameDeclaration, Binding, a_glob, a_name, underscore, nameless, PathImport, Veil, module_above, module_sees, narrower, Hides}

pub data Fact (N I : Type 0) : Type 0 where
  -- in a module a name (None: every name) stands for a thing, for those who see it
  names : ℕ → Namespace → Option N → Thing I → Visibility → Fact N I
  -- the path of an import, after so many of its names, is at a thing
  stands : ℕ → ℕ → Thing I → Fact N I
  -- an import gives a thing
  gives : ℕ → Namespace → Thing I → Visibility → Fact N I

module _ {N : Type 0} where
  abbrev pub is_glob_binding : Binding N → Bool
  is_glob_binding a_glob = true
  is_glob_binding (a_name n) = false
  is_glob_binding underscore = false
  is_glob_binding nameless = false

  abbrev pub is_glob_import : PathImport N → Bool
  is_glob_import u = is_glob_binding u.binding

  -- the k-th name of the path leads on: it is an inner name, or the last one of a glob
  abbrev pub is_inner_name : PathImport N → ℕ → Bool
  is_inner_name u k = if is_glob_import u then true else ltb (suc k) (length u.names)

  -- what a named import gives: of types alone it is of types
  abbrev pub is_wanted : PathImport N → Namespace → Bool
  is_wanted u Types = true
  is_wanted u Values = if u.of_types then false else true
  is_wanted u Macros = if u.of_types then false else true

module _ {N I : Type 0} where
  -- what follows where the k-th name of the path of import i stands for a thing: a type named by an inner name is where it stands next, the last name gives what it names
  abbrev pub read_inner : ℕ → ℕ → Namespace → Thing I → Option (Fact N I)
  read_inner i k Types t = Some (stands i (suc k) t)
  read_inner i k Values t = None
  read_inner i k Macros t = None

  abbrev pub reading : ℕ → PathImport N → ℕ → Namespace → Thing I → Visibility → Option (Fact N I)
  reading i u k ns t v = if is_inner_name u k then read_inner i k ns t else if is_wanted u ns then Some (gives i ns t v) else None

module _ {I : Type 0} where
  -- a path or a glob goes on unseen
  abbrev pub IsOpen : Thing I → Type 0
  IsOpen (a_module m) = ⊥
  IsOpen (an_item x) = ⊥
  IsOpen (a_scope x) = Unit {0}
  IsOpen unseen = Unit {0}

-- the path begins with a name that may be of another crate
abbrev pub may_leave : PathStart → Bool
may_leave from_root = false
may_leave (Super count) = false
may_leave Plain = true
may_leave Abs = true

module _ {N I : Type 0} where
  -- what a name that leads on may stand for outside of the crate
  abbrev pub IsOther : Option (List (N × Thing I)) → N → Thing I → Type 0
  IsOther None n t = t ≡ unseen
  IsOther (Some others) n t = Contains others (n, t)

module _ {N I : Type 0} (c : Crate N I) where
  abbrev pub IsImport : ℕ → PathImport N → Type 0
  IsImport i u = slice_get c.imports i ≡ Some u

  -- the module in which a path begins
  abbrev pub start_by : PathStart → ℕ → Option ℕ
  start_by from_root m = Some 0
  start_by (Super count) m = module_above c.parents count m
  start_by Plain m = if c.is_2015 then Some 0 else Some m
  start_by Abs m = if c.is_2015 then Some 0 else None

  abbrev pub import_start : PathImport N → Option ℕ
  import_start u = start_by u.start u.parent

  -- what the first name of a path may stand for that no module of the crate names
  pub data IsElsewhere (u : PathImport N) (n : N) : Namespace → Thing I → Visibility → Type 0 where
    an_other : {t : Thing I} → is_inner_name u 0 ≡ true → IsOther c.others n t → IsElsewhere u n Types t Public
    any_other : (ns : Namespace) → is_inner_name u 0 ≡ false → IsElsewhere u n ns unseen Public
    a_macro : (x : I) → u.start ≡ Plain → is_inner_name u 0 ≡ false → Contains c.macro_rules (n, x) → IsElsewhere u n Macros (an_item x) (Module 0)

  -- a name stands for another that is wanted: it is the same, or every name, but those that the module declares for sure
  abbrev pub Covers : ℕ → Namespace → Option N → N → Type 0
  Covers m ns (Some n) wanted = n ≡ wanted
  Covers m ns None wanted = Hides c m ns wanted → ⊥

  -- a glob of the module does not bring what the module declares for sure
  abbrev pub IsFree : ℕ → Namespace → Option N → Type 0
  IsFree m ns (Some n) = Hides c m ns n → ⊥
  IsFree m ns None = Unit {0}

  pub data Derives : Fact N I → Type 0 where
    -- 1. what a module declares, it names
    declared : (x : NameDeclaration N I) → Contains c.declarations x → Derives (names x.parent x.namespace (Some x.name) x.thing x.visibility)
    -- 2. a veil names every name, unseen
    veiled : (x : Veil) → Contains c.veils x → Derives (names x.parent x.namespace None unseen x.visibility)
    -- 3. a path begins in a module
    begins : {i m : ℕ} (u : PathImport N) → IsImport i u → import_start u ≡ Some m → Derives (stands i 0 (a_module m))
    -- 4. its first name may be elsewhere, unless the module declares it for sure
    elsewhere : {ns : Namespace} {n : N} {t : Thing I} {v : Visibility} {f : Fact N I} (i : ℕ) (u : PathImport N) → IsImport i u → may_leave u.start ≡ true
        → slice_get u.names 0 ≡ Some n → IsElsewhere u n ns t v → ((m : ℕ) → import_start u ≡ Some m → Hides c m ns n → ⊥) → reading i u 0 ns t v ≡ Some f → Derives f
    -- 5. an inner name, or the last one of a glob: a type named so in the module where the path stands, which the import's module module_sees, is where it stands next
    leads : {i k m : ℕ} {n : N} {name : Option N} {t : Thing I} {v : Visibility} (u : PathImport N) → IsImport i u → Derives (stands i k (a_module m))
        → slice_get u.names k ≡ Some n → is_inner_name u k ≡ true → Derives (names m Types name t v) → Covers m Types name n → module_sees c.parents u.parent v ≡ true
        → Derives (stands i (suc k) t)
    -- 6. the last name gives what is named so there and seen
    ends : {i k m : ℕ} {ns : Namespace} {n : N} {name : Option N} {t : Thing I} {v : Visibility} (u : PathImport N) → IsImport i u → Derives (stands i k (a_module m))
        → slice_get u.names k ≡ Some n → is_inner_name u k ≡ false → is_wanted u ns ≡ true → Derives (names m ns name t v) → Covers m ns name n → module_sees c.parents u.parent v ≡ true
        → Derives (gives i ns t v)
    -- 6. and a path without names gives the module where it begins (`use crate as x`)
    gives_start : {i : ℕ} {t : Thing I} (u : PathImport N) → IsImport i u → is_glob_import u ≡ false → u.names ≡ [] → Derives (stands i 0 t) → Derives (gives i Types t Public)
    -- 7. a glob: its module names what the module where it stands names and it module_sees, unless it declares that name for sure
    copies : {i m : ℕ} {ns : Namespace} {name : Option N} {t : Thing I} {v : Visibility} (u : PathImport N) → IsImport i u → is_glob_import u ≡ true
        → Derives (stands i (length u.names) (a_module m)) → Derives (names m ns name t v) → module_sees c.parents u.parent v ≡ true → IsFree u.parent ns name
        → Derives (names u.parent ns name t (narrower c.parents v u.visibility))
    -- 8. a named import: its module names what it gives
    imports : {i : ℕ} {ns : Namespace} {n : N} {t : Thing I} {v : Visibility} (u : PathImport N) → IsImport i u → u.binding ≡ a_name n → Derives (gives i ns t v)
        → Derives (names u.parent ns (Some n) t (narrower c.parents v u.visibility))
    -- 9. a glob of what is unseen, or of a scope, is a veil of its module, for those who see the import
    opens : {i : ℕ} {t : Thing I} (u : PathImport N) (ns : Namespace) → IsImport i u → is_glob_import u ≡ true → Derives (stands i (length u.names) t) → IsOpen t
        → Derives (names u.parent ns None unseen u.visibility)
    -- a glob of the root is a veil of its module for macros: a macro call may export some, which globs of the root bring and paths do not
    exports : {i : ℕ} (u : PathImport N) → IsImport i u → is_glob_import u ≡ true → Derives (stands i (length u.names) (a_module 0)) → Derives (names u.parent Macros None unseen u.visibility)
    -- 10. a path through what is unseen, or through a scope, leads to what is unseen
    passes : {i k : ℕ} {n : N} {t : Thing I} {f : Fact N I} (u : PathImport N) (ns : Namespace) → IsImport i u → Derives (stands i k t) → IsOpen t
        → slice_get u.names k ≡ Some n → reading i u k ns unseen Public ≡ Some f → Derives f

  -- a glob of a module copies to its own, for these, what another names
  abbrev pub IsGlobCopy : ℕ → ℕ → Visibility → Type 0
  IsGlobCopy from into v = (i : ℕ) × (u : PathImport N) × IsImport i u × (is_glob_import u ≡ true) × (u.parent ≡ into) × (u.visibility ≡ v) × Derives (stands i (length u.names) (a_module from))
