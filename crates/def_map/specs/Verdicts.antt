-- What is said of an import: by what its path leads to.
use Rattle.std.specs.Prelude.{◌≡◌, ℕ, Bool, true, false, List, Option, Some, slice_get, length}
use Rattle.def_map.specs.declared.kinds.Namespace.{Namespace}
use Rattle.def_map.specs.declared.kinds.Namespace.TheVariants.{Types}
use Rattle.def_map.specs.declared.kinds.Visibility.{Visibility}
use Rattle.def_map.specs.declared.kinds.Visibility.TheVariants.{Public, Module}
use Rattle.def_map.specs.Crates.{Crate, Thing, a_module, an_item, a_scope, unseen, nameless, PathImport, is_module_within, module_sees}
use Rattle.def_map.specs.Facts.{Derives, names, stands, gives, is_glob_import, is_inner_name, is_wanted, IsImport}

module _ {I : Type 0} where
  abbrev pub IsSeen : Thing I → Type 0
  IsSeen (a_module m) = Unit {0}
  IsSeen (an_item x) = Unit {0}
  IsSeen (a_scope x) = Unit {0}
  IsSeen unseen = ⊥

  -- a glob may stand there
  abbrev pub HasNames : Thing I → Type 0
  HasNames (a_module m) = Unit {0}
  HasNames (an_item x) = ⊥
  HasNames (a_scope x) = Unit {0}
  HasNames unseen = Unit {0}

-- who module_sees a second visibility has the first
abbrev pub is_at_least : List (Option ℕ) → Visibility → Visibility → Bool
is_at_least parents Public other = true
is_at_least parents (Module m) Public = false
is_at_least parents (Module m) (Module other) = is_module_within parents other m

module _ {N I : Type 0} (c : Crate N I) where
  -- what an import leads to: what it gives, or where a glob stands at its end
  pub data LeadsTo (i : ℕ) : Thing I → Type 0 where
    to_given : {ns : Namespace} {t : Thing I} {v : Visibility} → Derives c (gives i ns t v) → LeadsTo i t
    to_glob : {t : Thing I} (u : PathImport N) → IsImport c i u → is_glob_import u ≡ true → Derives c (stands i (length u.names) t) → HasNames t → LeadsTo i t

  -- unresolved: it leads to nothing
  abbrev pub LeadsNowhere : ℕ → Type 0
  LeadsNowhere i = (u : PathImport N) × IsImport c i u × ((t : Thing I) → LeadsTo i t → ⊥)

  -- too wide: all that it gives is seen, and less visible than it
  abbrev pub IsTooWide : ℕ → Type 0
  IsTooWide i = (u : PathImport N) × IsImport c i u × (is_glob_import u ≡ false)
      × ((ns : Namespace) (t : Thing I) (v : Visibility) → Derives c (gives i ns t v) → IsSeen t × (is_at_least c.parents v u.visibility ≡ false))

  -- without a name: it is of the root or of a module around, and is not renamed
  abbrev pub HasNoName : ℕ → Type 0
  HasNoName i = (u : PathImport N) × IsImport c i u × (u.binding ≡ nameless)

  -- the path of an import asks in a module for a name in a namespace
  pub data Asks (i : ℕ) : ℕ → Namespace → N → Type 0 where
    asks_inner : {k m : ℕ} {n : N} (u : PathImport N) → IsImport c i u → Derives c (stands i k (a_module m)) → slice_get u.names k ≡ Some n → is_inner_name u k ≡ true
        → Asks i m Types n
    asks_last : {k m : ℕ} {n : N} (u : PathImport N) (ns : Namespace) → IsImport c i u → Derives c (stands i k (a_module m)) → slice_get u.names k ≡ Some n
        → is_inner_name u k ≡ false → is_wanted u ns ≡ true → Asks i m ns n

  -- private: a name that is asked for stands there, for others
  abbrev pub IsPrivate : ℕ → Type 0
  IsPrivate i = (u : PathImport N) × (m : ℕ) × (ns : Namespace) × (n : N) × (t : Thing I) × (v : Visibility)
      × IsImport c i u × Asks i m ns n × Derives c (names m ns (Some n) t v) × (module_sees c.parents u.parent v ≡ false)
