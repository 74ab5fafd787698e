-- Whether two cfgs are never true together.
use Rattle.std.specs.Prelude.{◌≡◌, ℕ, Bool, true, false, not, ◌&&◌, ◌||◌, List, [], ◌∷◌, codes, Option, Some, bytes_eq}
use Rattle.std.specs.List.{list_any}
use Rattle.hir_input.specs.Cfg.{AtomView, key_value, CfgView, CfgViews, invalid, atom, all_of, any_of, not_of, no_cfgs, cfg_and, is_atom, is_set, truth}
use Rattle.hir_input.specs.Name.{is_among}

-- the keys of which rustc sets one value each
abbrev pub single_keys : List (List ℕ)
single_keys =
    codes "target_arch" ∷ codes "target_endian" ∷ codes "target_env" ∷ codes "target_os" ∷ codes "target_pointer_width" ∷ codes "target_vendor" ∷ []

-- two values differ
abbrev pub are_other_values : Option (List ℕ) → Option (List ℕ) → Bool
are_other_values (Some v) (Some w) = not (bytes_eq v w)
are_other_values _ _ = false

-- atoms with two values of such a key
abbrev pub are_rivals : AtomView → AtomView → Bool
are_rivals a b = (is_among single_keys a.name && bytes_eq a.name b.name) && are_other_values a.value b.value

-- an atom cannot have one truth where another has a second one
abbrev pub atoms_exclude : Bool → AtomView → Bool → AtomView → Bool
atoms_exclude true a true b = are_rivals a b
atoms_exclude true a false b = is_atom a b
atoms_exclude false a true b = is_atom a b
atoms_exclude false a false b = false

-- one of these holds, or each of them
abbrev pub some_or_each : Bool → List Bool → Bool
some_or_each is_some [] = not is_some
some_or_each true (b ∷ bs) = b || some_or_each true bs
some_or_each false (b ∷ bs) = b && some_or_each false bs

-- an atom cannot have one truth where a condition has a second one: of `all(..)` one member tells that it is not true, and each that it is not false
unfoldable mutual
  pub atom_excludes : Bool → AtomView → Bool → CfgView → Bool
  atom_excludes p a q invalid = false
  atom_excludes p a q (atom b) = atoms_exclude p a q b
  atom_excludes p a q (all_of ds) = some_or_each q (atom_exclusions p a q ds)
  atom_excludes p a q (any_of ds) = some_or_each (not q) (atom_exclusions p a q ds)
  atom_excludes p a q (not_of d) = atom_excludes p a (not q) d

  pub atom_exclusions : Bool → AtomView → Bool → CfgViews → List Bool
  atom_exclusions p a q no_cfgs = []
  atom_exclusions p a q (cfg_and d ds) = atom_excludes p a q d ∷ atom_exclusions p a q ds

-- the same of two conditions
unfoldable mutual
  pub cfg_excludes : Bool → CfgView → Bool → CfgView → Bool
  cfg_excludes p invalid q d = false
  cfg_excludes p (atom a) q d = atom_excludes p a q d
  cfg_excludes p (all_of cs) q d = some_or_each p (cfg_exclusions p cs q d)
  cfg_excludes p (any_of cs) q d = some_or_each (not p) (cfg_exclusions p cs q d)
  cfg_excludes p (not_of c) q d = cfg_excludes (not p) c q d

  pub cfg_exclusions : Bool → CfgViews → Bool → CfgView → List Bool
  cfg_exclusions p no_cfgs q d = []
  cfg_exclusions p (cfg_and c cs) q d = cfg_excludes p c q d ∷ cfg_exclusions p cs q d

-- two conditions are seen never to be true together: by the members of the one, or by those of the other
abbrev pub exclude : CfgView → CfgView → Bool
exclude c d = cfg_excludes true c true d || cfg_excludes true d true c

-- a condition among these and one among those are
abbrev pub exclude_each_other : List CfgView → List CfgView → Bool
exclude_each_other cs ds = list_any (λ c. list_any (exclude c) ds) cs

-- ---- what that means

-- of such a key one value at most is set
abbrev pub HasSingleValues : List AtomView → Type 0
HasSingleValues set = (key v w : List ℕ) → is_among single_keys key ≡ true → is_set set (key_value key v) ≡ true → is_set set (key_value key w) ≡ true → v ≡ w

-- whatever else is set, the two are not both true
abbrev pub AreNeverTrue : CfgView → CfgView → Type 0
AreNeverTrue c d = (set : List AtomView) → HasSingleValues set → truth set c ≡ Some true → truth set d ≡ Some true → ⊥
