-- Things told apart, and bindings by their names.
use Rattle.std.proofs.Common.{◌≡◌, ℕ, Bool, true, false, Option, Some, None, sym, ap, ◌∙◌}
use Rattle.std.proofs.lemmas.Bool.{true≢false}
use Rattle.def_map.specs.Crates.{Thing, a_module, an_item, a_scope, unseen, Binding, a_glob, a_name, underscore, nameless}

module _ {K : Type 0} where
  number_of : Thing K → ℕ
  number_of (a_module m) = m
  number_of (an_item x) = 0
  number_of (a_scope x) = 0
  number_of unseen = 0

  abbrev pub is_module : Thing K → Bool
  is_module (a_module m) = true
  is_module (an_item x) = false
  is_module (a_scope x) = false
  is_module unseen = false

  pub same_module : (m n : ℕ) → ◌≡◌ {A = Thing K} (a_module m) (a_module n) → m ≡ n
  unfolding number_of
  same_module m n e = ap number_of e

  pub not_module : (t : Thing K) (m : ℕ) → is_module t ≡ false → t ≡ a_module m → ⊥
  not_module t m other e = true≢false (sym (ap is_module e) ∙ other)

-- the name that an import binds
abbrev pub bound : {K : Type 0} → Binding K → Option K
bound a_glob = None
bound (a_name n) = Some n
bound underscore = None
bound nameless = None
