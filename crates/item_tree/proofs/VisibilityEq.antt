-- `==` at visibilities decides whether they are one, as the test of the definitions does.
use Rattle.std.proofs.Common.{◌≡◌, Bool, true, List, refl, ap, subst, arith, Decides}
use Rattle.item_tree.proofs.Common.{list_any, position_or_len, nat_tests, path_decides, VisibilityExplicitness, Explicit, Implicit, RawVisibility, Module, PubSelf, PubCrate, Public, equal_of_same, same_itself, same_visibility}
use Rattle.hir_input.specs.contracts.mod_path.ModPathPartialEq.TheImpl as paths
use Rattle.item_tree.specs.contracts.visibility.RawVisibilityEq.TheImpl.Laws as laws
use Rattle.item_tree.specs.contracts.visibility.VisibilityExplicitnessPartialEq.TheImpl as explicitness
use Rattle.item_tree.specs.contracts.visibility.RawVisibility as raw
use Rattle.item_tree.specs.contracts.visibility.RawVisibilityPartialEq.TheImpl as raw_eqs
use Rattle.item_tree.proofs.UseEq.{tells}

same_explicitness : (x y : VisibilityExplicitness) → explicitness.ghosts.eq x y ≡ true → x ≡ y
same_explicitness Explicit Explicit h = refl
same_explicitness Implicit Implicit h = refl
same_explicitness _ _ h = cc

abbrev pub raw_eq : RawVisibility → RawVisibility → Bool
raw_eq = raw_eqs.ghosts.eq

pub raw-sound : (v w : RawVisibility) → raw_eq v w ≡ true → v ≡ w
raw-sound (Module p x) (Module q y) h =
    let path : paths.ghosts.eq p q ≡ true = grind (arith, nat_tests) in
    let written : explicitness.ghosts.eq x y ≡ true = grind (arith, nat_tests) in
    λ i. Module ((path_decides p q).0 path i) (same_explicitness x y written i)
raw-sound (PubSelf x) (PubSelf y) h =
    let written : explicitness.ghosts.eq x y ≡ true = grind (arith, nat_tests) in
    ap PubSelf (same_explicitness x y written)
raw-sound PubCrate PubCrate h = refl
raw-sound Public Public h = refl
raw-sound _ _ h = cc

pub raw-itself : (v : RawVisibility) → raw_eq v v ≡ true
raw-itself v = laws.laws-law.refl v

pub raw_decides : (v w : RawVisibility) → Decides (raw_eq v w) (v ≡ w)
raw_decides v w = (raw-sound v w, λ e. subst (λ z. raw_eq v z ≡ true) e (raw-itself v))

pub same-sound : (v w : RawVisibility) → same_visibility v w ≡ true → v ≡ w
same-sound v w h = equal_of_same raw.the_row.coded v w h

pub same-itself : (v : RawVisibility) → same_visibility v v ≡ true
same-itself v = same_itself raw.the_row.coded v

raw-same : (v w : RawVisibility) → raw_eq v w ≡ same_visibility v w
raw-same v w = tells raw.the_row.coded v w (raw_eq v w) (raw_decides v w)

-- so what is found by the one is found by the other
pub any_raw : (v : RawVisibility) (vs : List RawVisibility) → list_any (raw_eq v) vs ≡ list_any (same_visibility v) vs
any_raw v vs = λ i. list_any (λ w. raw-same v w i) vs

pub place_raw : (v : RawVisibility) (vs : List RawVisibility) → position_or_len (raw_eq v) vs ≡ position_or_len (same_visibility v) vs
place_raw v vs = λ i. position_or_len (λ w. raw-same v w i) vs
