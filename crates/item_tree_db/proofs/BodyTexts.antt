-- Body texts move nothing.
use Rattle.std.proofs.Common.{◌≡◌, ℕ, suc, List, [], ◌∷◌, take, Some, None, Option, slice_get, IfSome, All, refl, sym, ap, ◌∙◌, arith, inl, inr}
use Rattle.item_tree_db.proofs.Common.{option_or, option_map, unwrap_or, All-take, same_Some, none-some, AtomView, SyntaxView, CrateView, Place, State, is_root_of, present, unfolding_of, unfolding_at, change_number, EditView, last_some, sets, gives, under_options, crate_after, present_after, unfolding_after, IsAfter, ChangesBodiesOnly, IgnoresBodies}
use Rattle.hir_input.specs.Bodies.{without_bodies}
use Rattle.item_tree.specs.Kept.{kept_syntax}
use Rattle.item_tree.proofs.BodyTexts.{kept_without_bodies}
use Rattle.item_tree_db.proofs.Histories.{change_number_is}

-- two syntaxes that differ in body texts alone unfold alike
unfolding_alike : (skipped : List (List ℕ)) (place : Place) (krate : Option CrateView) (a b : Option SyntaxView) → option_map without_bodies a ≡ option_map without_bodies b → unfolding_of skipped place krate a ≡ unfolding_of skipped place krate b
unfolding_alike skipped place krate None None e = refl
unfolding_alike skipped place krate None (Some b) e = absurd (none-some (without_bodies b) e)
unfolding_alike skipped place krate (Some a) None e = absurd (none-some (without_bodies a) (sym e))
unfolding_alike skipped place None (Some a) (Some b) e = refl
unfolding_alike skipped place (Some krate) (Some a) (Some b) e =
    let root = is_root_of krate place in
    sym (kept_without_bodies root krate skipped a) ∙ ap (kept_syntax root krate skipped) (same_Some (without_bodies a) (without_bodies b) e) ∙ kept_without_bodies root krate skipped b

-- what every element that has any keeps, the last one keeps
or_kept : {A B : Type 0} (f : A → B) (a b : Option A) (base : A) → f (unwrap_or a base) ≡ f base → IfSome b (λ y. f y ≡ f base) → f (unwrap_or (option_or a b) base) ≡ f base
or_kept f None None base last first = last
or_kept f None (Some y) base last first = first
or_kept f (Some x) b base last first = last

present_kept : (s : State) (edits : List EditView) (place : Place) (i : ℕ) → All (ChangesBodiesOnly s place i) edits → option_map without_bodies (present_after s edits place) ≡ option_map without_bodies (present s place)
present_kept s [] place i h = refl
present_kept s (e ∷ es) place i h =
    or_kept (option_map without_bodies) (last_some (sets place) es) (sets place e) (present s place) (present_kept s es place i (λ k d within. h (suc k) d (omega (arith, within)))) (h 0 e (omega arith)).syntax

-- and the crate stays what it is
under_kept : (a b : Option (List AtomView)) (krate : Option CrateView) → under_options a krate ≡ krate → IfSome b (λ options. under_options (Some options) krate ≡ krate) → under_options (option_or a b) krate ≡ krate
under_kept None None krate last first = refl
under_kept None (Some o) krate last first = first
under_kept (Some o) b krate last first = last

crate_kept : (s : State) (edits : List EditView) (place : Place) (i : ℕ) → All (ChangesBodiesOnly s place i) edits → crate_after s edits i ≡ slice_get s.crates i
crate_kept s [] place i h = refl
crate_kept s (e ∷ es) place i h =
    under_kept (last_some (gives i) es) (gives i e) (slice_get s.crates i) (crate_kept s es place i (λ k d within. h (suc k) d (omega (arith, within)))) (h 0 e (omega arith)).krate

-- so do the edits of any front
still : (s : State) (edits : List EditView) (place : Place) (i n : ℕ) → All (ChangesBodiesOnly s place i) edits → unfolding_after s (take n edits) place i ≡ unfolding_at s place i
still s edits place i n h =
    let front = All-take (ChangesBodiesOnly s place i) n edits h in
    ap (λ (krate : Option CrateView). unfolding_of s.skipped place krate (present_after s (take n edits) place)) (crate_kept s (take n edits) place i front)
    ∙ unfolding_alike s.skipped place (slice_get s.crates i) _ _ (present_kept s (take n edits) place i front)

pub ignores_bodies : (s u : State) (edits : List EditView) → IsAfter s edits u → IgnoresBodies s edits u
ignores_bodies s u edits after place i p h =
    elim (change_number_is s edits place i u after p) as (λ _. change_number u place i ≡ change_number s place i) [ inl unmoved ↦ unmoved.number | inr last ↦ absurd (last.1.moved (still s edits place i last.0 h ∙ sym (still s edits place i (suc last.0) h))) ]
