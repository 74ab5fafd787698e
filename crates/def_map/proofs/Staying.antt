-- What is wrong stays wrong in each completion.
use Rattle.std.proofs.Common.{◌≡◌, ◌<◌, inl, inr, ℕ, Bool, true, false, Some, refl, sym, ap, subst, ◌∙◌, length}
use Rattle.std.proofs.lemmas.Bool.{false≢true}
use Rattle.std.proofs.lemmas.Option.{same_Some}
use Rattle.def_map.specs.declared.kinds.Visibility.{Visibility}
use Rattle.def_map.specs.declared.kinds.Visibility.TheVariants.{Public, Module}
use Rattle.def_map.specs.Crates.{Crate, Thing, a_module, an_item, a_scope, unseen, PathImport, module_sees}
use Rattle.def_map.specs.Facts.{stands, gives, IsImport}
use Rattle.def_map.specs.Verdicts.{IsSeen, HasNames, is_at_least, LeadsTo, to_given, to_glob, LeadsNowhere, IsTooWide}
use Rattle.def_map.specs.Laws.{IsRising, Becomes, IsWhole, Completes, IsWrong}
use Rattle.def_map.proofs.Order.{least_itself, module_public, above_of, old_above}
use Rattle.def_map.proofs.Completing.{IsWider, becomes_itself, over, same_import, sees_same}

module _ {N I : Type 0} (c d : Crate N I) (whole : IsWhole c) (all : Completes c d) where
  seen_stays : (t t' : Thing I) → Becomes t t' → IsSeen t → IsSeen t'
  seen_stays (a_module m) t' e h = subst IsSeen (sym e) h
  seen_stays (an_item x) t' e h = subst IsSeen (sym e) h
  seen_stays (a_scope x) t' (inl e) h = subst IsSeen (sym e) h
  seen_stays (a_scope x) t' (inr e) h = subst IsSeen (sym e.1) tt
  seen_stays unseen t' e h = absurd h

  named_before : (t t' : Thing I) → Becomes t t' → HasNames t' → HasNames t
  named_before (a_module m) t' e h = tt
  named_before (an_item x) t' e h = subst HasNames e h
  named_before (a_scope x) t' e h = tt
  named_before unseen t' e h = tt

  -- what d's import leads to lies over what that of c does, if it is one of c
  leads_before : (i : ℕ) (w : PathImport N) → IsImport c i w → (t : Thing I) → LeadsTo d i t → (before : Thing I) × LeadsTo c i before
  leads_before i w old t (to_given {ns = ns} {t = x} {v = v} given) = let g = over c d whole all (gives i ns x v) given w old in (g.0, to_given g.2)
  leads_before i w old t (to_glob {t = x} u is glob stand has) =
      let same = same_import c d whole all i u w is old in
      let s = over c d whole all (stands i (length u.names) x) stand u same in
      (s.0, to_glob u same glob s.1 (named_before s.0 x s.2 has))

  pub stays_wrong : (i : ℕ) → LeadsNowhere c i → LeadsNowhere d i
  stays_wrong i (u, is, fails) = (u, all.imports i u is, λ t leads'. let b = leads_before i u is t leads' in fails b.0 b.1)

  least_before : (i : ℕ) (u : PathImport N) (v v' : Visibility) → IsImport c i u → IsWider c d whole all v v' → is_at_least d.parents v' u.visibility ≡ true
      → is_at_least c.parents v u.visibility ≡ true
  least_before i u v v' is wider least = by v v' u.visibility (whole.imports i u is).1 wider least
    where
      by : (v v' w : Visibility) → module_sees c.parents u.parent w ≡ true → IsWider c d whole all v v' → is_at_least d.parents v' w ≡ true → is_at_least c.parents v w ≡ true
      by Public v' w own wider least = refl
      by (Module a) Public w own wider least = absurd (module_public a (wider.everybody refl))
      by (Module a) (Module b) Public own wider least = least
      by (Module a) (Module b) (Module x) own wider least =
          let up = above_of c.parents u.parent u.parent x own in
          let low = old_above c.parents c.parents whole.rising (λ k below. refl) up.0 u.parent x (whole.imports i u is).0 up.1 in
          sees_same c d whole all x (Module a) low (wider.others x low least)

  pub stays_too_wide : (i : ℕ) → IsTooWide c i → IsTooWide d i
  stays_too_wide i (u, is, glob, wide) = (
    u,
    all.imports i u is,
    glob,
    λ ns t v given.
        let g = over c d whole all (gives i ns t v) given u is in
        let before = wide ns g.0 g.1 g.2 in
        (seen_stays g.0 t g.3 before.0, by (is_at_least d.parents v u.visibility) refl before.1 (λ h. least_before i u g.1 v is g.4 h)),
  )
    where
      by : {x y : Bool} (b : Bool) → x ≡ b → y ≡ false → (x ≡ true → y ≡ true) → x ≡ false
      by true e less h = absurd (false≢true (sym less ∙ h e))
      by false e less h = e

-- so what is wrong stays so, in one way or another
pub wrong_stays : {N I : Type 0} (c d : Crate N I) → IsWhole c → Completes c d → (i : ℕ) → IsWrong c i → IsWrong d i
wrong_stays c d whole all i (inl fails) = inl (stays_wrong c d whole all i fails)
wrong_stays c d whole all i (inr (inl wide)) = inr (inl (stays_too_wide c d whole all i wide))
wrong_stays c d whole all i (inr (inr (u, is, none))) = inr (inr (u, all.imports i u is, none))

-- a crate completes itself
pub completes_itself : {N I : Type 0} (c : Crate N I) → IsRising c.parents → Completes c c
completes_itself c rising = record {
  modules = λ m low. refl;
  rising = rising;
  edition = refl;
  imports = λ i u is. is;
  sure = λ m ns n h. h;
  declarations = λ y has. inl (y, has, refl, refl, refl, becomes_itself y.thing, least_itself c.parents y.visibility);
  veils = λ x has. inr (x, has, refl, refl, least_itself c.parents x.visibility, tt);
  more_imports = λ i u is. inl is;
  others = λ n t other. (t, other, becomes_itself t);
}
