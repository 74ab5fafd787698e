-- The same is told of a crate by numbers.
use Rattle.std.proofs.Common.{◌≡◌, ◌↔◌, ℕ, Option, Some, refl, sym, subst, ◌∙◌}
use Rattle.def_map.specs.Crates.{Crate, Thing, a_module, an_item, a_scope, unseen, PathImport}
use Rattle.def_map.specs.Facts.{IsImport}
use Rattle.def_map.specs.Numbers.{numbered_thing, crate_by_numbers, IsNumbering}
use Rattle.def_map.specs.Told.{IsVerdict, unresolved, too_wide, unknown, resolved}
use Rattle.def_map.specs.Verdicts.{IsSeen, HasNames, LeadsTo, LeadsNowhere, IsTooWide, IsPrivate}
use Rattle.def_map.specs.declared.verdict.Verdict.{Verdict}
use Rattle.def_map.proofs.CrateNumbers.{import_to, import_from, like_to, like_from}
use Rattle.def_map.proofs.LikeCrates.{leads_like, wide_like, private_like}

module _ {N I M J : Type 0} (number : N → Option M) (item : I → J) (c : Crate N I) (ok : IsNumbering number item c) where
  abbrev e : Crate M J
  e = crate_by_numbers number item c

  abbrev nt : Thing I → Thing J
  nt = numbered_thing number item

  abbrev IsNumber : N → M → Type 0
  IsNumber n k = number n ≡ Some k

  abbrev IsName : M → N → Type 0
  IsName k n = number n ≡ Some k

  abbrev To : Thing I → Thing J → Type 0
  To t t' = nt t ≡ t'

  abbrev From : Thing J → Thing I → Type 0
  From t' t = nt t ≡ t'

  names_to : (t : Thing I) → HasNames t ↔ HasNames (nt t)
  names_to (a_module m) = (λ h. h, λ h. h)
  names_to (an_item x) = (λ h. h, λ h. h)
  names_to (a_scope x) = (λ h. h, λ h. h)
  names_to unseen = (λ h. h, λ h. h)

  seen_to : (t : Thing I) → IsSeen t ↔ IsSeen (nt t)
  seen_to (a_module m) = (λ h. h, λ h. h)
  seen_to (an_item x) = (λ h. h, λ h. h)
  seen_to (a_scope x) = (λ h. h, λ h. h)
  seen_to unseen = (λ h. h, λ h. h)

  unseen_from : (t : Thing I) → nt t ≡ unseen → t ≡ unseen
  unseen_from (a_module m) same = absurd (subst IsSeen same tt)
  unseen_from (an_item x) same = absurd (subst IsSeen same tt)
  unseen_from (a_scope x) same = absurd (subst IsSeen same tt)
  unseen_from unseen same = refl

  pub leads_on : (i : ℕ) (t : Thing I) → LeadsTo c i t → (t' : Thing J) × To t t' × LeadsTo e i t'
  leads_on i t h = leads_like IsNumber To c e (like_to number item c ok) (λ x y same n. subst HasNames same ((names_to x).0 n)) i t h

  pub leads_back : (i : ℕ) (t' : Thing J) → LeadsTo e i t' → (t : Thing I) × From t' t × LeadsTo c i t
  leads_back i t' h = leads_like IsName From e c (like_from number item c ok) (λ y x same n. (names_to x).1 (subst HasNames (sym same) n)) i t' h

  narrow_back : (i : ℕ) (u : PathImport N) → IsImport c i u → IsTooWide e i → IsTooWide c i
  narrow_back i u is wide = wide_like IsNumber To c e (like_to number item c ok) (λ x y same s. (seen_to x).1 (subst IsSeen (sym same) s)) i u is wide

  wide_on : (i : ℕ) → IsTooWide c i → IsTooWide e i
  wide_on i wide = let (w, is', l) = import_to number item c ok i wide.0 wide.1 in wide_like IsName From e c (like_from number item c ok) (λ y x same s. subst IsSeen same ((seen_to x).0 s)) i w is' wide

  from_fails : (i : ℕ) → LeadsNowhere e i → LeadsNowhere c i
  from_fails i (w, is', fails) = let (u, is, l) = import_from number item c ok i w is' in (u, is, λ t h. let (t', same, h') = leads_on i t h in fails t' h')

  pub from_verdict : (i : ℕ) (verdict : Verdict) → IsVerdict e i verdict → IsVerdict c i verdict
  from_verdict i verdict (unresolved fails) = unresolved (from_fails i fails)
  from_verdict i verdict (too_wide {t = t} leads' wide) =
      let (u, is, l) = import_from number item c ok i wide.0 wide.1 in
      let (x, same, h) = leads_back i t leads' in too_wide h (narrow_back i u is wide)
  from_verdict i verdict (unknown leads' all) =
      let (x, same, h) = leads_back i unseen leads' in
      unknown (subst (LeadsTo c i) (unseen_from x same) h) (λ t k. let (t', like', k') = leads_on i t k in unseen_from t (like' ∙ all t' k'))
  from_verdict i verdict (resolved {t = t} leads' seen narrow) =
      let (x, same, h) = leads_back i t leads' in resolved h ((seen_to x).1 (subst IsSeen (sym same) seen)) (λ wide. narrow (wide_on i wide))

  pub private_alike : (i : ℕ) → IsPrivate e i ↔ IsPrivate c i
  private_alike i = (private_like IsName From e c (like_from number item c ok) i, private_like IsNumber To c e (like_to number item c ok) i)
