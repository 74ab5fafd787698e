-- What is known of imports, fact by fact.
use Rattle.std.proofs.Common.{◌≡◌, ◌≤◌, ◌<◌, ◌==◌, ◌||◌, ℕ, zero, suc, Bool, true, false, List, [], ◌∷◌, ◌++◌, Option, Some, None, slice_get, slice_index_or, length, map, set, replicate, if◌then◌else◌, refl, sym, ap, subst, ◌∙◌, arith}
use Rattle.std.specs.List.{list_any}
use Rattle.std.specs.Option.{option_map}
use Rattle.std.proofs.lemmas.List.{get_or-replicate, length-replicate, length-set, length-map}
use Rattle.std.proofs.lemmas.List.Folds.{list_any-append}
use Rattle.std.proofs.lemmas.Option.{slice_get-get_or, slice_get-map, slice_get_past}
use Rattle.std.proofs.lemmas.Bool.{eqb-true, eq-eqb, true≢false}
use Rattle.def_map.specs.declared.{facts.Fact.Fact, facts.ImportTable.ImportTable, verdict.Lead.Lead, verdict.Verdict.Verdict}
use Rattle.def_map.specs.Found.{lead_by, no_lead, lead_for, verdict_by, join_leads, Notes, AreLeadsKnown, AreVerdicts}

or_false : (b : Bool) → (b || false) ≡ b
or_false true = refl
or_false false = refl

join_none : (a : Lead) → join_leads a no_lead ≡ a
join_none a = λ i. record { leads = or_false a.leads i; is_seen = or_false a.is_seen i; is_wide = or_false a.is_wide i }

set_same : {X : Type 0} (xs : List X) (k : ℕ) (y : X) → k < length xs → slice_get (set xs k y) k ≡ Some y
set_same [] k y low = absurd (omega (arith, low))
set_same (x ∷ xs) zero y low = refl
set_same (x ∷ xs) (suc k) y low = set_same xs k y (omega (arith, low))

set_other : {X : Type 0} (xs : List X) (k : ℕ) (y : X) (i : ℕ) → (k ≡ i → ⊥) → slice_get (set xs k y) i ≡ slice_get xs i
set_other [] k y i other = refl
set_other (x ∷ xs) zero y zero other = absurd (other refl)
set_other (x ∷ xs) zero y (suc i) other = refl
set_other (x ∷ xs) (suc k) y zero other = refl
set_other (x ∷ xs) (suc k) y (suc i) other = set_other xs k y i (λ e. other (ap suc e))

module _ (number : ℕ) (lead : Lead) (xs : List Lead) where
  other : (i : ℕ) → (number == i) ≡ false → (a : Lead) → a ≡ join_leads a (lead_for i (Some (number, lead)))
  other i e a = sym (ap (λ (b : Bool). join_leads a (if b then lead else no_lead)) e ∙ join_none a)

  stays : (i : ℕ) → (number == i) ≡ false → (o : Option Lead) → o ≡ option_map (λ a. join_leads a (lead_for i (Some (number, lead)))) o
  stays i e None = refl
  stays i e (Some a) = ap Some (other i e a)

  pub notes_past : length xs ≤ number → Notes (Some (number, lead)) xs xs
  notes_past past = record { size = refl; at = λ i. by i (number == i) refl }
    where
      by : (i : ℕ) (b : Bool) → (number == i) ≡ b → slice_get xs i ≡ option_map (λ a. join_leads a (lead_for i (Some (number, lead)))) (slice_get xs i)
      by i true e =
          let none : slice_get xs i ≡ None = slice_get_past xs i (subst (λ j. length xs ≤ j) (eqb-true number i e) past) in
          none ∙ sym (ap (option_map (λ a. join_leads a (lead_for i (Some (number, lead))))) none)
      by i false e = stays i e (slice_get xs i)

  pub notes_some : (x y : Lead) → number < length xs → x ≡ slice_index_or xs number x → y ≡ join_leads x lead → Notes (Some (number, lead)) xs (set xs number y)
  notes_some x y low here is = record { size = length-set xs number y; at = λ i. by i (number == i) refl }
    where
      by : (i : ℕ) (b : Bool) → (number == i) ≡ b → slice_get (set xs number y) i ≡ option_map (λ a. join_leads a (lead_for i (Some (number, lead)))) (slice_get xs i)
      by i true e =
          let same : number ≡ i = eqb-true number i e in
          let new : slice_get (set xs number y) i ≡ Some y = subst (λ j. slice_get (set xs number y) j ≡ Some y) same (set_same xs number y low) in
          let old : slice_get xs i ≡ Some x = subst (λ j. slice_get xs j ≡ Some x) same (slice_get-get_or xs number x low ∙ ap Some (sym here)) in
          new ∙ ap Some (is ∙ ap (λ (b : Bool). join_leads x (if b then lead else no_lead)) (sym e)) ∙ sym (ap (option_map (λ a. join_leads a (lead_for i (Some (number, lead))))) old)
      by i false e =
          set_other xs number y i (λ same. true≢false (sym (eq-eqb number i same) ∙ e))
          ∙ stays i e (slice_get xs i)

pub notes_none : (xs : List Lead) → Notes None xs xs
notes_none xs = record { size = refl; at = λ i. by (slice_get xs i) }
  where
    by : (o : Option Lead) → o ≡ option_map (λ a. join_leads a no_lead) o
    by None = refl
    by (Some a) = ap Some (sym (join_none a))

pub known_first : (t : ImportTable) (count : ℕ) (leads : List Lead) → leads ≡ replicate count no_lead → AreLeadsKnown t count [] leads
known_first t count leads is = subst (AreLeadsKnown t count []) (sym is) (record {
  size = length-replicate count no_lead;
  known = λ i low. let size = length-replicate count no_lead in
      slice_get-get_or (replicate count no_lead) i no_lead (omega (arith, low, size)) ∙ ap Some (get_or-replicate count i no_lead no_lead low);
})

any_more : (p : Fact → Bool) (facts : List Fact) (f : Fact) → list_any p (facts ++ f ∷ []) ≡ (list_any p facts || p f)
any_more p facts f = list_any-append p facts (f ∷ []) ∙ ap (λ b. list_any p facts || b) (or_false (p f))

pub known_more : (t : ImportTable) (count : ℕ) (facts : List Fact) (f : Fact) (old new : List Lead) → AreLeadsKnown t count facts old → Notes (lead_by t f) old new → AreLeadsKnown t count (facts ++ f ∷ []) new
known_more t count facts f old new so notes = record {
  size = notes.size ∙ so.size;
  known = λ i low.
      notes.at i ∙ ap (option_map (λ a. join_leads a (lead_for i (lead_by t f)))) (so.known i low)
      ∙ ap Some (sym (λ j. record {
        leads = any_more (λ g. (lead_for i (lead_by t g)).leads) facts f j;
        is_seen = any_more (λ g. (lead_for i (lead_by t g)).is_seen) facts f j;
        is_wide = any_more (λ g. (lead_for i (lead_by t g)).is_wide) facts f j;
      }));
}

pub told_of : (t : ImportTable) (count : ℕ) (facts : List Fact) (leads : List Lead) (told : List Verdict) → AreLeadsKnown t count facts leads → told ≡ map verdict_by leads → AreVerdicts t count facts told
told_of t count facts leads told so is = record {
  size = ap length is ∙ length-map leads verdict_by ∙ so.size;
  told = λ i low. ap (λ l. slice_get l i) is ∙ slice_get-map verdict_by leads i ∙ ap (option_map verdict_by) (so.known i low);
}
