-- What is said of an import by the facts that were found, over numbers.
use Rattle.std.specs.Prelude.{◌≡◌, ◌<◌, ◌==◌, ◌&&◌, ◌||◌, ℕ, Bool, true, false, not, List, length, Option, Some, None, slice_get, option_map, option_and_then, if◌then◌else◌}
use Rattle.std.specs.List.{list_any}
use Rattle.def_map.specs.Verdicts.{is_at_least}
use Rattle.def_map.specs.Closure.{is_glob_name}
use Rattle.def_map.specs.declared.{facts.Fact.Fact, facts.ImportTable.ImportTable, facts.Thing.Thing, verdict.Lead.Lead, verdict.Verdict.Verdict}
use Rattle.def_map.specs.declared.facts.Fact.TheVariants.{Stands, Gives}
use Rattle.def_map.specs.declared.facts.Thing.TheVariants.{Item, Unseen}
use Rattle.def_map.specs.declared.verdict.Verdict.TheVariants.{Unresolved, TooWide, Unknown, Resolved}

abbrev pub is_seen : Thing → Bool
is_seen Unseen = false
is_seen _ = true

-- a glob may stand there
abbrev pub has_names : Thing → Bool
has_names (Item item) = false
has_names _ = true

-- what a fact says of an import: it gives something, or it is a glob and stands at its end
unfoldable pub lead_by : ImportTable → Fact → Option (ℕ × Lead)
lead_by t (Gives i ns thing v) = option_map (λ import.
    (i, record { leads = true; is_seen = is_seen thing; is_wide = not (is_seen thing) || is_at_least t.parents.items v import.visibility }))
    (slice_get t.imports.items i)
lead_by t (Stands i k thing) = option_and_then (λ import.
    if is_glob_name import.name && (k == length import.path.items) && has_names thing then Some (i, record { leads = true; is_seen = is_seen thing; is_wide = true }) else None)
    (slice_get t.imports.items i)
lead_by t _ = None

abbrev pub no_lead : Lead
no_lead = record { leads = false; is_seen = false; is_wide = false }

abbrev pub lead_for : ℕ → Option (ℕ × Lead) → Lead
lead_for i None = no_lead
lead_for i (Some said) = if said.0 == i then said.1 else no_lead

-- an import leads to something, to something that is seen, and to something that is not less visible than it
abbrev pub lead_of : ImportTable → List Fact → ℕ → Lead
lead_of t facts i = record {
  leads = list_any (λ f. (lead_for i (lead_by t f)).leads) facts;
  is_seen = list_any (λ f. (lead_for i (lead_by t f)).is_seen) facts;
  is_wide = list_any (λ f. (lead_for i (lead_by t f)).is_wide) facts;
}

-- what is told of an import
abbrev pub verdict_by : Lead → Verdict
verdict_by lead =
    if not lead.leads then Unresolved else (if not lead.is_wide then TooWide else (if lead.is_seen then Resolved else Unknown))

abbrev pub verdict_of : ImportTable → List Fact → ℕ → Verdict
verdict_of t facts i = verdict_by (lead_of t facts i)

-- ---- how it is found

abbrev pub join_leads : Lead → Lead → Lead
join_leads a b = record { leads = a.leads || b.leads; is_seen = a.is_seen || b.is_seen; is_wide = a.is_wide || b.is_wide }

-- what is said of an import is added to what was known of it
pub record Notes (said : Option (ℕ × Lead)) (old new : List Lead) : Type 0 where
  pub size : length new ≡ length old
  pub at : (i : ℕ) → slice_get new i ≡ option_map (λ lead. join_leads lead (lead_for i said)) (slice_get old i)

-- what is known of so many imports by these facts
pub record AreLeadsKnown (t : ImportTable) (count : ℕ) (facts : List Fact) (leads : List Lead) : Type 0 where
  pub size : length leads ≡ count
  pub known : (i : ℕ) → i < count → slice_get leads i ≡ Some (lead_of t facts i)

pub record AreVerdicts (t : ImportTable) (count : ℕ) (facts : List Fact) (verdicts : List Verdict) : Type 0 where
  pub size : length verdicts ≡ count
  pub told : (i : ℕ) → i < count → slice_get verdicts i ≡ Some (verdict_of t facts i)
