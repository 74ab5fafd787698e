-- The forms of conditions and of metas read themselves.
use Rattle.std.proofs.Common.{◌≡◌, List, ℕ, codes, [], Some, refl, ap}
use Rattle.serde_json.specs.Data.{Data, depth}
use Rattle.serde_json.specs.Find.{get, as_null, as_str}
use Rattle.hir_input_json.proofs.Common.{CfgView, CfgViews, invalid, all_of, any_of, not_of, cfgs_from, Reading, right, wrong, reading_map, under, atom, cfg_by, cfg_with, keyed_by, listed_with, field, by_form, object_members, meta_form_with}
use Rattle.hir_input.specs.Cfg as condition
use Rattle.hir_input_json.specs.Reading.{◌>>=◌}
use Rattle.hir_input_json.proofs.Laws.{AgreeBelow, LooksInside, ReadsItself}
use Rattle.hir_input_json.proofs.NestedForms.{required_same, by_first_same, list_in, list_at_same, depth_field, depth_get, reads_itself}

listed_inside : (key : List ℕ) (of : CfgViews → CfgView) (f g : Data → Reading CfgView) (d : Data) → AgreeBelow f g (depth d) → (e : Data) → field key d ≡ Some e → listed_with key of f e ≡ listed_with key of g e
listed_inside key of f g d same e h = ap (λ r. under key (reading_map (λ cs. of (cfgs_from cs)) r)) (list_in f g key d same e h)

cfg_by_inside : LooksInside cfg_by
cfg_by_inside f g d same =
    ap (by_form (field (codes "key") d) (λ e. reading_map condition.atom (keyed_by e d)))
    (by_first_same (listed_with (codes "all") all_of f) (listed_with (codes "all") all_of g) (field (codes "all") d) _ _ (listed_inside (codes "all") all_of f g d same)
    (by_first_same (listed_with (codes "any") any_of f) (listed_with (codes "any") any_of g) (field (codes "any") d) _ _ (listed_inside (codes "any") any_of f g d same)
    (by_first_same (λ e. under (codes "not") (reading_map not_of (f e))) (λ e. under (codes "not") (reading_map not_of (g e))) (get (codes "not") d) (wrong []) (wrong [])
    (λ e h. ap (λ r. under (codes "not") (reading_map not_of r)) (same e (depth_get (codes "not") d e h))) refl)))

-- a condition, where this is read of an object
abbrev cfg_or : Data → Reading CfgView → Reading CfgView
cfg_or d r =
    by_form (as_null d) (λ _. right invalid)
    (by_form (as_str d) (λ _. reading_map condition.atom (atom d))
    (do
      _ ← object_members d
      r))

cfg_inside : LooksInside cfg_with
cfg_inside f g d same = ap (cfg_or d) (cfg_by_inside f g d same)

meta_inside : LooksInside meta_form_with
meta_inside f g d same =
    rw (
      list_at_same f g (codes "metas") d same,
      required_same f g (field (codes "inner") d) (λ e h. same e (depth_field (codes "inner") d e h)),
    ) refl

pub cfg_reads_itself : ReadsItself cfg_with
cfg_reads_itself = reads_itself cfg_with cfg_inside

pub meta_reads_itself : ReadsItself meta_form_with
meta_reads_itself = reads_itself meta_form_with meta_inside
