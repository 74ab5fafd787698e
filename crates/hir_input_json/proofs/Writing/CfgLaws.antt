-- An atom and a condition that are written are read again.
use Rattle.std.proofs.Common.{◌≡◌, ℕ, List, false, IfSome, Option, Some, None, refl, ap, subst, ◌∙◌}
use Rattle.serde_json.specs.Data.{Data}
use Rattle.serde_json.specs.Written.{has_float}
use Rattle.hir_input_json.proofs.Writing.Common.{AtomView, CfgView, CfgViews, invalid, all_of, any_of, not_of, no_cfgs, cfg_and, cfgs_from, right, field, identifier_form, cfg_reads_itself, atom_by, atom_data, cfg_data, cfgs_data, name_data, Holds}
use Rattle.hir_input.specs.Cfg as condition
use Rattle.hir_input_json.specs.Cfgs.{atom, cfg}
use Rattle.hir_input_json.proofs.Writing.WrittenParts.{HoldAll, mapped, named_law, name_law, next_of, none_of}

-- what a condition's data may be: a null too
pub record CfgHolds (c : CfgView) (d : Data) : Type 0 where
  pub reads : cfg d ≡ right c
  pub exact : has_float d ≡ false

atom_by_law : (n : List ℕ) (value : Option (List ℕ)) → IfSome (atom_by n value) (Holds atom (record { name = n; value = value }))
unfolding field
atom_by_law n None = named_law n (Holds atom (record { name = n; value = None })) (λ e. record { there = refl; reads = rw e refl; exact = refl })
atom_by_law n (Some value) =
    mapped (name_data n) _ (Holds identifier_form n) (Holds atom (record { name = n; value = Some value })) (name_law n)
    (λ d h. record { there = refl; reads = rw (h.there, h.reads) refl; exact = rw h.exact refl })

pub atom_law : (a : AtomView) → IfSome (atom_data a) (Holds atom a)
atom_law a = atom_by_law a.name a.value

pub atom_again : (a : AtomView) (d : Data) → atom_data a ≡ Some d → Holds atom a d
atom_again a d is = subst (λ o. IfSome o (Holds atom a)) is (atom_law a)

-- the same as a condition
atom_cfg : (n : List ℕ) (value : Option (List ℕ)) → IfSome (atom_by n value) (CfgHolds (condition.atom (record { name = n; value = value })))
unfolding field
atom_cfg n None = named_law n (CfgHolds (condition.atom (record { name = n; value = None }))) (λ e. record { reads = cfg_reads_itself _ ∙ rw e refl; exact = refl })
atom_cfg n (Some value) =
    mapped (name_data n) _ (Holds identifier_form n) (CfgHolds (condition.atom (record { name = n; value = Some value }))) (name_law n)
    (λ d h. record { reads = cfg_reads_itself _ ∙ rw (h.there, h.reads) refl; exact = rw h.exact refl })

mutual
  unfolding field

  pub cfg_law : (c : CfgView) → IfSome (cfg_data c) (CfgHolds c)
  cfg_law invalid = record { reads = cfg_reads_itself _; exact = refl }
  cfg_law (condition.atom a) = atom_cfg a.name a.value
  cfg_law (all_of cs) =
      mapped (cfgs_data cs) _ (HoldAll cfg cfgs_from cs) (CfgHolds (all_of cs)) (cfgs_law cs)
      (λ ds h. record { reads = cfg_reads_itself _ ∙ rw (h.each.reads 0) (ap (λ x. right (all_of x)) h.made); exact = rw h.each.exact refl })
  cfg_law (any_of cs) =
      mapped (cfgs_data cs) _ (HoldAll cfg cfgs_from cs) (CfgHolds (any_of cs)) (cfgs_law cs)
      (λ ds h. record { reads = cfg_reads_itself _ ∙ rw (h.each.reads 0) (ap (λ x. right (any_of x)) h.made); exact = rw h.each.exact refl })
  cfg_law (not_of c) =
      mapped (cfg_data c) _ (CfgHolds c) (CfgHolds (not_of c)) (cfg_law c)
      (λ d h. record { reads = cfg_reads_itself _ ∙ rw h.reads refl; exact = rw h.exact refl })

  cfgs_law : (cs : CfgViews) → IfSome (cfgs_data cs) (HoldAll cfg cfgs_from cs)
  cfgs_law no_cfgs = none_of cfg cfgs_from
  cfgs_law (cfg_and c cs) =
      next_of cfg cfgs_from cfg_and c cs (cfg_data c) (cfgs_data cs) (CfgHolds c) (λ all. refl) (cfg_law c) (λ d h. h.reads) (λ d h. h.exact) (cfgs_law cs)
