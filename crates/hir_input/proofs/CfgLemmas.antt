-- The equations of a condition's plain data, of its text and of its truth.
use Rattle.std.proofs.Common.{◌≡◌, ℕ, ◌<◌, List, [], ◌∷◌, ◌++◌, map, codes, Vec, Global, ap, refl, length, arith}
use Rattle.hir_input.proofs.Common.{common_steps, flat_map-append, AtomView, all_of, any_of, cfgs_from, cfg_view, by_commas, shown_cfg, shown_cfgs, truth, truths, CfgExpr, the_lemmas}
use Rattle.hir_input.specs.declared.cfg.CfgExpr.TheVariants.{All, Any}

-- ---- plain data

pub cfg_view-All : (members : Vec CfgExpr Global) → cfg_view (All members) ≡ all_of (cfgs_from (map cfg_view members.items))
cfg_view-All members = simp the_lemmas

pub cfg_view-Any : (members : Vec CfgExpr Global) → cfg_view (Any members) ≡ any_of (cfgs_from (map cfg_view members.items))
cfg_view-Any members = simp the_lemmas

pub ruleset cfg_views = (the_lemmas, cfg_view-All, cfg_view-Any)

-- ---- texts

pub shown_cfgs-from : (cs : List CfgExpr) → shown_cfgs (cfgs_from (map cfg_view cs)) ≡ map (λ c. shown_cfg (cfg_view c)) cs
unfolding shown_cfg shown_cfgs
shown_cfgs-from [] = refl
shown_cfgs-from (c ∷ cs) = ap (λ ts. shown_cfg (cfg_view c) ∷ ts) (shown_cfgs-from cs)

-- one more text behind others
pub by_commas-push : (ts : List (List ℕ)) (t : List ℕ) → 0 < length ts → by_commas (ts ++ t ∷ []) ≡ by_commas ts ++ (codes ", " ++ t)
by_commas-push [] t h = absurd (omega arith)
by_commas-push (u ∷ ts) t h = grind (arith, common_steps, flat_map-append)

pub ruleset cfg_texts = (cfg_views, shown_cfgs-from, by_commas-push)

-- ---- truth

pub truths-from : (set : List AtomView) (cs : List CfgExpr) → truths set (cfgs_from (map cfg_view cs)) ≡ map (λ c. truth set (cfg_view c)) cs
unfolding truth truths
truths-from set [] = refl
truths-from set (c ∷ cs) = ap (λ ts. truth set (cfg_view c) ∷ ts) (truths-from set cs)

pub ruleset cfg_truths = (cfg_views, truths-from)
