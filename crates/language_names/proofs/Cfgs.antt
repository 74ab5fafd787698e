-- Conditions with an atom that is not known.
use Rattle.std.proofs.Common.{◌≡◌, ℕ, ◌||◌, List, [], ◌∷◌, map, nat_eq, String, Global, string_bytes, refl, ap}
use Rattle.std.specs.{List.list_any, Cmp.Lexicographic.pointwise}
use Rattle.hir_input.specs.Name.{is_among}
use Rattle.hir_input.specs.Cfg.{cfgs_from, cfg_view}
use Rattle.hir_input.specs.declared.cfg.CfgExpr.{CfgExpr}
use Rattle.language_names.specs.LanguageNames.{has_unknown, have_unknown}

pub unknown_members : (features : List (List ℕ)) (cs : List CfgExpr) → have_unknown features (cfgs_from (map cfg_view cs)) ≡ list_any (λ c. has_unknown features (cfg_view c)) cs
unknown_members features [] = refl
unknown_members features (c ∷ cs) = ap (λ b. has_unknown features (cfg_view c) || b) (unknown_members features cs)

pub among_texts : (texts : List (String Global)) (value : List ℕ) → is_among (map string_bytes texts) value ≡ list_any (λ text. pointwise nat_eq (string_bytes text) value) texts
among_texts [] value = refl
among_texts (t ∷ ts) value = ap (λ b. pointwise nat_eq (string_bytes t) value || b) (among_texts ts value)
