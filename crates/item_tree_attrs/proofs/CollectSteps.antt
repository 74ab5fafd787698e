-- The steps of collecting.
use Rattle.std.proofs.Common.{◌≡◌, ℕ, ◌+◌, ◌<◌, false, List, [], ◌∷◌, ◌++◌, length, get_or, drop, map, Option, None, Some, option_map, Vec, Global, Bor, refl, sym, ap, ◌∙◌, append_assoc, flat_map}
use Rattle.std.proofs.lemmas.List.{drop_more}
use Rattle.hir_input.specs.declared.{attr.Attr.Attr, attr.Meta.Meta, attr.Meta.TheVariants.CfgAttr, cfg.CfgExpr.CfgExpr}
use Rattle.hir_input.specs.{Attr.MetaView, Attr.metas_from, Attr.meta_view, Cfg.AtomView, Cfg.CfgView, Cfg.cfg_view, Cfg.truth}
use Rattle.hir_input.proofs.MetaLemmas.{meta_view-CfgAttr}
use Rattle.item_tree_attrs.specs.Collected.{Collected, events, events_in, is_false, cut_events, collected_from, join}
use Rattle.item_tree_attrs.specs.Inner.Collecting.{AddsCollected}
use Rattle.item_tree_attrs.proofs.Cutting.{made, cut-append}

-- the attributes that are there, and the cfg that was met
abbrev pub found_so_far : List Attr → Option (Bor CfgExpr) → Collected
found_so_far attrs met = made attrs (option_map (λ cfg. cfg_view cfg.now) met)

join-behind : (mid xs : List Attr) (o : Option CfgView) (d : Collected) → join (join (made mid None) (made xs o)) d ≡ join (made mid None) (join (made xs o) d)
join-behind mid xs None d = ap (λ attrs. made attrs d.false_cfg) (append_assoc mid xs d.attrs)
join-behind mid xs (Some c) d = refl

-- ---- a `cfg_attr` that is not false

module _ (options : List AtomView) (skipped : List (List ℕ)) where
  events_in-from : (ms : List MetaView) → events_in options skipped (metas_from ms) ≡ flat_map (events options skipped) ms
  events_in-from [] = refl
  events_in-from (m ∷ ms) = ap (λ es. events options skipped m ++ es) (events_in-from ms)

  pub cut-CfgAttr : (condition : CfgExpr) (metas : Vec Meta Global) → is_false (truth options (cfg_view condition)) ≡ false
      → cut_events (events options skipped (meta_view (CfgAttr condition metas))) ≡ collected_from options skipped (map meta_view metas.items)
  cut-CfgAttr condition metas kept = rw (meta_view-CfgAttr condition metas) (rw kept (ap cut_events (events_in-from (map meta_view metas.items))))

  -- ---- one more meta of a list

  -- what one meta collects
  abbrev pub collected_by : Meta → Collected
  collected_by m = cut_events (events options skipped (meta_view m))

  -- what is collected from a position on
  abbrev pub collected_at : List Meta → ℕ → Collected
  collected_at ms i = collected_from options skipped (map meta_view (drop i ms))

  collected_at-more : (ms : List Meta) (i : ℕ) (m : Meta) → i < length ms → m ≡ get_or ms i m → collected_at ms i ≡ join (collected_by m) (collected_at ms (i + 1))
  collected_at-more ms i m h e =
      ap (λ xs. collected_from options skipped (map meta_view xs)) (drop_more ms i m h ∙ ap (λ x. x ∷ drop (i + 1) ms) (sym e))
      ∙ cut-append (events options skipped (meta_view m)) (flat_map (events options skipped) (map meta_view (drop (i + 1) ms)))

  -- what one more meta added stands behind what was there, and what the rest collects behind it
  pub Adds-more : (ms : List Meta) (i : ℕ) (m : Meta) (mid new : List Attr) (met : Option (Bor CfgExpr)) → i < length ms → m ≡ get_or ms i m → AddsCollected mid new met (collected_by m)
      → join (found_so_far new met) (collected_at ms (i + 1)) ≡ join (found_so_far mid None) (collected_at ms i)
  Adds-more ms i m mid new met h e added =
      let one = collected_by m in
      let rest = collected_at ms (i + 1) in
      ap (λ c. join c rest) (λ k. made (added.attrs k) (added.false_cfg k))
      ∙ join-behind mid one.attrs one.false_cfg rest
      ∙ ap (join (found_so_far mid None)) (sym (collected_at-more ms i m h e))
