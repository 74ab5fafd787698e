use Rattle.std.proofs.Common.{◌≡◌, ℕ, ◌<◌, ◌≤◌, List, length, map, Some, slice_get, sym, ap, subst, ◌∙◌, option_map}
use Rattle.item_tree_db.proofs.Common.{AtomView, CrateView, crate_view, SetCfg, UnlessMemory, change_at, PlacesPass, State, crate_limit, with_cfg, state_of, IsSound}
use Rattle.item_tree_db.specs.declared.edit.EditRefused.{EditRefused}
use Rattle.item_tree_db.proofs.Crates.{given_here, given_back, given_options}
use Rattle.item_tree_db.proofs.Steps.{cfg_brought, cfg_refused}
use Rattle.item_tree_db.proofs.sources.Sources.set_cfg.Goals as goal

pub invariant_of-self : goal.invariant_of-self
invariant_of-self c =
    let i = c.self.inside in
    let made = (cfg_brought i.crates.items i.skipped.items i.start i.number i.places c.recast.new.self c.args.self.now c.self.invariant.sound c.self.view_is c.args.krate c.args.options c.swap_options.new.crates.items c.index.result.now c.index.ensures c.requires.known c.swap_options.ensures.count c.swap_options.ensures.swapped _ c.deref.ensures.value c.in-Ok.fresh.items c.in-Ok.ensures.fresh c.in-Ok.ensures.in_order c.in-Ok.ensures.fits c.recast.ensures).0 in
    record { few = subst (λ (m : ℕ). m ≤ crate_limit) (sym c.swap_options.ensures.count) c.self.invariant.few; sound = made.sound; empty = c.self.invariant.empty }

pub returns-in-Ok : goal.returns-in-Ok
returns-in-Ok c =
    let i = c.self.inside in
    let brought = cfg_brought i.crates.items i.skipped.items i.start i.number i.places c.recast.new.self c.args.self.now c.self.invariant.sound c.self.view_is c.args.krate c.args.options c.swap_options.new.crates.items c.index.result.now c.index.ensures c.requires.known c.swap_options.ensures.count c.swap_options.ensures.swapped _ c.deref.ensures.value c.in-Ok.fresh.items c.in-Ok.ensures.fresh c.in-Ok.ensures.in_order c.in-Ok.ensures.fits c.recast.ensures in
    record { ok = brought.0.after; fits = brought.1; err = tt; returned = tt; cause = tt; not_full = tt }

pub invariant_of-self-in-Err : goal.invariant_of-self-in-Err
invariant_of-self-in-Err c =
    let i = c.self.inside in
    let k = c.args.krate.0 in
    let old = c.swap_options.new.options in
    let back = c.swap_options-in-Err.ensures.swapped ∙ ap (change_at k (with_cfg old)) c.swap_options.ensures.swapped ∙ given_back c.args.options old k (map crate_view i.crates.items) c.swap_options.ensures.before in
    record {
      few = subst (λ (m : ℕ). m ≤ crate_limit) (sym (c.swap_options-in-Err.ensures.count ∙ c.swap_options.ensures.count)) c.self.invariant.few;
      sound = subst (λ (l : List CrateView). IsSound (record { crates = l; skipped = i.skipped.items; start = i.start; number = i.number; places = i.places })) (sym back) c.self.invariant.sound;
      empty = c.self.invariant.empty;
    }

pub returns-in-Err-clause-err : goal.returns-in-Err-clause-err
returns-in-Err-clause-err c =
    let i = c.self.inside in
    let k = c.args.krate.0 in
    let old = c.swap_options.new.options in
    let back = c.swap_options-in-Err.ensures.swapped ∙ ap (change_at k (with_cfg old)) c.swap_options.ensures.swapped ∙ given_back c.args.options old k (map crate_view i.crates.items) c.swap_options.ensures.before in
    (λ j. state_of (record { crates = back j; skipped = i.skipped.items; start = i.start; number = i.number; places = i.places })) ∙ c.self.view_is

pub returns-in-Err-clause-returned : goal.returns-in-Err-clause-returned
returns-in-Err-clause-returned c =
    let k = c.args.krate.0 in
    let now = c.swap_options-in-Err.new.options in
    let had = subst (λ (l : List CrateView). option_map (λ (x : CrateView). x.options) (slice_get l k) ≡ Some now) c.swap_options.ensures.swapped c.swap_options-in-Err.ensures.before in
    ap (λ (r : EditRefused). r.edit) c.by.ensures ∙ ap (λ (o : List AtomView). SetCfg c.args.krate o) (given_options c.args.options now k (map crate_view c.self.inside.crates.items) had)

pub returns-in-Err-clause-cause : goal.returns-in-Err-clause-cause
returns-in-Err-clause-cause c =
    let i = c.self.inside in
    let k = c.args.krate in
    let krate = crate_view c.index.result.now in
    let at = given_here c.args.options i.crates.items c.swap_options.new.crates.items k.0 c.index.result.now c.index.ensures (subst (λ (z : State). k.0 < length z.crates) (sym c.self.view_is) c.requires.known) c.swap_options.ensures.count c.swap_options.ensures.swapped in
    let now = c.swap_options-in-Err.new.options in
    let had = subst (λ (l : List CrateView). option_map (λ (x : CrateView). x.options) (slice_get l k.0) ≡ Some now) c.swap_options.ensures.swapped c.swap_options-in-Err.ensures.before in
    let passes = subst (λ (names : List (List ℕ)). UnlessMemory (PlacesPass names (Some krate) i.places) c.in-Err.cause) c.deref.ensures.value c.in-Err.ensures.refused in
    rw (c.by.ensures, given_options c.args.options now k.0 (map crate_view i.crates.items) had)
    (cfg_refused i.crates.items i.skipped.items i.start i.number i.places i.places c.args.self.now c.self.invariant.sound c.self.view_is k c.args.options krate at c.in-Err.cause passes)
