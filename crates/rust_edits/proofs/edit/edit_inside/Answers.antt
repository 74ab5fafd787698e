use Rattle.std.proofs.Common.{rules, length, subst, ◌<◌, ◌^◌, ◌≡◌, ◌++◌, true, Option, Some, ◌↔◌, IsSome}
use Rattle.rust_edits.proofs.Common.{with_feeds, has_body_at, Shift, begins_bare, body_about, MayEdit, in_braces, is_alone, loose_inside, same_loose, AreCut, IsShift}
use Rattle.rust_edits.specs.declared.edit.BodyEdit.{BodyEdit}
use Rattle.rust_edits.proofs.Moves.{edit_shifts, edit_reads, edit_keeps, loose_kept, kept_loose}
use Rattle.rust_edits.proofs.Steps.{off}
use Rattle.rust_edits.proofs.ToldEdits.{none_told, not_stood, not_stands, all_told, loose_told, shift_told}
use Rattle.rust_edits.proofs.edit.edit_inside.Goals as goal

pub returns : goal.returns
returns c =
    let old = c.args.old.now in
    let typed = c.args.typed.now in
    let items = c.args.items.now in
    let range = c.args.range in
    let body = c.in-Some.body in
    let p = c.in-Some-parts_of.parts in
    let shift = c.in-Some-shift_of.shift in
    let keeps = c.is_same.result in
    let bare : begins_bare old ≡ true = search rules in
    let told : has_body_at body.start items ≡ true = search rules in
    let parts : AreCut old body range p = search rules in
    let alone : is_alone (with_feeds (in_braces (p.front.now ++ (p.replaced.now ++ p.back.now)))) ≡ true = search rules in
    let alone_new : is_alone (with_feeds (in_braces (p.front.now ++ (typed ++ p.back.now)))) ≡ true = search rules in
    let small : length old < 2 ^ 63 = search rules in
    let small_typed : length typed < 2 ^ 63 = search rules in
    let moves : IsShift body range (length typed) (length p.back.now) shift = search rules in
    let counted : keeps ≡ same_loose (loose_inside (with_feeds (in_braces (p.front.now ++ (p.replaced.now ++ p.back.now))))) (loose_inside (with_feeds (in_braces (p.front.now ++ (typed ++ p.back.now))))) = search rules in
    record {
      shifts = edit_shifts old typed items body range p shift bare told parts c.utf8.typed alone alone_new moves keeps counted;
      reads = edit_reads old typed items body range p shift bare told parts c.utf8.typed alone alone_new moves keeps counted;
      keeps = edit_keeps old typed items body range p shift bare told parts c.utf8.typed alone alone_new moves small small_typed;
      told = λ ordered.
          let about : Some body ≡ body_about range.start items = search (rules, c.body_about.ensures.told ordered) in
          subst (λ (o : Option Shift). IsSome o ↔ MayEdit items old range typed) c.in-Some-shift_of.is
          (all_told items old typed range body about p parts c.shift_of.result c.shift_of.ensures.told small small_typed bare c.utf8.typed alone alone_new);
      loose = λ ordered.
          loose_told items old typed range body (search (rules, c.body_about.ensures.told ordered)) p parts keeps
          (loose_kept old typed items body range p shift bare told parts c.utf8.typed alone alone_new moves keeps counted)
          (kept_loose old typed items body range p shift bare told parts c.utf8.typed alone alone_new moves keeps counted);
      braces = λ ordered. shift_told items old typed range body (search (rules, c.body_about.ensures.told ordered)) p parts shift moves;
    }

pub returns-in_default-2-clause-told : goal.returns-in_default-2-clause-told
returns-in_default-2-clause-told c =
    λ ordered.
    none_told BodyEdit (MayEdit c.args.items.now c.args.old.now c.args.range c.args.typed.now)
    (not_stood c.args.items.now c.args.old.now c.args.typed.now c.args.range c.in-Some.body (search (rules, c.body_about.ensures.told ordered)) c.in-Some-parts_of.parts (search rules) (search rules))

pub returns-in_default-3-clause-told : goal.returns-in_default-3-clause-told
returns-in_default-3-clause-told c =
    λ ordered.
    none_told BodyEdit (MayEdit c.args.items.now c.args.old.now c.args.range c.args.typed.now)
    (not_stands c.args.items.now c.args.old.now c.args.typed.now c.args.range c.in-Some.body (search (rules, c.body_about.ensures.told ordered)) c.in-Some-parts_of.parts (search rules) (search rules))

pub returns-in_default-shift_of-clause-told : goal.returns-in_default-shift_of-clause-told
returns-in_default-shift_of-clause-told c =
    let may = MayEdit c.args.items.now c.args.old.now c.args.range c.args.typed.now in
    λ ordered.
    none_told BodyEdit may (off c.shift_of.result may
    (all_told c.args.items.now c.args.old.now c.args.typed.now c.args.range c.in-Some.body (search (rules, c.body_about.ensures.told ordered)) c.in-Some-parts_of.parts (search rules)
    c.shift_of.result c.shift_of.ensures.told (search rules) (search rules) (search rules) c.utf8.typed (search rules) (search rules)) c.in_default-shift_of.is)
