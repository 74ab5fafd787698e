use Rattle.std.proofs.Common.{◌<◌, cond, [], ◌∷◌, ◌++◌, length, arith, refl, ap, ◌∙◌, subst}
use Rattle.item_tree.proofs.Common.{visibility_limit}
use Rattle.item_tree.proofs.Arena.{inserted-met, inserted-id, inserted-fits}
use Rattle.item_tree.proofs.VisibilityEq.{any_raw, place_raw}
use Rattle.item_tree.proofs.rows.Rows.alloc_visibility.Goals as goal

pub returns-else-place-clause-met : goal.returns-else-place-clause-met
returns-else-place-clause-met c =
    let k = c.in_ok-place-in-Module in
    let m = c.in-Module in
    let xs = c.args.self.now.arena in
    let ys = c.insert.new.self in
    let v = c.args.visibility in
    let keys = k.ensures.keys ∙ ap (λ b. cond b xs (xs ++ v ∷ [])) (any_raw v xs) in
    let index = k.ensures.index ∙ place_raw v xs in
    record {
      met = inserted-met xs ys v m.field-0 m.field-1 m.is keys;
      given = c.from_number-in-Module.ensures ∙ index ∙ inserted-id xs ys v m.field-0 m.field-1 m.is keys;
      kept = refl;
      within = record {
        items = c.requires.items;
        column = c.requires.column;
        visibilities = inserted-fits xs ys v visibility_limit keys (subst (λ z. z < visibility_limit) index c.if-place.false) c.requires.visibilities;
      };
    }

pub returns-then-place-clause-fault : goal.returns-then-place-clause-fault
returns-then-place-clause-fault c =
    let k = c.in_ok-place-in-Module in
    let xs = c.args.self.now.arena in
    let v = c.args.visibility in
    let met = inserted-met xs c.insert.new.self v c.in-Module.field-0 c.in-Module.field-1 c.in-Module.is (k.ensures.keys ∙ ap (λ b. cond b xs (xs ++ v ∷ [])) (any_raw v xs)) in
    omega (arith, ap length met, k.ensures.within, c.if-place.true)
