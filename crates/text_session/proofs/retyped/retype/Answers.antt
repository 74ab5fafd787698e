use Rattle.std.proofs.Common.{◌≡◌, Some, refl, sym, ap, subst, ◌∙◌, IsSome}
use Rattle.text_session.proofs.Common.{option_and_then, option_copied_mut, IsRetypedIf, slot_in, text_in}
use Rattle.text_session.proofs.retyped.retype.Goals as goal

pub returns-in-Some-clause-here : goal.returns-in-Some-clause-here
returns-in-Some-clause-here c =
    let slot = c.in-Some.slot.now in
    let put = c.retype_slot.new.slot in
    let had : slot_in c.args.texts.now.entries c.args.file ≡ Some slot = sym c.get_mut.ensures.value ∙ ap option_copied_mut c.in-Some.is in
    let has = (c.get_mut.follows.holds put).3 (subst IsSome (sym had) refl) in
    let old : text_in c.args.texts.now.entries c.args.file ≡ slot = ap (option_and_then (λ t. t)) had in
    let new = ap (option_and_then (λ t. t)) has.1 in
    subst (λ t. IsRetypedIf c.args.range c.args.typed.now c.args.shift.now t (text_in (c.get_mut.follows.lender put).entries c.args.file)) (sym old)
    (subst (IsRetypedIf c.args.range c.args.typed.now c.args.shift.now slot) (sym new) c.retype_slot.ensures)
