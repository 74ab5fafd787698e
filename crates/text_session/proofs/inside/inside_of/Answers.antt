use Rattle.std.proofs.Common.{◌≡◌, None, IfSome, arith, length, rules, string_bytes, sym, ap, subst, ◌∙◌}
use Rattle.text_session.proofs.Common.{PlacesAreKept, ReadsMoved, change_fault, nat_tests}
use Rattle.text_session.proofs.inside.inside_of.Goals as goal

pub returns : goal.returns
returns c =
    let text = c.args.text.now in
    let range = c.args.range in
    let typed = c.args.typed.now in
    let faultless : length text.problems.items ≡ 0 = grind (arith, nat_tests, c.is_empty.ensures, c.if-not-is_empty.false, text.problems.ok.0) in
    let none : c.fault.result ≡ None = search rules in
    let reads = subst (λ f. IfSome f (ReadsMoved c.deref-2.result.now c.deref-3.result.now range typed)) c.in-Some.is c.in_ok-edit.ensures.reads in
    let keeps = subst (λ f. IfSome f (λ e. PlacesAreKept c.deref-2.result.now c.deref-3.result.now range typed e.shift)) c.in-Some.is c.in_ok-edit.ensures.keeps in
    record {
      faultless = faultless;
      fits = ap (λ t. change_fault t range typed) (sym c.deref.ensures) ∙ sym c.fault.ensures ∙ none;
      keeps = search rules;
      reads = subst (λ ps. ReadsMoved ps (string_bytes text.text) range typed c.in-Some.edit) c.deref-2.ensures.value (subst (λ t. ReadsMoved c.deref-2.result.now t range typed c.in-Some.edit) c.deref-3.ensures reads);
      places = subst (λ ps. PlacesAreKept ps (string_bytes text.text) range typed c.in-Some.edit.shift) c.deref-2.ensures.value (subst (λ t. PlacesAreKept c.deref-2.result.now t range typed c.in-Some.edit.shift) c.deref-3.ensures keeps);
      room = c.in_ok-made.ensures;
    }
