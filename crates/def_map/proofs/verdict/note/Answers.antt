use Rattle.std.proofs.Common.{◌≡◌, ◌<◌, Some, length, set, refl, sym, subst, arith}
use Rattle.def_map.specs.Found.{Notes}
use Rattle.def_map.proofs.Noting.{notes_some}
use Rattle.def_map.proofs.verdict.note.Goals as goal

pub returns : goal.returns
returns c =
    let low : c.in-Some.number < length c.args.leads.now.items = omega (arith, c.in-Some-get_mut.ensures.variant.0 refl, c.args.leads.now.ok.0) in
    let is : c.args.said ≡ Some (c.in-Some.number, c.in-Some.lead) = c.in-Some.is in
    subst (λ said. Notes said c.args.leads.now.items (set c.args.leads.now.items c.in-Some.number c.join.result)) (sym is)
    (notes_some c.in-Some.number c.in-Some.lead c.args.leads.now.items c.in-Some-get_mut.old.now c.join.result low c.in-Some-get_mut.ensures.value c.join.ensures)
