use Rattle.std.proofs.Common.{length, subst, sym, take}
use Rattle.std.proofs.lemmas.List.{take_all, take_more}
use Rattle.def_map.specs.Found.{AreLeadsKnown, Notes}
use Rattle.def_map.proofs.Noting.{known_more}
use Rattle.def_map.proofs.verdict.leads.Goals as goal

pub loop-fact-preserved : goal.loop-fact-preserved
loop-fact-preserved c =
    subst (λ xs. AreLeadsKnown c.args.table.now (length c.args.table.now.imports.items) xs c.note.new.leads.items) (sym (take_more c.args.facts.now c.loop-fact.fact-index _ c.loop-fact-test.true))
    (known_more c.args.table.now (length c.args.table.now.imports.items) (take c.loop-fact.fact-index c.args.facts.now) _ c.loop-fact.leads.items _ c.loop-fact.invariant
    (subst (λ said. Notes said c.loop-fact.leads.items c.note.new.leads.items) c.lead_by.ensures c.note.ensures))

pub returns : goal.returns
returns c = subst (λ xs. AreLeadsKnown c.args.table.now (length c.args.table.now.imports.items) xs c.loop-fact.leads.items) (take_all c.loop-fact.fact-index c.args.facts.now c.loop-fact-test.false) c.loop-fact.invariant
