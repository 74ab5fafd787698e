use Rattle.item_tree.proofs.items.Use.expand.Goals as goal

pub expand_tree-requires-clause-calls : goal.expand_tree-requires-clause-calls
expand_tree-requires-clause-calls g c = rw c.use_tree.ensures.value c.requires

pub returns-clause-called : goal.returns-clause-called
returns-clause-called g c = rw (← c.use_tree.ensures.value) c.expand_tree.ensures.called
