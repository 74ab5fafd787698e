-- what a text of the value is
use Rattle.serde_json.specs.View.{view}
use Rattle.item_tree_request.proofs.Writing.Texts.{asked_for, refused_for}
use Rattle.item_tree_request.proofs.write.request.request_text.Goals as goal

pub returns-clause-reads : goal.returns-clause-reads
returns-clause-reads c = asked_for c.text_of.result (view c.in_ok-value.value) _ c.text_of.ensures c.in_ok-value.ensures.reads

pub returns-clause-refused : goal.returns-clause-refused
returns-clause-refused c = refused_for c.text_of.result (view c.in_ok-value.value) _ c.text_of.ensures c.in_ok-value.ensures.written
