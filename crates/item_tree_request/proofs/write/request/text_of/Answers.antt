-- a text of what nests at most 127 deep
use Rattle.std.proofs.Common.{rules, string_bytes}
use Rattle.std.proofs.lemmas.Str.{IsUtf8-string_bytes}
use Rattle.serde_json.specs.View.{view}
use Rattle.item_tree_request.proofs.Writing.Texts.{json_text, too_deep}
use Rattle.item_tree_request.proofs.write.request.text_of.Goals as goal

pub returns : goal.returns
returns c =
    json_text (view c.args.value.now) (string_bytes c.in_ok-to_string.field-0) c.nests_past.result c.nests_past.ensures (search rules) c.in_ok-to_string.ensures.reads_back (IsUtf8-string_bytes c.in_ok-to_string.field-0)

pub returns-then-nests_past : goal.returns-then-nests_past
returns-then-nests_past c = too_deep (view c.args.value.now) c.nests_past.result c.nests_past.ensures (search rules)
