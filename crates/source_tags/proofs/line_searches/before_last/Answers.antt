use Rattle.std.proofs.lemmas.Str.Pattern.{strip_suffix_char}
use Rattle.source_tags.proofs.Searches.{before_last_is}
use Rattle.source_tags.proofs.line_searches.before_last.Goals as goal

pub returns : goal.returns
returns c =
    let byte = c.args.byte in
    let text = c.args.text.now in
    before_last_is byte text c.strip_suffix.result (strip_suffix_char byte text c.strip_suffix.result c.strip_suffix.ensures.cases c.requires)
