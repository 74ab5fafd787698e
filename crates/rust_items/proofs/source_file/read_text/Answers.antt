use Rattle.std.proofs.Common.{rules, ◌≡◌, length}
use Rattle.rust_items.proofs.Common.{with_feeds, returns_from}
use Rattle.rust_items.proofs.BareFiles.{same_reading}
use Rattle.rust_items.proofs.source_file.read_text.Goals as goal

pub returns-then-not-has_return : goal.returns-then-not-has_return
returns-then-not-has_return c =
    let text = c.args.text.now in
    let ends = c.none-ends.result in
    let feeds : text ≡ with_feeds text = search rules in
    let len : ends.len ≡ length (with_feeds text) = search rules in
    let returns : ends.returns.items ≡ returns_from 0 text = search rules in
    same_reading c.args.wanted c.args.edition text text ends.len ends.returns.items c.reading_of.result feeds len returns c.reading_of.ensures

pub returns : goal.returns
returns c =
    let text = c.args.text.now in
    let ends = c.in_ok-feeds.ends in
    let feeds : c.deref.result.now ≡ with_feeds text = search rules in
    let len : ends.len ≡ length (with_feeds text) = search rules in
    let returns : ends.returns.items ≡ returns_from 0 text = search rules in
    same_reading c.args.wanted c.args.edition text c.deref.result.now ends.len ends.returns.items c.reading_of-2.result feeds len returns c.reading_of-2.ensures
