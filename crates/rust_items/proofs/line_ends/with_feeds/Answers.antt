use Rattle.std.proofs.Common.{◌≡◌, rules, sym, subst, ap, ◌∙◌, arith, length, List, ℕ, Some, lit<, string_bytes}
use Rattle.rust_items.proofs.Common.{IsNonDecreasing, split_parts, with_feeds, returns_from}
use Rattle.rust_items.proofs.LineEnds.{feeds_turn, returns_turn, no_return, ended, returns_rise, returns_count}
use Rattle.rust_items.proofs.line_ends.with_feeds.Goals as goal

pub returns-preserved : goal.returns-preserved
returns-preserved c =
    let left = c.returns.left.now in
    let front = c.in-Some.front.now in
    let behind = c.in-Some.behind.now in
    let done = string_bytes c.returns.feeds in
    let mid = string_bytes c.push_str.new.self in
    let next = string_bytes c.push_return.new.feeds in
    let parts = split_parts 13 left (Some (c.in-Some.front, c.in-Some.behind)) c.in-Some.ensures.cases (lit< tt) in
    record {
      utf8 = search rules;
      feeds = feeds_turn left front behind done mid next (with_feeds c.args.text.now) parts.0 parts.1 c.in_ok-push_str.ensures.bytes c.in_ok-push_return.ensures.feeds c.returns.invariant.feeds;
      returns = returns_turn left front behind done mid next c.returns.returns.items c.push_return.new.returns.items (returns_from 0 c.args.text.now) parts.0 parts.1
          c.in_ok-push_str.ensures.bytes c.in_ok-push_return.ensures.feeds c.in_ok-push_return.ensures.returns c.returns.invariant.returns;
    }

pub invariant_of-result : goal.invariant_of-result
invariant_of-result c =
    let text = c.args.text.now in
    let lacks = no_return c.returns.left.now c.in_default.ensures.cases in
    let done = string_bytes c.returns.feeds in
    let e = ended text c.returns.left.now done c.returns.returns.items (length done) lacks c.returns.invariant.feeds c.returns.invariant.returns in
    let len : length c.as_str-len.result.now ≡ length (with_feeds text) = ap length (c.as_str-len.ensures.value ∙ c.in_ok-push_str-2.ensures.bytes ∙ e.0) in
    let count : length c.returns.returns.items ≡ length (returns_from 0 text) = ap length e.1 in
    record {
      rising = subst (λ (l : List ℕ). IsNonDecreasing l) (sym e.1) (returns_rise 0 text);
      fits = omega (arith, len, count, returns_count 0 text);
    }

pub returns-clause-feeds : goal.returns-clause-feeds
returns-clause-feeds c =
    let lacks = no_return c.returns.left.now c.in_default.ensures.cases in
    let done = string_bytes c.returns.feeds in
    c.in_ok-push_str-2.ensures.bytes
    ∙ (ended c.args.text.now c.returns.left.now done c.returns.returns.items (length done) lacks c.returns.invariant.feeds c.returns.invariant.returns).0

pub returns-clause-len : goal.returns-clause-len
returns-clause-len c =
    let lacks = no_return c.returns.left.now c.in_default.ensures.cases in
    let done = string_bytes c.returns.feeds in
    ap length (c.as_str-len.ensures.value ∙ c.in_ok-push_str-2.ensures.bytes
    ∙ (ended c.args.text.now c.returns.left.now done c.returns.returns.items (length done) lacks c.returns.invariant.feeds c.returns.invariant.returns).0)

pub returns-clause-returns : goal.returns-clause-returns
returns-clause-returns c =
    let lacks = no_return c.returns.left.now c.in_default.ensures.cases in
    let done = string_bytes c.returns.feeds in
    (ended c.args.text.now c.returns.left.now done c.returns.returns.items (length done) lacks c.returns.invariant.feeds c.returns.invariant.returns).1
