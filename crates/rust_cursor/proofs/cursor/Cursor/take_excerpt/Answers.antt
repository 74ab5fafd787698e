use Rattle.std.proofs.Common.{sym, ◌∙◌, arith, string_bytes}
use Rattle.rust_cursor.proofs.Common.{more, excerpt_behind}
use Rattle.rust_cursor.proofs.Nesting.{fewer, room, counted_on}
use Rattle.rust_cursor.proofs.Scans.{taking_some}
use Rattle.rust_cursor.proofs.UnkeptTexts.{clipped_turn, clipped_last, text_kept}
use Rattle.rust_cursor.proofs.cursor.Cursor.take_excerpt.Goals as goal

pub nest_behind-requires : goal.nest_behind-requires
nest_behind-requires c =
    room c.tokens.nest c.tokens.self (taking_some c.args.extent c.tokens.nest c.tokens.self (sym c.stops.ensures ∙ c.tokens-test.true)) c.tokens.invariant.counted

pub take_inside-requires-clause-braces : goal.take_inside-requires-clause-braces
take_inside-requires-clause-braces c =
    let some = taking_some c.args.extent c.tokens.nest c.tokens.self (sym c.stops.ensures ∙ c.tokens-test.true) in
    let less = fewer c.tokens.nest c.nest_behind.new.nest c.tokens.self c.bump_symbol-last.new.self some c.nest_behind.ensures c.bump_symbol-last.ensures.rest in
    omega (arith, less.braces, c.tokens.invariant.counted.braces)

pub take_inside-requires-clause-inner : goal.take_inside-requires-clause-inner
take_inside-requires-clause-inner c =
    let some = taking_some c.args.extent c.tokens.nest c.tokens.self (sym c.stops.ensures ∙ c.tokens-test.true) in
    let less = fewer c.tokens.nest c.nest_behind.new.nest c.tokens.self c.bump_symbol-last.new.self some c.nest_behind.ensures c.bump_symbol-last.ensures.rest in
    omega (arith, less.inner, c.tokens.invariant.counted.inner)

pub tokens-smaller : goal.tokens-smaller
tokens-smaller c =
    let some = taking_some c.args.extent c.tokens.nest c.tokens.self (sym c.stops.ensures ∙ c.tokens-test.true) in
    let less = fewer c.tokens.nest c.nest_behind.new.nest c.tokens.self c.bump_symbol-last.new.self some c.nest_behind.ensures c.bump_symbol-last.ensures.rest in
    omega (arith, less.left)

pub tokens-smaller-in-Continue-branch-2 : goal.tokens-smaller-in-Continue-branch-2
tokens-smaller-in-Continue-branch-2 c =
    let some = taking_some c.args.extent c.tokens.nest c.tokens.self (sym c.stops.ensures ∙ c.tokens-test.true) in
    let less = fewer c.tokens.nest c.nest_behind.new.nest c.tokens.self c.bump_symbol-last.new.self some c.nest_behind.ensures c.bump_symbol-last.ensures.rest in
    omega (arith, less.left, c.in_ok-take_inside.ensures.left)

pub tokens-preserved : goal.tokens-preserved
tokens-preserved c =
    let some = taking_some c.args.extent c.tokens.nest c.tokens.self (sym c.stops.ensures ∙ c.tokens-test.true) in
    let less = fewer c.tokens.nest c.nest_behind.new.nest c.tokens.self c.bump_symbol-last.new.self some c.nest_behind.ensures c.bump_symbol-last.ensures.rest in
    record {
      same = clipped_turn c.args.keeps_text c.args.extent (string_bytes c.tokens.text) (string_bytes c.push_text.new.text) c.tokens.last c.bump_symbol-last.result c.tokens.opened c.note_opened.new.opened c.tokens.nest c.nest_behind.new.nest c.is_mark-is_call.result c.tokens.self c.bump_symbol-last.new.self (excerpt_behind c.args.before c.args.extent c.args.self.now)
          (sym c.stops.ensures ∙ c.tokens-test.true) c.is_mark-is_call.ensures c.nest_behind.ensures (sym c.ends.ensures ∙ c.if-ends.false) c.in_ok-push_text.ensures c.bump_symbol-last.ensures.value c.note_opened.ensures c.bump_symbol-last.ensures.rest c.tokens.invariant.same;
      text = text_kept c.args.keeps_text (more c.args.extent c.tokens.last (string_bytes c.tokens.text) c.tokens.self) (string_bytes c.tokens.text) (string_bytes c.push_text.new.text) c.in_ok-push_text.ensures c.tokens.invariant.text;
      counted = counted_on less c.tokens.invariant.counted;
    }

pub tokens-preserved-in-Continue-branch-2 : goal.tokens-preserved-in-Continue-branch-2
tokens-preserved-in-Continue-branch-2 c =
    let some = taking_some c.args.extent c.tokens.nest c.tokens.self (sym c.stops.ensures ∙ c.tokens-test.true) in
    let less = fewer c.tokens.nest c.nest_behind.new.nest c.tokens.self c.bump_symbol-last.new.self some c.nest_behind.ensures c.bump_symbol-last.ensures.rest in
    let counted = counted_on less c.tokens.invariant.counted in
    let more_inside = c.in_ok-take_inside.ensures in
    record {
      same = more_inside.same c.note_opened.new.opened ∙ clipped_turn c.args.keeps_text c.args.extent (string_bytes c.tokens.text) (string_bytes c.push_text.new.text) c.tokens.last c.bump_symbol-last.result c.tokens.opened c.note_opened.new.opened c.tokens.nest c.nest_behind.new.nest c.is_mark-is_call.result c.tokens.self c.bump_symbol-last.new.self (excerpt_behind c.args.before c.args.extent c.args.self.now)
          (sym c.stops.ensures ∙ c.tokens-test.true) c.is_mark-is_call.ensures c.nest_behind.ensures (sym c.ends.ensures ∙ c.if-ends.false) c.in_ok-push_text.ensures c.bump_symbol-last.ensures.value c.note_opened.ensures c.bump_symbol-last.ensures.rest c.tokens.invariant.same;
      text = more_inside.text (text_kept c.args.keeps_text (more c.args.extent c.tokens.last (string_bytes c.tokens.text) c.tokens.self) (string_bytes c.tokens.text) (string_bytes c.push_text.new.text) c.in_ok-push_text.ensures c.tokens.invariant.text);
      counted = record {
        braces = omega (arith, counted.braces, more_inside.braces);
        others = omega (arith, counted.others, more_inside.left, more_inside.others);
        angles = omega (arith, counted.angles, more_inside.left, more_inside.angles);
        inner = omega (arith, counted.inner, more_inside.inner);
      };
    }

pub returns-then-ends : goal.returns-then-ends
returns-then-ends c =
    clipped_last c.args.keeps_text c.args.extent (string_bytes c.tokens.text) (string_bytes c.push_text.new.text) c.tokens.last c.tokens.opened c.note_opened.new.opened c.block_at-block.result c.tokens.nest c.nest_behind.new.nest c.is_mark-is_call.result c.is_whole-is_ended.result
    c.tokens.self c.bump.new.self (excerpt_behind c.args.before c.args.extent c.args.self.now)
    (sym c.stops.ensures ∙ c.tokens-test.true) c.is_mark-is_call.ensures c.nest_behind.ensures (sym c.ends.ensures ∙ c.if-ends.true) c.in_ok-push_text.ensures c.tokens.invariant.text c.note_opened.ensures c.block_at-block.ensures c.is_whole-is_ended.ensures c.bump.ensures
    c.tokens.invariant.same
