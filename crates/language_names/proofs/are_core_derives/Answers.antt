use Rattle.std.proofs.Common.{◌≡◌, ℕ, ◌+◌, ◌≤◌, true, false, length, get_or, drop, sym, ap, ◌∙◌, arith}
use Rattle.language_names.specs.LanguageNames as spec
use Rattle.language_names.proofs.Derives.{part, no_part, word_ends, word_fails, word_goes_on, last_word}
use Rattle.language_names.proofs.are_core_derives.Goals as goal
use Rattle.language_names.proofs.are_core_derives.Goals.{then-is_between+else-not-is_core_derive, else-is_between}

pub returns-then-not-is_core_derive : goal.returns-then-not-is_core_derive
returns-then-not-is_core_derive c =
    let text = c.args.text.now in
    let between : spec.is_derive_gap (get_or text c.loop-at.at 0) ≡ true = sym c.is_between.ensures ∙ c.if-is_between.true in
    let fails : spec.is_core_derive (part text c.loop-at.start c.loop-at.at) ≡ false = sym c.is_core_derive.ensures ∙ c.if-not-is_core_derive.true in
    sym (word_fails text c.loop-at.start c.loop-at.at c.loop-at-test.true between fails) ∙ c.loop-at.invariant.left

pub loop-at-preserved : goal.loop-at-preserved
loop-at-preserved c =
    let text = c.args.text.now in
    let at = c.loop-at.at in
    elim c.if-is_between.branch [
      | then-is_between+else-not-is_core_derive w ↦ (
          let between : spec.is_derive_gap (get_or text at 0) ≡ true = sym c.is_between.ensures ∙ w.if-is_between.true in
          let core : spec.is_core_derive (part text c.loop-at.start at) ≡ true = sym w.is_core_derive.ensures ∙ w.if-not-is_core_derive.false in
          record {
            begun = rw w.start-is (omega arith);
            left = rw (w.start-is, no_part text (at + 1)) (sym (word_ends text c.loop-at.start at c.loop-at-test.true between core) ∙ c.loop-at.invariant.left);
          })
      | else-is_between w ↦ (
          let inner : spec.is_derive_gap (get_or text at 0) ≡ false = sym c.is_between.ensures ∙ w.if-is_between.false in
          let begun : c.loop-at.start ≤ at = c.loop-at.invariant.begun in
          record {
            begun = rw w.start-is (omega arith);
            left = rw w.start-is (sym (word_goes_on text c.loop-at.start at begun c.loop-at-test.true inner) ∙ c.loop-at.invariant.left);
          })
    ]

pub returns : goal.returns
returns c =
    let text = c.args.text.now in
    let end : c.loop-at.at ≡ length text = omega arith in
    c.is_core_derive-2.ensures ∙ sym (last_word text c.loop-at.start) ∙ ap (λ (n : ℕ). spec.are_core_derives (part text c.loop-at.start n) (drop n text)) (sym end) ∙ c.loop-at.invariant.left
