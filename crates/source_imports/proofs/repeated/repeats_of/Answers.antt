use Rattle.source_imports.proofs.Common.{rules, refl, ap, map, take, ◌++◌, ◌∙◌, import_choice_view, listed_named_view, repeat_if_any}
use Rattle.source_imports.specs.Inner.{alike_by, first_in}
use Rattle.source_imports.specs.Views.{repeated_import_view}
use Rattle.source_imports.proofs.Firsts.{alike_is_first, finds_next}
use Rattle.source_imports.proofs.Repeats.{repeats_of_more, seen_more}
use Rattle.source_imports.proofs.repeated.repeats_of.Goals as goal

pub loop-import-preserved : goal.loop-import-preserved
loop-import-preserved c =
    let choice = import_choice_view c.args.choice in
    let imports = c.args.imports.now in
    let before = c.loop-import in
    let import = c.import-item.result in
    let found = map repeated_import_view before.found.items in
    let x = listed_named_view import in
    let done = map listed_named_view (take before.import-index imports) in
    let key = c.key_of-key.result in
    let seen = ap (map (λ b. listed_named_view b.now)) c.deref.ensures.value ∙ before.invariant.before in
    let first = ap (alike_by choice x (first_in before.firsts key)) seen ∙ alike_is_first choice before.firsts done key x c.key_of-key.ensures before.invariant.firsts in
    record {
      found = repeats_of_more listed_named_view choice imports before.import-index import found (map repeated_import_view c.push_if_repeated.new.found.items) (search rules) (search rules) before.invariant.found
          (c.in_ok-push_if_repeated.ensures.repeated ∙ ap (λ y. found ++ repeat_if_any x y) first);
      before = seen_more (λ b. listed_named_view b.now) listed_named_view before.before.items _ _ imports before.import-index import (search rules) (search rules) refl before.invariant.before c.in_ok-push.ensures.items;
      firsts = finds_next listed_named_view before.firsts c.push_if_repeated.new.firsts imports before.import-index import key (search rules) (search rules) c.key_of-key.ensures c.in_ok-push_if_repeated.ensures.first
          before.invariant.firsts;
    }
