-- a file's own attributes, and then its items
use Rattle.std.proofs.Common.{◌≡◌, ◌++◌, List, map, sym, subst}
use Rattle.hir_input.specs.declared.ast.Syntax.{Syntax}
use Rattle.hir_input.specs.declared.attr.Meta.{Meta}
use Rattle.hir_input.specs.Attr.{meta_view}
use Rattle.hir_input.specs.declared.ast.Item.{Item}
use Rattle.hir_input.specs.Syntax.{ItemView, items_view, syntax_view}
use Rattle.source_problems.specs.Metas.{attribute_problems}
use Rattle.source_problems.specs.Items.{in_preorder, placed_problems, syntax_problems}
use Rattle.source_problems.proofs.ItemWalks.{walked}
use Rattle.source_problems.proofs.items.push_syntax.Goals as goal

pub returns : goal.returns
returns c =
    let old = c.args.found.now.problems.items in
    let after = c.push_items.new.found.problems.items in
    let places = c.args.places.now in
    let all : List Item → List ItemView = λ is. in_preorder (items_view is) in
    let listed = walked old (attribute_problems 0 (map meta_view c.deref.result.now)) c.push_attributes.new.found.problems.items after (all c.deref-2.result.now) places
    c.push_items.new.places.left.now c.in_ok-push_attributes.ensures.1 c.in_ok-push_items.ensures in
    subst (λ (s : Syntax). after ≡ old ++ syntax_problems (syntax_view s) places) (sym c.in-SourceFile.is)
    (subst (λ (ms : List Meta). after ≡ old ++ (attribute_problems 0 (map meta_view ms) ++ placed_problems (all c.in-SourceFile.items.items) places)) c.deref.ensures.value
    (subst (λ (is : List Item). after ≡ old ++ (attribute_problems 0 (map meta_view c.deref.result.now) ++ placed_problems (all is) places)) c.deref-2.ensures.value listed))
