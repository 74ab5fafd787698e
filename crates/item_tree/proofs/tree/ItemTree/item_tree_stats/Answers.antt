use Rattle.std.proofs.Common.{◌≡◌, ◌∙◌, ap, ℕ, count_by}
use Rattle.item_tree.proofs.Common.{AstIdKind, has_tag}
use Rattle.hir_input.specs.declared.ids.AstIdKind.TheVariants as kind
use Rattle.item_tree.proofs.RowCounts.{tags-count}
use Rattle.item_tree.proofs.Lookup.{canon}
use Rattle.item_tree.proofs.tree.ItemTree.item_tree_stats.Goals as goal

pub returns : goal.returns
returns c =
    let counted = λ (n : ℕ) (k : AstIdKind) (e : n ≡ count_by (has_tag k) c.as_slice-tags.result.now). e ∙ ap (count_by (has_tag k)) c.as_slice-tags.ensures.value ∙ tags-count c.args.self.now k c.self.inside.rows.tags.items (ap (λ t. t.tags) (canon c.self.view_is c.self.invariant)) in
    λ i. record {
      traits = counted _ kind.Trait c.count_kind.ensures i;
      impls = counted _ kind.Impl c.count_kind-2.ensures i;
      mods = counted _ kind.Module c.count_kind-3.ensures i;
      macro_calls = counted _ kind.MacroCall c.count_kind-4.ensures i;
      macro_rules = counted _ kind.MacroRules c.count_kind-5.ensures i;
    }
