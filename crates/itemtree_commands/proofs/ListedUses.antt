-- The uses that stand under cfgs of what is read for a list are those of the text.
use Rattle.std.proofs.Common.{◌≡◌, ℕ, Bool, true, false, List, [], ◌∷◌, ◌++◌, codes, flat_map, refl, ap, ◌∙◌, subst, sym}
use Rattle.itemtree_commands.proofs.Common.{ItemView, ItemViews, listed_module, use_item, no_items, item_and, SyntaxView, source_file, metas_under, wanted_under}
use Rattle.hir_input.specs.Attr.{MetaView, cfg_meta, cfg_attr_meta, unsafe_meta}
use Rattle.hir_input.specs.Cfg.{CfgView}
use Rattle.hir_input.specs.Name.{is_among}
unfoldable use Rattle.rust_metas.specs.Docs.{kept_metas}
use Rattle.rust_metas.specs.Docs.{is_doc_meta}
use Rattle.rust_metas.specs.declared.wanted.WantedMetas.TheVariants as wanted
use Rattle.rust_leaves.specs.Clipped.{clipped_item, clipped_list}
use Rattle.rust_items.specs.SourceFiles.{FileView, clipped_syntax}
use Rattle.source_imports.specs.ImportCfgs.{file_cfgs, item_cfgs, items_cfgs, use_under}
use Rattle.source_listing.specs.MetaCfgs.{meta_cfgs}
use Rattle.itemtree_commands.specs.declared.Options.{Options}
use Rattle.itemtree_commands.specs.declared.listed.ListedUses.{ListedUses}
use Rattle.itemtree_commands.specs.Inner.{HasUses, IsClippedUses}
use Rattle.itemtree_commands.proofs.BareTrees.{tree_whole}

-- documentation has no cfgs
doc_cfgs : (m : MetaView) → is_doc_meta m ≡ true → meta_cfgs m ≡ []
doc_cfgs (cfg_meta condition) doc = absurd cc
doc_cfgs (cfg_attr_meta condition metas) doc = absurd cc
doc_cfgs (unsafe_meta inner) doc = absurd cc
doc_cfgs _ doc = refl

before : (m : MetaView) (ms : List MetaView) (b : Bool) → is_doc_meta m ≡ b → flat_map meta_cfgs (kept_metas wanted.Undocumented ms) ≡ flat_map meta_cfgs ms → flat_map meta_cfgs (kept_metas wanted.Undocumented (m ∷ ms)) ≡ flat_map meta_cfgs (m ∷ ms)
unfolding kept_metas
before m ms true e rest = rw (e, doc_cfgs m e) rest
before m ms false e rest = rw e (ap (λ cs. meta_cfgs m ++ cs) rest)

undocumented : (ms : List MetaView) → flat_map meta_cfgs (kept_metas wanted.Undocumented ms) ≡ flat_map meta_cfgs ms
unfolding kept_metas
undocumented [] = refl
undocumented (m ∷ ms) = before m ms (is_doc_meta m) refl (undocumented ms)

cfgs_by : (skips : Bool) (ms : List MetaView) → flat_map meta_cfgs (kept_metas (metas_under skips) ms) ≡ flat_map meta_cfgs ms
unfolding kept_metas
cfgs_by true ms = undocumented ms
cfgs_by false ms = refl

module _ (skipped : List (List ℕ)) where
  cfgs_alike : (ms : List MetaView) → flat_map meta_cfgs (kept_metas (wanted_under skipped).metas ms) ≡ flat_map meta_cfgs ms
  cfgs_alike ms = cfgs_by (is_among skipped (codes "doc")) ms

  mutual
    item_alike : (around : List CfgView) (i : ItemView) → item_cfgs around (clipped_item (wanted_under skipped) i) ≡ item_cfgs around i
    item_alike around (use_item u) = ap (λ cs. use_under u.node (around ++ cs)) (cfgs_alike u.node.attrs)
    item_alike around (listed_module m semicolon is) =
        ap (λ cs. items_cfgs (around ++ cs) (clipped_list (wanted_under skipped) is)) (cfgs_alike m.node.attrs) ∙ items_alike (around ++ flat_map meta_cfgs m.node.attrs) is
    item_alike around _ = refl

    items_alike : (around : List CfgView) (is : ItemViews) → items_cfgs around (clipped_list (wanted_under skipped) is) ≡ items_cfgs around is
    items_alike around no_items = refl
    items_alike around (item_and i is) = λ j. item_alike around i j ++ items_alike around is j

  -- of a file: other syntaxes are not read of a text
  same_cfgs : (s : SyntaxView) (attrs : List MetaView) (is : ItemViews) → s ≡ source_file attrs is → file_cfgs (clipped_syntax (wanted_under skipped) s) ≡ file_cfgs s
  same_cfgs s attrs is e =
      subst (λ z. file_cfgs (clipped_syntax (wanted_under skipped) z) ≡ file_cfgs z) (sym e)
      (ap (λ cs. items_cfgs cs (clipped_list (wanted_under skipped) is)) (cfgs_alike attrs) ∙ items_alike (flat_map meta_cfgs attrs) is)

pub uses_listed : (o : Options) (text : List ℕ) (x : ListedUses) → IsClippedUses (wanted_under o.skipped.items) o.krate o.skipped.items o.edition.year text x → HasUses o text x
uses_listed o text x b =
    let read = b.is_clipped.is_read in
    let source = ap (λ (f : FileView). f.syntax) read.told ∙ read.is_read.syntax in
    record {
      listed = record {
        file = b.is_clipped.read;
        is_listed = read;
        is_tree = tree_whole o.krate o.skipped.items b.is_clipped.read b.file _ _ source b.is_clipped.clipped x.listed.source b.is_tree;
      };
      uses = b.uses ∙ ap (λ (f : FileView). file_cfgs f.syntax) b.is_clipped.clipped ∙ same_cfgs o.skipped.items b.is_clipped.read.syntax _ _ source;
    }
