-- What is kept of what is read of a text, and how much of it there is, depends neither on body texts nor on documentation that is skipped.
use Rattle.std.proofs.Common.{◌≡◌, ◌≤◌, ◌^◌, ℕ, Bool, true, false, if◌then◌else◌, max, List, [], ◌∷◌, ◌++◌, Option, Some, None, length, codes, inr, refl, ap, ◌∙◌, subst, sym, option_map, flat_map, bytes_eq}
use Rattle.std.specs.Option.{option_and_then, option_map_or}
use Rattle.std.proofs.lemmas.Slice.Eq.{bytes_eq-Decides}
use Rattle.hir_input.specs.declared.ast.PathNode.{PathNode}
use Rattle.hir_input.specs.declared.ast.PathNode.TheVariants.{Readable, Unreadable}
use Rattle.itemtree_commands.proofs.Common.{EditionYear, NodeView, NamedView, ItemView, ItemViews, plain_item, const_item, struct_item, bare_module, listed_module, use_item, extern_crate, bare_extern_block, listed_extern_block, impl_item, macro_call, macro_rules, asm_item, no_items, item_and, SyntaxView, source_file, syntax_view, CrateData, crate_view, shape_of, readable_path, module_node, head_of, kept, kept_all, IsTooLargeIn, kept_in, Lower, SourceTree, IsTreeIn, IsTreeRefused, IsTreeOf, metas_under, wanted_under}
use Rattle.hir_input.specs.Attr.{MetaView, path_meta, key_value_meta, token_tree_meta, cfg_meta, cfg_attr_meta, unsafe_meta}
use Rattle.hir_input.specs.Cfg.{AtomView}
use Rattle.hir_input.specs.Name.{is_among}
use Rattle.hir_input.specs.Path.{ident_of}
use Rattle.item_tree_attrs.specs.Collected.{Collected, is_skipped, events, cut_events, collected_from}
use Rattle.item_tree.specs.declared.fault.LowerError.{LowerError}
use Rattle.item_tree.specs.declared.visibility.RawVisibility.{RawVisibility}
use Rattle.item_tree.specs.Constructor.{ctor_of}
use Rattle.item_tree.specs.KeptUse.{alias_of, kept_tree}
use Rattle.item_tree.specs.Node.{Leaf, leaf, parent, add, empty, extern_block}
use Rattle.item_tree.specs.Node as node
use Rattle.item_tree.specs.Size.{IsPassed, Sizes, if_some, item_written, items_written, most_written, sizes_of}
use Rattle.item_tree.specs.Visibility.{read_visibility}
use Rattle.rust_metas.specs.Docs.{is_doc_path, is_doc_meta, kept_metas}
use Rattle.rust_metas.specs.declared.wanted.WantedMetas.TheVariants as wanted
use Rattle.rust_leaves.specs.declared.wanted.Wanted.{Wanted}
use Rattle.rust_leaves.specs.Clipped.{clipped_node, clipped_item, clipped_list}
use Rattle.rust_items.specs.declared.source_file.SourceFile.{SourceFile}
use Rattle.rust_items.specs.SourceFiles.{FileView, file_view, clipped_file, clipped_syntax, IsClippedFile}

-- ---- attributes

path_skipped : (skipped : List (List ℕ)) (path : Option PathNode) → is_among skipped (codes "doc") ≡ true → is_doc_path path ≡ true → is_skipped skipped path ≡ true
path_skipped skipped None among doc = absurd cc
path_skipped skipped (Some Unreadable) among doc = absurd cc
path_skipped skipped (Some (Readable path)) among doc = named (ident_of path) doc
  where
    named : (name : Option (List ℕ)) → option_map_or (λ n. bytes_eq n (codes "doc")) name false ≡ true → option_map_or (is_among skipped) name false ≡ true
    named None e = absurd cc
    named (Some n) e = ap (is_among skipped) ((bytes_eq-Decides n (codes "doc")).0 e) ∙ among

-- a meta that documents collects nothing where its name is skipped
doc_events : (options : List AtomView) (skipped : List (List ℕ)) (m : MetaView) → is_among skipped (codes "doc") ≡ true → is_doc_meta m ≡ true → events options skipped m ≡ []
doc_events options skipped (path_meta path ctxt) among doc = rw (path_skipped skipped path among doc) refl
doc_events options skipped (key_value_meta path value ctxt) among doc = rw (path_skipped skipped path among doc) refl
doc_events options skipped (token_tree_meta path tokens ctxt) among doc = rw (path_skipped skipped path among doc) refl
doc_events options skipped (cfg_meta condition) among doc = absurd cc
doc_events options skipped (cfg_attr_meta condition metas) among doc = absurd cc
doc_events options skipped (unsafe_meta inner) among doc = absurd cc

-- a meta before others, one that documents or not
before : (options : List AtomView) (skipped : List (List ℕ)) (m : MetaView) (ms : List MetaView) (b : Bool) → is_doc_meta m ≡ b → is_among skipped (codes "doc") ≡ true
    → flat_map (events options skipped) (kept_metas wanted.Undocumented ms) ≡ flat_map (events options skipped) ms → flat_map (events options skipped) (kept_metas wanted.Undocumented (m ∷ ms)) ≡ flat_map (events options skipped) (m ∷ ms)
unfolding kept_metas
before options skipped m ms true e among rest = rw (e, doc_events options skipped m among e) rest
before options skipped m ms false e among rest = rw e (ap (λ es. events options skipped m ++ es) rest)

undocumented : (options : List AtomView) (skipped : List (List ℕ)) (ms : List MetaView) → is_among skipped (codes "doc") ≡ true → flat_map (events options skipped) (kept_metas wanted.Undocumented ms) ≡ flat_map (events options skipped) ms
unfolding kept_metas
undocumented options skipped [] among = refl
undocumented options skipped (m ∷ ms) among = before options skipped m ms (is_doc_meta m) refl among (undocumented options skipped ms among)

metas_collect : (options : List AtomView) (skipped : List (List ℕ)) (skips : Bool) (ms : List MetaView) → is_among skipped (codes "doc") ≡ skips → collected_from options skipped (kept_metas (metas_under skips) ms) ≡ collected_from options skipped ms
unfolding kept_metas
metas_collect options skipped true ms e = ap cut_events (undocumented options skipped ms e)
metas_collect options skipped false ms e = refl

attrs_collect : (options : List AtomView) (skipped : List (List ℕ)) (ms : List MetaView) → collected_from options skipped (kept_metas (wanted_under skipped).metas ms) ≡ collected_from options skipped ms
attrs_collect options skipped ms = metas_collect options skipped (is_among skipped (codes "doc")) ms refl

-- ---- items

module _ (options : List AtomView) (skipped : List (List ℕ)) where
  head_alike : (n : NodeView) → head_of options skipped (clipped_node (wanted_under skipped) n) ≡ head_of options skipped n
  head_alike n = ap (λ (c : Collected). record { hash = n.hash; number = n.number; attrs = c }) (attrs_collect options skipped n.attrs)

  named_alike : (n : NamedView) (item : List ℕ → RawVisibility → Leaf RawVisibility)
      → option_map (λ name. leaf (head_of options skipped (clipped_node (wanted_under skipped) n.node)) (item name (read_visibility n.visibility))) n.name
      ≡ option_map (λ name. leaf (head_of options skipped n.node) (item name (read_visibility n.visibility))) n.name
  named_alike n item = ap (λ h. option_map (λ name. leaf h (item name (read_visibility n.visibility))) n.name) (head_alike n.node)

  mutual
    kept_alike : (i : ItemView) → kept options skipped (clipped_item (wanted_under skipped) i) ≡ kept options skipped i
    kept_alike (plain_item k n) = named_alike n (node.plain k)
    kept_alike (const_item n) = ap (λ h. Some (leaf h (node.constant n.name (read_visibility n.visibility)))) (head_alike n.node)
    kept_alike (struct_item n fields) = named_alike n (λ name v. node.struct_item name v (shape_of fields) (ctor_of fields v))
    kept_alike (bare_module n semicolon) = ap (λ h. option_map (λ name. module_node semicolon h name (read_visibility n.visibility) empty) n.name) (head_alike n.node)
    kept_alike (listed_module n semicolon is) =
        ap (λ h. option_map (λ name. module_node semicolon h name (read_visibility n.visibility) (kept_all options skipped (clipped_list (wanted_under skipped) is))) n.name) (head_alike n.node)
        ∙ ap (λ f. option_map (λ name. module_node semicolon (head_of options skipped n.node) name (read_visibility n.visibility) f) n.name) (all_alike is)
    kept_alike (use_item u) = ap (λ h. option_map (λ t. leaf h (node.use_item (read_visibility u.visibility) t)) (option_and_then kept_tree u.use_tree)) (head_alike u.node)
    kept_alike (extern_crate n rename) = named_alike n (λ name v. node.extern_crate name v (alias_of rename))
    kept_alike (bare_extern_block n) = ap (λ h. Some (parent h extern_block empty)) (head_alike n)
    kept_alike (listed_extern_block n is) =
        ap (λ h. Some (parent h extern_block (kept_all options skipped (clipped_list (wanted_under skipped) is)))) (head_alike n)
        ∙ ap (λ f. Some (parent (head_of options skipped n) extern_block f)) (all_alike is)
    kept_alike (impl_item n of_trait) = ap (λ h. Some (leaf h (node.impl_item of_trait))) (head_alike n)
    kept_alike (macro_call c) = ap (λ h. option_map (λ p. leaf h (node.macro_call p c.expand_to c.ctxt)) (option_and_then readable_path c.path)) (head_alike c.node)
    kept_alike (macro_rules n name) = ap (λ h. option_map (λ name. leaf h (node.macro_rules name)) name) (head_alike n)
    kept_alike (asm_item n) = refl

    pub all_alike : (is : ItemViews) → kept_all options skipped (clipped_list (wanted_under skipped) is) ≡ kept_all options skipped is
    all_alike no_items = refl
    all_alike (item_and i is) = λ j. add (kept_alike i j) (all_alike is j)

-- of a file: other syntaxes are not read of a text
same_kept : (krate : CrateData) (skipped : List (List ℕ)) (s : SyntaxView) (attrs : List MetaView) (is : ItemViews) → s ≡ source_file attrs is
    → kept_in krate false skipped (clipped_syntax (wanted_under skipped) s) ≡ kept_in krate false skipped s
same_kept krate skipped s attrs is e =
    subst (λ z. kept_in krate false skipped (clipped_syntax (wanted_under skipped) z) ≡ kept_in krate false skipped z) (sym e)
    (λ j. record { top_attrs = attrs_collect (crate_view krate).options skipped attrs j; forest = all_alike (crate_view krate).options skipped is j })

-- ---- sizes

mutual
  item_written_alike : (w : Wanted) (i : ItemView) → item_written (clipped_item w i) ≡ item_written i
  item_written_alike w (listed_module n semicolon is) = ap (λ written. if_some n.name (if semicolon then 0 else written)) (items_written_alike w is)
  item_written_alike w _ = refl

  items_written_alike : (w : Wanted) (is : ItemViews) → items_written (clipped_list w is) ≡ items_written is
  items_written_alike w no_items = refl
  items_written_alike w (item_and i is) = λ j. max (item_written_alike w i j) (items_written_alike w is j)

same_sizes : (krate : CrateData) (skipped : List (List ℕ)) (s : SyntaxView) (attrs : List MetaView) (is : ItemViews) → s ≡ source_file attrs is
    → sizes_of (clipped_syntax (wanted_under skipped) s) (kept_in krate false skipped (clipped_syntax (wanted_under skipped) s)) ≡ sizes_of s (kept_in krate false skipped s)
same_sizes krate skipped s attrs is e =
    let w = wanted_under skipped in
    ap (λ u. sizes_of (clipped_syntax w s) u) (same_kept krate skipped s attrs is e)
    ∙ ap (λ n. record (sizes_of s (kept_in krate false skipped s)) { use_trees = n }) (subst (λ z. most_written (clipped_syntax w z) ≡ most_written z) (sym e) (items_written_alike w is))

-- ---- trees

module _ (krate : CrateData) (skipped : List (List ℕ)) (read file : FileView) (attrs : List MetaView) (is : ItemViews) (source : read.syntax ≡ source_file attrs is) (clipped : file ≡ clipped_file (wanted_under skipped) read) where
  -- the tree of what is wanted of what was read is that of what was read
  pub tree_whole : (t : SourceTree) → IsTreeIn krate skipped file t → IsTreeIn krate skipped read t
  tree_whole t h = record {
    tree = h.tree ∙ ap (λ (f : FileView). kept_in krate false skipped f.syntax) clipped ∙ same_kept krate skipped read.syntax attrs is source;
    places = h.places ∙ ap (λ (f : FileView). f.places) clipped;
    use_trees = h.use_trees ∙ ap (λ (f : FileView). f.use_trees) clipped;
    problems = h.problems ∙ ap (λ (f : FileView). f.problems) clipped;
  }

  -- and passes a size as that does
  pub large_whole : (e : LowerError) → IsTooLargeIn krate false skipped file.syntax e → IsTooLargeIn krate false skipped read.syntax e
  large_whole e h = subst (λ (z : Sizes). IsPassed z e) (same_sizes krate skipped read.syntax attrs is source) (subst (λ (f : FileView). IsTooLargeIn krate false skipped f.syntax e) clipped h)

module _ (krate : CrateData) (skipped : List (List ℕ)) (edition : EditionYear) (text : List ℕ) where
  -- the tree of what is read with what is wanted is that of the text
  pub bare_tree : (file : SourceFile) (t : SourceTree) → IsClippedFile (wanted_under skipped) edition text (file_view file) → IsTreeIn krate skipped (file_view file) t → IsTreeOf krate skipped edition text t
  bare_tree file t b h = record { file = b.read; is_read = b.is_read; is_tree = tree_whole krate skipped b.read (file_view file) _ _ b.is_read.syntax b.clipped t h }

  -- what is read with what is wanted passes a size as the text does
  pub too_large : (file : SourceFile) (e : LowerError) → length text ≤ 2 ^ 32 → IsClippedFile (wanted_under skipped) edition text (file_view file) → IsTooLargeIn krate false skipped (syntax_view file.syntax) e → IsTreeRefused krate skipped edition text (Lower e)
  too_large file e short b large = (short, inr (b.read, b.is_read, large_whole krate skipped b.read (file_view file) _ _ b.is_read.syntax b.clipped e large))
