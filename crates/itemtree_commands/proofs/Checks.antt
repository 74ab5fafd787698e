-- What is wrong with a text depends neither on body texts nor on documentation.
use Rattle.std.proofs.Common.{◌≡◌, ℕ, Bool, true, false, List, [], ◌∷◌, ◌++◌, Option, Some, None, map, refl, ap, ◌∙◌, sym, subst}
use Rattle.std.proofs.lemmas.List.{map-append}
use Rattle.hir_input.specs.declared.ast.PathNode.{PathNode}
use Rattle.hir_input.specs.declared.ast.PathNode.TheVariants.{Readable, Unreadable}
use Rattle.hir_input.specs.Attr.{MetaView, path_meta, key_value_meta, token_tree_meta, cfg_meta, cfg_attr_meta, unsafe_meta}
use Rattle.itemtree_commands.proofs.Common.{EditionYear, ItemView, ItemViews, plain_item, const_item, struct_item, bare_module, listed_module, use_item, extern_crate, bare_extern_block, listed_extern_block, impl_item, macro_call, macro_rules, asm_item, no_items, item_and, SyntaxView, source_file}
use Rattle.rust_metas.specs.Attributes.{deepest_level}
use Rattle.rust_metas.specs.Docs.{is_doc_path, is_doc_meta, kept_metas}
use Rattle.rust_metas.specs.declared.wanted.WantedMetas.TheVariants.{Undocumented}
use Rattle.rust_leaves.specs.Clipped.{clipped_item, clipped_list}
use Rattle.rust_items.specs.declared.source_file.ItemPlace.{ItemPlace}
use Rattle.rust_items.specs.SourceFiles.{FileView, clipped_syntax, IsClippedFile}
use Rattle.source_problems.specs.declared.problem.SourceProblem.{SourceProblem}
use Rattle.source_problems.specs.declared.problem.SourceProblemKind.TheVariants.{MacroPath}
use Rattle.source_problems.specs.Problems.{path_problems, told_problem}
use Rattle.source_problems.specs.Metas.{attribute_problems, meta_path_problems, meta_problems}
use Rattle.source_problems.specs.Items.{in_preorder, held_items, next_start, others, own_problems, placed_problems, syntax_problems, visibility_problems, struct_problems, some_tree_problems}
use Rattle.source_problems.specs.Brackets.{bracket_problems}
use Rattle.source_problems.specs.Texts.{in_order, quote_problems, source_problems}
use Rattle.itemtree_commands.specs.Inner.{checked_wanted}

-- ---- attributes

-- documentation has a path
path_read : (at : ℕ) (path : Option PathNode) → is_doc_path path ≡ true → meta_path_problems at path ≡ []
path_read at None e = absurd cc
path_read at (Some Unreadable) e = absurd cc
path_read at (Some (Readable p)) e = refl

doc_alright : (at : ℕ) (m : MetaView) → is_doc_meta m ≡ true → meta_problems at deepest_level m ≡ []
doc_alright at (path_meta path ctxt) e = path_read at path e
doc_alright at (key_value_meta path value ctxt) e = path_read at path e
doc_alright at (token_tree_meta path tokens ctxt) e = path_read at path e
doc_alright at (cfg_meta condition) e = absurd cc
doc_alright at (cfg_attr_meta condition metas) e = absurd cc
doc_alright at (unsafe_meta inner) e = absurd cc

-- a meta before others, one that documents or not
before : (at : ℕ) (m : MetaView) (ms : List MetaView) (b : Bool) → is_doc_meta m ≡ b → attribute_problems at (kept_metas Undocumented ms) ≡ attribute_problems at ms
    → attribute_problems at (kept_metas Undocumented (m ∷ ms)) ≡ attribute_problems at (m ∷ ms)
unfolding kept_metas
before at m ms true e rest = rw (e, doc_alright at m e) rest
before at m ms false e rest = rw e (ap (λ (ps : List SourceProblem). meta_problems at deepest_level m ++ ps) rest)

undocumented : (at : ℕ) (ms : List MetaView) → attribute_problems at (kept_metas Undocumented ms) ≡ attribute_problems at ms
unfolding kept_metas
undocumented at [] = refl
undocumented at (m ∷ ms) = before at m ms (is_doc_meta m) refl (undocumented at ms)

-- ---- items

-- what is wrong with an item, at each place
abbrev wrong : ItemView → ℕ → List SourceProblem
wrong i at = own_problems at i

own_alike : (i : ItemView) → wrong (clipped_item checked_wanted i) ≡ wrong i
own_alike (plain_item k n) = λ j at. undocumented at n.node.attrs j ++ visibility_problems at n.visibility
own_alike (const_item n) = λ j at. undocumented at n.node.attrs j ++ visibility_problems at n.visibility
own_alike (struct_item n fields) = λ j at. (undocumented at n.node.attrs j ++ visibility_problems at n.visibility) ++ struct_problems at fields
own_alike (bare_module n semicolon) = λ j at. undocumented at n.node.attrs j ++ visibility_problems at n.visibility
own_alike (listed_module n semicolon is) = λ j at. undocumented at n.node.attrs j ++ visibility_problems at n.visibility
own_alike (use_item u) = λ j at. undocumented at u.node.attrs j ++ (visibility_problems at u.visibility ++ some_tree_problems at u.use_tree)
own_alike (extern_crate n rename) = λ j at. undocumented at n.node.attrs j ++ visibility_problems at n.visibility
own_alike (bare_extern_block n) = λ j at. undocumented at n.attrs j
own_alike (listed_extern_block n is) = λ j at. undocumented at n.attrs j
own_alike (impl_item n of_trait) = λ j at. undocumented at n.attrs j
own_alike (macro_call c) = λ j at. undocumented at c.node.attrs j ++ path_problems MacroPath at c.path
own_alike (macro_rules n name) = λ j at. undocumented at n.attrs j
own_alike (asm_item n) = λ j at. undocumented at n.attrs j

mutual
  held_alike : (i : ItemView) → map wrong (held_items (clipped_item checked_wanted i)) ≡ map wrong (held_items i)
  held_alike (listed_module n semicolon is) = all_alike is
  held_alike (listed_extern_block n is) = all_alike is
  held_alike _ = refl

  all_alike : (is : ItemViews) → map wrong (in_preorder (clipped_list checked_wanted is)) ≡ map wrong (in_preorder is)
  all_alike no_items = refl
  all_alike (item_and i is) =
      ap (λ ws. wrong (clipped_item checked_wanted i) ∷ ws) (map-append wrong (held_items (clipped_item checked_wanted i)) (in_preorder (clipped_list checked_wanted is)))
      ∙ (λ j. own_alike i j ∷ (held_alike i j ++ all_alike is j)) ∙ sym (ap (λ ws. wrong i ∷ ws) (map-append wrong (held_items i) (in_preorder is)))

-- what is wrong with items that have these places, by what is wrong with each
abbrev placed : List (ℕ → List SourceProblem) → List ItemPlace → List SourceProblem
placed [] ps = []
placed (w ∷ ws) ps = w (next_start ps) ++ placed ws (others ps)

is_placed : (is : List ItemView) (ps : List ItemPlace) → placed_problems is ps ≡ placed (map wrong is) ps
is_placed [] ps = refl
is_placed (i ∷ is) ps = ap (λ (qs : List SourceProblem). own_problems (next_start ps) i ++ qs) (is_placed is (others ps))

-- ---- texts

-- of a file: other syntaxes are not read of a text
same_syntax : (s : SyntaxView) (ps : List ItemPlace) (attrs : List MetaView) (is : ItemViews) → s ≡ source_file attrs is → syntax_problems (clipped_syntax checked_wanted s) ps ≡ syntax_problems s ps
same_syntax s ps attrs is e =
    let items : placed_problems (in_preorder (clipped_list checked_wanted is)) ps ≡ placed_problems (in_preorder is) ps =
    is_placed (in_preorder (clipped_list checked_wanted is)) ps ∙ ap (λ ws. placed ws ps) (all_alike is) ∙ sym (is_placed (in_preorder is) ps) in
    subst (λ z. syntax_problems (clipped_syntax checked_wanted z) ps ≡ syntax_problems z ps) (sym e) (λ j. undocumented 0 attrs j ++ items j)

-- what is wrong with what is read for a check is what is wrong with the text
pub same_problems : (edition : EditionYear) (text : List ℕ) (file : FileView) (b : IsClippedFile checked_wanted edition text file) → source_problems text file ≡ source_problems text b.read
same_problems edition text file b =
    let whole = b.read in
    ap (λ (f : FileView). source_problems text f) b.clipped
    ∙ ap (λ (ps : List SourceProblem). in_order (bracket_problems text ++ (quote_problems text ++ (map told_problem whole.problems ++ ps)))) (same_syntax whole.syntax whole.places _ _ b.is_read.syntax)
