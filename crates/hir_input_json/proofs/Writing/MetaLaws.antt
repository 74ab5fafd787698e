-- A meta that is written is read again.
use Rattle.std.proofs.Common.{◌≡◌, ℕ, List, [], ◌∷◌, IfSome, Option, refl, ap, ◌∙◌}
use Rattle.hir_input_json.proofs.Writing.Common.{PathNode, SyntaxContext, LiteralView, MetaView, MetaViews, path_meta, key_value_meta, token_tree_meta, cfg_meta, cfg_attr_meta, unsafe_meta, no_metas, meta_and, metas_from, right, field, context, literal, meta_form, path_node_form, meta_reads_itself, cfg_data, context_data, literal_data, key_value_data, meta_data, metas_data, path_meta_data, tokens_data, maybe_data, path_data, Holds, MayHold}
use Rattle.hir_input_json.proofs.Writing.WrittenParts.{HoldAll, bind, held_of, mapped, maybe_law, none_of}
use Rattle.hir_input_json.proofs.Writing.CfgLaws.{CfgHolds, cfg_law}
use Rattle.hir_input_json.proofs.Writing.LiteralLaws.{context_law, literal_law}
use Rattle.hir_input_json.proofs.Writing.PathLaws.{path_law}

-- one list of metas alone makes them
pub metas_apart : (ms ns : List MetaView) → metas_from ms ≡ metas_from ns → ms ≡ ns
metas_apart [] [] same = refl
metas_apart (m ∷ ms) (n ∷ ns) same =
    let others : metas_from ms ≡ metas_from ns = cc in
    let all = metas_apart ms ns others in
    cc
metas_apart ms ns same = absurd cc

path_meta_law : (p : Option PathNode) (c : SyntaxContext) → IfSome (path_meta_data p c) (Holds meta_form (path_meta p c))
unfolding field
path_meta_law p c =
    bind (maybe_data path_data p) _ (MayHold path_node_form p) (Holds meta_form (path_meta p c)) (maybe_law path_data path_node_form path_law p) (λ d h.
    bind (context_data c) _ (Holds context c) (Holds meta_form (path_meta p c)) (context_law c) (λ e k.
    record { there = refl; reads = meta_reads_itself _ ∙ rw (h.reads, k.there, k.reads) refl; exact = rw (k.exact, h.exact) refl }))

key_value_law : (p : Option PathNode) (v : Option LiteralView) (c : SyntaxContext) → IfSome (key_value_data p v c) (Holds meta_form (key_value_meta p v c))
unfolding field
key_value_law p v c =
    bind (maybe_data path_data p) _ (MayHold path_node_form p) (Holds meta_form (key_value_meta p v c)) (maybe_law path_data path_node_form path_law p) (λ d h.
    bind (maybe_data (literal_data c) v) _ (MayHold (literal c) v) (Holds meta_form (key_value_meta p v c)) (maybe_law (literal_data c) (literal c) (literal_law c) v) (λ f m.
    bind (context_data c) _ (Holds context c) (Holds meta_form (key_value_meta p v c)) (context_law c) (λ e k.
    record { there = refl; reads = meta_reads_itself _ ∙ rw (h.reads, k.there, k.reads, m.reads) refl; exact = rw (k.exact, h.exact, m.exact) refl })))

tokens_law : (p : Option PathNode) (t : List ℕ) (c : SyntaxContext) → IfSome (tokens_data p t c) (Holds meta_form (token_tree_meta p t c))
unfolding field
tokens_law p t c =
    bind (maybe_data path_data p) _ (MayHold path_node_form p) (Holds meta_form (token_tree_meta p t c)) (maybe_law path_data path_node_form path_law p) (λ d h.
    bind (context_data c) _ (Holds context c) (Holds meta_form (token_tree_meta p t c)) (context_law c) (λ e k.
    record { there = refl; reads = meta_reads_itself _ ∙ rw (h.reads, k.there, k.reads) refl; exact = rw (k.exact, h.exact) refl }))

mutual
  unfolding field

  pub meta_law : (m : MetaView) → IfSome (meta_data m) (Holds meta_form m)
  meta_law (path_meta p c) = path_meta_law p c
  meta_law (key_value_meta p v c) = key_value_law p v c
  meta_law (token_tree_meta p t c) = tokens_law p t c
  meta_law (cfg_meta c) =
      mapped (cfg_data c) _ (CfgHolds c) (Holds meta_form (cfg_meta c)) (cfg_law c)
      (λ d h. record { there = refl; reads = meta_reads_itself _ ∙ rw h.reads refl; exact = rw h.exact refl })
  meta_law (cfg_attr_meta c ms) =
      bind (cfg_data c) _ (CfgHolds c) (Holds meta_form (cfg_attr_meta c ms)) (cfg_law c) (λ d h.
      bind (metas_data ms) _ (HoldAll meta_form metas_from ms) (Holds meta_form (cfg_attr_meta c ms)) (metas_law ms) (λ ds hs.
      record { there = refl; reads = meta_reads_itself _ ∙ rw (h.reads, hs.each.reads 0) (ap (λ x. right (cfg_attr_meta c x)) hs.made); exact = rw (h.exact, hs.each.exact) refl }))
  meta_law (unsafe_meta m) =
      mapped (meta_data m) _ (Holds meta_form m) (Holds meta_form (unsafe_meta m)) (meta_law m)
      (λ d h. record { there = refl; reads = meta_reads_itself _ ∙ rw (h.there, h.reads) refl; exact = rw h.exact refl })

  pub metas_law : (ms : MetaViews) → IfSome (metas_data ms) (HoldAll meta_form metas_from ms)
  metas_law no_metas = none_of meta_form metas_from
  metas_law (meta_and m ms) =
      held_of meta_form metas_from meta_and m ms (meta_data m) (metas_data ms) (λ all. refl) (meta_law m) (metas_law ms)
