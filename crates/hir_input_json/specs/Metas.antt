-- The reading of a meta.
use Rattle.std.specs.Prelude.{ℕ, List, codes}
use Rattle.serde_json.specs.Data.{Data}
use Rattle.serde_json.specs.Find.{get}
use Rattle.hir_input.specs.Cfg.{CfgView, invalid}
use Rattle.hir_input.specs.Attr.{MetaView, path_meta, key_value_meta, token_tree_meta, cfg_meta, cfg_attr_meta, unsafe_meta, metas_from}
use Rattle.hir_input_json.specs.Reading.{Reading, right, reading_both, under, ◌>>=◌}
use Rattle.hir_input_json.specs.Cfgs.{cfg}
use Rattle.hir_input_json.specs.Forms.{required_at, optional, maybe_at, list_at, on_word, wrong_at, text_form, object_by}
use Rattle.hir_input_json.specs.Literals.{context_at, literal}
use Rattle.hir_input_json.specs.Nested.{nested_reading}
use Rattle.hir_input_json.specs.Paths.{path_at}

-- the condition of a meta, which cannot be read where it is absent or null
abbrev pub condition_at : Data → Reading CfgView
condition_at d = under (codes "cfg") (optional invalid cfg (get (codes "cfg") d))

-- a path alone
abbrev pub path_form : Data → Reading MetaView
path_form d = reading_both path_meta (path_at d) (context_at d)

-- a path and a literal, which may be absent
abbrev pub key_value_form : Data → Reading MetaView
key_value_form d = do
  p ← path_at d
  ctxt ← context_at d
  value ← maybe_at (codes "value") (literal ctxt) d
  right (key_value_meta p value ctxt)

-- a path and the text of its tokens
abbrev pub tokens_form : Data → Reading MetaView
tokens_form d = do
  p ← path_at d
  ctxt ← context_at d
  rendered ← required_at (codes "tokens") text_form d
  right (token_tree_meta p rendered ctxt)

-- a condition
abbrev pub cfg_form : Data → Reading MetaView
cfg_form d = do
  condition ← condition_at d
  right (cfg_meta condition)

-- a condition, and what stands under it
abbrev pub cfg_attr_form : (Data → Reading MetaView) → Data → Reading MetaView
cfg_attr_form meta d = do
  condition ← condition_at d
  metas ← list_at meta (codes "metas") d
  right (cfg_attr_meta condition (metas_from metas))

-- one meta inside, which is required
abbrev pub unsafe_form : (Data → Reading MetaView) → Data → Reading MetaView
unsafe_form meta d = do
  inner ← required_at (codes "inner") meta d
  right (unsafe_meta inner)

-- a meta, over the reading of those inside, by the word of its kind
abbrev pub meta_form_with : (Data → Reading MetaView) → Data → Reading MetaView
meta_form_with meta d = object_by (codes "meta") d (λ word.
    on_word word (codes "path") (path_form d)
    (on_word word (codes "key_value") (key_value_form d)
    (on_word word (codes "tokens") (tokens_form d)
    (on_word word (codes "cfg") (cfg_form d)
    (on_word word (codes "cfg_attr") (cfg_attr_form meta d)
    (on_word word (codes "unsafe") (unsafe_form meta d)
    (wrong_at (codes "meta"))))))))

-- a meta, with those inside it
abbrev pub meta_form : Data → Reading MetaView
meta_form = nested_reading meta_form_with

-- the metas of an owner, none where they are absent
abbrev pub attrs_form : Data → Reading (List MetaView)
attrs_form = list_at meta_form (codes "attrs")
