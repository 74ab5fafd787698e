-- Which metas are kept.
use Rattle.std.specs.Prelude.{Bool, true, false, not, Option, Some, List, codes, filter, bytes_eq}
use Rattle.std.specs.Option.{option_map_or}
use Rattle.hir_input.specs.declared.ast.PathNode.{PathNode}
use Rattle.hir_input.specs.declared.ast.PathNode.TheVariants.{Readable}
use Rattle.hir_input.specs.Attr.{MetaView, path_meta, key_value_meta, token_tree_meta, cfg_meta, cfg_attr_meta, unsafe_meta}
use Rattle.hir_input.specs.Path.{ident_of}
use Rattle.rust_cursor.specs.Reader.{Reader}
use Rattle.rust_metas.specs.declared.wanted.WantedMetas.{WantedMetas}
use Rattle.rust_metas.specs.declared.wanted.WantedMetas.TheVariants as wanted

-- a path that is the one name `doc`
abbrev pub is_doc_path : Option PathNode → Bool
is_doc_path (Some (Readable path)) = option_map_or (λ name. bytes_eq name (codes "doc")) (ident_of path) false
is_doc_path _ = false

-- a meta that documents: one of a comment, or the same written out
abbrev pub is_doc_meta : MetaView → Bool
is_doc_meta (path_meta path ctxt) = is_doc_path path
is_doc_meta (key_value_meta path value ctxt) = is_doc_path path
is_doc_meta (token_tree_meta path tokens ctxt) = is_doc_path path
is_doc_meta _ = false

-- a meta that tells a condition, or in which one may stand
abbrev pub is_condition_meta : MetaView → Bool
is_condition_meta (cfg_meta condition) = true
is_condition_meta (cfg_attr_meta condition metas) = true
is_condition_meta (unsafe_meta inner) = true
is_condition_meta _ = false

-- a meta of those that are wanted
abbrev pub is_wanted_meta : WantedMetas → MetaView → Bool
is_wanted_meta wanted.All m = true
is_wanted_meta wanted.Undocumented m = not (is_doc_meta m)
is_wanted_meta wanted.Conditions m = is_condition_meta m

-- those metas that are wanted
unfoldable pub kept_metas : WantedMetas → List MetaView → List MetaView
kept_metas wanted.All ms = ms
kept_metas wanted.Undocumented ms = filter (is_wanted_meta wanted.Undocumented) ms
kept_metas wanted.Conditions ms = filter (is_wanted_meta wanted.Conditions) ms

-- the same of those that are read
abbrev pub kept_by : WantedMetas → Reader (List MetaView) → Reader (List MetaView)
kept_by w reader ts = (kept_metas w (reader ts).0, (reader ts).1)
