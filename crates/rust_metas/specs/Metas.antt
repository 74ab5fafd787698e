-- Metas. The spans of their literals count from an anchor.
use Rattle.std.specs.Prelude.{◌≡◌, refl, true, ℕ, zero, suc, Bool, false, Option, Some, None, List, [], ◌∷◌, codes, bytes_eq}
use Rattle.hir_input.specs.declared.ast.PathNode.{PathNode}
use Rattle.hir_input.specs.declared.ast.PathNode.TheVariants.{Readable}
use Rattle.hir_input.specs.declared.mod_path.PathKind.TheVariants.{Plain}
use Rattle.hir_input.specs.Attr.{MetaView, path_meta, key_value_meta, token_tree_meta, cfg_meta, cfg_attr_meta, unsafe_meta, metas_from}
use Rattle.hir_input.specs.Cfg.{CfgView}
use Rattle.rust_cursor.specs.Reader.{Reader, ◌>>=◌, pure}
use Rattle.rust_cursor.specs.Looks.{Lookahead, at_end, at_open, both_seen, either_seen, kind_is, may_skip, symbol_is, then_seen, token_is, word_is}
use Rattle.rust_cursor.specs.Grammar.{Grammar, from_outside, in_bracket, inside, reads_as, takes_text}
use Rattle.rust_cursor.specs.Anchored.{Anchored, bracket_from, from_seen, gives_from, reads_from_as, repeats_from, then_from, unplaced}
use Rattle.rust_paths.specs.Names.{behind_hash}
use Rattle.rust_paths.specs.Paths.{is_raw, path}
use Rattle.rust_paths.specs.UseTrees.{comma}
use Rattle.rust_metas.specs.Literals.{root, value, documentation}
use Rattle.rust_metas.specs.Conditions.{condition}

-- ---- a path and its input

-- AttrInput: `=` and a value, a token tree, or nothing
unfoldable pub input : Option PathNode → Anchored MetaView
input path =
    from_seen (symbol_is 61) 1 refl (reads_from_as (λ v. key_value_meta path v root) value)
    (from_seen at_open 0 refl (unplaced (reads_as (λ tokens. token_tree_meta path tokens root) takes_text)) (gives_from (path_meta path root)))

unfoldable pub plain_meta : Anchored MetaView
plain_meta = then_from (unplaced (from_outside path)) input

-- ---- `unsafe(..)`, `cfg(..)` and `cfg_attr(..)`

-- the word and a bracket come next
unfoldable pub is_call : List ℕ → Lookahead
is_call w = then_seen (word_is w) 1 at_open

abbrev pub is_text : List ℕ → Option (List ℕ) → Bool
is_text w None = false
is_text w (Some v) = bytes_eq v w

-- the name comes next, perhaps as `r#name`
unfoldable pub is_at_name : List ℕ → Lookahead
is_at_name w = either_seen (word_is w) (both_seen (kind_is is_raw) (token_is (λ y k z. is_text w (behind_hash z))))

-- the name and a bracket
unfoldable pub is_named_call : List ℕ → Lookahead
is_named_call w = then_seen (is_at_name w) 1 at_open

pub unsafe_skipped : may_skip (is_call (codes "unsafe")) 1 ≡ true
unfolding is_call
unsafe_skipped = refl

pub cfg_skipped : may_skip (is_named_call (codes "cfg")) 1 ≡ true
unfolding is_named_call is_at_name
cfg_skipped = refl

pub cfg_attr_skipped : may_skip (is_named_call (codes "cfg_attr")) 1 ≡ true
unfolding is_named_call is_at_name
cfg_attr_skipped = refl

-- a meta and the comma behind it
abbrev pub member : Anchored MetaView → Anchored MetaView
member inner = then_from inner (λ m. unplaced (reads_as (λ _. m) (from_outside comma)))

-- a condition, and the metas behind it
abbrev pub conditional : Anchored MetaView → Grammar inside CfgView → Anchored (CfgView × List MetaView)
conditional inner condition = then_from (unplaced condition) (λ c. reads_from_as (λ metas. (c, metas)) (repeats_from at_end refl (member inner)))

-- Attr, by what reads the metas and the conditions inside
abbrev pub meta_with : Anchored MetaView → Grammar inside CfgView → Anchored MetaView
meta_with inner condition =
    from_seen (is_call (codes "unsafe")) 1 unsafe_skipped (reads_from_as unsafe_meta (bracket_from inner))
    (from_seen (is_named_call (codes "cfg")) 1 cfg_skipped (unplaced (reads_as cfg_meta (in_bracket condition)))
    (from_seen (is_named_call (codes "cfg_attr")) 1 cfg_attr_skipped (reads_from_as (λ p. cfg_attr_meta p.0 (metas_from p.1)) (bracket_from (conditional inner condition)))
    plain_meta))

-- A meta. The number bounds how deep metas and conditions stand in one another; a deeper meta is one without a path.
unfoldable pub meta : ℕ → Anchored MetaView
meta zero = gives_from (path_meta None root)
meta (suc depth) = meta_with (meta depth) (condition depth)

-- ---- documentation

abbrev pub doc_path : PathNode
doc_path = Readable (record { kind = Plain; names = codes "doc" ∷ [] })

-- a documentation comment as `doc = ".."`
unfoldable pub doc : ℕ → Reader MetaView
doc anchor = do
  text ← documentation anchor
  pure (key_value_meta (Some doc_path) text root)
