-- What is wrong with attributes. Each problem stands at the first byte of what has them.
use Rattle.std.specs.Prelude.{ℕ, ◌-◌, ◌==◌, if◌then◌else◌, List, [], ◌∷◌, ◌++◌, Option, Some, None}
use Rattle.hir_input.specs.declared.ast.PathNode.{PathNode}
use Rattle.hir_input.specs.declared.ast.PathNode.TheVariants.{Readable, Unreadable}
use Rattle.hir_input.specs.Attr.{MetaView, MetaViews, path_meta, key_value_meta, token_tree_meta, cfg_meta, cfg_attr_meta, unsafe_meta, no_metas, meta_and, metas_from}
use Rattle.hir_input.specs.Cfg.{CfgView, CfgViews, invalid, atom, all_of, any_of, not_of, no_cfgs, cfg_and}
use Rattle.rust_metas.specs.Attributes.{deepest_level}
use Rattle.source_problems.specs.declared.problem.SourceProblem.{SourceProblem}
use Rattle.source_problems.specs.declared.problem.SourceProblemKind.TheVariants as kind
use Rattle.source_problems.specs.Problems.{problem}

module _ (at : ℕ) where
  -- where nothing more may stand in one another
  abbrev pub if_deep : ℕ → List SourceProblem
  if_deep left = if left == 0 then problem kind.DeepAttribute at ∷ [] else []

  -- a condition in which so many more may stand in one another: what is too deep in it was read as one that means nothing
  abbrev mutual
    pub condition_problems : ℕ → CfgView → List SourceProblem
    condition_problems left invalid = if_deep left
    condition_problems left (atom a) = []
    condition_problems left (all_of cs) = conditions_problems (left - 1) cs
    condition_problems left (any_of cs) = conditions_problems (left - 1) cs
    condition_problems left (not_of c) = condition_problems (left - 1) c

    pub conditions_problems : ℕ → CfgViews → List SourceProblem
    conditions_problems left no_cfgs = []
    conditions_problems left (cfg_and c cs) = condition_problems left c ++ conditions_problems left cs

  -- the path of a meta is missing or has no meaning
  abbrev pub meta_path_problems : Option PathNode → List SourceProblem
  meta_path_problems None = problem kind.AttributePath at ∷ []
  meta_path_problems (Some Unreadable) = problem kind.AttributePath at ∷ []
  meta_path_problems (Some (Readable p)) = []

  -- what is too deep in a meta was read as one without a path
  abbrev pub bare_meta_problems : ℕ → Option PathNode → List SourceProblem
  bare_meta_problems left path = if left == 0 then problem kind.DeepAttribute at ∷ [] else meta_path_problems path

  -- a meta in which so many more may stand in one another
  abbrev mutual
    pub meta_problems : ℕ → MetaView → List SourceProblem
    meta_problems left (path_meta path ctxt) = bare_meta_problems left path
    meta_problems left (key_value_meta path value ctxt) = meta_path_problems path
    meta_problems left (token_tree_meta path tokens ctxt) = meta_path_problems path
    meta_problems left (cfg_meta c) = condition_problems (left - 1) c
    meta_problems left (cfg_attr_meta c ms) = condition_problems (left - 1) c ++ metas_problems (left - 1) ms
    meta_problems left (unsafe_meta m) = meta_problems (left - 1) m

    pub metas_problems : ℕ → MetaViews → List SourceProblem
    metas_problems left no_metas = []
    metas_problems left (meta_and m ms) = meta_problems left m ++ metas_problems left ms

  -- attributes
  abbrev pub attribute_problems : List MetaView → List SourceProblem
  attribute_problems ms = metas_problems deepest_level (metas_from ms)
