-- Conditions as plain data: how they are displayed, and whether they are true.
use Rattle.std.specs.Prelude.{ℕ, List, [], ◌∷◌, ◌++◌, codes, Bool, true, false, not, Option, Some, None, option_map, unwrap_or, nat_eq, if◌then◌else◌}
use Rattle.std.specs.List.{join_by, find, list_any}
use Rattle.std.specs.Option.{option_eq}
use Rattle.std.specs.Ordering.{on, eq_of_both}
use Rattle.std.specs.String.{string_bytes}
use Rattle.std.specs.Cmp.Lexicographic.{pointwise}
use Rattle.hir_input.specs.Lists.{list_as}
use Rattle.hir_input.specs.declared.cfg.CfgAtom.{CfgAtom}
use Rattle.hir_input.specs.declared.cfg.CfgAtom.TheVariants.{Flag, KeyValue}
use Rattle.hir_input.specs.declared.cfg.CfgExpr.{CfgExpr, fold-CfgExpr}
use Rattle.hir_input.specs.declared.cfg.CfgExpr.TheOpen.{CfgExpr-F}

-- an atom: the name of a flag, or of a key with its value
pub record AtomView : Type 0 where
  pub name : List ℕ
  pub value : Option (List ℕ)

abbrev pub flag_atom : List ℕ → AtomView
flag_atom name = record { name = name; value = None }

abbrev pub key_value : List ℕ → List ℕ → AtomView
key_value key value = record { name = key; value = Some value }

-- an atom as plain data
abbrev pub atom_view : CfgAtom → AtomView
atom_view (Flag name) = flag_atom name
atom_view (KeyValue key value) = key_value key (string_bytes value)

-- a condition
mutual
  pub data CfgView : Type 0 where
    invalid : CfgView
    atom : AtomView → CfgView
    all_of : CfgViews → CfgView
    any_of : CfgViews → CfgView
    not_of : CfgView → CfgView

  pub data CfgViews : Type 0 where
    no_cfgs : CfgViews
    cfg_and : CfgView → CfgViews → CfgViews

-- a list of conditions
abbrev pub cfgs_from : List CfgView → CfgViews
cfgs_from = list_as no_cfgs cfg_and

-- a condition's plain data, with each condition inside seen in its place
abbrev pub cfg_step : CfgExpr-F CfgView → CfgView
cfg_step CfgExpr-F.Invalid = invalid
cfg_step (CfgExpr-F.Atom a) = atom (atom_view a)
cfg_step (CfgExpr-F.All members) = all_of (cfgs_from members.items)
cfg_step (CfgExpr-F.Any members) = any_of (cfgs_from members.items)
cfg_step (CfgExpr-F.Not inner) = not_of inner.value

-- a condition as plain data
abbrev pub cfg_view : CfgExpr → CfgView
cfg_view = fold-CfgExpr CfgView cfg_step

-- ---- how conditions are displayed

-- the value of a key
abbrev pub shown_value : Option (List ℕ) → List ℕ
shown_value None = []
shown_value (Some value) = codes " = \"" ++ value ++ codes "\""

-- a flag's name, or the key and the value
abbrev pub shown_atom : AtomView → List ℕ
shown_atom a = a.name ++ shown_value a.value

-- texts with a comma and a space between them
abbrev pub by_commas : List (List ℕ) → List ℕ
by_commas texts = join_by (λ text. text) (codes ", ") texts

-- a condition's text
unfoldable mutual
  -- the text of a condition
  pub shown_cfg : CfgView → List ℕ
  shown_cfg invalid = codes "invalid"
  shown_cfg (atom a) = shown_atom a
  shown_cfg (all_of cs) = codes "all(" ++ by_commas (shown_cfgs cs) ++ codes ")"
  shown_cfg (any_of cs) = codes "any(" ++ by_commas (shown_cfgs cs) ++ codes ")"
  shown_cfg (not_of c) = codes "not(" ++ shown_cfg c ++ codes ")"

  pub shown_cfgs : CfgViews → List (List ℕ)
  shown_cfgs no_cfgs = []
  shown_cfgs (cfg_and c cs) = shown_cfg c ∷ shown_cfgs cs

-- ---- whether conditions are true; `None` is unknown

-- flags of one name, or keys of one name with one value
abbrev pub is_atom : AtomView → AtomView → Bool
is_atom = eq_of_both (on (λ a. a.value) (option_eq (pointwise nat_eq))) (on (λ a. a.name) (pointwise nat_eq))

-- the atom stands among those that are set
abbrev pub is_set : List AtomView → AtomView → Bool
is_set set wanted = list_any (λ a. is_atom a wanted) set

-- the flag `true` always holds and the flag `false` never; any other atom holds where it is set
abbrev pub holds : List AtomView → AtomView → Bool
holds set a = if is_atom a (flag_atom (codes "true")) then true else if is_atom a (flag_atom (codes "false")) then false else is_set set a

-- the answer is known, and is this one
abbrev pub is_answer : Bool → Option Bool → Bool
is_answer true (Some b) = b
is_answer false (Some b) = not b
is_answer b None = false

-- the first answer that is not the neutral one, or the neutral one where there is none
abbrev pub first_but : Bool → List (Option Bool) → Option Bool
first_but neutral answers = unwrap_or (find (λ a. not (is_answer neutral a)) answers) (Some neutral)

-- whether a condition is true where these atoms are set
unfoldable mutual
  -- the value of a condition where these atoms are set, if it has one
  pub truth : List AtomView → CfgView → Option Bool
  truth set invalid = None
  truth set (atom a) = Some (holds set a)
  truth set (all_of cs) = first_but true (truths set cs)
  truth set (any_of cs) = first_but false (truths set cs)
  truth set (not_of c) = option_map not (truth set c)

  pub truths : List AtomView → CfgViews → List (Option Bool)
  truths set no_cfgs = []
  truths set (cfg_and c cs) = truth set c ∷ truths set cs
