-- The data of an atom and of a condition.
use Rattle.std.specs.Prelude.{ℕ, List, codes, Option, Some, None, option_map}
use Rattle.serde_json.specs.Data.{Data, null, string, array, object, Items, no_items, no_members, member}
use Rattle.hir_input.specs.Cfg.{AtomView, CfgView, CfgViews, invalid, atom, all_of, any_of, not_of, no_cfgs, cfg_and}
use Rattle.hir_input_json.specs.Writing.Parts.{led_items, name_data}

-- a key and its value
abbrev pub keyed_value : Data → List ℕ → Data
keyed_value key value = object (member (codes "key") key (member (codes "value") (string value) no_members))

-- a flag, or a key with its value
abbrev pub atom_by : List ℕ → Option (List ℕ) → Option Data
atom_by name None = name_data name
atom_by name (Some value) = option_map (λ d. keyed_value d value) (name_data name)

-- the JSON of an atom, if it has one
abbrev pub atom_data : AtomView → Option Data
atom_data a = atom_by a.name a.value

-- a condition
abbrev mutual
  pub cfg_data : CfgView → Option Data
  cfg_data invalid = Some null
  cfg_data (atom a) = atom_data a
  cfg_data (all_of cs) = option_map (λ ds. object (member (codes "all") (array ds) no_members)) (cfgs_data cs)
  cfg_data (any_of cs) = option_map (λ ds. object (member (codes "any") (array ds) no_members)) (cfgs_data cs)
  cfg_data (not_of c) = option_map (λ d. object (member (codes "not") d no_members)) (cfg_data c)

  pub cfgs_data : CfgViews → Option Items
  cfgs_data no_cfgs = Some no_items
  cfgs_data (cfg_and c cs) = led_items (cfg_data c) (cfgs_data cs)
