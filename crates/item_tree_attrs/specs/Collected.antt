-- What a list of metas collects: attributes, up to the first false cfg.
use Rattle.std.specs.Prelude.{◌≡◌, ℕ, ◌+◌, ◌-◌, ◌^◌, ◌<◌, List, [], ◌∷◌, ◌++◌, length, codes, Bool, true, false, Option, Some, None, option_map, if◌then◌else◌}
use Rattle.std.specs.{List.flat_map, List.filter_map, List.take_while, Option.option_map_or}
use Rattle.either.specs.{declared.Either.Either, declared.Either.TheVariants.Left, declared.Either.TheVariants.Right, Either.is_left, Either.left, Either.right}
use Rattle.hir_input.specs.declared.{ast.PathNode.PathNode, ast.PathNode.TheVariants.Readable, ast.PathNode.TheVariants.Unreadable, attr.Attr.Attr}
use Rattle.hir_input.specs.declared.attr.AttrInput.{AttrInput, TheVariants.Literal, TheVariants.TokenTree}
use Rattle.hir_input.specs.{declared.ids.SyntaxContext.SyntaxContext, declared.mod_path.PathKind.TheVariants.Plain, Name.is_among, Path.Path, Path.ident_of}
use Rattle.hir_input.specs.Attr.{MetaView, MetaViews, path_meta, key_value_meta, token_tree_meta, cfg_meta, cfg_attr_meta, unsafe_meta, no_metas, meta_and}
use Rattle.hir_input.specs.Cfg.{AtomView, CfgView, cfg_view, truth}
use Rattle.item_tree_attrs.specs.declared.collect.AttrsOrCfg.{AttrsOrCfg, TheVariants.Enabled, TheVariants.CfgDisabled}

-- attributes, and the false cfg that stands behind them, if any
pub record Collected : Type 0 where
  pub attrs : List Attr
  pub false_cfg : Option CfgView

-- the most attributes of an owner
abbrev pub attr_limit : ℕ
attr_limit = 2 ^ 32 - 1

-- enabled, and no attributes
abbrev pub nothing_collected : Collected
nothing_collected = record { attrs = []; false_cfg = None }

-- what a value has collected
abbrev pub collection_of : AttrsOrCfg → Collected
collection_of (Enabled attrs) = record { attrs = attrs; false_cfg = None }
collection_of (CfgDisabled both) = record { attrs = both.value.1; false_cfg = Some (cfg_view both.value.0) }

-- ---- the events of metas

-- what a meta gives: an attribute, or a cfg that is false
abbrev pub Event : Type 0
Event = Either Attr CfgView

-- the name of a path that is missing or not readable
abbrev pub missing_name : List ℕ
missing_name = codes "[missing name]"

abbrev pub attr_path : Option PathNode → Path
attr_path (Some (Readable path)) = path
attr_path (Some Unreadable) = record { kind = Plain; names = missing_name ∷ [] }
attr_path None = record { kind = Plain; names = missing_name ∷ [] }

-- a readable path of one plain name that is among the skipped names
abbrev pub is_skipped : List (List ℕ) → Option PathNode → Bool
is_skipped skipped (Some (Readable path)) = option_map_or (is_among skipped) (ident_of path) false
is_skipped skipped (Some Unreadable) = false
is_skipped skipped None = false

abbrev pub is_false : Option Bool → Bool
is_false (Some true) = false
is_false (Some false) = true
is_false None = false

-- an attribute, unless its path is skipped
abbrev pub attr_events : List (List ℕ) → Option PathNode → Option AttrInput → SyntaxContext → List Event
attr_events skipped path input ctxt = if is_skipped skipped path then [] else Left (record { path = attr_path path; input = input; ctxt = ctxt }) ∷ []

-- a cfg, if it is false
abbrev pub cfg_events : List AtomView → CfgView → List Event
cfg_events options cfg = if is_false (truth options cfg) then Right cfg ∷ [] else []

-- the events of a meta under these options and skipped names, in order: a `cfg_attr` that is not false has those of its metas
abbrev mutual
  pub events : List AtomView → List (List ℕ) → MetaView → List Event
  events options skipped (path_meta path ctxt) = attr_events skipped path None ctxt
  events options skipped (key_value_meta path value ctxt) = attr_events skipped path (option_map Literal value) ctxt
  events options skipped (token_tree_meta path tokens ctxt) = attr_events skipped path (Some (TokenTree tokens)) ctxt
  events options skipped (cfg_meta cfg) = cfg_events options cfg
  events options skipped (cfg_attr_meta cfg metas) = if is_false (truth options cfg) then [] else events_in options skipped metas
  events options skipped (unsafe_meta inner) = events options skipped inner

  pub events_in : List AtomView → List (List ℕ) → MetaViews → List Event
  events_in options skipped no_metas = []
  events_in options skipped (meta_and m ms) = events options skipped m ++ events_in options skipped ms

-- ---- what is collected

-- the first of a list, if it has one
abbrev pub first : {A : Type 0} → List A → Option A
first [] = None
first (x ∷ xs) = Some x

-- the attributes before the first false cfg, with that cfg, or all of them
abbrev pub cut_events : List Event → Collected
cut_events es = record { attrs = filter_map left (take_while is_left es); false_cfg = first (filter_map right es) }

-- what a list of metas collects
abbrev pub collected_from : List AtomView → List (List ℕ) → List MetaView → Collected
collected_from options skipped metas = cut_events (flat_map (events options skipped) metas)

-- ---- one owner's attributes behind another's

abbrev pub join_by : Option CfgView → Collected → Collected → Collected
join_by (Some cfg) before behind = before
join_by None before behind = record { attrs = before.attrs ++ behind.attrs; false_cfg = behind.false_cfg }

-- the left one if a cfg of it is false, or else the attributes of both with the cfg of the right one
abbrev pub join : Collected → Collected → Collected
join before behind = join_by before.false_cfg before behind

-- how three are grouped makes no difference
abbrev pub IsAssociative : (Collected → Collected → Collected) → Type 0
IsAssociative f = (a b c : Collected) → f (f a b) c ≡ f a (f b c)

-- joined with it, on either side, each stays what it is
abbrev pub IsUnit : (Collected → Collected → Collected) → Collected → Type 0
IsUnit f unit = (c : Collected) → (f unit c ≡ c) × (f c unit ≡ c)

-- a list followed by another collects what the two collect, joined
abbrev pub JoinsLists : (List MetaView → Collected) → Type 0
JoinsLists collects = (ms ns : List MetaView) → collects (ms ++ ns) ≡ join (collects ms) (collects ns)

-- the left one is enabled, and the two have more attributes together than an owner may have
pub record IsTooManyTogether (before behind : Collected) : Type 0 where
  pub enabled : before.false_cfg ≡ None
  pub counts : attr_limit < length before.attrs + length behind.attrs
