-- For the crate's own functions: what items add, by their ids and by what is lent of them.
use Rattle.std.specs.Prelude.{◌∷◌, ◌≡◌, ℕ, List, [], ◌++◌, map, Option, Some, None}
use Rattle.std.specs.{Borrow.Bor, Option.option_map_or}
use Rattle.item_tree.specs.{Layout.vis_at, Node.Unfolding, Shown.Lent, Shown.lent_leaf, Shown.lent_parent, Walk.of_id}
use Rattle.item_tree_attrs.specs.{Collected.Collected, Collected.collection_of, Collected.nothing_collected, declared.collect.AttrsOrCfg.AttrsOrCfg}
use Rattle.def_map.specs.declared.{kinds.Visibility.Visibility, kinds.Visibility.TheVariants.Public, push.Owner.Owner, push.Place.Place}
use Rattle.def_map.specs.declared.ctx.Ctx as ctx_code
use Rattle.def_map.specs.declared.push.Row as row_code
use Rattle.def_map.specs.declared.walk as walk_code
use Rattle.hir_input.specs.declared.ast.PlainKind.{PlainKind}
use Rattle.item_tree.specs.Node.{plain}
use Rattle.def_map.specs.declared.attributes.Marks.{Marks}
use Rattle.def_map.specs.declared.rows.ItemKey.{ItemKey}
use Rattle.def_map.specs.declared.kinds.Namespace.{Namespace}
use Rattle.def_map.specs.Crates.{Thing, Veil, unseen}
use Rattle.def_map.specs.Tables as spec
use Rattle.def_map.specs.Tables.{CrateRow}
use Rattle.def_map.specs.Views.{crate_row_view, sources_view}

-- new has the rows of old, and these behind them
abbrev pub AddsRows : List row_code.Row → List row_code.Row → List CrateRow → Type 0
AddsRows old new rows = map crate_row_view new ≡ map crate_row_view old ++ rows

-- a veil by its parts
abbrev pub veil_of : ℕ → Namespace → Visibility → Veil
veil_of at ns v = record { parent = at; namespace = ns; visibility = v }

-- the name of another crate, which is not seen
abbrev pub unseen_other : List ℕ → List ℕ × Thing ItemKey
unseen_other name = (name, unseen)

-- attributes that are lent
abbrev pub lent_collected : Option Collected → Collected
lent_collected None = nothing_collected
lent_collected (Some c) = c

abbrev pub collected_in : Option (Bor AttrsOrCfg) → Collected
collected_in None = nothing_collected
collected_in (Some attrs) = collection_of attrs.now

-- who sees what has the visibility of an id, in a module
abbrev pub seen_at : ctx_code.Ctx → Unfolding → ℕ → ℕ → Visibility
seen_at ctx u at i = option_map_or (spec.visibility_in ctx.parents.now (sources_view ctx.sources) at) (vis_at u.forest i) Public

-- what the item of an id adds, with those in it
abbrev pub id_rows : ctx_code.Ctx → Unfolding → Place → ℕ → List CrateRow
id_rows ctx u p i = of_id u [] (spec.node_rows ctx.parents.now (sources_view ctx.sources) p) i

abbrev pub owner_by : Place → Marks → Lent → Owner
owner_by p m (lent_leaf a l) = record { place = p; id = a; marks = m }
owner_by p m (lent_parent a t is) = record { place = p; id = a; marks = m }

-- what an item that is lent adds without those in it, and where they stand
abbrev pub lent_own : ctx_code.Ctx → Unfolding → Owner → Lent → List CrateRow
lent_own ctx u o (lent_leaf a l) = spec.leaf_rows ctx.parents.now (sources_view ctx.sources) o (seen_at ctx u o.place.at) l
lent_own ctx u o (lent_parent a t is) = spec.trunk_rows ctx.parents.now (sources_view ctx.sources) o (seen_at ctx u o.place.at) t

abbrev pub lent_inside : ctx_code.Ctx → Owner → Lent → Option Place
lent_inside ctx o (lent_leaf a l) = None
lent_inside ctx o (lent_parent a t is) = spec.place_inside ctx.parents.now (sources_view ctx.sources) o t

-- the kind, the name and the visibility of an item that has no more
abbrev pub plain_view : walk_code.PlainItem.PlainItem → PlainKind × List ℕ × ℕ
plain_view n = (n.kind, n.name.now, n.visibility)

abbrev pub lent_plain : Lent → Option (PlainKind × List ℕ × ℕ)
lent_plain (lent_leaf a (plain k name v)) = Some (k, name, v)
lent_plain x = None

abbrev pub plain_rows : ctx_code.Ctx → Unfolding → Owner → PlainKind × List ℕ × ℕ → List CrateRow
plain_rows ctx u o n = spec.plain_declared o n.0 n.1 (seen_at ctx u o.place.at n.2) ∷ []

-- what another item adds
abbrev pub lent_other : ctx_code.Ctx → Unfolding → Owner → Lent → List CrateRow
lent_other ctx u o (lent_leaf a (plain k name v)) = []
lent_other ctx u o x = lent_own ctx u o x
