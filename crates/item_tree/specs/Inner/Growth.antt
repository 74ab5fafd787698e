-- What lowering adds to the rows.
use Rattle.std.specs.Prelude.{◌≡◌, ℕ, ◌+◌, ◌*◌, ◌≤◌, Bool, List, [], ◌∷◌, ◌++◌, length, map, Option, Some, None, Result, MatchResult}
use Rattle.std.specs.declared.vec.Vec.{Vec}
use Rattle.std.specs.declared.alloc.Global.{Global}
use Rattle.hir_input.specs.declared.attr.Meta.{Meta}
use Rattle.hir_input.specs.Attr.{meta_view}
use Rattle.hir_input.specs.Syntax.{ItemView, ItemViews, no_items, listed_module, listed_extern_block}
use Rattle.item_tree_attrs.specs.declared.collect.AttrsOrCfg.{AttrsOrCfg}
use Rattle.item_tree_attrs.specs.Collected.{Collected, collection_of, collected_from, attr_limit}
use Rattle.item_tree.specs.declared.visibility.RawVisibility.{RawVisibility}
use Rattle.item_tree.specs.declared.items.StructValueNsCtor.{StructValueNsCtor}
use Rattle.item_tree.specs.declared.lower.Ctx.{Ctx}
use Rattle.item_tree.specs.declared.rows.Rows.{Rows}
use Rattle.item_tree.specs.declared.fault.LowerError.{LowerError}
use Rattle.item_tree.specs.CrateView.{crate_view}
use Rattle.item_tree.specs.Node.{Ctor, Node, Forest, empty, add, count, Unfolding}
use Rattle.item_tree.specs.Kept.{kept, kept_all, top_attrs_of}
use Rattle.item_tree.specs.Column.{has_no_attributes, unless, some_unless, column_of, places_from, plain_place}
use Rattle.item_tree.specs.Inner.Meeting.{meet, meet_all}
use Rattle.item_tree.specs.Layout.{vis_id, ctor_map, ctor_vis, forest_vis, kind_bit, ids, LayoutRow, row_tag, row_key, row_attrs, row_item, rows_of}
use Rattle.item_tree.specs.Imports.{super_limit}
use Rattle.item_tree.specs.KeptUse.{use_tree_limit}
use Rattle.item_tree.specs.Size.{item_limit, visibility_limit, most_attrs, forest_supers, item_written, items_written, Sizes, IsPassed, no_sizes, only_visibilities}
use Rattle.item_tree.specs.Shown.{ctor_ids}
use Rattle.item_tree.specs.Stored.{keys_in, row_items, column_places, column_in}

-- the items of a module or of an extern block
abbrev pub items_below : ItemView → ItemViews
items_below (listed_module n semicolon is) = is
items_below (listed_extern_block n is) = is
items_below i = no_items

-- what metas collect, what the top of a source file does, and what is kept of one item and of several
module _ (ctx : Ctx) where
  abbrev pub attrs_in : List Meta → Collected
  attrs_in metas = collected_from ctx.krate.now.cfg ctx.skipped.now (map meta_view metas)

  abbrev pub top_attrs_in : Bool → List Meta → Collected
  top_attrs_in is_root metas = top_attrs_of is_root (crate_view ctx.krate.now) ctx.skipped.now (map meta_view metas)

  abbrev pub kept_of : ItemView → Option Node
  kept_of i = kept ctx.krate.now.cfg ctx.skipped.now i

  abbrev pub all_kept_in : ItemViews → Forest
  all_kept_in is = kept_all ctx.krate.now.cfg ctx.skipped.now is

  abbrev pub tree_in : Collected → ItemViews → Unfolding
  tree_in top_attrs is = record { top_attrs = top_attrs; forest = all_kept_in is }

abbrev pub row_count : Rows → ℕ
row_count r = length r.items.items

-- no size is passed so far
pub record IsWithinLimits (r : Rows) : Type 0 where
  pub items : row_count r ≤ item_limit
  pub visibilities : length r.arena ≤ visibility_limit
  pub column : length r.column.items ≤ row_count r

-- the rows stay, whatever room they have
pub record Keeps (old new : Rows) : Type 0 where
  pub tags : new.tags.items ≡ old.tags.items
  pub keys : new.keys.items ≡ old.keys.items
  pub items : new.items.items ≡ old.items.items
  pub places : new.places.items ≡ old.places.items
  pub column : new.column.items ≡ old.column.items
  pub arena : new.arena ≡ old.arena

-- these rows were added at the end of each column
pub record Adds (old new : Rows) (rows : List LayoutRow) : Type 0 where
  pub tags : new.tags.items ≡ old.tags.items ++ map row_tag rows
  pub keys : keys_in new ≡ keys_in old ++ map row_key rows
  pub items : row_items new ≡ row_items old ++ map row_item rows
  pub places : column_places new ≡ column_places old ++ places_from (length (column_in old)) (map row_attrs rows)
  pub column : column_in new ≡ column_in old ++ column_of (map row_attrs rows)

-- the rows of the forest were added, and these are the ids of its nodes; of its use trees w at most are written in one
pub record Lowers (old new : Rows) (w : ℕ) (f : Forest) (is : List ℕ) : Type 0 where
  pub given : is ≡ ids (row_count old) f
  pub arena_met : new.arena ≡ meet_all old.arena (forest_vis f)
  pub added : Adds old new (rows_of new.arena f (row_count old))
  pub use_trees : w ≤ use_tree_limit
  pub attributes : most_attrs f ≤ attr_limit
  pub supers : forest_supers f ≤ super_limit
  pub within : IsWithinLimits new

abbrev pub to_list : Option ℕ → List ℕ
to_list None = []
to_list (Some i) = i ∷ []

-- the sizes of the rows with those of the forest, of whose use trees w at most are written in one
abbrev pub sizes_with : Rows → ℕ → Forest → Sizes
sizes_with old w f = record {
  items = row_count old + count f;
  visibilities = length (meet_all old.arena (forest_vis f));
  use_trees = w;
  attributes = most_attrs f;
  supers = forest_supers f;
}

-- the item is lowered, or refused for a size that it passes
abbrev pub IsLowered : Ctx → Rows → Rows → ItemView → Result (Option ℕ) LowerError → Type 0
IsLowered ctx old new i r =
    let f = add (kept_of ctx i) empty in
    MatchResult r (λ id. Lowers old new (item_written i) f (to_list id)) (IsPassed (sizes_with old (item_written i) f))

-- the same of several
abbrev pub AreLowered : Ctx → Rows → Rows → ItemViews → Result (Vec ℕ Global) LowerError → Type 0
AreLowered ctx old new is r = MatchResult r (λ ids. Lowers old new (items_written is) (all_kept_in ctx is) ids.items) (IsPassed (sizes_with old (items_written is) (all_kept_in ctx is)))

-- the visibility was met, and this is its id
pub record Meets (old new : Rows) (v : RawVisibility) (i : ℕ) : Type 0 where
  pub met : new.arena ≡ meet old.arena v
  pub given : i ≡ vis_id new.arena v
  pub kept : new ≡ record old { arena = new.arena }
  pub within : IsWithinLimits new

-- the visibility was met before, and this is its id
pub record HasId (r : Rows) (v : RawVisibility) (i : ℕ) : Type 0 where
  pub given : i ≡ vis_id r.arena v
  pub met : meet r.arena v ≡ r.arena

-- several visibilities were met, one after the other, and nothing else of the rows changed
pub record MeetsAll (old new : Rows) (vs : List RawVisibility) : Type 0 where
  pub met : new.arena ≡ meet_all old.arena vs
  pub kept : new ≡ record old { arena = new.arena }
  pub within : IsWithinLimits new

-- the same of the first of several, up to the rest: these are the ids of the first
pub record MeetsUpTo (old new : Rows) (vs rest : List RawVisibility) (is : List ℕ) : Type 0 where
  pub met : meet_all new.arena rest ≡ meet_all old.arena vs
  pub given : is ++ map (vis_id (meet_all new.arena rest)) rest ≡ map (vis_id (meet_all new.arena rest)) vs
  pub kept : new ≡ record old { arena = new.arena }
  pub within : IsWithinLimits new

-- what these visibilities pass once they are met
abbrev pub sizes_meeting : Rows → List RawVisibility → Sizes
sizes_meeting old vs = only_visibilities (length (meet_all old.arena vs))

-- what one more row with these attributes passes
abbrev pub sizes_pushing : Rows → Collected → Sizes
sizes_pushing old c = record no_sizes { items = row_count old + 1; attributes = length c.attrs }

-- the visibilities of a constructor were met, and this is the constructor of their ids
pub record MeetsCtor (old new : Rows) (c : Ctor RawVisibility) (ctor : StructValueNsCtor) : Type 0 where
  pub met : MeetsAll old new (ctor_vis c)
  pub given : ctor_ids ctor ≡ ctor_map (vis_id new.arena) c

-- the constructor is lowered, or refused for its visibilities
abbrev pub CtorIsLowered : Rows → Rows → Ctor RawVisibility → Result StructValueNsCtor LowerError → Type 0
CtorIsLowered old new c r = MatchResult r (MeetsCtor old new c) (IsPassed (sizes_meeting old (ctor_vis c)))

-- the value stands at the end of the column, unless it is enabled and empty, and this is its place
pub record Puts (old new : Vec AttrsOrCfg Global) (c : Collected) (place : ℕ) : Type 0 where
  pub added : map collection_of new.items ≡ map collection_of old.items ++ unless (has_no_attributes c) c
  pub given : plain_place place ≡ some_unless (has_no_attributes c) (length old.items)

-- one row was added at the end, and this is its id
pub record Pushes (old new : Rows) (r : LayoutRow) (i : ℕ) : Type 0 where
  pub given : i ≡ 2 * row_count old + kind_bit (row_tag r)
  pub added : Adds old new (r ∷ [])
  pub arena_kept : new.arena ≡ old.arena
  pub within : IsWithinLimits new
