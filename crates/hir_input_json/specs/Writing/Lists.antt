-- Lists of data that are made item by item.
use Rattle.std.specs.Prelude.{List, [], ◌∷◌, Option, option_map}
use Rattle.serde_json.specs.Data.{Data, Items, item}

-- behind others
abbrev pub after : List Data → Items → Items
after [] ds = ds
after (e ∷ es) ds = item e (after es ds)

-- what is done, and behind it what is left
abbrev pub joined_items : List Data → Option Items → Option Items
joined_items done left = option_map (after done) left
