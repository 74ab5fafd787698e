-- those that are left decide as all do
use Rattle.std.proofs.Common.{◌≡◌, map, drop}
use Rattle.std.specs.List.{list_any}
use Rattle.itemtree_options.specs.Filters.{is_glob_of}
use Rattle.itemtree_options.proofs.folders.is_excluded.Given as goal

abbrev pub invariant-loop-glob : goal.invariant-loop-glob
invariant-loop-glob l =
    list_any (is_glob_of l.name l.path l.whole) (map (λ g. g.now) (drop l.glob-index l.globs))
    ≡ list_any (is_glob_of l.name l.path l.whole) (map (λ g. g.now) l.globs)
