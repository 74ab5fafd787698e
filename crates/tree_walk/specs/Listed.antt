-- A listed import as plain data.
use Rattle.item_tree.specs.{Calls.import, Imports.Import}
use Rattle.tree_walk.specs.declared.imports.Listed.{Listed}

-- the import that is listed
abbrev pub listed_import : Listed → Import
listed_import l = import l.index l.path l.kind l.alias
