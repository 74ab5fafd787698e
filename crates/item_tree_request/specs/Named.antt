-- The crates that shows and edits name.
use Rattle.std.specs.Prelude.{ℕ, ◌^◌, ◌<◌}
use Rattle.item_tree_db.specs.declared.edit.Edit.{Edit}
use Rattle.item_tree_db.specs.declared.edit.Edit.TheVariants.{SetFile, RemoveFile, SetBlock, RemoveBlock, SetCfg}
use Rattle.item_tree_request.specs.declared.request.show.Show.{Show}
use Rattle.item_tree_request.specs.declared.request.show.Show.TheVariants.{OfTree, Changed}

-- the crate that a show names, if it names one, is one of this many
abbrev pub NamesCrate : ℕ → Show → Type 0
NamesCrate count (OfTree show) = (show.krate.0 < count) × (show.krate.0 < 2 ^ 32)
NamesCrate count (Changed since) = Unit {0}

-- the crate that an edit names, if it names one, is one of this many
abbrev pub EditNamesCrate : ℕ → Edit → Type 0
EditNamesCrate count (SetFile file syntax) = Unit {0}
EditNamesCrate count (RemoveFile file) = Unit {0}
EditNamesCrate count (SetBlock block syntax) = Unit {0}
EditNamesCrate count (RemoveBlock block) = Unit {0}
EditNamesCrate count (SetCfg krate options) = (krate.0 < count) × (krate.0 < 2 ^ 32)
