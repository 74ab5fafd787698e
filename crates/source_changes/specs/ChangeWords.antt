-- What became of something, in words.
use Rattle.std.specs.Prelude.{ℕ, List, codes}
use Rattle.source_changes.specs.declared.change_kind.ChangeKind.{ChangeKind, TheVariants.Removed, TheVariants.Added, TheVariants.Changed}

-- the word of what became of something, with a blank behind it
abbrev pub change_word : ChangeKind → List ℕ
change_word Removed = codes "removed "
change_word Added = codes "added "
change_word Changed = codes "changed "

-- what was removed stands in the old one, and all else in the new one
abbrev pub side_of : {S : Type 0} → ChangeKind → S → S → S
side_of Removed old new = old
side_of _ old new = new
