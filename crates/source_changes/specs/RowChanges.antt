-- What of some rows became another.
use Rattle.std.specs.Prelude.{ℕ, Bool, true, false, ◌&&◌, not, filter, nat_eq, if◌then◌else◌, List, [], ◌∷◌, flat_map}
use Rattle.std.specs.Cmp.Lexicographic.{pointwise}
use Rattle.source_changes.specs.declared.change_kind.ChangeKind.{ChangeKind}
use Rattle.source_changes.specs.declared.change_kind.ChangeKind.TheVariants.{Removed, Added, Changed}
use Rattle.source_changes.specs.declared.matching.Match.{Match}
use Rattle.source_changes.specs.declared.matching.Match.TheVariants.{Gone, Came, Stays}
use Rattle.source_changes.specs.Matches.{matches_of}

-- a row: what it is called, where it is told, the texts of its own tokens, and whether it is seen in its module alone
pub record TextRow : Type 0 where
  pub label : List ℕ
  pub at : ℕ
  pub own : List (List ℕ)
  pub is_hidden : Bool

-- two texts are one, and two lists of texts
abbrev pub same_text : List ℕ → List ℕ → Bool
same_text = pointwise nat_eq

-- two lists of texts are one
abbrev pub same_texts : List (List ℕ) → List (List ℕ) → Bool
same_texts = pointwise same_text

-- two rows are called the same
abbrev pub same_label : TextRow → TextRow → Bool
same_label r s = same_text r.label s.label

-- a change of a row, and whether that is hidden in each text that has it
pub record RowChange : Type 0 where
  pub kind : ChangeKind
  pub label : List ℕ
  pub at : ℕ
  pub is_hidden : Bool

abbrev pub row_change : ChangeKind → Bool → TextRow → RowChange
row_change k is_hidden r = record { kind = k; label = r.label; at = r.at; is_hidden = is_hidden }

-- what became of a row that the old text alone has, the new text alone, or both
abbrev pub row_change_of : Match TextRow → List RowChange
row_change_of (Gone r) = row_change Removed r.is_hidden r ∷ []
row_change_of (Came r) = row_change Added r.is_hidden r ∷ []
row_change_of (Stays r s) = if same_texts r.own s.own then [] else row_change Changed (r.is_hidden && s.is_hidden) s ∷ []

-- what differs between two lists of rows
abbrev pub row_changes : List TextRow → List TextRow → List RowChange
row_changes olds news = flat_map row_change_of (matches_of same_label olds news)

-- all changes, or those of what is seen outside of its module in one of the texts
abbrev pub seen_changes : Bool → List RowChange → List RowChange
seen_changes false cs = cs
seen_changes true cs = filter (λ c. not c.is_hidden) cs
