-- What moved from a part around it to another of the same label.
use Rattle.std.specs.Prelude.{ℕ, Bool, ◌==◌, ◌&&◌, nat_lt, List, [], ◌∷◌, filter, flat_map, map}
use Rattle.std.specs.List.{zip}
use Rattle.source_changes.specs.Matches.{match_map, matches_of, ranks}
use Rattle.source_changes.specs.RowChanges.{RowChange, TextRow, row_change_of, same_text}
use Rattle.source_changes.specs.Parts.{Part}

-- ---- where parts stand

-- a part around others: where it ends, what it is called, and how many parts of that label come before it
pub record Frame : Type 0 where
  pub end : ℕ
  pub label : List ℕ
  pub rank : ℕ

-- what a part is called, and the innermost part around it
pub record Standing : Type 0 where
  pub label : List ℕ
  pub around : List ℕ
  pub rank : ℕ

-- two parts of one label stand in the same part
abbrev pub same_standing : Standing → Standing → Bool
same_standing a b = same_text a.label b.label && (same_text a.around b.around && a.rank == b.rank)

-- in these, the innermost first; nothing stands around a part at the top of a file
abbrev pub standing_in : List Frame → List ℕ → Standing
standing_in [] label = record { label = label; around = []; rank = 0 }
standing_in (f ∷ fs) label = record { label = label; around = f.label; rank = f.rank }

-- those that end behind a place
abbrev pub frames_at : ℕ → List Frame → List Frame
frames_at place frames = filter (λ f. nat_lt place f.end) frames

abbrev pub frame_of : Part → ℕ → Frame
frame_of p rank = record { end = p.range.end; label = p.label; rank = rank }

-- where parts of these ranks stand, in preorder, behind others that may stand around them
abbrev pub standings_from : List Frame → List Part → List ℕ → List Standing
standings_from frames (p ∷ ps) (n ∷ ns) =
    let around = frames_at p.range.start frames in
    standing_in around p.label ∷ standings_from (frame_of p n ∷ around) ps ns
standings_from frames _ _ = []

-- two parts are called the same
abbrev pub same_called : Part → Part → Bool
same_called p q = same_text p.label q.label

-- where the parts of a text stand
abbrev pub standings : List Part → List Standing
standings ps = standings_from [] ps (ranks same_called ps)

-- ---- rows

-- a row, and where it stands
abbrev pub StandingRow : Type 0
StandingRow = Standing × TextRow

-- the parts of a text have these rows
abbrev pub standing_rows : List Part → List TextRow → List StandingRow
standing_rows ps rows = zip (standings ps) rows

-- what differs between two lists of rows, where two are the same row only if they stand in the same part
abbrev pub row_moves : List StandingRow → List StandingRow → List RowChange
row_moves olds news = flat_map row_change_of (map (match_map (λ p. p.1)) (matches_of (λ p q. same_standing p.0 q.0) olds news))
