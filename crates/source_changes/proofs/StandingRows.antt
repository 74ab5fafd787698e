-- Rows, and where they stand.
use Rattle.std.proofs.Common.{◌≡◌, ◌<◌, ℕ, List, [], ◌∷◌, ◌++◌, length, map, Bor, ap, sym, ◌∙◌, append-nil, arith, refl, zip}
use Rattle.source_changes.specs.declared.matching.Keyed.{Keyed}
use Rattle.source_changes.specs.Matches.{ranks, same_keys}
use Rattle.source_changes.proofs.SeenLists.{ranks_seen}
use Rattle.source_changes.specs.declared.row_changes.Row as code_row
use Rattle.source_changes.specs.RowChanges.{TextRow}
use Rattle.source_changes.specs.Moves.{Frame, StandingRow, same_called, standings_from}
use Rattle.source_changes.proofs.Common.{Part, labelled_view, row_part, same_text, text_row_view, with_label}

-- rows have the ranks of their parts
pub ranks_of_rows : (items : List (Keyed (Bor (List ℕ)) code_row.Row)) (rows : List code_row.Row) → map labelled_view items ≡ map with_label (map text_row_view rows)
    → ranks (same_keys (λ a b. same_text a.now b.now)) items ≡ ranks same_called (map row_part rows)
ranks_of_rows items rows e =
    ranks_seen labelled_view (λ p q. same_text p.0 q.0) items ∙ ap (ranks (λ p q. same_text p.0 q.0)) e ∙ sym (ranks_seen with_label (λ p q. same_text p.0 q.0) (map text_row_view rows))
    ∙ sym (ranks_seen text_row_view (λ r s. same_text r.label s.label) rows) ∙ ranks_seen row_part same_called rows

-- no rows are left, or no ranks
pub no_more_rows : (done all : List StandingRow) (frames : List Frame) (rows : List code_row.Row) (numbers : List ℕ) → length rows < 1
    → done ++ zip (standings_from frames (map row_part rows) numbers) (map text_row_view rows) ≡ all → done ≡ all
no_more_rows done all frames [] numbers few inv = sym (append-nil done) ∙ inv
no_more_rows done all frames (r ∷ rs) numbers few inv = absurd (omega arith)

none_of_none : (frames : List Frame) (ps : List Part) → standings_from frames ps [] ≡ []
none_of_none frames [] = refl
none_of_none frames (p ∷ ps) = refl

pub no_more_ranks : (done all : List StandingRow) (frames : List Frame) (ps : List Part) (rows : List TextRow) (numbers : List ℕ) → length numbers < 1
    → done ++ zip (standings_from frames ps numbers) rows ≡ all → done ≡ all
no_more_ranks done all frames ps rows [] few inv = sym (append-nil done) ∙ sym (ap (λ ss. done ++ zip ss rows) (none_of_none frames ps)) ∙ inv
no_more_ranks done all frames ps rows (n ∷ ns) few inv = absurd (omega arith)
