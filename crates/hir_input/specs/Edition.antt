-- Editions by their values.
use Rattle.std.specs.Prelude.{ℕ, List}
use Rattle.hir_input.specs.declared.edition.Edition.{Edition}
use Rattle.hir_input.specs.declared.edition.EditionYear.{EditionYear}

-- the year, and the texts of the reserved words
abbrev pub edition_view : Edition → EditionYear × List (List ℕ)
edition_view edition = (edition.year, edition.reserved.items)
