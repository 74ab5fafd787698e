-- The reading of an edition.
use Rattle.std.specs.Prelude.{ℕ, ◌^◌, ◌==◌, List, [], codes, if◌then◌else◌, Option, Some, None}
use Rattle.serde_json.specs.Data.{Data}
use Rattle.hir_input.specs.declared.edition.EditionYear.{EditionYear}
use Rattle.hir_input.specs.declared.edition.EditionYear.TheVariants.{E2015, E2018, E2021, E2024}
use Rattle.hir_input_json.specs.Reading.{Reading, right, here, ◌>>=◌}
use Rattle.hir_input_json.specs.Forms.{optional_at, whole_form, identifier_form, object_members, list_at}

-- what `edition_view` of `hir_input` gives: the year, and the texts of the reserved words
abbrev pub EditionView : Type 0
EditionView = EditionYear × List (List ℕ)

-- the edition where none is named
abbrev pub latest_edition : EditionView
latest_edition = (E2024, [])

-- the years that have an edition
abbrev pub year_of : ℕ → Option EditionYear
year_of n =
    if n == 2015 then Some E2015
    else (if n == 2018 then Some E2018
    else (if n == 2021 then Some E2021
    else (if n == 2024 then Some E2024 else None)))

-- a year
abbrev pub year : Data → Reading EditionYear
year d = do
  n ← whole_form (2 ^ 64) d
  here (year_of n)

-- an edition, whose year and reserved words may both be absent
abbrev pub edition : Data → Reading EditionView
edition d = do
  _ ← object_members d
  y ← optional_at E2024 (codes "year") year d
  words ← list_at identifier_form (codes "reserved") d
  right (y, words)

-- the edition of a request, the latest where it is absent
abbrev pub edition_at : Data → Reading EditionView
edition_at = optional_at latest_edition (codes "edition") edition
