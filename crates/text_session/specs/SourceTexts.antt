-- The text of a file with what was read of it, empty where it has none.
use Rattle.std.specs.Prelude.{ℕ, List, [], string_bytes, Option, option_and_then}
use Rattle.std.specs.Option.{option_map_or}
use Rattle.hir_input.specs.declared.edition.EditionYear.{EditionYear}
use Rattle.hir_input.specs.Cfg.{AtomView}
use Rattle.source_rows.specs.declared.mended_file.MendedFile.{MendedFile}
use Rattle.rust_items.specs.declared.source_file.ItemPlace.{ItemPlace}
use Rattle.rust_items.specs.declared.log.Problem.{Problem}
use Rattle.source_rows.specs.ListedFiles.{closers_in}
use Rattle.source_rows.specs.Listed.{MemberReading}
use Rattle.source_rows.specs.ListedViews.{text_read}
use Rattle.text_session.specs.declared.texts.SourceText.{SourceText}

abbrev pub text_bytes : Option SourceText → List ℕ
text_bytes t = option_map_or (λ x. string_bytes x.text) t []

abbrev pub text_places : Option SourceText → List ItemPlace
text_places t = option_map_or (λ x. x.places.items) t []

abbrev pub text_use_trees : Option SourceText → List ℕ
text_use_trees t = option_map_or (λ x. x.use_trees.items) t []

abbrev pub text_problems : Option SourceText → List Problem
text_problems t = option_map_or (λ x. x.problems.items) t []

-- the mended text, if that was read
abbrev pub text_mended : Option SourceText → Option MendedFile
text_mended t = option_and_then (λ x. x.mended) t

-- what headers and members are read of: the text that was read; under these options, where members are asked for
abbrev pub text_reading : EditionYear → Option (List AtomView) → Option SourceText → MemberReading
text_reading year options t = record { text = text_read (text_bytes t) (text_mended t); closers = closers_in (text_mended t); edition = year; options = options }
