-- What lists read of a text has its parts.
use Rattle.std.proofs.Common.{◌≡◌, ◌∙◌, ℕ, true, List, [], Option, Some, None, flat_map, refl, ap}
use Rattle.rust_items.specs.SourceFiles.{FileView}
use Rattle.rust_items.specs.declared.source_file.ItemPlace.{ItemPlace}
use Rattle.source_rows.specs.declared.mended_file.MendedFile.{MendedFile}
use Rattle.source_rows.specs.Listed.{MemberReading}
use Rattle.source_rows.specs.ListedFiles.{HasTextOf, IsListedFile, closers_in}
use Rattle.itemtree_commands.specs.Answers.{reading_in}
use Rattle.itemtree_commands.specs.declared.Options.{Options}
use Rattle.lsp.specs.Inner.{listed_reading}
use Rattle.lsp.specs.Parts.{AreTextParts, parts_at}
use Rattle.lsp.specs.declared.parts.Part.{Part}

pub reading_listed : (o : Options) (text : List ℕ) (mended : Option MendedFile) → HasTextOf text mended → listed_reading o text mended ≡ reading_in o true (record { path = []; text = text }) (closers_in mended)
reading_listed o text None h = refl
reading_listed o text (Some m) h = ap (λ t. record { text = t; closers = closers_in (Some m); edition = o.edition.year; options = Some o.krate.cfg }) h.0

pub parts_listed : (o : Options) (text : List ℕ) (mended : Option MendedFile) (read : FileView) (x : MemberReading) (places : List ItemPlace) (ps : List Part) → IsListedFile o.edition.year text (closers_in mended) read → HasTextOf text mended
    → x ≡ listed_reading o text mended → places ≡ read.places → ps ≡ flat_map (parts_at text x) places → AreTextParts o true text ps
parts_listed o text mended read x places ps h t is at e =
    (closers_in mended, read, h, e ∙ ap (flat_map (parts_at text x)) at ∙ ap (λ x. flat_map (parts_at text x) read.places) (is ∙ reading_listed o text mended t))
