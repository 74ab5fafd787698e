use Rattle.std.proofs.Common.{rules, ◌≡◌, ◌∙◌, ap, option_copied}
use Rattle.rust_items.specs.SourceFiles.{FileView}
use Rattle.source_rows.specs.ListedViews.{reading_view}
use Rattle.lsp.specs.Inner.{listed_reading}
use Rattle.lsp.proofs.ListedParts.{parts_listed}
use Rattle.lsp.proofs.parts.text_parts.Goals as goal

pub returns-clause-parts : goal.returns-clause-parts
returns-clause-parts c =
    let o = c.args.options.now in
    let text = c.args.text.now in
    let h = c.in_ok-listed.ensures.file in
    let mended : option_copied c.as_ref.result ≡ c.in_ok-listed.listed.mended = search rules in
    let places : c.deref.result.now ≡ h.read.places = c.deref.ensures.value ∙ ap (λ (f : FileView). f.places) h.clipped in
    parts_listed o text c.in_ok-listed.listed.mended h.read (reading_view c.reading_of-reading.result) c.deref.result.now c.in_ok-parts.parts.items h.is_read c.in_ok-listed.ensures.text
    (c.reading_of-reading.ensures ∙ ap (listed_reading o text) mended) places c.in_ok-parts.ensures
