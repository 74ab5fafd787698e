use Rattle.source_listing.proofs.Common.{map, rules, string_bytes, on_ok_weaker, file_of, reserved_of}
use Rattle.list_forms.specs.Colors.{bold_code, colored_text, cyan_code, faint_code}
use Rattle.source_rows.specs.Places.{item_place}
use Rattle.source_listing.specs.Entries.{entry_word}
use Rattle.source_listing.specs.Inner.{entry_view}
use Rattle.source_listing.specs.Lines.{indent, visibility_text}
use Rattle.source_listing.specs.Outlines.{own_level, shown_level, shown_scope, title}
use Rattle.source_listing.proofs.PushedTexts.{line_pushed}
use Rattle.source_listing.proofs.printer.Printer.push_line.Goals as goal

pub returns : goal.returns
returns c =
    let out = string_bytes c.args.out.now in
    let e = entry_view c.args.entry in
    let reserved = reserved_of c.args.self.now in
    let colors = c.args.is_colored in
    let is_flat = c.args.is_flat in
    let scope = map (λ n. n.now) c.args.scope.now in
    on_ok_weaker c.push_end.result (line_pushed out (colored_text colors faint_code (item_place (file_of c.args.self.now).path e.spot)) (indent (shown_level is_flat c.args.level)) (indent (shown_level is_flat (own_level e.kind))) (visibility_text reserved e.visibility)
    (colored_text colors cyan_code (entry_word e.kind)) (colored_text colors bold_code (title reserved (shown_scope is_flat scope) e)) _
    (string_bytes c.push_stand.new.out) (string_bytes c.push_indent.new.out) (string_bytes c.push_indent-2.new.out) (string_bytes c.push_visibility.new.out) (string_bytes c.push_colored.new.out) (string_bytes c.push_title.new.out) (string_bytes c.push_end.new.out)
    (search rules) (search rules) (search rules) (search rules) (search rules) (search rules)) c.push_end.ensures
