use Rattle.source_listing.proofs.Common.{◌≡◌, ◌++◌, Bor, map, flat_map, ap, ◌∙◌, on_ok_weaker, option_copied, string_bytes, listed_view, look_view, reading_view, row_view, file_of, reserved_of}
use Rattle.std.specs.Option.{option_or}
use Rattle.std.specs.Prelude.{option_to_list}
use Rattle.hir_input.specs.declared.name.Name.{Name}
use Rattle.source_listing.specs.Outlines.{member_text}
use Rattle.source_listing.specs.Search.{holder}
use Rattle.source_listing.proofs.printer.Printer.push_listed_members.Goals as goal

pub returns-clause-text : goal.returns-clause-text
returns-clause-text c =
    let x = reading_view c.args.reading in
    let r = row_view c.args.row.now in
    let out = string_bytes c.args.out.now in
    let text = member_text (file_of c.args.self.now) (reserved_of c.args.self.now) (look_view c.args.look) r.level in
    let named : option_copied c.holder.result ≡ holder x r c.args.place = c.holder.ensures ∙ ap (option_or r.name) c.in_ok-type_name.ensures in
    let scope = ap (map (λ (n : Bor Name). n.now)) c.deref.ensures.value ∙ c.in_ok-scope.ensures ∙ ap (λ n. r.scope ++ option_to_list n) named in
    let chosen = ap (map listed_view) c.deref-2.ensures.value ∙ c.in_ok-members.ensures in
    on_ok_weaker c.push_members.result (λ e. e ∙ (λ i. out ++ flat_map (text (scope i)) (chosen i))) c.push_members.ensures.text
