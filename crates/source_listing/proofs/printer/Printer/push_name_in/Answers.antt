use Rattle.source_listing.proofs.Common.{◌++◌, ◌∙◌, ap, sym, string_bytes, map, option_copied, on_ok_weaker, reserved_of, rules}
use Rattle.hir_input.specs.Name.{shown_name}
use Rattle.source_listing.specs.Outlines.{scoped_name}
use Rattle.source_listing.proofs.PushedTexts.{name_pushed_in}
use Rattle.source_listing.proofs.printer.Printer.push_name_in.Goals as goal

pub returns : goal.returns
returns c =
    let out = string_bytes c.args.out.now in
    let reserved = reserved_of c.args.self.now in
    let scope = c.args.scope.now in
    let around = string_bytes c.push_around.new.out in
    on_ok_weaker c.write.result (λ e. name_pushed_in (λ n. n.now) scope out (string_bytes c.push_str.new.self) around (string_bytes c.write.new.self) (shown_name reserved c.in-Some.name.now) (search rules) (search rules)
    (e ∙ ap (λ l. around ++ l) c.display-name.ensures) ∙ ap (λ n. out ++ scoped_name reserved (map (λ n. n.now) scope) (option_copied n)) (sym c.in-Some.is)) c.write.ensures.bytes
