use Rattle.source_listing.proofs.Common.{◌++◌, ◌∙◌, ap, string_bytes, option_copied, on_ok_weaker, reserved_of, rules}
use Rattle.std.proofs.Common.{sym}
use Rattle.hir_input.specs.Name.{shown_name}
use Rattle.rust_paths.specs.Names.{may_be_keyword}
use Rattle.source_listing.specs.Lines as spec
use Rattle.source_listing.proofs.ShownNames.{name_pushed, shown_bare}
use Rattle.source_listing.proofs.printer.Printer.push_name.Goals as goal

pub returns-then-not-may_be_keyword : goal.returns-then-not-may_be_keyword
returns-then-not-may_be_keyword c =
    let out = string_bytes c.args.out.now in
    let reserved = reserved_of c.args.self.now in
    let name = c.in-Some.name.now in
    let blank = string_bytes c.push_str.new.self in
    let none = sym (c.may_be_keyword.ensures ∙ ap may_be_keyword c.text.ensures.value) ∙ c.if-not-may_be_keyword.true in
    let bare = c.text-then-not-may_be_keyword.ensures.value ∙ sym (shown_bare reserved name (c.args.self.now.words c.if-self.true) none) in
    on_ok_weaker c.push_str-then-not-may_be_keyword.result (λ e. name_pushed out blank (string_bytes c.push_str-then-not-may_be_keyword.new.self) (shown_name reserved name) (search rules) (e ∙ ap (λ l. blank ++ l) bare)
    ∙ ap (λ n. out ++ spec.listed_name reserved (option_copied n)) (sym c.in-Some.is)) (search rules)

pub returns : goal.returns
returns c =
    let out = string_bytes c.args.out.now in
    let reserved = reserved_of c.args.self.now in
    let name = c.in-Some.name.now in
    let blank = string_bytes c.push_str.new.self in
    on_ok_weaker c.write.result (λ e. name_pushed out blank (string_bytes c.write.new.self) (shown_name reserved name) (search rules) (e ∙ ap (λ l. blank ++ l) c.display-name.ensures)
    ∙ ap (λ n. out ++ spec.listed_name reserved (option_copied n)) (sym c.in-Some.is)) c.write.ensures.bytes
