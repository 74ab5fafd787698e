use Rattle.std.proofs.Common.{◌≡◌, ◌-◌, length, take, ap, sym, subst, ◌∙◌, Some, slice_get}
use Rattle.module_tree.specs.Inner.{texts}
use Rattle.module_tree.proofs.BorrowedNames.{Above, at_top, at_dots, at_name}
use Rattle.module_tree.proofs.paths.go_above.Goals as goal

pub returns-then-is_empty : goal.returns-then-is_empty
returns-then-is_empty c =
    let names = c.args.names.now.items in
    let last : Some c.in-Some.last.now ≡ slice_get names (length names - 1) = subst (λ ns. Some c.in-Some.last.now ≡ slice_get ns (length ns - 1)) c.deref.ensures.value c.in-Some.ensures.value in
    at_top names c.in-Some.last.now last (cc)

pub returns-then-eq : goal.returns-then-eq
returns-then-eq c =
    let names = c.args.names.now.items in
    let last : Some c.in-Some.last.now ≡ slice_get names (length names - 1) = subst (λ ns. Some c.in-Some.last.now ≡ slice_get ns (length ns - 1)) c.deref.ensures.value c.in-Some.ensures.value in
    subst (λ ns. Above names (texts ns)) (sym c.in_ok-push-2.ensures.items) (at_dots names c.in-Some.last.now last _ (cc) (cc) (cc))

pub returns : goal.returns
returns c =
    let names = c.args.names.now.items in
    let last : Some c.in-Some.last.now ≡ slice_get names (length names - 1) = subst (λ ns. Some c.in-Some.last.now ≡ slice_get ns (length ns - 1)) c.deref.ensures.value c.in-Some.ensures.value in
    let rest : c.pop-last.new.self.items ≡ take (length names - 1) names = c.pop-last.ensures.rest ∙ ap (λ n. take (n - 1) names) c.args.names.now.ok.0 in
    subst (λ ns. Above names (texts ns)) (sym rest) (at_name names c.in-Some.last.now last (cc) (cc))
