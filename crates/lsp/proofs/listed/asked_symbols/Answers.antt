use Rattle.std.proofs.Common.{◌≡◌, true, Ok, inr, string_bytes, rules, sym, subst}
use Rattle.serde_json.specs.View.{view}
use Rattle.hir_input_json.specs.Reading.{right}
use Rattle.lsp.specs.Documents.{asked_document}
use Rattle.lsp.specs.Responses.{RequestOutcome}
use Rattle.lsp.specs.Servers.{AreAskedSymbols, AreRustSymbols, AreSymbolsOf}
use Rattle.lsp.specs.Views.{document_view, documents_view}
use Rattle.lsp.proofs.listed.asked_symbols.Goals as goal

pub returns-clause-symbols : goal.returns-clause-symbols
returns-clause-symbols c =
    let o = c.args.options.now in
    let d = document_view c.in_ok-uri.document.now in
    let uri = string_bytes c.in_ok-uri.uri in
    let out : RequestOutcome = Ok (view c.in_ok-symbols.symbols) in
    let asked : asked_document (documents_view c.args.documents.now) (view c.args.params) ≡ right (uri, d) = search rules in
    let rust : d.is_rust ≡ true = search rules in
    let named : uri ≡ c.deref.result.now = search rules in
    let symbols = subst (λ u. AreSymbolsOf o c.args.client u d out) (sym named) c.in_ok-symbols.ensures.symbols in
    inr (subst (λ r. AreAskedSymbols o c.args.client r out) (sym asked) (subst (λ b. AreRustSymbols o c.args.client b uri d out) (sym rust) symbols))
