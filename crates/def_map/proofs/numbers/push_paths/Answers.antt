use Rattle.std.proofs.Common.{ℕ, List, Bor, ◌++◌, take, sym, ap, subst, ◌∙◌}
use Rattle.std.specs.{List.flat_map, Str.bytes_eq}
use Rattle.def_map.specs.declared.rows.NamedImport.{NamedImport}
use Rattle.def_map.specs.Numbering.{Interns}
use Rattle.def_map.proofs.Interning.{interns_both, joined_more}
use Rattle.def_map.proofs.numbers.push_paths.Goals as goal

pub loop-import-preserved : goal.loop-import-preserved
loop-import-preserved c =
    let of = λ (symbol : Bor (List ℕ)). symbol.now in
    let names = λ (import : NamedImport). import.names.now in
    let i = c.loop-import.import-index in let rows = c.args.imports.now in
    subst (Interns bytes_eq of c.args.symbols.now.keys c.push_names.new.symbols.keys)
    (ap (λ import. flat_map names (take i rows) ++ names import) c.import-item.is ∙ sym (joined_more names rows i _ c.loop-import-test.true))
    (interns_both bytes_eq of c.args.symbols.now.keys c.loop-import.symbols.keys c.push_names.new.symbols.keys (flat_map names (take i rows)) _ c.loop-import.invariant c.in_ok-push_names.ensures)
