use Rattle.std.proofs.Common.{◌≡◌, ◌<◌, ◌≤◌, ◌+◌, ℕ, List, Bor, length, map, ap, ◌∙◌, arith}
use Rattle.std.specs.{List.flat_map, List.list_any, Str.bytes_eq}
use Rattle.def_map.specs.declared.rows.NamedImport.{NamedImport}
use Rattle.def_map.specs.CrateView.{rows_view, import_view}
use Rattle.def_map.specs.Numbering.{path_names}
use Rattle.def_map.proofs.Interning.{all_known, names_of_paths}
use Rattle.def_map.proofs.numbers.path_symbols.Goals as goal

pub returns-then-len-gt-MOST_NUMBERS-clause-many : goal.returns-then-len-gt-MOST_NUMBERS-clause-many
returns-then-len-gt-MOST_NUMBERS-clause-many c = λ e.
    let few : length c.push_paths.new.symbols.keys ≤ length c.new-symbols.result.keys + length (flat_map (λ (import : NamedImport). import.names.now) c.deref.result.now) = c.in_ok-push_paths.ensures.few in
    let none : length c.new-symbols.result.keys ≡ 0 = ap length c.new-symbols.ensures.empty in
    let all : length (flat_map (λ (import : NamedImport). import.names.now) c.deref.result.now) ≡ length (path_names (rows_view c.args.rows.now)) =
    ap length (names_of_paths c.deref.result.now ∙ ap (λ rows. flat_map (λ u. u.names) (map import_view rows)) c.deref.ensures.value) in
    let many : 4294967296 < c.len.result = c.if-len-gt-MOST_NUMBERS.true in
    let is : c.len.result ≡ length c.push_paths.new.symbols.keys = c.len.ensures.len in
    omega (arith, few, none, all, many, is)

pub returns-clause-known : goal.returns-clause-known
returns-clause-known c = λ name.
    all_known bytes_eq (λ (symbol : Bor (List ℕ)). symbol.now) c.new-symbols.result.keys c.push_paths.new.symbols.keys _ c.new-symbols.ensures.empty c.in_ok-push_paths.ensures name
    ∙ ap (list_any (bytes_eq name)) (names_of_paths c.deref.result.now ∙ ap (λ rows. flat_map (λ u. u.names) (map import_view rows)) c.deref.ensures.value)
