-- Things and imports of the table are those of the crate.
use Rattle.std.proofs.Common.{◌≡◌, ◌+◌, ◌||◌, ℕ, suc, Bool, true, false, not, nat_lt, Some, None, slice_get, if◌then◌else◌, refl, sym, ap, ◌∙◌, length, arith, ltb, option_map}
use Rattle.std.proofs.lemmas.Bool.{false≢true}
use Rattle.std.proofs.lemmas.Option.{slice_get-map}
use Rattle.def_map.specs.declared.kinds.{Namespace.Namespace, Visibility.Visibility}
use Rattle.def_map.specs.declared.kinds.Namespace.TheVariants.{Types, Values, Macros}
use Rattle.def_map.specs.declared.facts as code
use Rattle.def_map.specs.declared.facts.Fact.TheVariants.{Stands, Gives}
use Rattle.def_map.specs.declared.facts.ImportName.TheVariants.{Glob, Named, Unnamed}
use Rattle.def_map.specs.declared.facts.Thing.TheVariants.{Module as module_thing, Item, Scope, Unseen}
use Rattle.def_map.specs.Crates.{Crate, Thing, a_module, an_item, a_scope, unseen, Binding, a_glob, a_name, underscore, nameless, PathImport, module_sees, narrower, Hides}
use Rattle.def_map.specs.Facts.{gives, is_glob_import, is_glob_binding, is_inner_name, is_wanted, reading, read_inner, IsImport}
use Rattle.def_map.specs.Closure as loop
use Rattle.def_map.specs.Closure.{are_types, hides, passed_name}
use Rattle.def_map.specs.Closing.{thing_of, binding_of, table_import, loop_thing, loop_binding, loop_import, loop_fact, IsLowered}
use Rattle.def_map.proofs.NumberedLists.{map_source}

pub back_again : (t : Thing ℕ) → thing_of (loop_thing t) ≡ t
back_again (a_module m) = refl
back_again (an_item x) = refl
back_again (a_scope x) = refl
back_again unseen = refl

pub there_again : (t : code.Thing.Thing) → loop_thing (thing_of t) ≡ t
there_again (module_thing m) = refl
there_again (Item x) = refl
there_again (Scope x) = refl
there_again Unseen = refl

glob_name : (n : code.ImportName.ImportName) → is_glob_binding (binding_of n) ≡ loop.is_glob_name n
glob_name Glob = refl
glob_name (Named n) = refl
glob_name Unnamed = refl

glob_loop : (b : Binding ℕ) → is_glob_binding (loop_binding b) ≡ is_glob_binding b
glob_loop a_glob = refl
glob_loop (a_name n) = refl
glob_loop underscore = refl
glob_loop nameless = refl

pub namespace_itself : (ns : Namespace) → loop.same_namespace ns ns ≡ true
namespace_itself Types = refl
namespace_itself Values = refl
namespace_itself Macros = refl

-- a row of the loop's table and the import that it stands for
pub record IsRow (u : PathImport ℕ) (w : code.Import.Import) : Type 0 where
  pub home : w.home ≡ u.parent
  pub names : w.path.items ≡ u.names
  pub types : w.types_alone ≡ u.of_types
  pub visibility : w.visibility ≡ u.visibility
  pub binding : binding_of w.name ≡ loop_binding u.binding

is_row : (u : PathImport ℕ) (w : code.Import.Import) → table_import w ≡ loop_import u → IsRow u w
is_row u w e = record {
  home = ap (λ (x : PathImport ℕ). x.parent) e;
  names = ap (λ (x : PathImport ℕ). x.names) e;
  types = ap (λ (x : PathImport ℕ). x.of_types) e;
  visibility = ap (λ (x : PathImport ℕ). x.visibility) e;
  binding = ap (λ (x : PathImport ℕ). x.binding) e;
}

pub row_glob : (u : PathImport ℕ) (w : code.Import.Import) → IsRow u w → loop.is_glob_name w.name ≡ is_glob_import u
row_glob u w row = sym (glob_name w.name) ∙ ap is_glob_binding row.binding ∙ glob_loop u.binding

pub row_inner : (u : PathImport ℕ) (w : code.Import.Import) (k : ℕ) → IsRow u w → (loop.is_glob_name w.name || nat_lt (k + 1) (length w.path.items)) ≡ is_inner_name u k
row_inner u w k row = ap (λ (b : Bool). b || nat_lt (k + 1) (length w.path.items)) (row_glob u w row)
    ∙ ap (λ l. is_glob_import u || nat_lt (k + 1) (length l)) row.names ∙ by (is_glob_import u) ∙ ap (λ l. if is_glob_import u then true else ltb l (length u.names)) next
  where
    next : k + 1 ≡ suc k
    next = omega arith

    by : (b : Bool) → (b || nat_lt (k + 1) (length u.names)) ≡ (if b then true else ltb (k + 1) (length u.names))
    by true = refl
    by false = refl

pub row_wanted : (u : PathImport ℕ) (w : code.Import.Import) (ns : Namespace) → IsRow u w → (are_types ns || not w.types_alone) ≡ is_wanted u ns
row_wanted u w Types row = refl
row_wanted u w Values row = ap not row.types ∙ by u.of_types
  where
    by : (b : Bool) → not b ≡ (if b then false else true)
    by true = refl
    by false = refl
row_wanted u w Macros row = ap not row.types ∙ by u.of_types
  where
    by : (b : Bool) → not b ≡ (if b then false else true)
    by true = refl
    by false = refl

-- the loop reads a name of a path as the rules do
pub passed_is : (u : PathImport ℕ) (w : code.Import.Import) (i k : ℕ) (ns : Namespace) (t : Thing ℕ) (v : Visibility) → IsRow u w
    → passed_name w i k ns (loop_thing t) v ≡ option_map loop_fact (reading i u k ns t v)
passed_is u w i k ns t v row = ap (λ (b : Bool). if b then (if are_types ns then Some (Stands i (k + 1) (loop_thing t)) else None) else (if are_types ns || not w.types_alone then Some (Gives i ns (loop_thing t) v) else None)) (row_inner u w k row)
    ∙ by (is_inner_name u k) ∙ ap (option_map loop_fact) (inner_is (is_inner_name u k) refl)
  where
    next : k + 1 ≡ suc k
    next = omega arith

    onward : (s : Namespace) → (if are_types s then Some (Stands i (k + 1) (loop_thing t)) else None) ≡ option_map loop_fact (read_inner i k s t)
    onward Types = ap (λ x. Some (Stands i x (loop_thing t))) next
    onward Values = refl
    onward Macros = refl

    last : (b : Bool) → (if b then Some (Gives i ns (loop_thing t) v) else None) ≡ option_map loop_fact (if b then Some (gives i ns t v) else None)
    last true = refl
    last false = refl

    inner_is : (b : Bool) → is_inner_name u k ≡ b → (if b then read_inner i k ns t else if is_wanted u ns then Some (gives i ns t v) else None) ≡ reading i u k ns t v
    inner_is b e = ap (λ (x : Bool). if x then read_inner i k ns t else if is_wanted u ns then Some (gives i ns t v) else None) (sym e)

    by : (b : Bool) → (if b then (if are_types ns then Some (Stands i (k + 1) (loop_thing t)) else None) else (if are_types ns || not w.types_alone then Some (Gives i ns (loop_thing t) v) else None))
        ≡ option_map loop_fact (if b then read_inner i k ns t else if is_wanted u ns then Some (gives i ns t v) else None)
    by true = onward ns
    by false = ap (λ (b : Bool). if b then Some (Gives i ns (loop_thing t) v) else None) (row_wanted u w ns row) ∙ last (is_wanted u ns)

module _ (c : Crate ℕ ℕ) (t : code.ImportTable.ImportTable) (table : IsLowered c t) where
  abbrev pub RowAt : ℕ → PathImport ℕ → Type 0
  RowAt i u = (w : code.Import.Import) × (slice_get t.imports.items i ≡ Some w) × IsRow u w

  rows_same : (i : ℕ) → option_map table_import (slice_get t.imports.items i) ≡ option_map loop_import (slice_get c.imports i)
  rows_same i = sym (slice_get-map table_import t.imports.items i) ∙ ap (λ l. slice_get l i) table.imports ∙ slice_get-map loop_import c.imports i

  pub row_of : (i : ℕ) (u : PathImport ℕ) → IsImport c i u → RowAt i u
  row_of i u is = let s = map_source table_import (slice_get t.imports.items i) (loop_import u) (rows_same i ∙ ap (option_map loop_import) is) in (s.0, s.1, is_row u s.0 s.2)

  pub import_at : (i : ℕ) (w : code.Import.Import) → slice_get t.imports.items i ≡ Some w → (u : PathImport ℕ) × IsImport c i u × IsRow u w
  import_at i w is = let s = map_source loop_import (slice_get c.imports i) (table_import w) (sym (rows_same i) ∙ ap (option_map table_import) is) in (s.0, s.1, is_row s.0 w (sym s.2))

  pub sees_same : (m : ℕ) (v : Visibility) → module_sees t.parents.items m v ≡ module_sees c.parents m v
  sees_same m v = ap (λ l. module_sees l m v) table.parents

  pub narrower_same : (v w : Visibility) → narrower t.parents.items v w ≡ narrower c.parents v w
  narrower_same v w = ap (λ l. narrower l v w) table.parents

  pub hides_not : (m : ℕ) (ns : Namespace) (n : ℕ) → (Hides c m ns n → ⊥) → not (hides t m ns n) ≡ true
  hides_not m ns n free = by (hides t m ns n) refl
    where
      by : (b : Bool) → hides t m ns n ≡ b → not b ≡ true
      by true e = absurd (free ((table.declared m ns n).0 e))
      by false e = refl

  pub not_hides : (m : ℕ) (ns : Namespace) (n : ℕ) → not (hides t m ns n) ≡ true → Hides c m ns n → ⊥
  not_hides m ns n e h = false≢true (sym (ap not ((table.declared m ns n).1 h)) ∙ e)
