-- The ids of a file's items. An item is named by its place in preorder, counted from 0.
use Rattle.std.specs.Prelude.{◌≡◌, ◌<◌, ℕ, zero, suc, ◌+◌, ◌-◌, ◌^◌, min, Bool, true, false, ◌&&◌, ◌||◌, ◌==◌, nat_lt, if◌then◌else◌, List, [], length, slice_index_or, Option, Some, None}
use Rattle.hir_input.specs.declared.ids.AstIdKind.{AstIdKind}
use Rattle.hir_input.specs.declared.ids.AstIdKind.TheVariants as kind
use Rattle.hir_input.specs.declared.ids.FileAstId.{FileAstId}
use Rattle.rust_ids.specs.Hash.{name_hash_in}
use Rattle.rust_ids.specs.Row.{Row}

-- the item at a place, and its id; what is given past the end is never asked for
abbrev pub nth_row : List Row → ℕ → Row
nth_row rows i = slice_index_or rows i (record { depth = 0; kind = kind.Use; name = [] })

abbrev pub id_at : List FileAstId → ℕ → FileAstId
id_at ids i = slice_index_or ids i (record { kind = kind.Use; hash = 0; number = 0 })

abbrev pub depth_at : List Row → ℕ → ℕ
depth_at rows i = (nth_row rows i).depth

-- the last place below a bound that passes a test, if one does
abbrev pub last_below : (ℕ → Bool) → ℕ → Option ℕ
last_below test zero = None
last_below test (suc n) = if test n then Some n else last_below test n

-- how many places below a bound pass a test
abbrev pub count_below : (ℕ → Bool) → ℕ → ℕ
count_below test zero = 0
count_below test (suc n) = count_below test n + (if test n then 1 else 0)

-- the item that one stands in: the last before it that is one less deep
abbrev pub holder_of : List Row → ℕ → Option ℕ
holder_of rows i = last_below (λ j. suc (depth_at rows j) == depth_at rows i) i

abbrev pub is_module : AstIdKind → Bool
is_module kind.Module = true
is_module _ = false

-- the id at a place, if there is a place and it is a module's
abbrev pub module_at : List FileAstId → Option ℕ → Option FileAstId
module_at ids None = None
module_at ids (Some i) = if is_module (id_at ids i).kind then Some (id_at ids i) else None

-- the id of the module that an item stands in, if it stands in one
abbrev pub module_around : List Row → List FileAstId → ℕ → Option FileAstId
module_around rows ids i = module_at ids (holder_of rows i)

-- the kinds that have no name
abbrev pub is_nameless : AstIdKind → Bool
is_nameless kind.Use = true
is_nameless kind.ExternBlock = true
is_nameless kind.Impl = true
is_nameless _ = false

-- the kinds whose hash is of the module too: what may also stand in a trait or an impl
abbrev pub is_hashed_in_module : AstIdKind → Bool
is_hashed_in_module kind.Fn = true
is_hashed_in_module kind.Const = true
is_hashed_in_module kind.TypeAlias = true
is_hashed_in_module kind.MacroCall = true
is_hashed_in_module _ = false

-- the hash of an item that stands in a module, or in none
abbrev pub hash_of : Row → Option FileAstId → ℕ
hash_of row outer =
    if is_nameless row.kind then 0
    else (if is_hashed_in_module row.kind then name_hash_in outer row.name else name_hash_in None row.name)

-- The place of a kind among all kinds, so that kinds can be compared.
abbrev pub kind_place : AstIdKind → ℕ
kind_place kind.Const = 0
kind_place kind.Enum = 1
kind_place kind.ExternBlock = 2
kind_place kind.ExternCrate = 3
kind_place kind.Fn = 4
kind_place kind.Impl = 5
kind_place kind.MacroDef = 6
kind_place kind.MacroCall = 7
kind_place kind.MacroRules = 8
kind_place kind.Module = 9
kind_place kind.Static = 10
kind_place kind.Struct = 11
kind_place kind.Trait = 12
kind_place kind.TypeAlias = 13
kind_place kind.Union = 14
kind_place kind.Use = 15

-- what is counted together: a kind and a hash
abbrev pub Key : Type 0
Key = ℕ × ℕ

abbrev pub key_of : FileAstId → Key
key_of id = (kind_place id.kind, id.hash)

abbrev pub same_key : Key → Key → Bool
same_key a b = a.0 == b.0 && a.1 == b.1

-- one item is counted before another: it is less deep, or as deep and written first
abbrev pub comes_before : List Row → ℕ → ℕ → Bool
comes_before rows j i = nat_lt (depth_at rows j) (depth_at rows i) || (depth_at rows j == depth_at rows i && nat_lt j i)

-- how many items of its kind and hash are counted before an item
abbrev pub earlier_alike : List Row → List FileAstId → ℕ → ℕ
earlier_alike rows ids i = count_below (λ j. comes_before rows j i && same_key (key_of (id_at ids j)) (key_of (id_at ids i))) (length rows)

-- an item has the id that it is to have; the 32 bits of a number end at 2 ^ 32 - 1
pub record IsId (rows : List Row) (ids : List FileAstId) (i : ℕ) : Type 0 where
  pub kind : (id_at ids i).kind ≡ (nth_row rows i).kind
  pub hash : (id_at ids i).hash ≡ hash_of (nth_row rows i) (module_around rows ids i)
  pub number : (id_at ids i).number ≡ min (earlier_alike rows ids i) (2 ^ 32 - 1)

-- the ids of all items of a file
pub record AreIds (rows : List Row) (ids : List FileAstId) : Type 0 where
  pub as_many : length ids ≡ length rows
  pub each : (i : ℕ) → i < length rows → IsId rows ids i

-- no two items have one id
abbrev pub AreDistinctIds : List FileAstId → Type 0
AreDistinctIds ids = (i j : ℕ) → i < length ids → j < length ids → id_at ids i ≡ id_at ids j → i ≡ j

-- the items determine the ids
abbrev pub AreDetermined : Type 0
AreDetermined = (rows : List Row) (a b : List FileAstId) → AreIds rows a → AreIds rows b → a ≡ b
