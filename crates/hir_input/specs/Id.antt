-- How ids, contexts and what a macro call expands to are displayed.
use Rattle.std.specs.Prelude.{ℕ, ◌/◌, ◌%◌, List, [], ◌∷◌, ◌++◌, codes, decimal, true}
use Rattle.std.specs.Fmt.{digit_glyph}
use Rattle.hir_input.specs.declared.ids.AstIdKind.{AstIdKind}
use Rattle.hir_input.specs.declared.ids.AstIdKind.TheVariants as kind
use Rattle.hir_input.specs.declared.ids.FileAstId.{FileAstId}
use Rattle.hir_input.specs.declared.ids.SyntaxContext.{SyntaxContext}
use Rattle.hir_input.specs.declared.ids.SyntaxContext.TheVariants.{Root, Expanded}
use Rattle.hir_input.specs.declared.edition.EditionYear.TheVariants.{E2015, E2018, E2021, E2024}
use Rattle.hir_input.specs.declared.expand_to.ExpandTo.{ExpandTo}
use Rattle.hir_input.specs.declared.expand_to.ExpandTo.TheVariants as expand_to

-- a kind's word
abbrev pub shown_kind : AstIdKind → List ℕ
shown_kind kind.Const = codes "Const"
shown_kind kind.Enum = codes "Enum"
shown_kind kind.ExternBlock = codes "ExternBlock"
shown_kind kind.ExternCrate = codes "ExternCrate"
shown_kind kind.Fn = codes "Fn"
shown_kind kind.Impl = codes "Impl"
shown_kind kind.MacroDef = codes "MacroDef"
shown_kind kind.MacroCall = codes "MacroCall"
shown_kind kind.MacroRules = codes "MacroRules"
shown_kind kind.Module = codes "Module"
shown_kind kind.Static = codes "Static"
shown_kind kind.Struct = codes "Struct"
shown_kind kind.Trait = codes "Trait"
shown_kind kind.TypeAlias = codes "TypeAlias"
shown_kind kind.Union = codes "Union"
shown_kind kind.Use = codes "Use"

-- an upper-case hexadecimal digit
abbrev pub hex_digit : ℕ → ℕ
hex_digit d = digit_glyph true d

-- four hexadecimal digits
abbrev pub shown_hash : ℕ → List ℕ
shown_hash hash = hex_digit (hash / 4096) ∷ hex_digit (hash / 256 % 16) ∷ hex_digit (hash / 16 % 16) ∷ hex_digit (hash % 16) ∷ []

-- the kind, and in brackets the hash and the number
abbrev pub shown_id : FileAstId → List ℕ
shown_id id = shown_kind id.kind ++ codes "[" ++ shown_hash id.hash ++ codes ", " ++ decimal id.number ++ codes "]"

-- the year of a root, or the number of an expansion
abbrev pub shown_context : SyntaxContext → List ℕ
shown_context (Root E2015) = codes "ROOT2015"
shown_context (Root E2018) = codes "ROOT2018"
shown_context (Root E2021) = codes "ROOT2021"
shown_context (Root E2024) = codes "ROOT2024"
shown_context (Expanded number) = decimal number

-- the word for what a macro call expands to
abbrev pub shown_expand_to : ExpandTo → List ℕ
shown_expand_to expand_to.Statements = codes "Statements"
shown_expand_to expand_to.Items = codes "Items"
shown_expand_to expand_to.Pattern = codes "Pattern"
shown_expand_to expand_to.Ty = codes "Type"
shown_expand_to expand_to.Expr = codes "Expr"
