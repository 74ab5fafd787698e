-- What is collected, as plain data.
use Rattle.std.specs.Prelude.{ℕ, Bool, false, List, map, Option, Some, is_some, option_copied}
use Rattle.hir_input.specs.declared.ids.AstIdKind.{AstIdKind}
use Rattle.tree_walk.specs.{Listed.listed_import, declared.names.Declares.Declares}
use Rattle.item_tree.specs.{declared.visibility.RawVisibility.RawVisibility, Layout.node_at, Node.Node, Node.node_kind, Node.Unfolding, Walk.of_id}
use Rattle.tree_walk.specs.declared.names.Declares.TheVariants.{Name, Imports}
use Rattle.tree_walk.specs.declared.collector.Declaration as code
use Rattle.tree_walk.specs.Declarations.{Declared, declared_name, declared_imports, node_declares, node_visibility, Declaration}

-- a declaration with what is said of its item
pub record DeclarationView : Type 0 where
  pub path : List (List ℕ)
  pub node : Option Node
  pub kind : AstIdKind
  pub visibility : Option RawVisibility
  pub declared : Declared

-- by the definition
abbrev pub view_of : Declaration → DeclarationView
view_of d = record { path = d.path; node = Some d.node; kind = node_kind d.node; visibility = node_visibility d.node; declared = d.declared }

-- by the code, with the node that the id stands for
abbrev pub declared_by : Declares → Declared
declared_by (Name name) = declared_name name.now
declared_by (Imports imports) = declared_imports (map listed_import imports.items)

-- a declaration as plain data
abbrev pub declaration_view : Unfolding → code.Declaration → DeclarationView
declaration_view u d = record { path = map (λ name. name.now) d.path.value.items; node = node_at u.forest d.id; kind = d.kind; visibility = option_copied d.visibility; declared = declared_by d.declares }

-- the id of a declaration's item
abbrev pub declaration_id : code.Declaration → ℕ
declaration_id d = d.id

-- both, with the id
abbrev pub with_definition : ℕ × Declaration → ℕ × DeclarationView
with_definition d = (d.0, view_of d.1)

-- a listed declaration: the id of its item, and what it says
abbrev pub collected_declaration : Unfolding → code.Declaration → ℕ × DeclarationView
collected_declaration u d = (d.id, declaration_view u d)

-- whether the item of an id declares something
abbrev pub is_declaring : Unfolding → ℕ → Bool
is_declaring u i = of_id u false (λ n. is_some (node_declares n)) i
