-- The symbols of a document.
use Rattle.std.specs.Prelude.{ℕ, ◌+◌, Bool, if◌then◌else◌, List, [], ◌∷◌, ◌++◌, codes, drop, flat_map, length, min, nat_eq, Option, Some, None, unwrap_or}
use Rattle.std.specs.List.{starts_with}
use Rattle.serde_json.specs.Data.{Data, string, array, object, Items, Members, no_members, member}
use Rattle.serde_json.specs.Find.{as_str}
use Rattle.serde_json.specs.View.{items_of}
use Rattle.list_forms.specs.Lines.{count_form}
use Rattle.hir_input.specs.declared.ids.AstIdKind.{AstIdKind}
use Rattle.hir_input.specs.declared.ids.AstIdKind.TheVariants as kind
use Rattle.item_tree.specs.declared.visibility.RawVisibility.{RawVisibility}
use Rattle.item_tree.specs.Node.{Node, leaf, parent, Forest, empty, more, Unfolding}
use Rattle.tree_walk.specs.Rows.{is_file_enabled}
use Rattle.line_index.specs.declared.Units.{Units}
use Rattle.rust_paths.specs.declared.names.TextRange.{TextRange}
use Rattle.rust_items.specs.declared.member.MemberKind.{MemberKind}
use Rattle.rust_items.specs.declared.member.MemberKind.TheVariants as member_kind
use Rattle.rust_items.specs.declared.source_file.ItemPlace.{ItemPlace}
use Rattle.source_rows.specs.Labels.{item_word}
use Rattle.source_rows.specs.Listed.{Listed, MemberReading, header_of, members_of}
use Rattle.source_rows.specs.Places.{place_of}
use Rattle.source_listing.specs.Entries.{ItemView, item_in}
use Rattle.source_listing.specs.Objects.{visibility_form}
use Rattle.lsp.specs.Bytes.{range_span}
use Rattle.lsp.specs.Positions.{span_object}
use Rattle.lsp.specs.declared.position.Span.{Span}

-- what the protocol calls an item of a kind, by number: uses, extern crates and macro calls are no symbols
abbrev pub protocol_kind : AstIdKind → Option ℕ
protocol_kind kind.Module = Some 2
protocol_kind kind.ExternBlock = Some 3
protocol_kind kind.Enum = Some 10
protocol_kind kind.Trait = Some 11
protocol_kind kind.Fn = Some 12
protocol_kind kind.MacroDef = Some 12
protocol_kind kind.MacroRules = Some 12
protocol_kind kind.Const = Some 14
protocol_kind kind.Static = Some 14
protocol_kind kind.Impl = Some 19
protocol_kind kind.Struct = Some 23
protocol_kind kind.Union = Some 23
protocol_kind kind.TypeAlias = Some 26
protocol_kind kind.ExternCrate = None
protocol_kind kind.MacroCall = None
protocol_kind kind.Use = None

-- what it calls a member
abbrev pub member_symbol : MemberKind → ℕ
member_symbol member_kind.Function = 6
member_symbol member_kind.Constant = 14
member_symbol member_kind.TypeAlias = 26
member_symbol member_kind.MacroCall = 12
member_symbol member_kind.Variant = 22
member_symbol member_kind.Field = 8

-- a symbol: its name, what it is called, how it is seen, and where it and its name stand
pub record Symbol : Type 0 where
  pub name : List ℕ
  pub detail : List ℕ
  pub kind : ℕ
  pub range : TextRange
  pub selection : TextRange

-- the object of a symbol with others in it
abbrev pub symbol_data : Units → List ℕ → Symbol → Items → Data
symbol_data units text s inner =
    object
    (member (codes "children") (array inner)
    (member (codes "detail") (string s.detail)
    (member (codes "kind") (count_form s.kind)
    (member (codes "name") (string s.name)
    (member (codes "range") (span_object (range_span units text s.range))
    (member (codes "selectionRange") (span_object (range_span units text s.selection)) no_members))))))

-- the name of what a symbol stands in, if it stands in one
abbrev pub container_members : Option (List ℕ) → Members → Members
container_members None ms = ms
container_members (Some name) ms = member (codes "containerName") (string name) ms

-- the object of a range in the document of a name
abbrev pub location : List ℕ → Span → Data
location uri span = object (member (codes "range") (span_object span) (member (codes "uri") (string uri) no_members))

-- the object of a symbol that stands alone, there
abbrev pub information : (uri : List ℕ) → (container : Option (List ℕ)) → Span → Symbol → Data
information uri container span s =
    object (container_members container (member (codes "kind") (count_form s.kind) (member (codes "location") (location uri span) (member (codes "name") (string s.name) no_members))))

-- words, and behind them that a cfg disables what they are of
abbrev pub inactive_words : List ℕ → List ℕ
inactive_words [] = codes "inactive"
inactive_words (b ∷ bs) = b ∷ bs ++ codes ", inactive"

-- a visibility as it was written, and whether a cfg disables what has it
abbrev pub detail_words : List (List ℕ) → Option RawVisibility → Bool → List ℕ
detail_words reserved v is_active =
    let words = unwrap_or (as_str (visibility_form reserved v)) [] in if is_active then words else inactive_words words

-- what an item without a name is called: an impl by its header, another by its kind
abbrev pub header_or_kind : AstIdKind → List ℕ → List ℕ
header_or_kind k [] = item_word k
header_or_kind k (b ∷ bs) = item_word k ++ 32 ∷ b ∷ bs

abbrev pub symbol_name : AstIdKind → List ℕ → Option (List ℕ) → List ℕ
symbol_name k header None = header_or_kind k header
symbol_name k header (Some name) = name

-- where the name of an item stands; one without a name is told where it begins
abbrev pub item_selection : ItemPlace → TextRange
item_selection p = unwrap_or p.name (record { start = p.range.start; end = p.range.start })

-- how long a name is in a text, with the `r#` in front of it, if that stands there
abbrev pub written_length : List ℕ → ℕ → List ℕ → ℕ
written_length text at name = if starts_with nat_eq (drop at text) (codes "r#") then 2 + length name else length name

-- where the name of a member stands, in a text
abbrev pub member_selection : List ℕ → Listed → TextRange
member_selection text m = record { start = m.at; end = min (m.at + written_length text m.at m.name) (length text) }

-- the symbol of a member
abbrev pub listed_symbol : List ℕ → List (List ℕ) → Listed → Symbol
listed_symbol text reserved m = record { name = m.name; detail = detail_words reserved (Some m.visibility) m.is_active; kind = member_symbol m.kind; range = m.range; selection = member_selection text m }

-- an item that stands there, called so
abbrev pub item_symbol : MemberReading → List (List ℕ) → ItemView → ℕ → ItemPlace → Symbol
item_symbol x reserved i number p = record {
  name = symbol_name i.id.kind (header_of x i.id.kind (Some p)) i.name;
  detail = detail_words reserved i.visibility i.is_active;
  kind = number;
  range = p.range;
  selection = item_selection p;
}

-- what symbols are told of, and the name of the document, where each stands alone
pub record Page : Type 0 where
  pub units : Units
  pub text : List ℕ
  pub flat_in : Option (List ℕ)
  pub reading : MemberReading
  pub reserved : List (List ℕ)

-- a symbol with what is told of those in it: around that, or in front of it
abbrev pub told_in : (flat_in : Option (List ℕ)) → Page → (container : Option (List ℕ)) → Symbol → List Data → List Data
told_in None p container s inner = symbol_data p.units p.text s (items_of inner) ∷ []
told_in (Some uri) p container s inner = information uri container (range_span p.units p.text s.range) s ∷ inner

abbrev pub with_symbol : Page → Option (List ℕ) → Symbol → List Data → List Data
with_symbol p container s inner = told_in p.flat_in p container s inner

-- the symbols of the members of an item that is called so and stands there, which a cfg disables or not
abbrev pub member_symbols : Page → List ℕ → Bool → ItemPlace → List Data
member_symbols p name is_active place = flat_map (λ m. with_symbol p (Some name) (listed_symbol p.text p.reserved m) []) (members_of p.reading (Some place) is_active)

module _ (p : Page) (places : List ItemPlace) where
  -- what an item is called
  abbrev pub symbol_called : ItemView → List ℕ
  symbol_called i = symbol_name i.id.kind (header_of p.reading i.id.kind (place_of i.id places)) i.name

  -- the symbol of an item, if it is one and its place is known, with those of its members and then with these
  abbrev pub placed_symbols : Option (List ℕ) → ItemView → Option ℕ → Option ItemPlace → List Data → List Data
  placed_symbols container i (Some number) (Some place) inner =
      let s = item_symbol p.reading p.reserved i number place in with_symbol p container s (member_symbols p s.name i.is_active place ++ inner)
  placed_symbols container i _ _ inner = []

  abbrev pub own_symbols : Option (List ℕ) → ItemView → List Data → List Data
  own_symbols container i inner = placed_symbols container i (protocol_kind i.id.kind) (place_of i.id places) inner

  -- those of a node and of a forest, in what is called so, or in nothing
  abbrev mutual
    pub node_symbols : Option (List ℕ) → Bool → Node → List Data
    node_symbols container is_active (leaf h l) = own_symbols container (item_in is_active (leaf h l)) []
    node_symbols container is_active (parent h t f) =
        let i = item_in is_active (parent h t f) in own_symbols container i (forest_symbols (Some (symbol_called i)) i.is_active f)

    pub forest_symbols : Option (List ℕ) → Bool → Forest → List Data
    forest_symbols container is_active empty = []
    forest_symbols container is_active (more n f) = node_symbols container is_active n ++ forest_symbols container is_active f

  -- those of a whole tree
  abbrev pub tree_symbols : Unfolding → List Data
  tree_symbols u = forest_symbols None (is_file_enabled u) u.forest
