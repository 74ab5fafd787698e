-- The items of a text and their members, as parts of it.
use Rattle.std.specs.Prelude.{ℕ, Bool, nat_lt, List, [], ◌∷◌, ◌++◌, flat_map, map, filter, codes, Option, Some, None}
use Rattle.hir_input.specs.declared.edition.EditionYear.{EditionYear}
use Rattle.hir_input.specs.declared.ids.AstIdKind.{AstIdKind}
use Rattle.hir_input.specs.declared.ids.AstIdKind.TheVariants as kind
use Rattle.rust_paths.specs.declared.names.TextRange.{TextRange}
use Rattle.rust_items.specs.declared.source_file.ItemPlace.{ItemPlace}
use Rattle.rust_items.specs.declared.member.MemberKind.{MemberKind}
use Rattle.rust_items.specs.declared.member.MemberKind.TheVariants as member
use Rattle.rust_items.specs.Members.{MemberRead}
use Rattle.source_rows.specs.Headers.{header}
use Rattle.source_rows.specs.Labels.{item_word, has_members, member_word, text_at, text_at_some}
use Rattle.source_rows.specs.Listed.{body_members}
use Rattle.source_changes.specs.Bodies.{hole_of}
use Rattle.source_changes.specs.Hiding.{hides_members, is_item_hidden, is_member_hidden}

-- a part: what it is called, where it is told, where it stands, the name that counts among the tokens around it, the braces whose tokens do not count, and whether it is seen in its module alone
pub record Part : Type 0 where
  pub label : List ℕ
  pub at : ℕ
  pub range : TextRange
  pub kept : Option TextRange
  pub body : Option TextRange
  pub is_hidden : Bool

-- a module around an item: where it ends, and its name
pub record Outer : Type 0 where
  pub end : ℕ
  pub name : List ℕ

-- the names of modules, from the outermost on, with `::` behind each
abbrev pub modules_path : List Outer → List ℕ
modules_path around = flat_map (λ a. a.name ++ codes "::") around

-- a word, and a text with a blank in front if it is not empty
abbrev pub label : List ℕ → List ℕ → List ℕ
label word [] = word
label word (b ∷ bs) = word ++ 32 ∷ b ∷ bs

-- at its name, or where it begins
abbrev pub part_told_at : TextRange → Option TextRange → ℕ
part_told_at range None = range.start
part_told_at range (Some name) = name.start

-- ---- members

-- the order of variants and of fields is that of their names around
abbrev pub kept_name : MemberKind → Option TextRange → Option TextRange
kept_name member.Variant name = name
kept_name member.Field name = name
kept_name _ name = None

abbrev pub member_path : List ℕ → List ℕ → Option TextRange → List ℕ
member_path text path name = path ++ codes "::" ++ text_at_some text name

-- a member of an item whose members are hidden with it or not, or each by itself
abbrev pub member_part : List ℕ → List ℕ → Option Bool → MemberRead → Part
member_part text path hidden m = record {
  label = label (member_word m.kind) (member_path text path m.name);
  at = part_told_at m.range m.name;
  range = m.range;
  kept = kept_name m.kind m.name;
  body = hole_of text m.range m.body;
  is_hidden = is_member_hidden hidden text m;
}

abbrev pub members_hidden : EditionYear → List ℕ → ItemPlace → Option Bool
members_hidden edition text s = hides_members edition (text_at text s.range) s.id.kind (is_item_hidden edition text s)

abbrev pub member_parts : EditionYear → List ℕ → List ℕ → ItemPlace → List Part
member_parts edition text path s = map (member_part text path (members_hidden edition text s)) (body_members edition s.id.kind text (has_members s.id.kind) s.body)

-- ---- items

-- the braces of an impl alone
abbrev pub impl_braces : AstIdKind → Option TextRange → Option TextRange
impl_braces kind.Impl body = body
impl_braces _ body = None

-- an item's name as it is written; without one, its header
abbrev pub part_name : EditionYear → List ℕ → ItemPlace → Option TextRange → List ℕ
part_name edition text s None = header edition text s.range (impl_braces s.id.kind s.body)
part_name edition text s (Some name) = text_at text name

-- the braces of a function alone
abbrev pub fn_body : AstIdKind → Option TextRange → Option TextRange
fn_body kind.Fn body = body
fn_body _ body = None

abbrev pub part_of_item : EditionYear → List ℕ → List ℕ → ItemPlace → Part
part_of_item edition text path s = record {
  label = label (item_word s.id.kind) path;
  at = part_told_at s.range s.name;
  range = s.range;
  kept = None;
  body = hole_of text s.range (fn_body s.id.kind s.body);
  is_hidden = is_item_hidden edition text s;
}

abbrev pub part_path : EditionYear → List ℕ → List Outer → ItemPlace → List ℕ
part_path edition text around s = modules_path around ++ part_name edition text s s.name

-- an item, and behind it its members
abbrev pub parts_of : EditionYear → List ℕ → List Outer → ItemPlace → List Part
parts_of edition text around s = part_of_item edition text (part_path edition text around s) s ∷ member_parts edition text (part_path edition text around s) s

-- the modules that end behind a place
abbrev pub still_open : ℕ → List Outer → List Outer
still_open place around = filter (λ a. nat_lt place a.end) around

-- what stands around an item that follows this one, where these stand around it
abbrev pub around_behind : List ℕ → List Outer → AstIdKind → ItemPlace → List Outer
around_behind text around kind.Module s = around ++ record { end = s.range.end; name = text_at_some text s.name } ∷ []
around_behind text around _ s = around

abbrev pub item_parts_from : EditionYear → List ℕ → List Outer → List ItemPlace → List Part
item_parts_from edition text around [] = []
item_parts_from edition text around (s ∷ ss) =
    let open_around = still_open s.range.start around in
    parts_of edition text open_around s ++ item_parts_from edition text (around_behind text open_around s.id.kind s) ss

-- the parts of a text of an edition with items that stand so, in preorder
abbrev pub item_parts : EditionYear → List ℕ → List ItemPlace → List Part
item_parts edition text items = item_parts_from edition text [] items
