-- What lists tell of items beside their tree: the headers of impls, and members.
use Rattle.std.specs.Prelude.{ℕ, Bool, true, not, ◌&&◌, List, [], Option, Some, None, option_and_then, option_map, filter_map}
use Rattle.hir_input.specs.declared.edition.EditionYear.{EditionYear}
use Rattle.hir_input.specs.declared.ids.AstIdKind.{AstIdKind}
use Rattle.hir_input.specs.declared.ids.AstIdKind.TheVariants as kind
use Rattle.hir_input.specs.Attr.{metas_from}
use Rattle.hir_input.specs.Cfg.{AtomView}
use Rattle.item_tree.specs.declared.visibility.RawVisibility.{RawVisibility}
use Rattle.item_tree.specs.Visibility.{read_visibility}
use Rattle.rust_mended.specs.Texts.{place_back_by}
use Rattle.rust_paths.specs.declared.names.TextRange.{TextRange}
use Rattle.rust_items.specs.declared.source_file.ItemPlace.{ItemPlace}
use Rattle.rust_items.specs.LineEnds.{moved_range}
use Rattle.rust_items.specs.declared.member.MemberKind.{MemberKind}
use Rattle.rust_items.specs.MemberLists.{members}
use Rattle.rust_items.specs.Members.{MemberRead}
use Rattle.rust_metas.specs.declared.wanted.WantedMetas.TheVariants as wanted
use Rattle.source_rows.specs.Headers.{header}
use Rattle.source_rows.specs.Labels.{has_members, text_at}
use Rattle.source_rows.specs.Enabled.{any_disables}
use Rattle.source_rows.specs.Places.{place_of}
use Rattle.source_rows.specs.Types.{type_name}

-- the members of an item of this kind in this body, if it may have some, with their conditions alone: no list asks for other attributes
abbrev pub body_members : EditionYear → AstIdKind → List ℕ → Bool → Option TextRange → List MemberRead
body_members edition k text true (Some body) = members wanted.Conditions edition k text body
body_members edition k text _ body = []

-- Where closers were put in the text that is read of a file, and where the items that are read of it stand in that text.
pub record Closers : Type 0 where
  pub puts : List ℕ
  pub items : List ItemPlace

-- a text of an edition, where closers were put in it if it is a mended one, and the cfgs that are set, where members are asked for
pub record MemberReading : Type 0 where
  pub text : List ℕ
  pub closers : Option Closers
  pub edition : EditionYear
  pub options : Option (List AtomView)

-- a member with a name: how it is seen, where its name begins and where all of it and its body stand, where the body stands in the text that is read, and whether no cfg disables it, nor what it stands in
pub record Listed : Type 0 where
  pub kind : MemberKind
  pub name : List ℕ
  pub visibility : RawVisibility
  pub at : ℕ
  pub range : TextRange
  pub body : Option TextRange
  pub read_body : Option TextRange
  pub is_active : Bool

-- an item, its places changed so
abbrev pub moved_item : (ℕ → ℕ) → ItemPlace → ItemPlace
moved_item place p = record { id = p.id; range = moved_range place p.range; name = option_map (moved_range place) p.name; body = option_map (moved_range place) p.body }

-- in the text that is read, the item that stands there in the file: the one of its id
abbrev pub read_place : Option Closers → Option ItemPlace → Option ItemPlace
read_place None p = p
read_place (Some c) p = option_and_then (λ q. place_of q.id c.items) p

-- in the file, a place of the text that is read
abbrev pub told_place : Option Closers → ℕ → ℕ
told_place None at = at
told_place (Some c) at = place_back_by c.puts at

abbrev pub told_range : Option Closers → TextRange → TextRange
told_range None r = r
told_range (Some c) r = moved_range (place_back_by c.puts) r

abbrev pub told_item : Option Closers → ItemPlace → ItemPlace
told_item None p = p
told_item (Some c) p = moved_item (place_back_by c.puts) p

-- a member of this name, which begins there
abbrev pub member_told : Option Closers → List AtomView → Bool → MemberRead → List ℕ → ℕ → Listed
member_told closers options is_active m name at = record {
  kind = m.kind;
  name = name;
  visibility = read_visibility m.visibility;
  at = told_place closers at;
  range = told_range closers m.range;
  body = option_map (told_range closers) m.body;
  read_body = m.body;
  is_active = is_active && not (any_disables options (metas_from m.attrs));
}

abbrev pub told_by : Option Closers → List AtomView → Bool → MemberRead → Option (List ℕ) → Option TextRange → Option Listed
told_by closers options is_active m (Some name) (Some range) = Some (member_told closers options is_active m name range.start)
told_by closers options is_active m _ _ = None

-- a member without a name is not told
abbrev pub listed_member : Option Closers → List AtomView → Bool → MemberRead → Option Listed
listed_member closers options is_active m = told_by closers options is_active m m.identifier m.name

-- the members of an item that stands there, which a cfg disables or not
abbrev pub listed_members : Option Closers → EditionYear → List AtomView → List ℕ → ItemPlace → Bool → List Listed
listed_members closers edition options text p is_active =
    filter_map (listed_member closers options is_active) (body_members edition p.id.kind text (has_members p.id.kind) p.body)

-- those of an item whose place is known, where they are asked for
abbrev pub members_by : Option (List AtomView) → Option Closers → EditionYear → List ℕ → Option ItemPlace → Bool → List Listed
members_by (Some options) closers edition text (Some p) is_active = listed_members closers edition options text p is_active
members_by _ closers edition text _ is_active = []

-- the members of the item that stands there in the text that is read
abbrev pub placed_members : MemberReading → Option ItemPlace → Bool → List Listed
placed_members x p is_active = members_by x.options x.closers x.edition x.text p is_active

-- of the item that stands there in the file
abbrev pub members_of : MemberReading → Option ItemPlace → Bool → List Listed
members_of x p is_active = placed_members x (read_place x.closers p) is_active

-- what an impl is told by: the type, or the trait and the type
abbrev pub impl_header : EditionYear → List ℕ → AstIdKind → Option ItemPlace → List ℕ
impl_header edition text kind.Impl (Some p) = header edition text p.range p.body
impl_header edition text _ _ = []

-- the header of an impl that stands there in the file
abbrev pub header_of : MemberReading → AstIdKind → Option ItemPlace → List ℕ
header_of x k p = impl_header x.edition x.text k (read_place x.closers p)

-- the name of the type that an impl is of
abbrev pub impl_type : EditionYear → List ℕ → AstIdKind → Option ItemPlace → Option (List ℕ)
impl_type edition text kind.Impl (Some p) = type_name edition (text_at text p.range)
impl_type edition text _ _ = None

-- the name of the type of an impl that stands there in the text that is read
abbrev pub type_name_at : MemberReading → AstIdKind → Option ItemPlace → Option (List ℕ)
type_name_at x k p = impl_type x.edition x.text k p

-- of one that stands there in the file
abbrev pub type_name_of : MemberReading → AstIdKind → Option ItemPlace → Option (List ℕ)
type_name_of x k p = type_name_at x k (read_place x.closers p)
