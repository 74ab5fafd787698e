-- Lines of a tags file.
use Rattle.std.specs.Option.{option_or}
use Rattle.std.specs.Prelude.{ℕ, zero, suc, Bool, true, false, ◌+◌, if◌then◌else◌, List, [], ◌∷◌, ◌++◌, ◌-◌, codes, decimal, filter, Option, Some, None, option_map, option_to_list, flat_map}
use Rattle.hir_input.specs.Cfg.{AtomView}
use Rattle.hir_input.specs.declared.ids.AstIdKind.{AstIdKind}
use Rattle.hir_input.specs.declared.ids.AstIdKind.TheVariants as kind
use Rattle.tree_walk.specs.Rows.{RowView}
use Rattle.line_index.specs.Positions.{position_of}
use Rattle.source_rows.specs.Labels.{kind_texts, text_at}
use Rattle.source_rows.specs.Listed.{Listed, MemberReading, placed_members, read_place, told_item, type_name_at}
use Rattle.rust_paths.specs.declared.names.TextRange.{TextRange}
use Rattle.rust_items.specs.MemberLists.{cut_out}
use Rattle.rust_items.specs.declared.source_file.ItemPlace.{ItemPlace}
use Rattle.rust_items.specs.declared.member.MemberKind.{MemberKind}
use Rattle.rust_items.specs.declared.member.MemberKind.TheVariants as member
use Rattle.source_tags.specs.declared.tag_fields.TagFields.{TagFields}
use Rattle.source_tags.specs.declared.tags.Address.{Address}
use Rattle.source_tags.specs.declared.tags.Address.TheVariants.{Pattern, Number}
use Rattle.source_tags.specs.declared.tags.TagForm.{TagForm}
use Rattle.source_tags.specs.BlockItems.{BlockItem, FnBlock, Holder, block_item, block_places, block_row, holders_behind, inner_blocks, modules_of, place_moved_by, still_around, word_inside}
use Rattle.source_listing.specs.Lines.{Choice, Source, is_chosen, is_listed}
use Rattle.source_tags.specs.LineSearches.{line_after, line_search, shown_text}
use Rattle.source_tags.specs.TagFields.{TagItem, TagPlace, access_word, behind_address, fields_text, is_function, is_method, member_access, safe_text}
use Rattle.source_rows.specs.Places.{place_of, stands_at}

-- the letter of a member's kind; constants, which Universal Ctags passes over, have that of items
abbrev pub member_letter : MemberKind → Option (List ℕ)
member_letter member.Function = Some (codes "P")
member_letter member.Constant = Some (codes "C")
member_letter member.TypeAlias = Some (codes "t")
member_letter member.MacroCall = None
member_letter member.Variant = Some (codes "e")
member_letter member.Field = Some (codes "m")

-- what members stand in, if that has a name, is called by this word; without one they stand in what is around it alone
abbrev pub scope_word : List ℕ → Option (List ℕ) → Option (List ℕ) → List ℕ
scope_word around (Some name) (Some word) = word
scope_word around _ _ = around

-- the file that tags are of: its path as it is written, its text, as lines are told and as signatures are cut from it, what an editor shows of that; and the form of the tags
pub record TagFile : Type 0 where
  pub path : List ℕ
  pub text : List ℕ
  pub source : List ℕ
  pub shown : List ℕ
  pub form : TagForm

abbrev pub tag_file : Source → TagForm → TagFile
tag_file s form = record { path = safe_text s.path; text = s.text; source = s.text; shown = shown_text s.text; form = form }

abbrev pub line_at : TagFile → ℕ → ℕ
line_at f at = (position_of f.text at).line

abbrev pub is_search : Address → Bool
is_search Pattern = true
is_search Number = false

-- a line is found by a search for it, or by its number
abbrev pub address_by : Address → TagFile → ℕ → List ℕ
address_by Pattern f line = line_search (line_after (line - 1) f.shown)
address_by Number f line = decimal line

-- the fields of a tag where none are asked for: a search begins at the line, since others may be the same
abbrev pub usual_fields : Address → TagFields
usual_fields address = record {
  has_kind = true;
  has_line = is_search address;
  has_language = false;
  has_scope = true;
  has_access = false;
  has_signature = false;
  has_end = false;
}

-- where what a tag is of stands in its file
abbrev pub tag_place : TagFile → TagItem → TagPlace
tag_place f t = record {
  line = line_at f t.at;
  last = if f.form.fields.has_end then Some (line_at f t.end) else None;
  head = text_at f.source (record { start = t.at; end = t.end });
}

-- name, file, address and fields
abbrev pub tag_by : TagFile → TagItem → TagPlace → List ℕ → List (List ℕ) → List ℕ
tag_by f t p word scope =
    t.name ++ codes "\t" ++ f.path ++ codes "\t" ++ address_by f.form.address f p.line ++ behind_address (fields_text f.form.fields t p word scope) ++ codes "\n"

abbrev pub tag_text : TagFile → TagItem → List ℕ → List (List ℕ) → List ℕ
tag_text f t word scope = tag_by f t (tag_place f t) word scope

abbrev pub item_told : RowView → List ℕ → List ℕ → ItemPlace → TagItem
item_told r name letter p = record {
  name = name;
  at = stands_at p;
  end = p.range.end;
  letter = letter;
  access = option_map access_word r.visibility;
  is_function = is_function r.id.kind;
}

abbrev pub tag_of : TagFile → List ℕ → RowView → Option (List ℕ) → Option (List ℕ) → Option ItemPlace → Option (List ℕ)
tag_of f word r (Some name) (Some letter) (Some p) = Some (tag_text f (item_told r name letter p) word r.scope)
tag_of f word r _ _ _ = None

-- an item in what has this word has a tag if it has a name, and its kind a letter
abbrev pub tag : TagFile → List ℕ → Option ItemPlace → RowView → Option (List ℕ)
tag f word place r = tag_of f word r r.name (kind_texts r.id.kind).letter place

abbrev pub member_item : Listed → List ℕ → TagItem
member_item m letter = record {
  name = m.name;
  at = m.at;
  end = m.range.end;
  letter = letter;
  access = member_access m.kind m.visibility;
  is_function = is_method m.kind;
}

-- a member that stands in these, of which the innermost has this word, has one if its kind has a letter
abbrev pub tag_inside : TagFile → List ℕ → List (List ℕ) → Listed → Option (List ℕ)
tag_inside f word scope m = option_map (λ l. tag_text f (member_item m l) word scope) (member_letter m.kind)

abbrev pub if_any : Option (List ℕ) → List ℕ
if_any None = []
if_any (Some text) = text

-- ---- bodies

-- what has tags: members as they are read and chosen, and what stands in bodies, under these cfgs, if it is asked for
pub record TagChoice : Type 0 where
  pub reading : MemberReading
  pub choice : Choice
  pub bodies : Option (List AtomView)

-- the tags of what stands in a block are added
abbrev pub BlockTags : Type 0
BlockTags = FnBlock → List ℕ

-- what stands there in the text that is read, in these, of which the innermost has this word
abbrev pub tagged_block : MemberReading → List ℕ → List (List ℕ) → Bool → TextRange → FnBlock
tagged_block x word scope is_active range = record { word = word; scope = scope; is_active = is_active; base = range.start; text = text_at x.text range }

-- what stands in the body of a function that is called so and stands in these

abbrev pub body_tags : BlockTags → TagChoice → List ℕ → List (List ℕ) → Bool → Option (List ℕ) → Option TextRange → List ℕ
body_tags block a word scope is_active (Some name) (Some body) = block (tagged_block a.reading word (scope ++ name ∷ []) is_active body)
body_tags block a word scope is_active _ _ = []

-- a block that stands in another
abbrev pub inner_block : FnBlock → ℕ → List ℕ → FnBlock
inner_block b start text = record { word = b.word; scope = b.scope; is_active = b.is_active; base = b.base + start; text = text }

abbrev pub inner_tags_of : BlockTags → FnBlock → TextRange → Option (List ℕ) → List ℕ
inner_tags_of block b range None = []
inner_tags_of block b range (Some text) = block (inner_block b range.start text)

abbrev pub inner_tags : BlockTags → FnBlock → TextRange → List ℕ
inner_tags block b range = inner_tags_of block b range (cut_out b.text range)

-- what stands in the braces of a value, where bodies are asked for
abbrev pub value_tags : BlockTags → TagChoice → Option (List AtomView) → FnBlock → List ℕ
value_tags block a None b = []
value_tags block a (Some options) b = flat_map (inner_tags block b) (inner_blocks a.reading.edition [] b.text)

-- what stands in an item of this kind that stands there in the text that is read, except its members
abbrev pub own_tags : BlockTags → TagChoice → List ℕ → RowView → AstIdKind → Option ItemPlace → List ℕ
own_tags block a word r kind.Fn (Some p) = body_tags block a (codes "function") r.scope r.is_active r.name p.body
own_tags block a word r kind.Const (Some p) = value_tags block a a.bodies (tagged_block a.reading word r.scope r.is_active p.range)
own_tags block a word r kind.Static (Some p) = value_tags block a a.bodies (tagged_block a.reading word r.scope r.is_active p.range)
own_tags block a word r k p = []

-- the tag of a member, and those of what stands in its body
abbrev pub member_tags : BlockTags → TagFile → TagChoice → List ℕ → List (List ℕ) → Listed → List ℕ
member_tags block f a word scope m = if_any (tag_inside f word scope m) ++ body_tags block a (codes "method") scope m.is_active (Some m.name) m.read_body

unfoldable pub tags_inside : BlockTags → TagFile → TagChoice → List ℕ → List (List ℕ) → List Listed → List ℕ
tags_inside block f a word scope ms = flat_map (member_tags block f a word scope) ms

-- those of the listed members of an item, which is called so for its members
unfoldable pub all_member_tags : BlockTags → TagFile → TagChoice → List ℕ → RowView → Option (List ℕ) → List Listed → List ℕ
all_member_tags block f a word r name ms =
    tags_inside block f a (scope_word word name (kind_texts r.id.kind).scope) (r.scope ++ option_to_list name) (filter (λ m. is_chosen a.choice (r.level + 1) m.is_active) ms)

-- what the members of an item are in that stands there in the text that is read: the item's name, or that of an impl's type
abbrev pub holder_at : MemberReading → RowView → Option ItemPlace → Option (List ℕ)
holder_at x r place = option_or r.name (type_name_at x r.id.kind place)

-- The tag of an item in what has this word, and behind it those of what stands in its body or its value, and of its listed members. It stands there in the text that is read.
unfoldable pub tags_at : BlockTags → TagFile → TagChoice → List ℕ → RowView → Option ItemPlace → List ℕ
tags_at block f a word r place =
    if_any (tag f word (option_map (told_item a.reading.closers) place) r) ++ (own_tags block a word r r.id.kind place
    ++ all_member_tags block f a word r (holder_at a.reading r place) (placed_members a.reading place r.is_active))

-- ---- blocks

-- those of an item of a block in these, if it is listed
unfoldable pub block_item_tags : BlockTags → TagFile → TagChoice → FnBlock → List Holder → BlockItem → ItemPlace → List ℕ
block_item_tags block f a b hs i p = let r = block_row b hs i p in
    if is_listed a.choice r then tags_at block f a (word_inside b.word (modules_of hs)) r (Some (place_moved_by b.base p)) else []

-- those of the items of a block, which stand so in it
abbrev pub block_items_tags : BlockTags → TagFile → TagChoice → List AtomView → FnBlock → List Holder → List ItemPlace → List ℕ
block_items_tags block f a options b hs [] = []
block_items_tags block f a options b hs (p ∷ ps) =
    let around = still_around p.range.start hs in
    let i = block_item a.reading.edition options b.text p in
    block_item_tags block f a b around i p ++ block_items_tags block f a options b (holders_behind p.id.kind p.range.end i around) ps

-- The tags of what stands in a block: of its items, and in the blocks of its expressions. The number bounds how many bodies and blocks stand in one another.
unfoldable pub block_tags : Option (List AtomView) → ℕ → TagFile → TagChoice → BlockTags
block_tags None n f a b = []
block_tags (Some options) zero f a b = []
block_tags (Some options) (suc n) f a b =
    let ps = block_places a.reading.edition b.text in
    block_items_tags (block_tags (Some options) n f a) f a options b [] ps ++ flat_map (inner_tags (block_tags (Some options) n f a) b) (inner_blocks a.reading.edition ps b.text)

-- ---- a file

abbrev pub whole_tags : TagFile → TagChoice → List ItemPlace → RowView → List ℕ
whole_tags f a places r = tags_at (block_tags a.bodies 128 f a) f a (codes "module") r (read_place a.reading.closers (place_of r.id places))

-- the tags of the listed items, in their order
abbrev pub tags_under : TagFile → TagChoice → List ItemPlace → List RowView → List ℕ
tags_under f a places rs = flat_map (whole_tags f a places) (filter (is_listed a.choice) rs)

-- those of a file
abbrev pub tags : Source → TagForm → TagChoice → List ItemPlace → List RowView → List ℕ
tags s form a places rs = tags_under (tag_file s form) a places rs
