-- For the crate's own functions.
use Rattle.std.specs.Prelude.{◌≡◌, ◌<◌, ◌+◌, ◌^◌, length, map, ℕ, false, List, Some, option_map, string_bytes}
use Rattle.rust_items.specs.declared.source_file.ItemPlace.{ItemPlace}
use Rattle.source_rows.specs.Finders.{IsFinderOf, IsSameFinder}
use Rattle.source_tags.specs.declared.tags.Tagger.{Tagger}
use Rattle.source_tags.specs.declared.tag_fields.HeadText as code_head
use Rattle.source_tags.specs.declared.tag_fields.TagItem as code_tag_item
use Rattle.source_tags.specs.declared.tag_fields.TagPlace as code_tag_place
use Rattle.source_tags.specs.TagFields.{HeadText, TagItem, TagPlace}
use Rattle.rust_metas.specs.declared.wanted.WantedMetas.TheVariants.{Conditions}
use Rattle.rust_leaves.specs.declared.wanted.Wanted.{Wanted}
use Rattle.rust_items.specs.MemberPlaces.{FitsMoved}
use Rattle.source_tags.specs.BlockItems.{BlockItem, FnBlock, Holder}
use Rattle.source_tags.specs.declared.block_items.FnBlock as code_block
use Rattle.source_tags.specs.declared.block_items.BlockItem as code_block_item
use Rattle.source_tags.specs.declared.block_items.Holder as code_holder
use Rattle.source_tags.specs.Tags.{TagFile}

-- ---- taggers

-- the file of what tags are made from
abbrev pub tagged_file : Tagger → TagFile
tagged_file t = record { path = t.path.now; text = t.finder.lines; source = t.text.now; shown = t.lines.text.now; form = t.form }

-- what one of its tags is of, and where that stands
abbrev pub tag_item_view : code_tag_item.TagItem → TagItem
tag_item_view t = record { name = t.name.now; at = t.at; end = t.end; letter = t.letter.now; access = option_map (λ s. s.now) t.access; is_function = t.is_function }

abbrev pub tag_place_view : code_tag_place.TagPlace → TagPlace
tag_place_view p = record { line = p.line; last = p.last; head = p.head.now }

abbrev pub head_view : code_head.HeadText → HeadText
head_view b = record { text = string_bytes b.text; is_apart = b.is_apart; depth = b.depth }

-- nothing of it is another
abbrev pub IsSameTagger : Tagger → Tagger → Type 0
IsSameTagger old new = (new.path ≡ old.path) × (new.form ≡ old.form) × (new.lines.text ≡ old.lines.text) × (new.text ≡ old.text) × IsSameFinder old.finder new.finder

-- tags are of this file, with items at these places
abbrev pub IsTaggerOf : TagFile → List ItemPlace → Tagger → Type 0
IsTaggerOf f places t = (t.path.now ≡ f.path) × (t.form ≡ f.form) × (t.lines.text.now ≡ f.shown) × (t.text.now ≡ f.source) × IsFinderOf f.text places t.finder

-- ---- blocks in bodies

abbrev pub fn_block_view : code_block.FnBlock → FnBlock
fn_block_view b = record { word = b.word.now; scope = map (λ n. n.now) b.scope.now; is_active = b.is_active; base = b.base; text = b.text.now }

abbrev pub block_item_view : code_block_item.BlockItem → BlockItem
block_item_view i = record { name = i.name; visibility = i.visibility; is_enabled = i.is_enabled }

abbrev pub holder_view : code_holder.Holder → Holder
holder_view h = record { end = h.end; name = h.name; is_enabled = h.is_enabled }

-- conditions are wanted of what stands in front of an item
abbrev pub condition_wanted : Wanted
condition_wanted = record { bodies = false; metas = Conditions }

-- the places of an item fit into numbers behind so many bytes
abbrev pub FitsPlace : ℕ → ItemPlace → Type 0
FitsPlace by p = FitsMoved by (Some p.range) × (FitsMoved by p.name × FitsMoved by p.body)

-- and those of a text
abbrev pub FitsText : ℕ → List ℕ → Type 0
FitsText by text = 0 < length text → by + length text < 2 ^ 64

-- all that stands in a block fits where that stands
abbrev pub FitsBlock : FnBlock → Type 0
FitsBlock b = FitsText b.base b.text
