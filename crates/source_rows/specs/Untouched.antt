-- Parts of a mended text that are text of the file.
use Rattle.std.specs.Prelude.{◌≡◌, ℕ, suc, Bool, true, false, ◌+◌, ◌&&◌, nat_le, nat_lt, is_some, List, [], ◌∷◌, Option, Some, None, slice_range}
use Rattle.std.specs.List.{list_any}
use Rattle.hir_input.specs.declared.edition.EditionYear.{EditionYear}
use Rattle.rust_mended.specs.declared.edit.Edit.{Edit}
use Rattle.rust_mended.specs.declared.edit.EditKind.{EditKind}
use Rattle.rust_mended.specs.declared.edit.EditKind.TheVariants as edit
use Rattle.rust_mended.specs.Texts.{edits, mended_text, place_back}
use Rattle.rust_paths.specs.declared.names.TextRange.{TextRange}
use Rattle.rust_items.specs.MemberLists.{is_cut}
use Rattle.rust_items.specs.declared.source_file.ItemPlace.{ItemPlace}
use Rattle.source_rows.specs.Headers.{header_in}
use Rattle.source_rows.specs.Listed.{MemberReading, moved_item, read_place}

-- how many closers were put, behind an edit and so many
abbrev pub puts_behind : EditKind → ℕ → ℕ
puts_behind (edit.Put b) n = suc n
puts_behind edit.Leave n = n
puts_behind (edit.Turn b) n = n

-- the places in the mended text of the bytes that edits write, behind so many closers that were put
abbrev pub written_places_from : ℕ → List Edit → List ℕ
written_places_from n [] = []
written_places_from n (e ∷ es) = (e.at + n) ∷ written_places_from (puts_behind e.kind n) es

-- the places in the mended text of all bytes that are put or replaced
unfoldable pub written_places : List ℕ → List ℕ
written_places text = written_places_from 0 (edits text)

abbrev pub stands_in : TextRange → ℕ → Bool
stands_in range at = nat_le range.start at && nat_lt at range.end

-- a byte in this range of the mended text was put or replaced
abbrev pub is_touched : List ℕ → TextRange → Bool
is_touched text range = list_any (stands_in range) (written_places text)

-- where the header of an item is read: in all of it, or before its braces
abbrev pub front_range : TextRange → Option TextRange → TextRange
front_range range None = range
front_range range (Some braces) = record { start = range.start; end = braces.start }

-- the header that is read from these bytes of a text
abbrev pub header_between : EditionYear → List ℕ → TextRange → Option TextRange → List ℕ
header_between edition text range braces = let front = front_range range braces in
    header_in (is_some braces) edition (slice_range text front.start front.end)

-- an item of a file stands there in the mended text, and no byte of its header there was put or replaced
pub record HasOwnHeader (text : List ℕ) (x : MemberReading) (p q : ItemPlace) : Type 0 where
  pub is_read : x.text ≡ mended_text text
  pub stands : read_place x.closers (Some p) ≡ Some q
  pub told : p ≡ moved_item (place_back text) q
  pub whole : is_cut x.text (front_range q.range q.body) ≡ true
  pub own : is_touched text (front_range q.range q.body) ≡ false
