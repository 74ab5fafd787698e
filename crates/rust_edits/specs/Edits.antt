-- What an edit inside a body leaves.
use Rattle.std.specs.Prelude.{◌≡◌, ◌↔◌, ◌==◌, ◌≤◌, ◌+◌, ◌^◌, ◌&&◌, ◌||◌, not, ℕ, suc, Bool, true, nat_le, nat_lt, if◌then◌else◌, Option, Some, None, option_and_then, List, [], ◌∷◌, ◌++◌, map, take, drop, length, slice_index, IsUtf8}
use Rattle.std.specs.List.{list_all}
use Rattle.std.specs.Option.{option_or}
use Rattle.hir_input.specs.declared.edition.EditionYear.{EditionYear}
use Rattle.hir_input.specs.Bodies.{without_bodies}
use Rattle.rust_lexer.specs.Alone.{StandsAlone}
use Rattle.rust_paths.specs.declared.names.TextRange.{TextRange}
use Rattle.rust_items.specs.declared.log.Problem.{Problem}
use Rattle.rust_items.specs.declared.source_file.ItemPlace.{ItemPlace}
use Rattle.rust_items.specs.LineEnds.{with_feeds, moved_problem}
use Rattle.rust_items.specs.SourceFiles.{FileView, IsFileView}
use Rattle.rust_edits.specs.Typing.Laws.{BeginsPlain}
use Rattle.rust_edits.specs.Typing.Loose.{loose_in}
use Rattle.rust_edits.specs.Typing.Moved.{place_after_edit, moved_place}
use Rattle.rust_edits.specs.declared.edit.BodyEdit.{BodyEdit}
use Rattle.rust_edits.specs.declared.shift.Shift.{Shift}

-- a text with this in the place of a range
abbrev pub edited_text : List ℕ → TextRange → List ℕ → List ℕ
edited_text old range typed = take range.start old ++ (typed ++ drop range.end old)

-- where a place of the old text is in the new one
abbrev pub shifted_place : Shift → ℕ → ℕ
shifted_place s = place_after_edit s.opening s.closing s.closing_new

-- the places of an item of the old text, in the new one
abbrev pub shifted_item : Shift → ItemPlace → ItemPlace
shifted_item s = moved_place (shifted_place s)

-- a problem of the old text, in the new one
abbrev pub shifted_problem : Shift → Problem → Problem
shifted_problem s = moved_problem (shifted_place s)

-- what was read of two texts is the same but for body texts, with the same ids, and stands where an edit says
pub record IsMovedBy (edit : BodyEdit) (read again : FileView) : Type 0 where
  pub syntax : without_bodies read.syntax ≡ without_bodies again.syntax
  pub items : again.places ≡ map (shifted_item edit.shift) read.places
  pub use_trees : again.use_trees ≡ map (shifted_place edit.shift) read.use_trees
  pub problems : edit.keeps_problems ≡ true → again.problems ≡ map (shifted_problem edit.shift) read.problems

-- Where these are the places of what is read of a text, in some edition, so is what is read of the text with an edit.
abbrev pub Shifts : List ItemPlace → List ℕ → TextRange → List ℕ → BodyEdit → Type 0
Shifts items old range typed edit = (edition : EditionYear) (read again : FileView) → read.places ≡ items
    → IsFileView edition old read → IsFileView edition (edited_text old range typed) again → IsMovedBy edit read again

-- what is read of a text with an edit: what was read before it, moved
pub record IsReadMoved (edit : BodyEdit) (edition : EditionYear) (text : List ℕ) (read : FileView) : Type 0 where
  pub again : FileView
  pub is_read : IsFileView edition text again
  pub moved : IsMovedBy edit read again

-- Where these are the places of what is read of a text, something is read of the text with an edit, and it is moved.
abbrev pub ReadsMoved : List ItemPlace → List ℕ → TextRange → List ℕ → BodyEdit → Type 0
ReadsMoved items old range typed edit =
    (edition : EditionYear) (read : FileView) → read.places ≡ items → IsFileView edition old read → IsReadMoved edit edition (edited_text old range typed) read

-- ---- which places are in the new text

-- a place up to the `{`, or one from the `}` on whose place in the new text fits into memory
abbrev pub has_place : Shift → ℕ → Bool
has_place s at = nat_le at s.opening || (nat_le s.closing at && nat_lt (shifted_place s at) (2 ^ 64))

-- both ends of a range are such places
abbrev pub has_range : Shift → TextRange → Bool
has_range s r = has_place s r.start && has_place s r.end

-- so are those of a range that there may be
abbrev pub has_some_range : Shift → Option TextRange → Bool
has_some_range s None = true
has_some_range s (Some r) = has_range s r

-- and all places of an item
abbrev pub has_item : Shift → ItemPlace → Bool
has_item s p = has_range s p.range && (has_some_range s p.name && has_some_range s p.body)

-- so does a problem have one
abbrev pub has_problem : Shift → Problem → Bool
has_problem s p = has_place s p.at

-- what has a place there is moved, and the rest stays
abbrev pub or_kept : {A : Type 0} → (A → Bool) → (A → A) → A → A
or_kept has move a = if has a then move a else a

-- all places of what was read of a text are in the new one
pub record HasPlaces (shift : Shift) (read : FileView) : Type 0 where
  pub items : list_all (has_item shift) read.places ≡ true
  pub use_trees : list_all (has_place shift) read.use_trees ≡ true
  pub problems : list_all (has_problem shift) read.problems ≡ true

-- Where these are the places of what is read of a text, in some edition, all of that has places in the text with the edit.
abbrev pub PlacesAreKept : List ItemPlace → List ℕ → TextRange → List ℕ → Shift → Type 0
PlacesAreKept items old range typed shift =
    (edition : EditionYear) (read : FileView) → read.places ≡ items → IsFileView edition old read → HasPlaces shift read

-- ---- which edits are told

-- from a place on each item begins where the one before it begins, or behind that
abbrev pub BeginFrom : ℕ → List ItemPlace → Type 0
BeginFrom at [] = Unit {0}
BeginFrom at (p ∷ ps) = (at ≤ p.range.start) × BeginFrom p.range.start ps

-- items are in the order in which they begin
abbrev pub BeginInOrder : List ItemPlace → Type 0
BeginInOrder items = BeginFrom 0 items

-- So are those of what is read of any text.
abbrev pub ItemsAreInOrder : Type 0
ItemsAreInOrder = (edition : EditionYear) (text : List ℕ) (read : FileView) → IsFileView edition text read → BeginInOrder read.places

-- the last of the items that begin up to a place
abbrev pub last_begun : ℕ → List ItemPlace → Option ItemPlace
last_begun at [] = None
last_begun at (p ∷ ps) = if nat_le p.range.start at then option_or (last_begun at ps) (Some p) else last_begun at ps

-- the braces that it ends with, if it ends with braces
abbrev pub body_about : ℕ → List ItemPlace → Option TextRange
body_about at items = option_and_then (λ p. p.body) (last_begun at items)

-- a text clearly begins with neither a byte order mark, a shebang line nor frontmatter
abbrev pub begins_bare : List ℕ → Bool
begins_bare z =
    if slice_index z 0 == 35 then slice_index z 1 == 91 || (slice_index z 1 == 33 && slice_index z 2 == 91)
    else not (slice_index z 0 == 45 || (slice_index z 0 == 10 || (slice_index z 0 == 13 || slice_index z 0 == 239)))

-- What may stand in a body: its braces match, no token of it takes the `}` behind it, and no inner attribute begins it.
abbrev pub MayStandInside : List ℕ → Type 0
MayStandInside m = StandsAlone (with_feeds m) × BeginsPlain (with_feeds m)

-- A range of a text stands in these braces, and cuts no character. The parts of the text are what stands before the `{`, between it and the
-- range, in the range, between this and the `}`, and behind the `}`.
pub record ArePartsAbout (text : List ℕ) (body range : TextRange) (before front replaced back behind : List ℕ) : Type 0 where
  pub whole : text ≡ before ++ 123 ∷ (front ++ (replaced ++ (back ++ 125 ∷ behind)))
  pub opens : length before ≡ body.start
  pub starts : suc (length before) + length front ≡ range.start
  pub ends : range.start + length replaced ≡ range.end
  pub closes : range.end + suc (length back) ≡ body.end
  pub front_utf8 : IsUtf8 front
  pub replaced_utf8 : IsUtf8 replaced
  pub back_utf8 : IsUtf8 back

-- An edit is one inside a body: a range of a text stands in the braces of the last item that begins up to it, and what stood and what stands
-- then in these may stand there. The text clearly has nothing of its own in front.
pub record MayEdit (items : List ItemPlace) (old : List ℕ) (range : TextRange) (typed : List ℕ) : Type 0 where
  pub body : TextRange
  pub before : List ℕ
  pub front : List ℕ
  pub replaced : List ℕ
  pub back : List ℕ
  pub behind : List ℕ
  pub bare : begins_bare old ≡ true
  pub about : body_about range.start items ≡ Some body
  pub parts : ArePartsAbout old body range before front replaced back behind
  pub stood : MayStandInside (front ++ (replaced ++ back))
  pub stands : MayStandInside (front ++ (typed ++ back))

-- such an edit leaves as many brackets loose in the body as before
abbrev pub KeepsLoose : (items : List ItemPlace) (old : List ℕ) (range : TextRange) (typed : List ℕ) → MayEdit items old range typed → Type 0
KeepsLoose items old range typed m = loose_in (with_feeds (m.front ++ (typed ++ m.back))) ≡ loose_in (with_feeds (m.front ++ (m.replaced ++ m.back)))

-- it is told of such an edit whether it does
abbrev pub TellsLoose : List ItemPlace → List ℕ → TextRange → List ℕ → Bool → Type 0
TellsLoose items old range typed keeps = (m : MayEdit items old range typed) → (keeps ≡ true) ↔ KeepsLoose items old range typed m

-- A shift has the places of the braces that such an edit stands in: of the `{`, and of the `}`, which moves by as much as the text grows.
pub record HasBraces (items : List ItemPlace) (old : List ℕ) (range : TextRange) (typed : List ℕ) (shift : Shift) (m : MayEdit items old range typed) : Type 0 where
  pub opening : shift.opening ≡ m.body.start
  pub closing : suc shift.closing ≡ m.body.end
  pub closing_new : shift.closing_new + length m.replaced ≡ shift.closing + length typed

-- so it does whatever edit it is
abbrev pub ShiftsBraces : List ItemPlace → List ℕ → TextRange → List ℕ → Shift → Type 0
ShiftsBraces items old range typed shift = (m : MayEdit items old range typed) → HasBraces items old range typed shift m
