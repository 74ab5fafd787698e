-- What is typed in a hole of a text, others do not see.
use Rattle.std.specs.Prelude.{◌≡◌, ℕ, suc, ◌-◌, Bool, true, false, ◌==◌, ◌&&◌, IsTrue, Option, Some, None, List, [], ◌∷◌, ◌++◌, map, length}
use Rattle.std.specs.List.{Contains, list_any}
use Rattle.hir_input.specs.declared.edition.EditionYear.{EditionYear}
use Rattle.rust_lexer.specs.Alone.{StandsAlone}
use Rattle.rust_paths.specs.declared.names.TextRange.{TextRange}
use Rattle.rust_items.specs.declared.source_file.ItemPlace.{ItemPlace}
use Rattle.rust_items.specs.LineEnds.{with_feeds}
use Rattle.rust_items.specs.SourceFiles.{FileView, IsFileView}
use Rattle.rust_edits.specs.Typing.Laws.{with_body, BeginsPlain, OpensAt, IsTyped}
use Rattle.rust_edits.specs.Typing.Moved.{close_at, shifted_by}
use Rattle.rust_items.specs.Members.{MemberRead}
use Rattle.source_changes.specs.Bodies.{hole_of}
use Rattle.source_rows.specs.Labels.{has_members}
use Rattle.source_rows.specs.Listed.{body_members}
use Rattle.source_changes.specs.Parts.{Part, fn_body}
use Rattle.source_changes.specs.Rows.{bodies, hole}
use Rattle.source_rows.specs.Sources.{Source}
use Rattle.source_changes.specs.declared.kept.Hole.{Hole}
use Rattle.source_changes.specs.Changes.{AreParts, seen_texts, IsCompared}
use Rattle.list_forms.specs.declared.lines.Form.{Form}
use Rattle.source_changes.specs.declared.Compared.{Compared}

-- ---- braces that are a hole

-- the braces behind these bytes, with this between them
abbrev pub braces : List ℕ → List ℕ → TextRange
braces q m = record { start = length q; end = suc (close_at q m) }

-- a range is there, and it is this one
abbrev pub is_range : TextRange → Option TextRange → Bool
is_range range None = false
is_range range (Some r) = r.start == range.start && r.end == range.end

-- an item of a text is a function with this body, which is a hole
abbrev pub has_hole : List ℕ → TextRange → ItemPlace → Bool
has_hole text body s = is_range body (hole_of text s.range (fn_body s.id.kind s.body))

-- such a function is read of the text
pub record IsHoleIn (edition : EditionYear) (text : List ℕ) (body : TextRange) : Type 0 where
  pub read : FileView
  pub is_read : IsFileView edition text read
  pub has_one : list_any (has_hole text body) read.places ≡ true

-- ---- the laws

-- braces of a text with this or that between them: the `{` is a token, and so is the `}`
pub record AreBraces (q m m' s : List ℕ) : Type 0 where
  pub opens : OpensAt q (m ++ 125 ∷ s)
  pub alone : StandsAlone m
  pub alone_new : StandsAlone m'

-- A text of which what stands in a hole was typed anew, and there is a hole still. Items are read of the text without the carriage returns
-- at the ends of its lines, and its tokens are compared as they are: something is asked of both.
pub record IsTypedInHole (edition : EditionYear) (q m m' s : List ℕ) : Type 0 where
  pub typed : IsTyped edition (with_feeds q) (with_feeds m) (with_feeds m') (with_feeds s)
  pub stand : AreBraces q m m' s
  pub hole : IsHoleIn edition (with_body q m s) (braces q m)
  pub hole_new : IsHoleIn edition (with_body q m' s) (braces q m')

-- Of texts without such returns the first tells the second.
abbrev pub StandWithoutReturns : Type 0
StandWithoutReturns = (edition : EditionYear) (q m m' s : List ℕ) → with_feeds (with_body q m s) ≡ with_body q m s → with_feeds (with_body q m' s) ≡ with_body q m' s
    → IsTyped edition (with_feeds q) (with_feeds m) (with_feeds m') (with_feeds s) → AreBraces q m m' s

-- Whatever is typed in a hole, others see the same of the text.
abbrev pub HolesAreUnseen : Type 0
HolesAreUnseen = (edition : EditionYear) (has_docs : Bool) (q m m' s : List ℕ) (olds news : List Part) → IsTypedInHole edition q m m' s → AreParts edition (with_body q m s) olds → AreParts edition (with_body q m' s) news
    → seen_texts has_docs (with_body q m s) olds ≡ seen_texts has_docs (with_body q m' s) news

-- So the answer of a comparison is yes.
abbrev pub TypingIsSame : Type 0
TypingIsSame = (edition : EditionYear) (has_docs : Bool) (q m m' s : List ℕ) (form : Form) (old new : Source) (c : Compared) → IsTypedInHole edition q m m' s → old.text ≡ with_body q m s → new.text ≡ with_body q m' s
    → IsCompared edition has_docs form old new c → IsTrue c.is_same

-- ---- of members too

-- the hole between braces that are moved
abbrev pub moved_hole : (ℕ → ℕ) → Hole → Hole
moved_hole place h = record { start = suc (place (h.start - 1)); end = place h.end }

-- The same of braces of an item or of a member that are a hole, where the holes of the new text are those of the old one, moved.
abbrev pub MovedHolesAreUnseen : Type 0
MovedHolesAreUnseen = (edition : EditionYear) (has_docs : Bool) (q m m' s : List ℕ) (olds news : List Part) → AreBraces q m m' s → AreParts edition (with_body q m s) olds
    → Contains (bodies olds) (hole (suc (length q)) (close_at q m)) → bodies news ≡ map (moved_hole (shifted_by q m m')) (bodies olds)
    → seen_texts has_docs (with_body q m s) olds ≡ seen_texts has_docs (with_body q m' s) news

-- a member of a text is a function with this body, which is a hole
abbrev pub is_member_hole : List ℕ → TextRange → MemberRead → Bool
is_member_hole text body m = is_range body (hole_of text m.range m.body)

-- an item of a text, in these braces, has such a member
abbrev pub has_member_hole : EditionYear → List ℕ → TextRange → TextRange → ItemPlace → Bool
has_member_hole edition text item body s = is_range item s.body && list_any (is_member_hole text body) (body_members edition s.id.kind text (has_members s.id.kind) s.body)

-- such an item is read of the text
pub record IsMemberHoleIn (edition : EditionYear) (text : List ℕ) (item body : TextRange) : Type 0 where
  pub read : FileView
  pub is_read : IsFileView edition text read
  pub has_one : list_any (has_member_hole edition text item body) read.places ≡ true

-- A text `q { p { m } r } s` of which what stands in a member's hole was typed anew, and there is a hole still. Members are read of the braces of
-- their item, as a text of its own: something is asked of the braces `{ p { m } r }`, too.
pub record IsTypedInMember (edition : EditionYear) (q p m m' r s : List ℕ) : Type 0 where
  pub typed : IsTyped edition (with_feeds q) (with_feeds (with_body p m r)) (with_feeds (with_body p m' r)) (with_feeds s)
  pub stand : AreBraces (q ++ 123 ∷ p) m m' (r ++ 125 ∷ s)
  pub within : AreBraces (123 ∷ p) m m' (r ++ 125 ∷ [])
  pub begins : BeginsPlain m
  pub begins_new : BeginsPlain m'
  pub hole : IsMemberHoleIn edition (with_body q (with_body p m r) s) (braces q (with_body p m r)) (braces (q ++ 123 ∷ p) m)
  pub hole_new : IsMemberHoleIn edition (with_body q (with_body p m' r) s) (braces q (with_body p m' r)) (braces (q ++ 123 ∷ p) m')

-- Whatever is typed in a member's hole, others see the same of the text.
abbrev pub MemberHolesAreUnseen : Type 0
MemberHolesAreUnseen = (edition : EditionYear) (has_docs : Bool) (q p m m' r s : List ℕ) (olds news : List Part) → IsTypedInMember edition q p m m' r s
    → AreParts edition (with_body q (with_body p m r) s) olds → AreParts edition (with_body q (with_body p m' r) s) news
    → seen_texts has_docs (with_body q (with_body p m r) s) olds ≡ seen_texts has_docs (with_body q (with_body p m' r) s) news

-- So the answer of a comparison is yes.
abbrev pub TypingInMemberIsSame : Type 0
TypingInMemberIsSame = (edition : EditionYear) (has_docs : Bool) (q p m m' r s : List ℕ) (form : Form) (old new : Source) (c : Compared) → IsTypedInMember edition q p m m' r s
    → old.text ≡ with_body q (with_body p m r) s → new.text ≡ with_body q (with_body p m' r) s → IsCompared edition has_docs form old new c → IsTrue c.is_same
