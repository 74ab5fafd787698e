-- Whatever is typed in a hole, others see the same.
use Rattle.std.proofs.Common.{◌≡◌, ◌≤◌, ◌<◌, ◌+◌, ◌++◌, ℕ, zero, suc, Bool, true, false, Some, IsTrue, List, [], ◌∷◌, length, refl, sym, ap, ◌∙◌, subst, arith, map, flat_map, append-nil, All, slice_index}
use Rattle.std.specs.List.{Contains, list_any}
use Rattle.std.proofs.lemmas.List.Elements.{All-cons, All-map, All-nil}
use Rattle.hir_input.specs.declared.edition.EditionYear.{EditionYear}
use Rattle.rust_lexer.specs.Alone.{EndsAlone, StandsAlone, moved_piece, opening, tokens_in_front}
use Rattle.rust_lexer.specs.Bytes.{is_continuation, is_wide_start}
use Rattle.rust_lexer.specs.Cut.{first_cut}
use Rattle.rust_lexer.specs.Piece.{Piece}
use Rattle.rust_lexer.specs.Symbol.{symbol_of}
use Rattle.rust_lexer.specs.Tokens.{piece, tokens, tokens_from, whole_length}
use Rattle.rust_lexer.proofs.TextsApart.{apart, front_same}
use Rattle.rust_lexer.proofs.Laws.{tokens_not_empty, tokens_placed}
use Rattle.rust_lexer.proofs.WholeTexts.{open_at}
use Rattle.rust_items.specs.declared.source_file.ItemPlace.{ItemPlace}
use Rattle.rust_items.specs.SourceFiles.{FileView, IsFileView, places}
use Rattle.rust_items.proofs.FilePlaces.{view_placed}
use Rattle.rust_edits.specs.Typing.Laws.{with_body, IsTyped, OpensAt}
use Rattle.rust_items.specs.LineEnds.{with_feeds}
use Rattle.rust_edits.specs.Typing.Moved.{close_at, moved_place, shifted_by}
use Rattle.rust_edits.proofs.ItemJoins.LongerTexts.{plain_back, plain_on, plain_tokens}
use Rattle.rust_edits.proofs.Typing.MovedItems.{places_move}
use Rattle.rust_edits.proofs.Typing.Typing.{same_ids}
use Rattle.source_changes.specs.DocAttributes.{docs_as_comments}
use Rattle.source_changes.specs.Inner.{ComeBehind}
use Rattle.source_changes.specs.Parts.{Part}
use Rattle.source_changes.specs.Rows.{bodies, hole}
use Rattle.source_changes.specs.Skeletons.{kept_tokens, skeleton}
use Rattle.source_changes.proofs.AsComments.{in_braces, placed, still_behind}
use Rattle.source_changes.proofs.LeftOutParts.{AreInside, holes_about, typed_alike}
use Rattle.source_changes.proofs.Holes.{after_all}
use Rattle.source_changes.proofs.ItemHoles.{holes_from, place_holes}
use Rattle.source_changes.proofs.HoleOrder.{AreRising, all_rise}
use Rattle.source_changes.specs.declared.kept.Hole.{Hole}
use Rattle.source_changes.proofs.PartedItems.{AllStand, AreBefore, Parted, all_parted, may_hold}
use Rattle.source_rows.specs.Sources.{Source}
use Rattle.list_forms.specs.declared.lines.Form.{Form}
use Rattle.source_changes.specs.Changes.{AreParts, IsCompared, seen_texts}
use Rattle.source_changes.specs.declared.Compared.{Compared}
use Rattle.source_changes.specs.Typing.{AreBraces, HolesAreUnseen, MemberHolesAreUnseen, MovedHolesAreUnseen, TypingInMemberIsSame, TypingIsSame, braces, has_hole, has_member_hole, moved_hole}
use Rattle.source_changes.proofs.Moving.{HolesBeside, holes_move}
use Rattle.source_changes.proofs.TypedHoles.{fn_holds_none, function_is, holes_typed}
use Rattle.source_changes.proofs.TypedMembers.{has_body, holds_none, items_typed, text_is}

-- ---- tokens

-- those that begin in a text begin from its place on, and before its end
begin_in : (P : ℕ → Type 0) (left at : ℕ) (x w : List ℕ) → ((k : ℕ) → at ≤ k → k < at + length x → P k) → All (λ t. P t.at) (tokens_in_front left at x w)
begin_in P left at [] w h = All-nil (λ t. P t.at)
begin_in P (suc left) at (b ∷ x) w h = begin_in P left (suc at) x w (λ k low high. h k (omega (arith, low)) (omega (arith, high)))
begin_in P zero at (b ∷ x) w h =
    let c = first_cut b (x ++ w) in
    All-cons (λ t. P t.at) (piece c at b (x ++ w)) _ (h at (omega arith) (omega arith)) (begin_in P (whole_length c (x ++ w)) (suc at) x w (λ k low high. h k (omega (arith, low)) (omega (arith, high))))

-- from the `}` on
abbrev rest : List ℕ → List Piece
rest s = tokens_from 0 0 (125 ∷ s)

-- behind it
abbrev behind : List ℕ → List Piece
behind s = tokens_from (whole_length (first_cut 125 s) s) 1 s

-- between the braces
abbrev inside : List ℕ → List ℕ → List Piece
inside q m = map (moved_piece (suc (length q))) (tokens_in_front 0 0 m (125 ∷ []))

-- the tokens of a text with braces in it
abbrev all_tokens : List ℕ → List ℕ → List ℕ → List Piece
all_tokens q m s = tokens_in_front 0 0 q (123 ∷ []) ++ open_at (length q) ∷ (inside q m ++ map (moved_piece (close_at q m)) (rest s))

are_inside : (q m : List ℕ) → AreInside (length q) (close_at q m) (inside q m)
are_inside q m =
    All-map (λ (t : Piece). (suc (length q) ≤ t.at) × (t.at < close_at q m)) (moved_piece (suc (length q))) (tokens_in_front 0 0 m (125 ∷ []))
    (begin_in (λ k. (suc (length q) ≤ k + suc (length q)) × (k + suc (length q) < close_at q m)) 0 0 m (125 ∷ []) (λ k low high. (omega arith, omega (arith, high))))

still_inside : (docs : Bool) (q m : List ℕ) → AreInside (length q) (close_at q m) (docs_as_comments docs 0 (inside q m))
still_inside docs q m = placed (λ k. (suc (length q) ≤ k) × (k < close_at q m)) docs 0 (inside q m) (are_inside q m)

close_symbol : (s : List ℕ) → symbol_of (piece (first_cut 125 s) 0 125 s) ≡ 125
unfolding first_cut is_wide_start
close_symbol s = refl

uncut : (m s : List ℕ) → StandsAlone m → is_continuation (slice_index (m ++ 125 ∷ s) 0) ≡ false
uncut [] s h = refl
uncut (b ∷ m) s h = h.begins

tokens_are : (q m m' s : List ℕ) → OpensAt q (m ++ 125 ∷ s) → StandsAlone m → StandsAlone m' → tokens (with_body q m' s) ≡ all_tokens q m' s
tokens_are q m m' s o h h' =
    let ends : EndsAlone q opening = record { full = o.full; ends = (front_same opening 0 0 q (m ++ 125 ∷ s) [] o.full o.one).0 } in
    let short = plain_back q opening (m ++ 125 ∷ s) ends (uncut m s h) (record { mark = o.plain; shebang = o.bare; fence = o.unfenced }) in
    plain_tokens (with_body q m' s) (plain_on q opening (m' ++ 125 ∷ s) ends (uncut m' s h') short) ∙ apart q m m' s o.full o.one h'

come_in_order : (docs : Bool) (text : List ℕ) → ComeBehind 0 (docs_as_comments docs 0 (tokens text))
come_in_order docs text = still_behind docs 0 0 (tokens text) (after_all 0 (tokens text) (tokens_placed text) (tokens_not_empty text))

-- the same, where attributes that document are told as comments
seen_are : (docs : Bool) (q m m' s : List ℕ) → OpensAt q (m ++ 125 ∷ s) → StandsAlone m → StandsAlone m' → docs_as_comments docs 0 (tokens (with_body q m' s))
    ≡ docs_as_comments docs 0 (tokens_in_front 0 0 q (123 ∷ [])) ++ open_at (length q) ∷ (docs_as_comments docs 0 (inside q m') ++ map (moved_piece (close_at q m')) (piece (first_cut 125 s) 0 125 s ∷ docs_as_comments docs 0 (behind s)))
seen_are docs q m m' s o h h' = ap (docs_as_comments docs 0) (tokens_are q m m' s o h h') ∙ in_braces docs (close_at q m') (tokens_in_front 0 0 q (123 ∷ [])) (inside q m') (open_at (length q)) (piece (first_cut 125 s) 0 125 s) (behind s) refl (close_symbol s)

-- the same of both texts is kept
same_seen : (docs : Bool) (q m m' s : List ℕ) (olds news : List Hole) → AreBraces q m m' s → HolesBeside (length q) (close_at q m) (close_at q m') olds news → skeleton docs olds (with_body q m s) ≡ skeleton docs news (with_body q m' s)
same_seen docs q m m' s olds news t h =
    let old = with_body q m s in
    let new = with_body q m' s in
    let seen = docs_as_comments docs 0 in
    let ours = seen_are docs q m m s t.opens t.alone t.alone in
    let theirs = seen_are docs q m m' s t.opens t.alone t.alone_new in
    ap (λ hs. skeleton docs hs old) h.old ∙ ap (kept_tokens docs (holes_about (length q) (close_at q m) h.before h.behind) 0) ours
    ∙ typed_alike docs (length q) (close_at q m) (close_at q m') h.before h.behind h.end (omega arith) (omega arith) 0 0 (seen (tokens_in_front 0 0 q (123 ∷ []))) (open_at (length q)) (piece (first_cut 125 s) 0 125 s) (seen (inside q m)) (seen (inside q m')) (seen (behind s))
    (placed (λ k. k < length q) docs 0 (tokens_in_front 0 0 q (123 ∷ [])) (begin_in (λ k. k < length q) 0 0 q (123 ∷ []) (λ k low high. omega (arith, high)))) refl (close_symbol s) refl (still_inside docs q m) (still_inside docs q m')
    (subst (ComeBehind 0) ours (come_in_order docs old)) (subst (ComeBehind 0) theirs (come_in_order docs new))
    ∙ sym (ap (kept_tokens docs (holes_about (length q) (close_at q m') h.before h.behind) 0) theirs) ∙ sym (ap (λ hs. skeleton docs hs new) h.new)

-- ---- parts

-- the places of what is read of a text are the same each time
same_places : (edition : EditionYear) (text : List ℕ) (read again : FileView) → IsFileView edition text read → IsFileView edition text again → read.places ≡ again.places
same_places edition text read again f g = f.places ∙ ap (λ ids. places ids _) (sym (same_ids edition _ _ _ _ read again f g refl)) ∙ sym g.places

-- an item that passes a test has the braces, in each text; what follows for its holes holds of all
module _ (edition : EditionYear) (q m m' s : List ℕ) (olds news : List Part) (typed : IsTyped edition (with_feeds q) (with_feeds m) (with_feeds m') (with_feeds s))
    (before : AreParts edition (with_body q m s) olds) (after : AreParts edition (with_body q m' s) news)
    (has has_new : ItemPlace → Bool) (no_holder : (p : ItemPlace) → has p ≡ true → may_hold p.id.kind ≡ false) (is_body : (p : ItemPlace) → has p ≡ true → p.body ≡ Some (braces q m)) where
  abbrev old : List ℕ
  old = with_body q m s

  abbrev new : List ℕ
  new = with_body q m' s

  abbrev mv : ItemPlace → ItemPlace
  mv = moved_place (shifted_by q m m')

  moved_all : after.0.places ≡ map mv before.0.places
  moved_all = (places_move edition q m m' s before.0 after.0 typed before.1 after.1).places

  -- the hole is there, and the holes are moved
  abbrev Holes : Hole → (ℕ → ℕ) → List Hole → List Hole → Type 0
  Holes h place hs ks = Contains hs h × (ks ≡ map (moved_hole place) hs)

  pub holes : (h : Hole) (place : ℕ → ℕ) (read again : FileView) → IsFileView edition old read → list_any has read.places ≡ true → IsFileView edition new again → list_any has_new again.places ≡ true
      → ((before behind : List ItemPlace) (one : ItemPlace) → AreBefore (length q) before → AllStand (suc (close_at q m)) (length old) behind → has one ≡ true → list_any has_new (map mv (before ++ one ∷ behind)) ≡ true
      → Holes h place (flat_map (place_holes edition old) (before ++ one ∷ behind)) (flat_map (place_holes edition new) (map mv (before ++ one ∷ behind))))
      → Holes h place (bodies olds) (bodies news)
  holes h place read again f has_one g has_one_new each = by (all_parted (braces q m) has no_holder is_body (view_placed edition old before.0 before.1) some)
    where
      some : list_any has before.0.places ≡ true
      some = ap (list_any has) (sym (same_places edition old read before.0 f before.1)) ∙ has_one

      some_new : list_any has_new (map mv before.0.places) ≡ true
      some_new = ap (list_any has_new) (sym moved_all ∙ sym (same_places edition new again after.0 g after.1)) ∙ has_one_new

      by : Parted (braces q m) has no_holder is_body 0 (length old) before.0.places [] → Holes h place (bodies olds) (bodies news)
      by p =
          let list = p.before ++ p.one ∷ p.behind in
          let is : before.0.places ≡ list = p.is ∙ ap (λ l. p.before ++ p.one ∷ l) (append-nil p.behind) in
          let both = each p.before p.behind p.one p.are_before p.are_behind p.has_it (ap (λ l. list_any has_new (map mv l)) (sym is) ∙ some_new) in
          let ours = ap bodies before.2 ∙ holes_from edition old [] before.0.places ∙ ap (flat_map (place_holes edition old)) is in
          let theirs = ap bodies after.2 ∙ holes_from edition new [] after.0.places ∙ ap (flat_map (place_holes edition new)) (moved_all ∙ ap (map mv) is) in
          (subst (λ hs. Contains hs h) (sym ours) both.0, theirs ∙ both.1 ∙ sym (ap (map (moved_hole place)) ours))

-- ---- the laws

pub moved_holes_are_unseen : MovedHolesAreUnseen
moved_holes_are_unseen edition docs q m m' s olds news t a one moved_piece =
    let old = with_body q m s in
    let are = ap bodies a.2 ∙ holes_from edition old [] a.0.places in
    let rise : AreRising 0 (length old) (bodies olds) = subst (AreRising 0 (length old)) (sym are) (all_rise edition old (view_placed edition old a.0 a.1)) in
    let beside = (holes_move (length q) (close_at q m) (close_at q m') (omega arith) 0 (length old) (bodies olds) rise one).0 in
    same_seen docs q m m' s (bodies olds) (bodies news) t (subst (HolesBeside (length q) (close_at q m) (close_at q m') (bodies olds)) (sym moved_piece) beside)

pub holes_are_unseen : HolesAreUnseen
holes_are_unseen edition docs q m m' s olds news t a b =
    let has = λ (m : List ℕ). has_hole (with_body q m s) (braces q m) in
    let h = holes edition q m m' s olds news t.typed a b (has m) (has m') (λ p e. fn_holds_none (with_body q m s) (braces q m) p e) (λ p e. (function_is (with_body q m s) (braces q m) p e).is_body)
    (hole (suc (length q)) (close_at q m)) (shifted_by q m m') t.hole.read t.hole_new.read t.hole.is_read t.hole.has_one t.hole_new.is_read t.hole_new.has_one
    (λ before behind one x y e e'. holes_typed edition q m m' s (length (with_body q m s)) before behind one x y e e') in
    moved_holes_are_unseen edition docs q m m' s olds news t.stand a h.0 h.1

pub member_holes_are_unseen : MemberHolesAreUnseen
member_holes_are_unseen edition docs q p m m' r s olds news t a b =
    let x = with_body p m r in
    let x' = with_body p m' r in
    let front = q ++ 123 ∷ p in
    let has = λ (m : List ℕ). has_member_hole edition (with_body q (with_body p m r) s) (braces q (with_body p m r)) (braces front m) in
    let old = text_is q p m r s in
    let new = text_is q p m' r s in
    let h = holes edition q x x' s olds news t.typed a b (has m) (has m') (holds_none edition q p m m' r s t.within t.begins t.begins_new m) (has_body edition q p m m' r s t.within t.begins t.begins_new m)
    (hole (suc (length front)) (close_at front m)) (shifted_by front m m') t.hole.read t.hole_new.read t.hole.is_read t.hole.has_one t.hole_new.is_read t.hole_new.has_one
    (λ before behind one x y e e'. items_typed edition q p m m' r s t.within t.begins t.begins_new (length (with_body q (with_body p m r) s)) before behind one x y e e') in
    ap (λ z. seen_texts docs z olds) old
    ∙ moved_holes_are_unseen edition docs front m m' (r ++ 125 ∷ s) olds news t.stand (subst (λ z. AreParts edition z olds) old a) h.0 h.1
    ∙ sym (ap (λ z. seen_texts docs z news) new)

-- where others see the same of two texts, the answer is yes
told_same : (edition : EditionYear) (docs : Bool) (form : Form) (x x' : List ℕ) (old new : Source) (c : Compared) → old.text ≡ x → new.text ≡ x' → IsCompared edition docs form old new c
    → ((olds news : List Part) → AreParts edition x olds → AreParts edition x' news → seen_texts docs x olds ≡ seen_texts docs x' news) → IsTrue c.is_same
told_same edition docs form x x' _ _ c e f k same =
    let before : AreParts edition x k.0 = subst (λ x. AreParts edition x k.0) e k.2 in
    let after : AreParts edition x' k.1 = subst (λ x. AreParts edition x k.1) f k.3 in
    k.4.1 (ap (λ x. seen_texts docs x k.0) e ∙ same k.0 k.1 before after ∙ sym (ap (λ x. seen_texts docs x k.1) f))

pub typing_is_same : TypingIsSame
typing_is_same edition docs q m m' s form old new c t e f k =
    told_same edition docs form (with_body q m s) (with_body q m' s) old new c e f k (λ olds news a b. holes_are_unseen edition docs q m m' s olds news t a b)

pub typing_in_member_is_same : TypingInMemberIsSame
typing_in_member_is_same edition docs q p m m' r s form old new c t e f k =
    told_same edition docs form (with_body q (with_body p m r) s) (with_body q (with_body p m' r) s) old new c e f k (λ olds news a b. member_holes_are_unseen edition docs q p m m' r s olds news t a b)
