-- Typing inside a body changes no syntax but for its body texts.
use Rattle.std.proofs.Common.{◌≡◌, ℕ, false, List, length, refl, ap, sym, subst, ◌∙◌, map}
use Rattle.rust_edits.proofs.Common.{EditionYear, FileAstId, MetaView, ItemView, ItemViews, items_from, source_file, tokens_of, Bodies, Row, AreIds, inner_attributes, with_ids, place_in, has_body, FileView, found_in, items_in, read_of, IsFile, with_body, IsTyped, TypingInside, tokens_sound, Rows, rows_of, RowsAlike, by_rows, ListAlike, FileUntil, of_none, alike, file_until, found_rows, item_without_bodies, items_without_bodies, without_bodies}
use Rattle.rust_ids.proofs.Consequences.{determined}
use Rattle.rust_items.proofs.BareItems.{from_list}
use Rattle.rust_items.proofs.BodilessIds.{with_bodiless}
use Rattle.rust_edits.proofs.Typing.Texts.{bodies, bodies_at, IsMoved, are_moved, tokens_beside, begin_plain}

-- ---- what was found

pub items_are : (edition : EditionYear) (x : List ℕ) → items_in edition x ≡ items_from (read_of edition x).0
unfolding items_in
items_are edition x = refl

-- ---- the syntax

-- items without bodies, with ids
abbrev bare : List ItemView → List FileAstId → ItemViews
bare is ids = (with_ids (items_from (map item_without_bodies is)) ids).0

bare_is : (is : List ItemView) (ids : List FileAstId) → items_without_bodies (with_ids (items_from is) ids).0 ≡ bare is ids
bare_is is ids = sym (ap (λ r. r.0) (with_bodiless (items_from is) ids)) ∙ ap (λ l. (with_ids l ids).0) (from_list is)

-- what is read without bodies
read_bare : (edition : EditionYear) (x : List ℕ) (place : ℕ → ℕ) (file : FileView) (f : IsFile edition x place file)
    → without_bodies file.syntax ≡ source_file (inner_attributes (tokens_of edition x)).0 (bare (read_of edition x).0 f.ids)
read_bare edition x place file f =
    ap without_bodies f.syntax ∙ ap (λ (l : ItemViews). source_file (inner_attributes (tokens_of edition x)).0 (items_without_bodies (with_ids l f.ids).0)) (items_are edition x)
    ∙ ap (source_file (inner_attributes (tokens_of edition x)).0) (bare_is (read_of edition x).0 f.ids)

-- ---- the two texts

-- the same is read of both but for body texts, and the same is found where it stands in each
pub record ReadAlike (edition : EditionYear) (q m m' s : List ℕ) : Type 0 where
  pub attrs : (inner_attributes (tokens_of edition (with_body q m' s))).0 ≡ (inner_attributes (tokens_of edition (with_body q m s))).0
  pub items : ListAlike (read_of edition (with_body q m s)).0 (read_of edition (with_body q m' s)).0
  pub found : RowsAlike (IsMoved q m m' s) (rows_of (found_in edition (with_body q m s))) (rows_of (found_in edition (with_body q m' s)))

module _ (edition : EditionYear) (q m m' s : List ℕ) (t : IsTyped edition q m m' s) where
  abbrev x : List ℕ
  x = with_body q m s

  abbrev x' : List ℕ
  x' = with_body q m' s

  -- what stands between the braces of both
  abbrev pub typed : Bodies
  typed = bodies edition q m m' s t.alone t.alone_new

  -- an item has these braces
  pub has_typed : has_body typed.opening.at (read_of edition x).1.0.spans ≡ false → ⊥
  has_typed k =
      let none : has_body (length q) (read_of edition x).1.0.spans ≡ false = subst (λ (n : ℕ). has_body n (read_of edition x).1.0.spans ≡ false) (bodies_at edition q m m' s t.alone t.alone_new) k in
      let same : has_body (length q) (found_in edition x).spans ≡ has_body (length q) (read_of edition x).1.0.spans = ap (λ (r : Rows). has_body (length q) r.1.0) (found_rows edition x) in
      let some = t.body in
      cc

  pub both_read : ReadAlike edition q m m' s
  both_read =
      by (file_until (length x) typed (begin_plain edition q m m' s t.alone t.alone_new t.begins t.begins_new) (tokens_of edition x) (tokens_of edition x') (tokens_sound edition x)
      (tokens_beside edition q m m' s t.opens t.alone t.alone_new))
    where
      by : FileUntil typed (tokens_of edition x) (tokens_of edition x') → ReadAlike edition q m m' s
      by (of_none k) = absurd (has_typed k)
      by (alike a v r) = record {
        attrs = a;
        items = v;
        found = by_rows (found_rows edition x) (found_rows edition x') (are_moved edition q m m' s t.alone t.alone_new (λ same. RowsAlike same (rows_of (read_of edition x).1.0) (rows_of (read_of edition x').1.0)) r);
      }

pub same_ids : (edition : EditionYear) (x x' : List ℕ) (place place' : ℕ → ℕ) (file file' : FileView) (f : IsFile edition x place file) (g : IsFile edition x' place' file')
    → (found_in edition x').rows ≡ (found_in edition x).rows → g.ids ≡ f.ids
same_ids edition x x' place place' file file' f g e =
    determined (found_in edition x).rows g.ids f.ids (subst (λ (l : List Row). AreIds l g.ids) e g.are_ids) f.are_ids

-- ---- the law

read_alike : (edition : EditionYear) (q m m' s : List ℕ) (place place' : ℕ → ℕ) (file file' : FileView) → IsTyped edition q m m' s → IsFile edition (with_body q m s) place file → IsFile edition (with_body q m' s) place' file'
    → without_bodies file.syntax ≡ without_bodies file'.syntax
read_alike edition q m m' s place place' file file' t f g =
    let x = with_body q m s in
    let x' = with_body q m' s in
    let r = both_read edition q m m' s t in
    let ids = same_ids edition x x' place place' file file' f g r.found.rows in
    read_bare edition x place file f ∙ sym (ap (λ (l : List MetaView). source_file l (bare (read_of edition x).0 f.ids)) r.attrs)
    ∙ sym (ap (λ (l : List ItemView). source_file (inner_attributes (tokens_of edition x')).0 (with_ids (items_from l) f.ids).0) r.items)
    ∙ sym (ap (λ (l : List FileAstId). source_file (inner_attributes (tokens_of edition x')).0 (bare (read_of edition x').0 l)) ids)
    ∙ sym (read_bare edition x' place' file' g)

pub typing_inside : TypingInside
typing_inside edition q m m' s old new read again e e' t f g =
    read_alike edition q m m' s (place_in old) (place_in new) read again t (subst (λ (z : List ℕ). IsFile edition z (place_in old) read) e f) (subst (λ (z : List ℕ). IsFile edition z (place_in new) again) e' g)
