-- Items in front of a text whose brackets are mended, and behind one.
use Rattle.std.proofs.Common.{◌≡◌, ◌<◌, ◌+◌, ◌==◌, ◌++◌, ℕ, map, length-append, true, false, List, ◌∷◌, length, refl, sym, ap, ◌∙◌, subst, arith, not}
use Rattle.rust_edits.proofs.Common.{eqb-true, Found, Problem, found_in, moved_problem, EditionYear, with_feeds, EndsWhole, BeginsAnew, ReadsBoth, ItemsBefore, ItemsBehind, ReadsBothIn, most_tokens, when}
use Rattle.std.proofs.lemmas.List.{length-map}
use Rattle.rust_mended.specs.Texts.{mended_text}
use Rattle.rust_mended.proofs.Joins.{item_text, matched_text}
use Rattle.rust_mended.proofs.MatchedMarks.{text_stays}
use Rattle.rust_mended.proofs.AtStops.{blanks_text}
use Rattle.rust_edits.specs.ItemJoins.Open.{ReadsOn}
use Rattle.rust_edits.proofs.ItemJoins.OpenJoin.{open_items_end}
use Rattle.rust_edits.specs.ItemJoins.Mended.{ListsBefore, OpenBehind, is_told, text_for_lists}
use Rattle.rust_edits.proofs.ItemJoins.Joins.{items_join}
use Rattle.rust_edits.proofs.ItemJoins.PartPlaces.{own_splits}

-- ---- two texts

join_in : (edition : EditionYear) (x y : List ℕ) → EndsWhole true 128 edition (with_feeds x) → BeginsAnew edition (with_feeds y) → length (with_feeds (x ++ y)) < most_tokens → ReadsBothIn edition (x ++ y) x y
join_in edition x y h b short =
    let split = (own_splits x y h.ends).feeds in
    subst (λ (z : List ℕ). ReadsBoth edition z (with_feeds x) (with_feeds y)) (sym split) (items_join edition (with_feeds x) (with_feeds y) h b (subst (λ (z : List ℕ). length z < most_tokens) split short))

-- ---- the laws

pub items_before : ItemsBefore
items_before edition q z s h matched =
    let y = z ++ 10 ∷ mended_text s in
    let still = text_stays q matched in
    subst (λ (t : List ℕ). ReadsBothIn edition t q y) (sym (matched_text q z s h.apart matched))
    (join_in edition q y (subst (λ (t : List ℕ). EndsWhole true 128 edition (with_feeds t)) still h.whole) h.anew (subst (λ (t : List ℕ). length (with_feeds (t ++ y)) < most_tokens) still h.short))

pub items_behind : ItemsBehind
items_behind edition q z s h utf8 item none =
    let y = z ++ 10 ∷ mended_text s in
    subst (λ (t : List ℕ). ReadsBothIn edition t (mended_text q) y) (sym (item_text q z s h.apart utf8 item none)) (join_in edition (mended_text q) y h.whole h.anew h.short)

pub open_behind : OpenBehind
open_behind edition q z s o utf8 item none =
    let y = with_feeds (z ++ 10 ∷ mended_text s) in
    subst (λ (t : List ℕ). ReadsOn edition t (length (with_feeds (mended_text q))) y) (sym (ap with_feeds (item_text q z s o.apart utf8 item none) ∙ o.feeds))
    (open_items_end edition (with_feeds (mended_text q)) y o.before (subst (λ (t : List ℕ). length t < most_tokens) o.feeds o.short))

-- ---- what lists tell

none_told : (n : ℕ) → not (n == 0) ≡ false → n ≡ 0
none_told n e = when (n == 0) (λ f. eqb-true n 0 f) (λ f. absurd (let no = rw f at e in cc))

pub lists_before : ListsBefore
lists_before edition q z s h = record { text = text; read = subst (λ (t : List ℕ). ReadsBothIn edition t q (text_for_lists edition y)) (sym text) read }
  where
    y : List ℕ
    y = z ++ 10 ∷ s

    whole : EndsWhole true 128 edition (with_feeds q)
    whole = subst (λ (t : List ℕ). EndsWhole true 128 edition (with_feeds t)) (text_stays q h.matched) h.front.whole

    plain : ReadsBothIn edition (q ++ y) q y
    plain = join_in edition q y whole h.anew h.short

    mended : mended_text y ≡ z ++ 10 ∷ mended_text s
    mended = blanks_text z s h.front.apart.blanks h.plain h.front.apart.bare h.front.apart.uncut

    own : List Problem
    own = (found_in edition (with_feeds q)).problems

    rest : List Problem
    rest = (found_in edition (with_feeds y)).problems

    same : is_told edition (q ++ y) ≡ is_told edition y
    same =
        let none : length own ≡ 0 = none_told (length own) h.sound in
        let further = map (moved_problem (λ n. n + length (with_feeds q))) rest in
        let sum : length (own ++ further) ≡ length own + length further = length-append own further in
        let many : length further ≡ length rest = length-map rest (moved_problem (λ n. n + length (with_feeds q))) in
        ap (λ (f : Found). not (length f.problems == 0)) plain.found ∙ ap (λ (n : ℕ). not (n == 0)) (omega arith)

    text : text_for_lists edition (q ++ y) ≡ q ++ text_for_lists edition y
    text =
        when (is_told edition y) (λ e. rw (same ∙ e, e) (matched_text q z s h.front.apart h.matched ∙ ap (λ t. q ++ t) (sym mended)))
        (λ e. rw (same ∙ e, e) refl)

    read : ReadsBothIn edition (q ++ text_for_lists edition y) q (text_for_lists edition y)
    read =
        when (is_told edition y)
        (λ e. rw (e, mended)
        (subst (λ (t : List ℕ). ReadsBothIn edition t q (z ++ 10 ∷ mended_text s)) (matched_text q z s h.front.apart h.matched) (items_before edition q z s h.front h.matched)))
        (λ e. rw e plain)
