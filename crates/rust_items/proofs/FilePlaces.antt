-- The places of a whole text, with the ids of its items.
use Rattle.std.proofs.Common.{true, ◌≡◌, ◌≢◌, ◌<◌, ◌≤◌, ◌+◌, ◌-◌, ℕ, zero, suc, Option, Some, List, [], ◌∷◌, map, length, refl, sym, ap, subst, ◌∙◌, arith, get_or, option_map, AllPairs}
use Rattle.rust_items.proofs.Common.{length-map, EditionYear, AstIdKind, FileAstId, ItemView, ItemViews, plain_item, listed_module, listed_extern_block, items_of, Tokens, tokens_of, past_within, tokens_laid, LeadsTo, here, inner_attributes_leads, Row, AreIds, nth_row, id_at, Numbers, ItemSpan, ProblemKind, ItemPlace, SourceBlock, IsBlockRead, IsBlockOf, Found, nothing_found, and_problem_at, held_with_ids, with_ids, Telling, id_of, name_of, IsWritten, items_held, IsPlace, ArePlaces, nothing, placed, with_feeds, returns_from, place_by, place_in, moved_span, FileView, places, behind_attributes, found_in, items_in, IsFileView}
use Rattle.rust_cursor.proofs.TokenPlaces.{behind}
use Rattle.rust_ids.proofs.Consequences.{distinct}
use Rattle.rust_items.proofs.Names.{IsToken, told_behind, told_written}
use Rattle.rust_items.proofs.LineEnds.{returns_count, place_rises_in, place_within, moved_place, places_moved}
use Rattle.rust_items.proofs.Places.{same_problem_at, items_found}
use Rattle.rust_items.proofs.FoundItems.{few, widened, retold, row_kind, place_kind, place_span, Adds, adds_problem_at, AreFound}
use Rattle.rust_items.proofs.TreesRead.{IsRead, read_around}
use Rattle.rust_items.proofs.UsesFound.{UsesIn, widened_uses, retold_uses}

-- ---- ids

abbrev pub id_kind : FileAstId → AstIdKind
id_kind id = id.kind

-- an id with this hash and number
abbrev pub renumbered : Numbers → Option FileAstId → Option FileAstId
renumbered n o = option_map (λ id. record { kind = id.kind; hash = n.hash; number = n.number }) o

held_id : (n : Numbers) (i : ItemView) (ids : List FileAstId) → id_of (held_with_ids n i ids).0 ≡ renumbered n (id_of i)
held_id n (plain_item k m) ids = refl
held_id n _ ids = refl

held_name : (n : Numbers) (i : ItemView) (ids : List FileAstId) → name_of (held_with_ids n i ids).0 ≡ name_of i
held_name n (plain_item k m) ids = refl
held_name n _ ids = refl

held_items : (n : Numbers) (i : ItemView) (ids : List FileAstId) → items_held (held_with_ids n i ids).0 ≡ (with_ids (items_held i) ids).0
held_items n (listed_module m semicolon is) ids = refl
held_items n (listed_extern_block m is) ids = refl
held_items n _ ids = refl

held_ids : (n : Numbers) (i : ItemView) (ids : List FileAstId) → (held_with_ids n i ids).1 ≡ (with_ids (items_held i) ids).1
held_ids n (listed_module m semicolon is) ids = refl
held_ids n (listed_extern_block m is) ids = refl
held_ids n _ ids = refl

numbered_place : {N : Telling} (from to : ℕ) (i : ItemView) (p : ItemPlace) (id : FileAstId) (ids : List FileAstId) → id.kind ≡ p.id.kind → IsPlace N from to i p
    → IsPlace N from to (held_with_ids (record { hash = id.hash; number = id.number }) i ids).0 (record { id = id; range = p.range; name = p.name; body = p.body })
numbered_place from to i p id ids same place =
    let n : Numbers = record { hash = id.hash; number = id.number } in
    record {
      id = held_id n i ids ∙ ap (renumbered n) place.id ∙ ap (λ k. Some (record { kind = k; hash = id.hash; number = id.number })) (sym same);
      begins = place.begins;
      some = place.some;
      ends = place.ends;
      name = place.name;
      body = place.body;
      named = λ other. rw (held_name n i ids) (place.named (λ e. other (same ∙ e)));
    }

head_kind : (k l : AstIdKind) (ks ls : List AstIdKind) → k ∷ ks ≡ l ∷ ls → k ≡ l
head_kind k l ks ls e = cc

tail_kinds : (k l : AstIdKind) (ks ls : List AstIdKind) → k ∷ ks ≡ l ∷ ls → ks ≡ ls
tail_kinds k l ks ls e = cc

-- items that take ids of the kinds of their places have the places with these ids
numbered : {N : Telling} {from to : ℕ} {is : ItemViews} {ps rest : List ItemPlace} → ArePlaces N from to is ps rest → (ids : List FileAstId) → map id_kind ids ≡ map place_kind ps
    → ArePlaces N from to (with_ids is ids).0 (places ids (map place_span ps)) (places (with_ids is ids).1 (map place_span rest)) × (map id_kind (with_ids is ids).1 ≡ map place_kind rest)
numbered nothing ids e = (nothing, e)
numbered (placed place inside behind) [] e = absurd cc
numbered {from} {to} (placed {i = i} {is = is} {p = p} {ps = ps} {mid = mid} place inside behind) (id ∷ ids) e =
    let n : Numbers = record { hash = id.hash; number = id.number } in
    let same = head_kind id.kind p.id.kind (map id_kind ids) (map place_kind ps) e in
    let first = numbered inside ids (tail_kinds id.kind p.id.kind (map id_kind ids) (map place_kind ps) e) in
    let later = numbered behind (with_ids (items_held i) ids).1 first.1 in (
      placed {mid = places (with_ids (items_held i) ids).1 (map place_span mid)} (numbered_place from to i p id ids same place) (rw (held_items n i ids) first.0) (rw (held_ids n i ids) later.0),
      rw (held_ids n i ids) later.1,
    )

kinds_same : (ids : List FileAstId) (rows : List Row) → length ids ≡ length rows → ((k : ℕ) → k < length rows → (id_at ids k).kind ≡ (nth_row rows k).kind) → map id_kind ids ≡ map row_kind rows
kinds_same [] [] e h = refl
kinds_same (id ∷ ids) (row ∷ rows) e h =
    let first : id.kind ≡ row.kind = h 0 (omega arith) in
    let rest : map id_kind ids ≡ map row_kind rows = kinds_same ids rows (omega arith) (λ k l. h (suc k) (omega arith)) in
    ap (λ k. k ∷ map id_kind ids) first ∙ ap (λ ks. row.kind ∷ ks) rest
kinds_same _ _ e h = absurd (omega arith)

none_left : (ids : List FileAstId) → places ids [] ≡ []
none_left [] = refl
none_left (id ∷ ids) = refl

-- ---- a text

-- what is found in a text
pub record IsText (edition : EditionYear) (text : List ℕ) (found : Found) (items : ItemViews) : Type 0 where
  pub ps : List ItemPlace
  pub adds : Adds nothing_found found ps
  pub are : ArePlaces (IsToken (tokens_of edition text)) 0 (length text) items ps []
  pub left : Tokens
  pub starts : List ℕ
  pub more : found.use_trees ≡ starts
  pub uses : UsesIn (IsRead (tokens_of edition text) left) 0 (length text) items ps starts

-- what is found from a token of the text on
pub whole_text : (edition : EditionYear) (text : List ℕ) (ts us : Tokens) (found : Found) (items : ItemViews) (kind : ProblemKind) (place : Option ℕ) → LeadsTo (tokens_of edition text) ts
    → AreFound ts us nothing_found found items → IsText edition text (and_problem_at kind place found) items
whole_text edition text ts us found items kind place p are =
    let first = behind (length text) p (tokens_laid edition text) in
    let last = behind (length text) are.leads first.laid in
    let within = past_within (length text) us last.laid in
    record {
      ps = are.places;
      adds = adds_problem_at kind place are.adds;
      are = widened 0 (length text) (omega arith) within (retold (told_behind p) are.are);
      left = us;
      starts = are.starts;
      more = same_problem_at kind place found ∙ are.more;
      uses = widened_uses 0 (length text) (omega arith) within (retold_uses (read_around p here) are.uses);
    }

pub text_found : (edition : EditionYear) (text : List ℕ) → IsText edition text (found_in edition text) (items_in edition text)
unfolding found_in items_in
text_found edition text =
    let p = inner_attributes_leads (tokens_of edition text) in
    let first = behind (length text) p (tokens_laid edition text) in
    whole_text edition text (behind_attributes edition text) _ _ _ _ _ p (items_found (length text) true 128 nothing_found (behind_attributes edition text) first.laid)

pub spans_moved : (place : ℕ → ℕ) (ps : List ItemPlace) → map (moved_span place) (map place_span ps) ≡ map place_span (map (moved_place place) ps)
spans_moved place [] = refl
spans_moved place (p ∷ ps) = ap (λ l. place_span (moved_place place p) ∷ l) (spans_moved place ps)

kinds_moved : (place : ℕ → ℕ) (ps : List ItemPlace) → map place_kind (map (moved_place place) ps) ≡ map place_kind ps
kinds_moved place [] = refl
kinds_moved place (p ∷ ps) = ap (λ l. p.id.kind ∷ l) (kinds_moved place ps)

-- ids have the kinds of the places
pub kinds : {edition : EditionYear} {text : List ℕ} {found : Found} {items : ItemViews} (t : IsText edition text found items) (ids : List FileAstId) → AreIds found.rows ids → map id_kind ids ≡ map place_kind t.ps
kinds {edition} {text} {found} {items} t ids are = kinds_same ids found.rows are.as_many (λ k l. (are.each k l).kind) ∙ t.adds.rows

-- the places with ids are those of the items with the same ids
pub placed_text : (edition : EditionYear) (text : List ℕ) (found : Found) (items : ItemViews) → IsText edition (with_feeds text) found items → (ids : List FileAstId) → AreIds found.rows ids
    → ArePlaces (IsWritten text) 0 (length text) (with_ids items ids).0 (places ids (map (moved_span (place_in text)) found.spans)) []
placed_text edition text found items t ids are =
    let feeds = with_feeds text in
    let place = place_in text in
    let moved = places_moved place (length feeds) (place_rises_in text) (IsToken (tokens_of edition feeds)) (IsWritten text) (told_written edition text) t.are 0 (length text) (omega arith) (place_within text) (omega arith) in
    let all = numbered moved ids (kinds t ids are ∙ sym (kinds_moved place t.ps)) in
    rw (t.adds.spans, spans_moved place t.ps) (rw (none_left (with_ids items ids).1) at all.0)

-- the places of a text are those of its items
pub view_placed : (edition : EditionYear) (text : List ℕ) (file : FileView) → IsFileView edition text file → ArePlaces (IsWritten text) 0 (length text) (items_of file.syntax) file.places []
view_placed edition text file is = rw (is.syntax, is.places) (placed_text edition text _ _ (text_found edition (with_feeds text)) is.ids is.are_ids)

-- what is read of a block with line feeds alone is read of the text
pub same_block : (edition : EditionYear) (text feeds : List ℕ) (len : ℕ) (returns : List ℕ) (read : SourceBlock) → feeds ≡ with_feeds text → len ≡ length (with_feeds text) → returns ≡ returns_from 0 text
    → IsBlockOf edition feeds (place_by len returns) read → IsBlockRead edition text read
unfolding place_in
same_block edition text feeds len returns read f l r is =
    subst (λ (p : List ℕ × (ℕ × List ℕ)). IsBlockOf edition p.0 (place_by p.1.0 p.1.1) read)
    (let e : (feeds, (len, returns)) ≡ (with_feeds text, (length (with_feeds text), returns_from 0 text)) = cc in e) is

-- ---- ids differ

places_length : (ids : List FileAstId) (spans : List ItemSpan) → length ids ≡ length spans → length (places ids spans) ≡ length ids
places_length [] spans e = refl
places_length (id ∷ ids) [] e = absurd (omega arith)
places_length (id ∷ ids) (s ∷ spans) e = ap suc (places_length ids spans (omega arith))

places_at : (ids : List FileAstId) (spans : List ItemSpan) (k : ℕ) (d : ItemPlace) → length ids ≡ length spans → k < length ids → (get_or (places ids spans) k d).id ≡ id_at ids k
places_at [] spans k d e l = absurd (omega arith)
places_at (id ∷ ids) [] k d e l = absurd (omega arith)
places_at (id ∷ ids) (s ∷ spans) zero d e l = refl
places_at (id ∷ ids) (s ∷ spans) (suc k) d e l = places_at ids spans k d (omega arith) (omega arith)

-- no two places of a text that is not too long have one id
pub view_distinct : (edition : EditionYear) (text : List ℕ) (file : FileView) → IsFileView edition text file → length text ≤ 4294967296 → AllPairs (λ p q. p.id ≢ q.id) file.places
view_distinct edition text file is short i j d before within same =
    let feeds = with_feeds text in
    let t = text_found edition feeds in
    let rows = (found_in edition feeds).rows in
    let spans = map (moved_span (place_in text)) (found_in edition feeds).spans in
    let fewer : length feeds ≤ length text = omega (arith, returns_count 0 text) in
    let as_many : length is.ids ≡ length rows = is.are_ids.as_many in
    let row_count : length rows ≡ length t.ps = sym (length-map rows row_kind) ∙ ap length t.adds.rows ∙ length-map t.ps place_kind in
    let span_count : length spans ≡ length t.ps = length-map (found_in edition feeds).spans (moved_span (place_in text)) ∙ ap length t.adds.spans ∙ length-map t.ps place_span in
    let bounded : length t.ps ≤ 0 + (length feeds - 0) = few t.are in
    let pairs : length is.ids ≡ length spans = omega arith in
    let place_count : length file.places ≡ length is.ids = ap length is.places ∙ places_length is.ids spans pairs in
    let low : i < length is.ids = omega arith in
    let high : j < length is.ids = omega arith in
    let first : (get_or file.places i d).id ≡ id_at is.ids i = ap (λ l. (get_or l i d).id) is.places ∙ places_at is.ids spans i d pairs low in
    let second : (get_or file.places j d).id ≡ id_at is.ids j = ap (λ l. (get_or l j d).id) is.places ∙ places_at is.ids spans j d pairs high in
    let one : i ≡ j = distinct rows is.ids is.are_ids (omega arith) i j low high (sym first ∙ same ∙ second) in
    absurd (omega arith)
