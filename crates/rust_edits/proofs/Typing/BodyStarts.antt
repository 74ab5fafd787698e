-- The braces that an item ends with begin at a token of the text.
use Rattle.std.proofs.Common.{◌≡◌, ◌≤◌, ℕ, zero, suc, ◌+◌, List, [], ◌∷◌, ◌++◌, length, arith, true, false, Option, Some, None, refl, ap, sym, subst, ◌∙◌}
use Rattle.rust_edits.proofs.Common.{filter, first_cut, Piece, is_significant, tokens_from, whole_length, overhang, EditionYear, Tokens, tokens_of, by_first, rest, at, is_empty, bumped, TextRange, inner_attributes, LeafRead, leaf, nothing_found, begins_at, has_body, found_in, read_of, tokens, with_body, eqb-true, LeadsTo, here, further, through, when, IsLaid, tokens_laid, inner_attributes_leads, IsBraced, braced, LeafAt, leaf_at, Span, Rows, found_rows, plain_is}
use Rattle.rust_edits.proofs.Adding.{IfLeaf, any_place, Keeping, items_keeps}
use Rattle.rust_edits.specs.Typing.Opened.{BodyOpens}
use Rattle.rust_cursor.proofs.TokenPlaces as laid

-- ---- a token begins at a place: then no token before it goes on behind that

-- one of these tokens begins there
pub data Begins (n : ℕ) : List Piece → Type 0 where
  first : {t : Piece} {ts : List Piece} → t.at ≡ n → Begins n (t ∷ ts)
  later : {t : Piece} {ts : List Piece} → Begins n ts → Begins n (t ∷ ts)

behind_one : (n : ℕ) (t : Piece) (ts us : List Piece) → (Begins n ts → Begins n us) → Begins n (t ∷ ts) → Begins n (t ∷ us)
behind_one n t ts us f (first e) = first e
behind_one n t ts us f (later b) = later (f b)

pub unfiltered : (n : ℕ) (ts : List Piece) → Begins n (filter is_significant ts) → Begins n ts
unfiltered n [] b = b
unfiltered n (t ∷ ts) b = when (is_significant t) (λ e. behind_one n t (filter is_significant ts) ts (unfiltered n ts) (rw e at b)) (λ e. later (unfiltered n ts (rw e at b)))

-- none begins before what is left of one
from_place : (n left at : ℕ) (z : List ℕ) → Begins n (tokens_from left at z) → at + left ≤ n
from_place n zero at (b ∷ z) (first e) = omega (arith, e)
from_place n zero at (b ∷ z) (later r) = let more = from_place n (whole_length (first_cut b z) z) (suc at) z r in omega arith
from_place n (suc left) at (b ∷ z) r = let more = from_place n left (suc at) z r in omega arith
from_place n _ at [] r = elim r [ ]

pub begins_whole : (n left at : ℕ) (x w : List ℕ) → n ≡ at + length x → Begins n (tokens_from left at (x ++ w)) → overhang left x w ≡ 0
begins_whole n left at [] w e b = let low = from_place n left at w b in omega arith
begins_whole n zero at (a ∷ x) w e (first f) = absurd (omega (arith, e, f))
begins_whole n zero at (a ∷ x) w e (later r) = begins_whole n (whole_length (first_cut a (x ++ w)) (x ++ w)) (suc at) x w (omega arith) r
begins_whole n (suc left) at (a ∷ x) w e r = begins_whole n left (suc at) x w (omega arith) r

-- ---- tokens that are left

begins_here : (past : ℕ) (left : List Piece) → by_first true (λ _. false) left ≡ false → Begins (by_first past (λ t. t.at) left) left
begins_here past [] e = absurd cc
begins_here past (t ∷ ts) e = first refl

begins_rest : (n : ℕ) (left : List Piece) → Begins n (rest left) → Begins n left
begins_rest n [] b = b
begins_rest n (t ∷ ts) b = later b

pub begins_leads : {ts us : Tokens} → LeadsTo ts us → is_empty us ≡ false → Begins (at us) ts.left
unfolding is_empty at bumped
begins_leads {ts} here e = begins_here ts.past ts.left e
begins_leads {ts} {us} (further p) e = begins_rest _ ts.left (begins_leads p e)

-- ---- what is found

module _ (all : Tokens) (end : ℕ) (whole_length : IsLaid end all) where
  abbrev Starts : Option TextRange → Type 0
  Starts None = Unit {0}
  Starts (Some r) = Begins r.start all.left

  abbrev AllStart : List Span → Type 0
  AllStart [] = Unit {0}
  AllStart (s ∷ ss) = Starts s.body × AllStart ss

  all_join : (xs ys : List Span) → AllStart xs → AllStart ys → AllStart (xs ++ ys)
  all_join [] ys h k = k
  all_join (x ∷ xs) ys h k = (h.0, all_join xs ys h.1 k)

  braced_starts : {ts us : Tokens} (o : Option TextRange) → LeadsTo all ts → IsBraced ts us o → Starts o
  braced_starts None p b = tt
  braced_starts (Some r) p (braced b before some close) = begins_leads (through p before) some

  leaf_starts : (o : Option LeafRead) (ts us : Tokens) → LeadsTo all ts → LeafAt ts us o → IfLeaf Starts (λ _. Unit {0}) o
  leaf_starts None ts us p l = tt
  leaf_starts (Some m) ts us p l = (braced_starts m.body p l.body, any_place m.too_deep)

  -- what is found begins so, if what was found does
  abbrev starting : Keeping end
  starting = record {
    keeps = λ f g. AllStart f.spans → AllStart g.spans;
    place = λ n. Unit {0};
    body = Starts;
    reached = LeadsTo all;
    same = λ f h. h;
    joined = λ f g h i j k. j (i k);
    told = λ f g k n s h. h;
    row = λ f g r s b h k. all_join g.spans (s ∷ []) (h k) (b, tt);
    uses = λ f g ns h. h;
    held = λ f g more i h k. all_join g.spans more.spans (h k) (i tt);
    none = tt;
    on = λ ts us q p. through p q;
    behind = λ each finds f ts p. through p (finds f ts (laid.behind end p whole_length).laid).leads;
    starts = λ ts p. tt;
    leaves = λ h ts p. leaf_starts (leaf h ts).0 ts (leaf h ts).1 p (leaf_at h ts);
  }

  -- ---- whose braces they are

  one_start : (n : ℕ) (o : Option TextRange) → begins_at n o ≡ true → Starts o → Begins n all.left
  one_start n None b h = absurd cc
  one_start n (Some r) b h = subst (λ (k : ℕ). Begins k all.left) (eqb-true r.start n b) h

  start_of : (n : ℕ) (ss : List Span) → AllStart ss → has_body n ss ≡ true → Begins n all.left
  start_of n [] h e = absurd cc
  start_of n (s ∷ ss) h e = when (begins_at n s.body) (λ b. one_start n s.body b h.0) (λ b. start_of n ss h.1 (rw b at e))

pub body_starts : (edition : EditionYear) (x : List ℕ) (n : ℕ) → has_body n (found_in edition x).spans ≡ true → Begins n (tokens_of edition x).left
body_starts edition x n e =
    let ts = tokens_of edition x in
    let same : has_body n (found_in edition x).spans ≡ has_body n (read_of edition x).1.0.spans = ap (λ (r : Rows). has_body n r.1.0) (found_rows edition x) in
    start_of ts (length x) (tokens_laid edition x) n (read_of edition x).1.0.spans
    (items_keeps (length x) (starting ts (length x) (tokens_laid edition x)) true 128 nothing_found (inner_attributes ts).1 (inner_attributes_leads ts) tt) (sym same ∙ e)

-- ---- the `{` of a body is a token

pub body_opens : BodyOpens
unfolding tokens_of
body_opens edition q m s body mark fence bare =
    let x = with_body q m s in
    let begins : Begins (length q) (tokens x) = unfiltered (length q) (tokens x) (body_starts edition x (length q) body) in
    let place : length q ≡ 0 + length q = omega arith in
    begins_whole (length q) 0 0 q (123 ∷ (m ++ 125 ∷ s)) place (subst (λ (l : List Piece). Begins (length q) l) (plain_is x mark bare fence) begins)
