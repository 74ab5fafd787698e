-- What is taken where its text is not kept: how far does not depend on the text, and braces are passed over, also by a short path.
use Rattle.std.proofs.Common.{◌≡◌, ℕ, Bool, true, false, Option, None, List, [], ◌∷◌, refl, sym, ap, ◌∙◌, ◌≤◌, ◌==◌, ◌&&◌, not, Some, length, subst, arith, ◌||◌, if◌then◌else◌, slice_index, filter}
use Rattle.rust_cursor.proofs.Common.{Piece, Nest, Extent, Tokens, end_of, left_of, last_unended, place_if_open, symbol, bumped, by_first, is_empty, is_mark, is_whole, nest_behind, inside_behind, nest_inside, is_flat, ExcerptRead, excerpt, stops, ends, opened_behind, block_at, more, kept_text, clipped_excerpt, taking, taking_from, LeadsOn, taking_on, ends_flat, EditionYear, symbol_of, symbol_from, is_significant, is_significant_kind, eqb-true, TokenKind}
use Rattle.rust_cursor.proofs.TokenRests.{when}
use Rattle.rust_cursor.proofs.Scans.{taking_stop, taking_turn, taking_last, taking_end, taking_more}
use Rattle.hir_input.specs.declared.edition.EditionYear.TheVariants as year
use Rattle.rust_cursor.specs.declared.cursor.texts.Extent.TheVariants as extents
use Rattle.rust_cursor.proofs.BraceWalks.{tokens_at, inside_is, some_at}
use Rattle.rust_cursor.proofs.BraceSteps.{IsInside, inside, left_by, none_of}
use Rattle.rust_cursor.proofs.Nesting.{IsFewer, fewer, shorter}
use Rattle.rust_lexer.specs.declared.depth.Depth.{Depth}
use Rattle.rust_lexer.specs.declared.kind.TokenKind.TheVariants as kinds
use Rattle.rust_lexer.specs.Depths.{depth_behind, to_outer}

text_from : (e : Extent) (done done' : List ℕ) (last last' : ℕ) (opened : Option Tokens) (nest : Nest) (ts : Tokens) (left : List Piece)
    → clipped_excerpt false (taking_from e done last opened nest ts left) ≡ clipped_excerpt false (taking_from e done' last' opened nest ts left)
text_from e done done' last last' opened nest ts [] = refl
text_from e done done' last last' opened nest ts (t ∷ left) =
    when (stops e nest ts) (λ s. rw s refl)
    (λ s. when (ends e (is_mark nest.before) (nest_behind nest ts) ts) (λ f. rw (s, f) refl)
    (λ f. rw (s, f) (text_from e (more e last done ts) (more e last' done' ts) (symbol ts) (symbol ts) (opened_behind opened nest ts) (nest_behind nest ts) (bumped ts) left)))

-- how far is taken does not depend on the text before it
pub text_clipped : (e : Extent) (done done' : List ℕ) (last last' : ℕ) (opened : Option Tokens) (nest : Nest) (ts : Tokens) → clipped_excerpt false (taking e done last opened nest ts) ≡ clipped_excerpt false (taking e done' last' opened nest ts)
unfolding taking
text_clipped e done done' last last' opened nest ts = text_from e done done' last last' opened nest ts ts.left

-- a turn
pub clipped_turn : (k : Bool) (e : Extent) (done done' : List ℕ) (last last' : ℕ) (opened opened' : Option Tokens) (nest behind : Nest) (is_call : Bool) (ts ts' : Tokens) (all : ExcerptRead × Tokens) → stops e nest ts ≡ false
    → is_call ≡ is_mark nest.before → behind ≡ nest_behind nest ts → ends e is_call behind ts ≡ false → done' ≡ (if k then more e last done ts else done) → last' ≡ symbol ts → opened' ≡ opened_behind opened nest ts → ts' ≡ bumped ts
    → clipped_excerpt k (taking e done last opened nest ts) ≡ clipped_excerpt k all → clipped_excerpt k (taking e done' last' opened' behind ts') ≡ clipped_excerpt k all
clipped_turn true e done done' last last' opened opened' nest behind is_call ts ts' all s i b f d l o n told =
    ap (clipped_excerpt true) (taking_turn e done done' last last' opened opened' nest behind is_call ts ts' (taking e done last opened nest ts) s i b f d l o n refl) ∙ told
clipped_turn false e done done' last last' opened opened' nest behind is_call ts ts' all s i b f d l o n told =
    text_clipped e done' (more e last done ts) last' last' opened' behind ts'
    ∙ ap (clipped_excerpt false) (taking_turn e done (more e last done ts) last last' opened opened' nest behind is_call ts ts' (taking e done last opened nest ts) s i b f refl l o n refl) ∙ told

-- the text behind a turn is kept, or empty
pub text_kept : (k : Bool) (next done done' : List ℕ) → done' ≡ (if k then next else done) → kept_text k done ≡ done → kept_text k done' ≡ done'
text_kept true next done done' d e = refl
text_kept false next done done' d e = e ∙ sym d

last_text : (k : Bool) (next done done' : List ℕ) → done' ≡ (if k then next else done) → kept_text k done ≡ done → kept_text k next ≡ done'
last_text true next done done' d e = sym d
last_text false next done done' d e = e ∙ sym d

-- the last turn
pub clipped_last : (k : Bool) (e : Extent) (done done' : List ℕ) (last : ℕ) (opened opened' block : Option Tokens) (nest behind : Nest) (is_call is_ended : Bool) (ts ts' : Tokens) (all : ExcerptRead × Tokens) → stops e nest ts ≡ false
    → is_call ≡ is_mark nest.before → behind ≡ nest_behind nest ts → ends e is_call behind ts ≡ true → done' ≡ (if k then more e last done ts else done) → kept_text k done ≡ done
    → opened' ≡ opened_behind opened nest ts → block ≡ block_at opened' ts → is_ended ≡ is_whole behind → ts' ≡ bumped ts
    → clipped_excerpt k (taking e done last opened nest ts) ≡ clipped_excerpt k all → clipped_excerpt k all ≡ (excerpt done' is_ended block, ts')
clipped_last k e done done' last opened opened' block nest behind is_call is_ended ts ts' all s i b f d t o w h n told =
    sym told
    ∙ ap (clipped_excerpt k) (taking_last e done (more e last done ts) last opened opened' block nest behind is_call is_ended ts ts' (taking e done last opened nest ts) s i b f refl o w h n refl)
    ∙ ap (λ z. (excerpt z is_ended block, ts')) (last_text k (more e last done ts) done done' d t)

-- nothing more is taken
pub clipped_stop : (k : Bool) (e : Extent) (done : List ℕ) (last : ℕ) (opened : Option Tokens) (nest : Nest) (ts : Tokens) (all : ExcerptRead × Tokens) → stops e nest ts ≡ true → kept_text k done ≡ done
    → clipped_excerpt k (taking e done last opened nest ts) ≡ clipped_excerpt k all → clipped_excerpt k all ≡ (excerpt done false None, ts)
clipped_stop k e done last opened nest ts all s t told =
    sym told ∙ ap (clipped_excerpt k) (taking_stop e done last opened nest ts s) ∙ ap (λ z. (excerpt z false None, ts)) t

-- a token in braces is passed over
turn_clipped : (nest behind : Nest) (ts us : Tokens) (e : Extent) (o : Option Tokens) → IsInside e nest behind ts → us ≡ bumped ts → clipped_excerpt false (taking e [] 0 o behind us) ≡ clipped_excerpt false (taking e [] 0 o nest ts)
turn_clipped nest behind ts us e o is n =
    text_clipped e [] (more e 0 [] ts) 0 (symbol ts) o behind us
    ∙ ap (clipped_excerpt false) (taking_turn e [] (more e 0 [] ts) 0 (symbol ts) o o nest behind (is_mark nest.before) ts us (taking e [] 0 o nest ts) is.goes refl is.after is.more refl refl (is.opened o) n refl)

turn_test : (y : EditionYear) (past : ℕ) (t : Piece) (left : List Piece) (u : Option ℕ) (nest : Nest) → (nest.braces == 0) ≡ false → (nest.braces == 1 && symbol_of t == 125) ≡ false
    → (not (nest.braces == 0) && (not (is_empty (tokens_at y past (t ∷ left) u)) && not (nest.braces == 1 && symbol (tokens_at y past (t ∷ left) u) == 125))) ≡ true
unfolding is_empty symbol
turn_test y past t left u nest s m = rw (s, m) refl

turn_inside : (e : Extent) (y : EditionYear) (past : ℕ) (t : Piece) (left : List Piece) (u : Option ℕ) (nest : Nest) → (nest.braces == 0) ≡ false → (nest.braces == 1 && symbol_of t == 125) ≡ false
    → IsInside e nest (inside_behind nest (symbol_of t)) (tokens_at y past (t ∷ left) u)
unfolding symbol
turn_inside e y past t left u nest s m =
    inside e nest (inside_behind nest (symbol_of t)) (tokens_at y past (t ∷ left) u) (turn_test y past t left u nest s m) refl

turn_same : (past : ℕ) (t : Piece) (left : List Piece) (nest : Nest) → (nest.braces == 0) ≡ false → (nest.braces == 1 && symbol_of t == 125) ≡ false
    → (e : Extent) (o : Option Tokens) (u : Option ℕ) (y : EditionYear) → taking_on (end_of t) left (inside_behind nest (symbol_of t)) e o u y ≡ taking_on past (t ∷ left) nest e o u y
unfolding bumped
turn_same past t left nest s m e o u y =
    turn_clipped nest (inside_behind nest (symbol_of t)) (tokens_at y past (t ∷ left) u) (tokens_at y (end_of t) left u) e o (turn_inside e y past t left u nest s m) refl

turn_fewer : (e : Extent) (y : EditionYear) (past : ℕ) (t : Piece) (left : List Piece) (u : Option ℕ) (nest : Nest) → (nest.braces == 0) ≡ false → (nest.braces == 1 && symbol_of t == 125) ≡ false
    → IsFewer nest (inside_behind nest (symbol_of t)) (tokens_at y past (t ∷ left) u) (tokens_at y (end_of t) left u)
unfolding bumped
turn_fewer e y past t left u nest s m =
    let is = turn_inside e y past t left u nest s m in
    fewer nest (inside_behind nest (symbol_of t)) (tokens_at y past (t ∷ left) u) (tokens_at y (end_of t) left u) is.some is.after refl

pub turn_leads : (past : ℕ) (t : Piece) (left : List Piece) (nest : Nest) → (nest.braces == 0) ≡ false → (nest.braces == 1 && symbol_of t == 125) ≡ false → LeadsOn past (t ∷ left) nest (end_of t) left (inside_behind nest (symbol_of t))
turn_leads past t left nest s m =
    let less = turn_fewer extents.Group year.E2024 past t left None nest s m in
    record { same = turn_same past t left nest s m; fewer = omega (arith, less.left); braces = less.braces; inner = less.inner; others = refl; angles = refl }

pub leads_through : (p q r : ℕ) (ls ms ns : List Piece) (n m k : Nest) → LeadsOn p ls n q ms m → LeadsOn q ms m r ns k → LeadsOn p ls n r ns k
leads_through p q r ls ms ns n m k a b = record {
  same = λ e o u y. b.same e o u y ∙ a.same e o u y;
  fewer = omega (arith, a.fewer, b.fewer);
  braces = omega (arith, a.braces, b.braces);
  inner = omega (arith, a.inner, b.inner);
  others = b.others ∙ a.others;
  angles = b.angles ∙ a.angles;
}

-- a brace is still open
pub open_still : (nest : Nest) (c : ℕ) → (nest.braces == 0) ≡ false → (nest.braces == 1 && c == 125) ≡ false → ((inside_behind nest c).braces == 0) ≡ false
open_still nest c s m = left_by (c == 123) (c == 125) nest.braces s m

pub counted : (t : Piece) (ts : List Piece) → is_significant t ≡ true → filter is_significant (t ∷ ts) ≡ t ∷ filter is_significant ts
counted t ts e = rw e refl

-- behind a token that counts
pub leads_behind : (p q q' c : ℕ) (ls ms ms' : List Piece) (n m m' : Nest) (t : Piece) → LeadsOn p ls n q (filter is_significant ms) m → ms ≡ t ∷ ms' → is_significant t ≡ true → c ≡ symbol_of t
    → (m.braces == 0) ≡ false → (m.braces == 1 && c == 125) ≡ false → m' ≡ inside_behind m c → q' ≡ end_of t → LeadsOn p ls n q' (filter is_significant ms') m'
leads_behind p q q' c ls ms ms' n m m' t h e k i s x j o =
    let left = filter is_significant ms' in
    let first : LeadsOn q (t ∷ left) m (end_of t) left (inside_behind m (symbol_of t)) = turn_leads q t left m s (ap (λ z. m.braces == 1 && z == 125) (sym i) ∙ x) in
    let nested : LeadsOn q (t ∷ left) m (end_of t) left m' = subst (λ z. LeadsOn q (t ∷ left) m (end_of t) left z) (ap (inside_behind m) (sym i) ∙ sym j) first in
    let placed : LeadsOn q (t ∷ left) m q' left m' = subst (λ z. LeadsOn q (t ∷ left) m z left m') (sym o) nested in
    leads_through p q q' ls (t ∷ left) left n m m' (subst (λ z. LeadsOn p ls n q z m) (ap (filter is_significant) e ∙ counted t ms' k) h) placed

-- where no text is kept, its text does not count
pub unkept : (k : Bool) (ts us : Tokens) (n m : Nest) → k ≡ false → LeadsOn ts.past ts.left n us.past us.left m → us.unended ≡ ts.unended → us.edition ≡ ts.edition
    → (e : Extent) (done : List ℕ) (last : ℕ) (o : Option Tokens) → clipped_excerpt k (taking e done last o m us) ≡ clipped_excerpt k (taking e done last o n ts)
unkept k ts us n m f h i j e done last o =
    rw f (text_clipped e done [] last 0 o m us ∙ h.same e o us.unended us.edition
    ∙ ap (λ u. taking_on ts.past ts.left n e o u us.edition) i ∙ ap (λ y. taking_on ts.past ts.left n e o ts.unended y) j
    ∙ text_clipped e [] done 0 last o n ts)

-- a token is left in braces
pub some_left : (ts : Tokens) (n : Nest) → (not (n.braces == 0) && (not (is_empty ts) && not (n.braces == 1 && symbol ts == 125))) ≡ true → 1 ≤ length ts.left
some_left ts n test =
    let less = shorter ts (none_of (n.braces == 0) (is_empty ts) (n.braces == 1 && symbol ts == 125) test).second in
    omega (arith, less)

symbol_first : (ts : Tokens) (t : Piece) (left : List Piece) → ts.left ≡ t ∷ left → symbol ts ≡ symbol_of t
unfolding symbol
symbol_first ts t left e = ap (by_first 0 symbol_of) e

-- behind the next token
pub leads_first : (ts : Tokens) (n m : Nest) (o : Option Piece) (t : Piece) (ls : List Piece) (p : ℕ) → left_of o ls ≡ ts.left → o ≡ Some t
    → (not (n.braces == 0) && (not (is_empty ts) && not (n.braces == 1 && symbol ts == 125))) ≡ true → m ≡ nest_inside n ts → p ≡ end_of t → LeadsOn ts.past ts.left n p (filter is_significant ls) m
leads_first ts n m o t ls p v i test j e =
    let none = none_of (n.braces == 0) (is_empty ts) (n.braces == 1 && symbol ts == 125) test in
    let behind = filter is_significant ls in
    let left : ts.left ≡ t ∷ behind = sym v ∙ ap (λ z. left_of z ls) i in
    let mark : symbol ts ≡ symbol_of t = symbol_first ts t behind left in
    let turn : LeadsOn ts.past (t ∷ behind) n (end_of t) behind (inside_behind n (symbol_of t)) = turn_leads ts.past t behind n none.first (ap (λ c. n.braces == 1 && c == 125) (sym mark) ∙ none.third) in
    let nested : LeadsOn ts.past (t ∷ behind) n (end_of t) behind m = subst (λ z. LeadsOn ts.past (t ∷ behind) n (end_of t) behind z) (ap (inside_behind n) (sym mark) ∙ sym j) turn in
    let placed : LeadsOn ts.past (t ∷ behind) n p behind m = subst (λ z. LeadsOn ts.past (t ∷ behind) n z behind m) (sym e) nested in
    subst (λ z. LeadsOn ts.past z n p behind m) (sym left) placed

-- the brackets that are counted in braces, and a nest with others of these
abbrev pub depth_of : Nest → Depth
depth_of n = record { braces = n.braces; inner = n.inner; is_torn = n.is_torn }

abbrev pub nest_at : Nest → Depth → Nest
nest_at n d = record { braces = d.braces; others = n.others; free = n.free; angles = n.angles; inner = d.inner; is_torn = d.is_torn; before = n.before }

-- ---- in braces nothing depends on the place behind the last token

goes_on : (e : Extent) (n : Nest) (y : EditionYear) (p : ℕ) (t : Piece) (left : List Piece) (u : Option ℕ) → (n.braces == 0) ≡ false → stops e n (tokens_at y p (t ∷ left) u) ≡ false
unfolding stops
goes_on e n y p t left u deep = rw (some_at y p t left u, deep) refl

behind_is : (n : Nest) (y : EditionYear) (p : ℕ) (t : Piece) (left : List Piece) (u : Option ℕ) → (n.braces == 0) ≡ false → nest_behind n (tokens_at y p (t ∷ left) u) ≡ inside_behind n (symbol_of t)
unfolding symbol
behind_is n y p t left u deep = inside_is n (tokens_at y p (t ∷ left) u) deep

still : (o : Option Tokens) (n : Nest) (ts : Tokens) → (n.braces == 0) ≡ false → opened_behind o n ts ≡ o
still o n ts deep = rw deep refl

flat_same : (e : Extent) (c : Bool) (a : ℕ) (y : EditionYear) (p q : ℕ) (t : Piece) (left : List Piece) (u : Option ℕ) → ends_flat e c a (tokens_at y p (t ∷ left) u) ≡ ends_flat e c a (tokens_at y q (t ∷ left) u)
unfolding symbol bumped
flat_same extents.Tree c a y p q t left u = refl
flat_same _ c a y p q t left u = refl

ends_same : (e : Extent) (c : Bool) (n : Nest) (y : EditionYear) (p q : ℕ) (t : Piece) (left : List Piece) (u : Option ℕ) → ends e c n (tokens_at y p (t ∷ left) u) ≡ ends e c n (tokens_at y q (t ∷ left) u)
unfolding ends
ends_same e c n y p q t left u = ap (λ x. if is_flat n then x else false) (flat_same e c n.angles y p q t left u)

block_same : (o : Option Tokens) (y : EditionYear) (p q : ℕ) (t : Piece) (left : List Piece) (u : Option ℕ) → block_at o (tokens_at y p (t ∷ left) u) ≡ block_at o (tokens_at y q (t ∷ left) u)
unfolding symbol
block_same o y p q t left u = refl

bumped_same : (y : EditionYear) (p q : ℕ) (t : Piece) (left : List Piece) (u : Option ℕ) → bumped (tokens_at y p (t ∷ left) u) ≡ bumped (tokens_at y q (t ∷ left) u)
unfolding bumped
bumped_same y p q t left u = refl

symbol_same : (y : EditionYear) (p q : ℕ) (t : Piece) (left : List Piece) (u : Option ℕ) → symbol (tokens_at y p (t ∷ left) u) ≡ symbol (tokens_at y q (t ∷ left) u)
unfolding symbol
symbol_same y p q t left u = refl

module _ (e : Extent) (o : Option Tokens) (n : Nest) (y : EditionYear) (t : Piece) (left : List Piece) (u : Option ℕ) (deep : (n.braces == 0) ≡ false) where
  last_here : (p : ℕ) → ends e (is_mark n.before) (inside_behind n (symbol_of t)) (tokens_at y p (t ∷ left) u) ≡ true
      → taking_on p (t ∷ left) n e o u y ≡ (excerpt [] (is_whole (inside_behind n (symbol_of t))) (block_at o (tokens_at y p (t ∷ left) u)), bumped (tokens_at y p (t ∷ left) u))
  last_here p f =
      let ts = tokens_at y p (t ∷ left) u in
      let b = behind_is n y p t left u deep in
      ap (clipped_excerpt false) (taking_end e [] 0 o n ts (goes_on e n y p t left u deep) (ap (λ k. ends e (is_mark n.before) k ts) b ∙ f))
      ∙ ap (λ k. (excerpt [] (is_whole k) (block_at (opened_behind o n ts) ts), bumped ts)) b
      ∙ ap (λ k. (excerpt [] (is_whole (inside_behind n (symbol_of t))) (block_at k ts), bumped ts)) (still o n ts deep)

  more_here : (p : ℕ) → ends e (is_mark n.before) (inside_behind n (symbol_of t)) (tokens_at y p (t ∷ left) u) ≡ false
      → taking_on p (t ∷ left) n e o u y ≡ clipped_excerpt false (taking e [] 0 o (inside_behind n (symbol_of t)) (bumped (tokens_at y p (t ∷ left) u)))
  more_here p f =
      let ts = tokens_at y p (t ∷ left) u in
      let b = behind_is n y p t left u deep in
      ap (clipped_excerpt false) (taking_more e [] 0 o n ts (goes_on e n y p t left u deep) (ap (λ k. ends e (is_mark n.before) k ts) b ∙ f))
      ∙ text_clipped e (more e 0 [] ts) [] (symbol ts) 0 (opened_behind o n ts) (nest_behind n ts) (bumped ts)
      ∙ ap (λ k. clipped_excerpt false (taking e [] 0 k (nest_behind n ts) (bumped ts))) (still o n ts deep)
      ∙ ap (λ k. clipped_excerpt false (taking e [] 0 o k (bumped ts))) b

  place_same : (p q : ℕ) → taking_on q (t ∷ left) n e o u y ≡ taking_on p (t ∷ left) n e o u y
  place_same p q =
      let k = inside_behind n (symbol_of t) in
      let same = ends_same e (is_mark n.before) k y q p t left u in
      when (ends e (is_mark n.before) k (tokens_at y p (t ∷ left) u))
      (λ f. last_here q (same ∙ f)
      ∙ ap (λ b. (excerpt [] (is_whole k) b, bumped (tokens_at y q (t ∷ left) u))) (block_same o y q p t left u)
      ∙ ap (λ b. (excerpt [] (is_whole k) (block_at o (tokens_at y p (t ∷ left) u)), b)) (bumped_same y q p t left u)
      ∙ sym (last_here p f))
      (λ f. more_here q (same ∙ f) ∙ ap (λ b. clipped_excerpt false (taking e [] 0 o k b)) (bumped_same y q p t left u) ∙ sym (more_here p f))

leads_here : (p q : ℕ) (t : Piece) (left : List Piece) (n : Nest) → (n.braces == 0) ≡ false → LeadsOn p (t ∷ left) n q (t ∷ left) n
leads_here p q t left n deep = record {
  same = λ e o u y. place_same e o n y t left u deep p q;
  fewer = omega arith;
  braces = omega arith;
  inner = omega arith;
  others = refl;
  angles = refl;
}

-- nothing is passed
pub leads_same : (p : ℕ) (ls ms : List Piece) (n : Nest) → ms ≡ ls → LeadsOn p (filter is_significant ls) n p (filter is_significant ms) n
leads_same p ls ms n e = rw e (record { same = λ e o u y. refl; fewer = omega arith; braces = omega arith; inner = omega arith; others = refl; angles = refl })

-- ---- turns

behind_turn : (n : Nest) (d : Depth) (c : ℕ) → (d.braces == 1 && c == 125) ≡ false → inside_behind (nest_at n d) c ≡ nest_at n (depth_behind d c)
behind_turn n d c e = rw e refl

some_braces : (d : Depth) (c : ℕ) → (d.braces == 0) ≡ false → (d.braces == 1 && c == 125) ≡ false → ((depth_behind d c).braces == 0) ≡ false
some_braces d c s m = left_by (c == 123) (c == 125) d.braces s m

silent_by : (k : TokenKind) (b : ℕ) → is_significant_kind k ≡ false → symbol_from k b ≡ 0
silent_by kinds.OpenDelim b e = absurd cc
silent_by kinds.CloseDelim b e = absurd cc
silent_by kinds.Punct b e = absurd cc
silent_by _ b e = refl

torn_still : (a b : Bool) → (a || (b && false)) ≡ a
torn_still true b = refl
torn_still false true = refl
torn_still false false = refl

silent_turn : (d : Depth) → depth_behind d 0 ≡ d
silent_turn d = ap (λ k. record { braces = d.braces; inner = d.inner; is_torn = k }) (torn_still d.is_torn (d.inner == 0))

-- a symbol that is that of a token that counts
closing_counts : (t : Piece) → (symbol_of t == 125) ≡ true → is_significant t ≡ true
closing_counts t e =
    let same : symbol_of t ≡ 125 = eqb-true (symbol_of t) 125 e in
    when (is_significant t) (λ s. s) (λ s. let none : symbol_of t ≡ 0 = silent_by t.kind (slice_index t.text 0) s in absurd (omega (arith, same, none)))

-- ---- up to the `}`

first_of : (a b : Bool) → (a && b) ≡ true → a ≡ true
first_of true b e = refl
first_of false b e = absurd cc

second_of : (a b : Bool) → (a && b) ≡ true → b ≡ true
second_of true b e = e
second_of false b e = absurd cc

found_here : (d d' : Depth) (ts us : List Piece) → (let found : Option (Depth × List Piece) = Some (d, ts) in found ≡ Some (d', us)) → (d ≡ d') × (ts ≡ us)
found_here d d' ts us e =
    let here : Depth × List Piece = (d, ts) in
    let there : Depth × List Piece = (d', us) in
    let same : here ≡ there = cc in (ap (λ (p : Depth × List Piece). p.0) same, ap (λ (p : Depth × List Piece). p.1) same)

pub outer_leads : (n : Nest) (ts us : List Piece) (d d' : Depth) (p q : ℕ) → (d.braces == 0) ≡ false → to_outer d ts ≡ Some (d', us) → LeadsOn p (filter is_significant ts) (nest_at n d) q (filter is_significant us) (nest_at n d')
outer_leads n [] us d d' p q s e = absurd cc
outer_leads n (t ∷ ts) us d d' p q s e =
    let c = symbol_of t in
    let left = filter is_significant ts in
    when (d.braces == 1 && c == 125)
    (λ m. let is = found_here d d' (t ∷ ts) us (rw m at e) in
    let counts = closing_counts t (second_of (d.braces == 1) (c == 125) m) in
    rw (← is.0, ← is.1, counts) (leads_here p q t left (nest_at n d) s))
    (λ m. let f = rw m at e in
    when (is_significant t)
    (λ k. let more = outer_leads n ts us (depth_behind d c) d' (end_of t) q (some_braces d c s m) f in
    let turn = turn_leads p t left (nest_at n d) s m in
    rw k (leads_through p (end_of t) q (t ∷ left) left (filter is_significant us) (nest_at n d) (nest_at n (depth_behind d c)) (nest_at n d')
    (subst (λ z. LeadsOn p (t ∷ left) (nest_at n d) (end_of t) left z) (behind_turn n d c m) turn) more))
    (λ k. let none : c ≡ 0 = silent_by t.kind _ k in
    let same : depth_behind d c ≡ d = ap (depth_behind d) none ∙ silent_turn d in
    rw k (outer_leads n ts us d d' p q s (ap (λ z. to_outer z ts) (sym same) ∙ f))))

pub outer_deep : (ts us : List Piece) (d d' : Depth) → to_outer d ts ≡ Some (d', us) → (d'.braces == 0) ≡ false
outer_deep [] us d d' e = absurd cc
outer_deep (t ∷ ts) us d d' e =
    when (d.braces == 1 && symbol_of t == 125)
    (λ m. let is = found_here d d' (t ∷ ts) us (rw m at e) in
    let one : d.braces ≡ 1 = eqb-true d.braces 1 (first_of (d.braces == 1) (symbol_of t == 125) m) in
    rw (← is.0, one) refl)
    (λ m. outer_deep ts us (depth_behind d (symbol_of t)) d' (rw m at e))

-- the last token of all is left
pub outer_last : (ts us : List Piece) (d d' : Depth) (l m : Option ℕ) → to_outer d ts ≡ Some (d', us) → last_unended l us ≡ last_unended m ts
outer_last [] us d d' l m e = absurd cc
outer_last (t ∷ ts) us d d' l m e =
    when (d.braces == 1 && symbol_of t == 125)
    (λ f. let is = found_here d d' (t ∷ ts) us (rw f at e) in rw (← is.1) refl)
    (λ f. outer_last ts us (depth_behind d (symbol_of t)) d' l (place_if_open t) (rw f at e))
