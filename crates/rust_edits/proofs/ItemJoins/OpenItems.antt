-- An item without its end goes on up to the word that begins the next one.
use Rattle.std.proofs.Common.{length, ◌≡◌, ◌==◌, ◌&&◌, ◌||◌, ℕ, Bool, true, false, Option, List, [], ◌∷◌, ◌++◌, refl, sym, ap, ◌∙◌, codes, bytes_eq, not, if◌then◌else◌}
use Rattle.rust_edits.proofs.Common.{is_nil, eat, use_tree, named_or, written_rename, use_declaration, crate_item, is_some, Tokens, symbol, word, bumped, is_empty, is_at_doc, by_first, rest, Piece, symbol_of, LeadsTo, through, when, bumped_leads, and_parts, or_parts, Head, FrontRead, leaf, LeafRead, begins_item, begins_within, begins_impl_or_const, stops, ends, taking, excerpt_behind, nest_behind, structure, constant, implementation, plain_leaf, rest_by}
use Rattle.hir_input.specs.declared.ast.PlainKind.TheVariants as plain_kind
use Rattle.rust_cursor.specs.declared.cursor.nest.Before.{Before}
use Rattle.rust_cursor.specs.declared.cursor.nest.Before.TheVariants as befores
use Rattle.rust_cursor.specs.declared.cursor.nest.Nest.{Nest}
use Rattle.rust_cursor.specs.Extents.{begins, begins_behind, is_item_word}
use Rattle.rust_cursor.specs.Nests.{count_behind, is_mark}
use Rattle.rust_cursor.specs.Words.{documents, word_by}
use Rattle.rust_cursor.proofs.ClosingBrace.{others_of}
use Rattle.rust_cursor.proofs.Passing.{braces_of}
use Rattle.rust_cursor.proofs.Scans.{taking_stop, taking_more}
use Rattle.rust_leaves.specs.declared.head.Head.TheVariants as heads
use Rattle.rust_edits.specs.ItemJoins.Open.{is_first, is_first_outside, is_border, is_inner, are_inner, nest_through, reaches_end, behind_name, before_rest}

not-false : {t : Bool} → not t ≡ true → t ≡ false
not-false {t = false} e = refl
not-false {t = true} e = absurd cc

-- ---- a token with which no item begins or ends

-- what is known of the next token
record IsInner (depth : ℕ) (ts : Tokens) : Type 0 where
  some : is_empty ts ≡ false
  doc : is_at_doc ts ≡ false
  border : is_border (symbol ts) ≡ false
  first : is_first (word ts) ≡ false
  outside : (depth == 0 && is_first_outside (word ts)) ≡ false

inner_of : (depth : ℕ) (ts : Tokens) (t : Piece) (left : List Piece) → ts.left ≡ t ∷ left → is_inner depth t ≡ true → IsInner depth ts
unfolding is_empty is_at_doc symbol word
inner_of depth ts t left e i =
    let one = and_parts (not (documents t.kind)) _ i in
    let two = and_parts (not (is_border (symbol_of t))) _ one.1 in
    let three = and_parts (not (is_first (word_by t.kind t.text))) _ two.1 in
    record {
      some = ap (by_first true (λ _. false)) e;
      doc = ap (by_first false (λ t. documents t.kind)) e ∙ not-false one.0;
      border = ap (λ l. is_border (by_first 0 symbol_of l)) e ∙ not-false two.0;
      first = ap (λ l. is_first (by_first [] (λ t. word_by t.kind t.text) l)) e ∙ not-false three.0;
      outside = ap (λ l. depth == 0 && is_first_outside (by_first [] (λ t. word_by t.kind t.text) l)) e ∙ not-false three.1;
    }

module _ (depth : ℕ) (ts : Tokens) (i : IsInner depth ts) where
  none_item : begins_item ts ≡ false
  unfolding begins_item
  none_item =
      let a = or_parts (is_item_word (word ts)) _ i.first in
      let b = or_parts (bytes_eq (word ts) (codes "use")) _ a.1 in
      let c = or_parts (bytes_eq (word ts) (codes "static")) _ b.1 in
      let d = or_parts (bytes_eq (word ts) (codes "fn")) _ c.1 in
      let e = or_parts (bytes_eq (word ts) (codes "type")) _ d.1 in
      let f = or_parts (bytes_eq (word ts) (codes "macro")) _ e.1 in
      let g = or_parts (bytes_eq (word ts) (codes "union")) _ f.1 in
      let h = or_parts (bytes_eq (word ts) (codes "macro_rules")) _ g.1 in
      rw (a.0, b.0, c.0, d.0, e.0, f.0, g.0, h.0, h.1) refl

  not_used : bytes_eq (word ts) (codes "use") ≡ false
  not_used = (or_parts (bytes_eq (word ts) (codes "use")) _ (or_parts (is_item_word (word ts)) _ i.first).1).0

  none_within : begins_within ts ≡ false
  unfolding begins_within
  none_within = when (bytes_eq (word ts) (codes "pub")) (λ e. rw e refl) (λ e. rw (e, not_used) none_item)

  no_hash : (symbol ts == 35) ≡ false
  no_hash = (or_parts (symbol ts == 35) _ i.border).0

  no_end : (symbol ts == 59) ≡ false
  no_end = (or_parts (symbol ts == 59) _ (or_parts (symbol ts == 35) _ i.border).1).0

  no_open : (symbol ts == 123) ≡ false
  no_open = (or_parts (symbol ts == 123) _ (or_parts (symbol ts == 59) _ (or_parts (symbol ts == 35) _ i.border).1).1).0

  no_close : (symbol ts == 125) ≡ false
  no_close = (or_parts (symbol ts == 123) _ (or_parts (symbol ts == 59) _ (or_parts (symbol ts == 35) _ i.border).1).1).1

  module _ (flat : (depth == 0) ≡ true) where
    outer : is_first_outside (word ts) ≡ false
    outer = rw flat at i.outside

    not_impl : bytes_eq (word ts) (codes "impl") ≡ false
    not_impl = (or_parts (bytes_eq (word ts) (codes "impl")) _ outer).0

    not_unsafe : bytes_eq (word ts) (codes "unsafe") ≡ false
    not_unsafe = (or_parts (bytes_eq (word ts) (codes "unsafe")) _ (or_parts (bytes_eq (word ts) (codes "impl")) _ outer).1).0

    not_const : bytes_eq (word ts) (codes "const") ≡ false
    not_const = (or_parts (bytes_eq (word ts) (codes "unsafe")) _ (or_parts (bytes_eq (word ts) (codes "impl")) _ outer).1).1

    none_impl : begins_impl_or_const ts ≡ false
    unfolding begins_impl_or_const
    none_impl = rw (not_impl, not_unsafe, not_const) refl

    none_behind : (before : Before) → begins_behind before ts ≡ false
    none_behind befores.End = rw no_hash none_impl
    none_behind befores.Block = rw no_hash none_impl
    none_behind befores.Angle = none_impl
    none_behind _ = refl

  none_begins : (nest : Nest) → nest.others ≡ depth → begins nest ts ≡ false
  none_begins nest e =
      when (nest.others == 0)
      (λ z. let flat : (depth == 0) ≡ true = ap (λ n. n == 0) (sym e) ∙ z in
      rw (z, none_item, none_behind flat nest.before, i.doc, not_const flat) refl)
      (λ z. rw (z, none_within) (no (nest.free == 0)))
    where
      no : (t : Bool) → (t && false) ≡ false
      no true = refl
      no false = refl

-- ---- what is taken

symbol_is : (ts : Tokens) (t : Piece) (left : List Piece) → ts.left ≡ t ∷ left → symbol ts ≡ symbol_of t
unfolding symbol
symbol_is ts t left e = ap (by_first 0 symbol_of) e

rest_is : (ts : Tokens) (t : Piece) (left : List Piece) → ts.left ≡ t ∷ left → (bumped ts).left ≡ left
unfolding bumped
rest_is ts t left e = ap rest e

-- where an item ends that was not ended
abbrev pub rest_stops : Nest → Tokens → Bool
rest_stops nest ts = if is_empty ts then true else (if nest.braces == 0 then symbol ts == 125 || begins nest ts else false)

goes_past : (depth : ℕ) (nest : Nest) (ts : Tokens) → IsInner depth ts → nest.braces ≡ 0 → nest.others ≡ depth → rest_stops nest ts ≡ false
goes_past depth nest ts i b o = rw (i.some, b, no_close depth ts i, none_begins depth ts i nest o) refl

-- an item, or a value, up to there: at no other symbol it ends
module _ (Y : List Piece) (e : _) (stops_is : (nest : Nest) (ts : Tokens) → stops e nest ts ≡ rest_stops nest ts)
    (not_ended : (is_call : Bool) (nest : Nest) (ts : Tokens) → (symbol ts == 59) ≡ false → (symbol ts == 125) ≡ false → ends e is_call nest ts ≡ false)
    (top : Tokens) (last : Nest) (stop_there : (ts : Tokens) → LeadsTo top ts → ts.left ≡ Y → begins last ts ≡ true) where
  stopped : (ts : Tokens) (nest : Nest) → LeadsTo top ts → ts.left ≡ Y → nest ≡ last → nest.braces ≡ 0 → rest_stops nest ts ≡ true
  stopped ts nest to left is z =
      let there : begins nest ts ≡ true = ap (λ n. begins n ts) is ∙ stop_there ts to left in
      when (is_empty ts) (λ f. rw f refl) (λ f. rw (f, z, there) (either (symbol ts == 125)))
    where
      either : (t : Bool) → (t || true) ≡ true
      either true = refl
      either false = refl

  pub taking_open : (xs : List Piece) (depth : ℕ) (done : List ℕ) (byte : ℕ) (o : Option Tokens) (nest : Nest) (ts : Tokens) → LeadsTo top ts → ts.left ≡ xs ++ Y → are_inner depth xs ≡ true → nest.braces ≡ 0 → nest.others ≡ depth
      → nest_through (length xs) nest ts ≡ last → (taking e done byte o nest ts).1.left ≡ Y
  taking_open [] depth done byte o nest ts to left inner b c is = ap (λ r. r.1.left) (taking_stop e done byte o nest ts (stops_is nest ts ∙ stopped ts nest to left is b)) ∙ left
  taking_open (t ∷ xs) depth done byte o nest ts to left inner b c is =
      let both = and_parts (is_inner depth t) (are_inner (count_behind depth (symbol_of t)) xs) inner in
      let i = inner_of depth ts t (xs ++ Y) left both.0 in
      let same : symbol ts ≡ symbol_of t = symbol_is ts t (xs ++ Y) left in
      let go = stops_is nest ts ∙ goes_past depth nest ts i b c in
      let on = not_ended (is_mark nest.before) (nest_behind nest ts) ts (no_end depth ts i) (no_close depth ts i) in
      let braces : (nest_behind nest ts).braces ≡ 0 = braces_of nest ts ∙ rw (b, no_open depth ts i, no_close depth ts i) refl in
      let others : (nest_behind nest ts).others ≡ count_behind depth (symbol_of t) = others_of nest ts ∙ rw (b, c, no_close depth ts i, sym same) refl in
      ap (λ r. r.1.left) (taking_more e done byte o nest ts go on)
      ∙ taking_open xs (count_behind depth (symbol_of t)) _ _ _ (nest_behind nest ts) (bumped ts) (through to (bumped_leads ts)) (rest_is ts t (xs ++ Y) left) both.1 braces others is

-- ---- an item

-- it takes all up to there
pub record TakesUp (Y : List Piece) (r : Option LeafRead × Tokens) : Type 0 where
  pub some : is_some r.0 ≡ true
  pub left : r.1.left ≡ Y

-- what is known of how far it goes
abbrev pub TakesTo : List Piece → Before → Tokens → Type 0
TakesTo Y before ts =
    (e : _) → ((nest : Nest) (ts : Tokens) → stops e nest ts ≡ rest_stops nest ts)
    → ((is_call : Bool) (nest : Nest) (ts : Tokens) → (symbol ts == 59) ≡ false → (symbol ts == 125) ≡ false → ends e is_call nest ts ≡ false) → (excerpt_behind before e ts).1.left ≡ Y

flat_ends : (is_call : Bool) (nest : Nest) (ts : Tokens) (z : Bool) → (symbol ts == 59) ≡ false → (symbol ts == 125) ≡ false → (if nest.braces == 0 && nest.others == 0 then symbol ts == 59 || (symbol ts == 125 && z) else false) ≡ false
flat_ends is_call nest ts z e f = when (nest.braces == 0 && nest.others == 0) (λ g. rw (g, e, f) refl) (λ g. rw g refl)

flat_value : (nest : Nest) (ts : Tokens) → (symbol ts == 59) ≡ false → (if nest.braces == 0 && nest.others == 0 then symbol ts == 59 else false) ≡ false
flat_value nest ts e = when (nest.braces == 0 && nest.others == 0) (λ g. rw (g, e) refl) (λ g. rw g refl)

nil_none : (xs : List Piece) → is_nil xs ≡ true → xs ≡ []
nil_none [] e = refl
nil_none (t ∷ xs) e = absurd cc

-- no `;` is taken there
eat_none : (Y : List Piece) (ts : Tokens) → ts.left ≡ Y → (symbol ts == 59) ≡ false → (eat 59 ts).1.left ≡ Y
unfolding eat
eat_none Y ts e f = rw f e

-- what is known behind its name
pub record Reaches (Y xs : List Piece) (before : Before) (ts : Tokens) : Type 0 where
  pub inner : are_inner 0 xs ≡ true → TakesTo Y before ts
  pub left : ts.left ≡ xs ++ Y
  pub plain : xs ≡ [] → (symbol ts == 59 || symbol ts == 123) ≡ false

module _ (Y xs : List Piece) (before : Before) (ts : Tokens) (r : Reaches Y xs before ts) (none : is_nil xs ≡ true) where
  pub nil_left : ts.left ≡ Y
  nil_left = r.left ∙ ap (λ l. l ++ Y) (nil_none xs none)

  pub nil_plain : ((symbol ts == 59) ≡ false) × ((symbol ts == 123) ≡ false)
  nil_plain = or_parts (symbol ts == 59) (symbol ts == 123) (r.plain (nil_none xs none))

  nil_eat : (eat 59 ts).1.left ≡ Y
  nil_eat = eat_none Y ts nil_left nil_plain.0

pub leaf_open : (Y xs : List Piece) (h : FrontRead) (ts : Tokens) (w : Head) → (w ≡ heads.Module → ⊥) → h.head ≡ w → reaches_end w xs ≡ true → Reaches Y xs (before_rest w) (behind_name w ts) → TakesUp Y (leaf h ts)
unfolding leaf plain_leaf structure constant implementation use_declaration crate_item rest_by stops ends
leaf_open Y xs h ts heads.Use n e t r = rw e (record { some = refl; left = nil_eat Y xs befores.End (use_tree ts).1 r t })
leaf_open Y xs h ts heads.ExternCrate n e t r = rw e (record { some = refl; left = nil_eat Y xs befores.End (written_rename (named_or (codes "self") ts).1).1 r t })
leaf_open Y xs h ts heads.Module n e t r = absurd (n refl)
leaf_open Y xs h ts heads.Impl n e t r = rw e (record { some = refl; left = r.inner t _ (λ n ts. refl) (λ c n ts. flat_ends c n ts _) })
leaf_open Y xs h ts heads.Struct n e t r = rw e (record { some = refl; left = r.inner t _ (λ n ts. refl) (λ c n ts. flat_ends c n ts _) })
leaf_open Y xs h ts heads.Const n e t r = rw e (record { some = refl; left = r.inner t _ (λ n ts. refl) (λ c n ts a b. flat_value n ts a) })
leaf_open Y xs h ts (heads.Plain plain_kind.MacroDef) n e t r = absurd cc
leaf_open Y xs h ts (heads.Plain plain_kind.Static) n e t r = rw e (record { some = refl; left = r.inner t _ (λ n ts. refl) (λ c n ts a b. flat_value n ts a) })
leaf_open Y xs h ts (heads.Plain plain_kind.TypeAlias) n e t r = rw e (record { some = refl; left = r.inner t _ (λ n ts. refl) (λ c n ts a b. flat_value n ts a) })
leaf_open Y xs h ts (heads.Plain k) n e t r = rw e (record { some = refl; left = r.inner t _ (λ n ts. refl) (λ c n ts. flat_ends c n ts _) })
leaf_open Y xs h ts _ n e t r = absurd cc
