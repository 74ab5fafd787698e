-- Items that hold none, of tokens beside, are the same but for body texts, until one goes into the braces.
use Rattle.hir_input.specs.declared.ast.PlainKind.TheVariants as plain_kind
use Rattle.std.proofs.Common.{◌≡◌, ◌≤◌, ◌+◌, ◌&&◌, ℕ, suc, true, false, Option, Some, None, List, [], ◌∷◌, ◌++◌, map, refl, ap, sym, subst, ◌∙◌, arith, is_some}
use Rattle.rust_items.proofs.Common.{and_parts, PathNode, Visibility, MetaView, item_without_bodies, use_item, UseTreeView, Piece, Tokens, end_of, at, is_empty, bumped, eat, Bodies, Beside, ahead, behind, LeadsTo, through, Forwards, when, bumped_leads, eat_leads, HasBlock, no_block, block, taken_block, IsLaid, at_behind, taken_behind, before_at, behind_at, next_ahead, next_behind, BothBeside, Kept, eat_local, Gone, gone_on, by_kept, KeptBy, UntilBy, went, stayed, by_stayed, IsAlike, no_more, SamePlace, at_place, TextRange, path, use_tree, outer_attributes, inner_attributes, IsSound, sound_on, outer_attributes_until, inner_attributes_until, Head, FrontRead, front_behind, front, LeafRead, written_name, call_end, block_attributes, range_to, node, structure, implementation, use_read, use_declaration, is_called, begins_call, call_leaf, call_behind, some_read, invocation, item_call, leaf_by, leaf, front_words, named_local, call_end_local, NameAlike, RestAlike, LeafAlike, constant_local, fields_of, structure_local, implementation_local, macro_definition_local, PlainKind, plain_leaf, plain_leaf_local, plain_rest, own_attributes, rest_of, rest_local, by_taken, rest_by}
use Rattle.rust_lexer.specs.Alone.{moved_piece}
use Rattle.rust_cursor.proofs.TokenPlaces as laid
use Rattle.rust_cursor.proofs.BraceWalks.{tokens_at}
use Rattle.rust_cursor.proofs.Passing as passing
use Rattle.rust_cursor.proofs.Places as places
use Rattle.rust_paths.proofs.BodyUseTrees.{use_tree_until}
use Rattle.rust_cursor.proofs.EnclosedItems.{item_enclosed, impl_enclosed}
use Rattle.rust_metas.proofs.AttributeBrackets.{inner_within}
use Rattle.rust_leaves.specs.declared.head.Head.TheVariants as heads
use Rattle.rust_leaves.specs.Texts.{bare_name, last_text}
use Rattle.rust_leaves.proofs.BodyFronts.{begins_call_beside}
use Rattle.rust_leaves.proofs.Crates.{crate_item_local, is_called_same, called_next, SameLast, beyond_braces, same_text, last_same}
use Rattle.rust_items.proofs.BodyFields.{NewBehind, SameFields, header_gone, fields_same, struct_fields_same, item_gone}
use Rattle.rust_items.proofs.ItemRests.{LeafAt, leaf_at, named_leads, call_end_leads, call_end_braced, IsBraced, braced}
use Rattle.rust_cursor.specs.Grammar.{reads}
use Rattle.rust_cursor.proofs.Rules.{rule_leads, rule_local}
use Rattle.rust_cursor.specs.Looks.{sees}

-- ---- what stands in front

pub record FrontAlike (b : Bodies) (f g : FrontRead) : Type 0 where
  pub start : SamePlace b f.start g.start
  pub attrs : g.attrs ≡ f.attrs
  pub visibility : g.visibility ≡ f.visibility
  pub head : g.head ≡ f.head

front_rest : (start : ℕ) (attrs : List MetaView) → Forwards (front_behind start attrs)
unfolding front_behind
front_rest start attrs ts = rule_leads front_words ts

front_behind_local : (b : Bodies) (start start' : ℕ) (attrs attrs' : List MetaView) (ts us : Tokens) → SamePlace b start start' → attrs' ≡ attrs → Beside b ts us → KeptBy (FrontAlike b) b (front_behind start attrs ts) (front_behind start' attrs' us)
unfolding front_behind
front_behind_local b start start' attrs attrs' ts us i e h =
    let w = rule_local b front_words ts us h in
    record { value = record { start = i; attrs = e; visibility = ap (λ p. p.0) w.value; head = ap (λ p. p.1) w.value }; rest = w.rest }

pub front_until : (b : Bodies) (ts us : Tokens) → Beside b ts us → UntilBy (FrontAlike b) b (front ts) (front us)
unfolding front
front_until b ts us h =
    by_kept (outer_attributes_until b ts us h) (λ g. went (gone_on g (front_rest (at ts) (outer_attributes ts).0 _)))
    (λ k. stayed (front_behind_local b (at ts) (at us) (outer_attributes ts).0 (outer_attributes us).0 (outer_attributes ts).1 (outer_attributes us).1 (at_place b ts us h) k.value k.rest))

-- ---- braces

-- what stands between the braces begins with no inner attribute, in both texts; and that of the new text stands behind the `{` too
pub record BeginPlain (b : Bodies) : Type 0 where
  pub new_behind : NewBehind b
  pub old : (past : ℕ) (r : List Piece) (u : Option ℕ) → (inner_attributes (bumped (tokens_at b.edition past (b.opening ∷ (b.old ++ moved_piece b.by b.closing ∷ map (moved_piece b.by) r)) u))).0 ≡ []
  pub new : (past : ℕ) (r : List Piece) (u : Option ℕ) → (inner_attributes (bumped (tokens_at b.edition past (b.opening ∷ (b.new ++ moved_piece b.by_new b.closing ∷ map (moved_piece b.by_new) r)) u))).0 ≡ []

-- what has gone into the braces comes to no `{` at their place
pub braced_gone : (b : Bodies) (end : ℕ) {ts us : Tokens} (r : TextRange) → IsLaid end ts → Gone b ts → IsBraced ts us (Some r) → r.start ≡ b.opening.at → ⊥
braced_gone b end r l g (braced t before some close) e =
    let k = gone_on g before in
    let over = behind_at (suc b.opening.at) t.past t.left k.over in
    let place = at_behind end t (laid.behind end before l).laid in
    absurd (omega arith)

-- the `{` of some braces is that of ours, or stands elsewhere
data Opens (b : Bodies) (t u : Tokens) : Type 0 where
  ours : (inner_attributes (bumped t)).0 ≡ [] → (inner_attributes (bumped u)).0 ≡ [] → Opens b t u
  elsewhere : Beside b (bumped t) (bumped u) → (at t ≡ b.opening.at → ⊥) → Opens b t u

opens_at : (b : Bodies) → BeginPlain b → (end : ℕ) (t u : Tokens) → IsLaid end t → is_empty t ≡ false → Beside b t u → Opens b t u
unfolding at bumped is_empty
opens_at b plain end t u l some (ahead past [] r v v' i j) = ours (plain.old past r v) (plain.new past r v')
opens_at b plain end t u l some (ahead past (p ∷ x) r v v' i j) =
    let first = taken_behind end t l some in
    let low = before_at b.opening.at (end_of p) x i.1 in
    elsewhere (next_ahead b past p x r v v' i.1 j) (λ e. absurd (omega arith))
opens_at b plain end t u l some (behind past [] v v' i) = absurd cc
opens_at b plain end t u l some (behind past (p ∷ r) v v' i) =
    let low : end_of b.closing ≤ past = i.0.0 in
    let far = b.apart in
    let place = at_behind end t l in
    elsewhere (next_behind b (past + b.by) (past + b.by_new) p r v v' i.1) (λ e. absurd (omega arith))

-- the same, or what is left has gone into the braces and these do not stand at their place
data SameOr {A : Type 0} (b : Bodies) (v : Tokens) (o : Option Tokens) (z z' : A) : Type 0 where
  not_same : Gone b v → ((t : Tokens) → o ≡ Some t → at t ≡ b.opening.at → ⊥) → SameOr b v o z z'
  both_same : z' ≡ z → SameOr b v o z z'

block_attributes_until : (b : Bodies) → BeginPlain b → (end : ℕ) {ts v : Tokens} {o o' : Option Tokens} → IsLaid end ts → HasBlock ts v o → BothBeside b o o'
    → ((t : Tokens) → o ≡ Some t → LeadsTo (inner_attributes (bumped t)).1 v) → SameOr b v o (block_attributes o) (block_attributes o')
unfolding block_attributes
block_attributes_until b plain end l no_block passing.neither within = both_same refl
block_attributes_until b plain end {v = v} l (block t before some close) (passing.both _ u h) within =
    by (opens_at b plain end t u (laid.behind end before l).laid some h)
  where
    by : Opens b t u → SameOr b v (Some t) (inner_attributes (bumped t)).0 (inner_attributes (bumped u)).0
    by (ours e f) = both_same (f ∙ sym e)
    by (elsewhere n other) =
        by_kept (inner_attributes_until b (bumped t) (bumped u) n) (λ g. not_same (gone_on g (within t refl)) (λ s e. let same : t ≡ s = cc in subst (λ (k : Tokens). at k ≡ b.opening.at → ⊥) same other))
        (λ k. both_same k.value)

-- ---- items

-- a list that was read aside stays before the end of the item
abbrev IsWithin : Option Tokens → Tokens → Type 0
IsWithin o v = (t : Tokens) → o ≡ Some t → LeadsTo (inner_attributes (bumped t)).1 v

-- an item of both texts, or none of either; or the one went into the braces, and its own do not stand at their place
pub data LeafUntil (b : Bodies) (p q : Option LeafRead × Tokens) : Type 0 where
  leaf_lost : Gone b p.1 → ((l : LeafRead) (r : TextRange) → p.0 ≡ Some l → l.body ≡ Some r → r.start ≡ b.opening.at → ⊥) → LeafUntil b p q
  leaf_same : IsAlike (LeafAlike b) p.0 q.0 → Beside b p.1 q.1 → LeafUntil b p q

some_alike : {b : Bodies} {p q : LeafRead × Tokens} → KeptBy (LeafAlike b) b p q → LeafUntil b (Some p.0, p.1) (Some q.0, q.1)
some_alike k = leaf_same (places.both k.value) k.rest

some_is : {A : Type 0} (x y : A) → Some x ≡ Some y → x ≡ y
some_is x y e = cc

no_start : (b : Bodies) (o : Option Tokens) (end : ℕ) → ((t : Tokens) → o ≡ Some t → at t ≡ b.opening.at → ⊥) → (r : TextRange) → range_to end o ≡ Some r → r.start ≡ b.opening.at → ⊥
no_start b None end f r e g = absurd cc
no_start b (Some t) end f r e g = f t refl (ap (λ (x : TextRange). x.start) (some_is (record { start = at t; end = end }) r e) ∙ g)

lost_block : {b : Bodies} {q : Option LeafRead × Tokens} (p : LeafRead × Tokens) (o : Option Tokens) (end : ℕ) → p.0.body ≡ range_to end o → Gone b p.1
    → ((t : Tokens) → o ≡ Some t → at t ≡ b.opening.at → ⊥) → LeafUntil b (some_read p) q
lost_block {b} p o end is g f = leaf_lost g (λ l r e d s. no_start b o end f r (sym is ∙ ap (λ (x : LeafRead). x.body) (some_is p.0 l e) ∙ d) s)

item_within : (end : ℕ) (ts : Tokens) → IsSound end ts → IsWithin (rest_of heads.Struct ts).0.block (rest_of heads.Struct ts).1
unfolding rest_by
item_within end ts s t e = inner_within end ts (rest_of heads.Struct ts).1 t s (item_enclosed ts t e)

impl_within : (end : ℕ) (ts : Tokens) → IsSound end ts → IsWithin (rest_of heads.Impl ts).0.block (rest_of heads.Impl ts).1
unfolding rest_by
impl_within end ts s t e = inner_within end ts (rest_of heads.Impl ts).1 t s (impl_enclosed ts t e)

rest_block : (h : Head) (ts : Tokens) → HasBlock ts (rest_of h ts).1 (rest_of h ts).0.block
unfolding rest_by
rest_block = by_taken (λ r. (ts : Tokens) → HasBlock ts (rest_by r ts).1 (rest_by r ts).0.block) (λ before e ts. taken_block before e ts)

rest_braces : (h : Head) (ts : Tokens) → (rest_of h ts).0.braces ≡ range_to (rest_of h ts).1.past (rest_of h ts).0.block
unfolding rest_by
rest_braces h ts = refl

module _ (b : Bodies) (plain : BeginPlain b) (end : ℕ) (attrs : List MetaView) (v : Option Visibility) (ts us : Tokens) (l : IsSound end ts) (h : Beside b ts us) where
  -- the inner attributes of an item with a name
  inner_until : SameOr b (rest_of heads.Struct (written_name ts).1).1 (rest_of heads.Struct (written_name ts).1).0.block (block_attributes (rest_of heads.Struct (written_name ts).1).0.block) (block_attributes (rest_of heads.Struct (written_name us).1).0.block)
  inner_until = block_attributes_until b plain end sound.laid (rest_block heads.Struct (written_name ts).1) r.value.block (item_within end (written_name ts).1 sound)
    where
      sound : IsSound end (written_name ts).1
      sound = sound_on end (named_leads ts) l

      r : KeptBy (RestAlike b) b (rest_of heads.Struct (written_name ts).1) (rest_of heads.Struct (written_name us).1)
      r = rest_local b heads.Struct (written_name ts).1 (written_name us).1 (named_local b ts us h).rest

  own_until : (k : PlainKind) → SameOr b (plain_rest k ts).1 (plain_rest k ts).0.block (own_attributes k (plain_rest k ts).0.block) (own_attributes k (plain_rest k us).0.block)
  own_until plain_kind.Fn = inner_until
  own_until plain_kind.Trait = inner_until
  own_until _ = both_same refl

  plain_until : (k : PlainKind) → LeafUntil b (some_read (plain_leaf k attrs v ts)) (some_read (plain_leaf k attrs v us))
  unfolding plain_leaf
  plain_until k = by (own_until k)
    where
      by : SameOr b (plain_rest k ts).1 (plain_rest k ts).0.block (own_attributes k (plain_rest k ts).0.block) (own_attributes k (plain_rest k us).0.block)
          → LeafUntil b (some_read (plain_leaf k attrs v ts)) (some_read (plain_leaf k attrs v us))
      by (not_same g f) = lost_block (plain_leaf k attrs v ts) (plain_rest k ts).0.block (plain_rest k ts).1.past (rest_braces (heads.Plain k) _) g f
      by (both_same e) = some_alike (plain_leaf_local b k attrs v ts us h e)

  implementation_until : LeafUntil b (some_read (implementation attrs ts)) (some_read (implementation attrs us))
  unfolding implementation
  implementation_until = by (block_attributes_until b plain end l.laid (rest_block heads.Impl ts) (rest_local b heads.Impl ts us h).value.block (impl_within end ts l))
    where
      by : SameOr b (rest_of heads.Impl ts).1 (rest_of heads.Impl ts).0.block (block_attributes (rest_of heads.Impl ts).0.block) (block_attributes (rest_of heads.Impl us).0.block)
          → LeafUntil b (some_read (implementation attrs ts)) (some_read (implementation attrs us))
      by (not_same g f) = lost_block (implementation attrs ts) (rest_of heads.Impl ts).0.block (rest_of heads.Impl ts).1.past (rest_braces heads.Impl ts) g f
      by (both_same e) = some_alike (implementation_local b attrs ts us h e)

  structure_until : LeafUntil b (some_read (structure attrs v ts)) (some_read (structure attrs v us))
  unfolding structure
  structure_until = by (struct_fields_same b plain.new_behind x (written_name us).1 (rest_of heads.Struct x).1 (rest_of heads.Struct (written_name us).1).1 (rest_of heads.Struct x).0.block (rest_of heads.Struct (written_name us).1).0.block n.rest r.rest r.value.block)
    where
      x : Tokens
      x = (written_name ts).1

      n : KeptBy (NameAlike b) b (written_name ts) (written_name us)
      n = named_local b ts us h

      r : KeptBy (RestAlike b) b (rest_of heads.Struct (written_name ts).1) (rest_of heads.Struct (written_name us).1)
      r = rest_local b heads.Struct (written_name ts).1 (written_name us).1 n.rest

      by : SameFields b (rest_of heads.Struct x).0.block (rest_of heads.Struct x).1 (fields_of x) (fields_of (written_name us).1) → LeafUntil b (some_read (structure attrs v ts)) (some_read (structure attrs v us))
      by (header_gone g) =
          let i = item_gone b end (laid.behind end (named_leads ts) l.laid).laid (rest_block heads.Struct x) g in
          lost_block (structure attrs v ts) (rest_of heads.Struct x).0.block (rest_of heads.Struct x).1.past (rest_braces heads.Struct x) i.gone i.free
      by (fields_same e) = some_alike (structure_local b attrs v ts us h e)

  use_until : LeafUntil b (some_read (use_declaration attrs v ts)) (some_read (use_declaration attrs v us))
  unfolding use_declaration
  use_until =
      by_stayed (use_tree_until b ts us h)
      (λ g. leaf_lost (gone_on g (eat_leads 59 _)) (λ l r e d s. absurd (let none : (use_read attrs v (use_tree ts).0 (eat 59 (use_tree ts).1).0).body ≡ Some r = ap (λ (x : LeafRead). x.body) (some_is _ l e) ∙ d in cc)))
      (λ k. let s = eat_local b 59 refl (use_tree ts).1 (use_tree us).1 k.rest in
      leaf_same (places.both (record {
        item = ap (λ (t : Option UseTreeView). item_without_bodies (use_item (record { node = node attrs []; visibility = v; use_tree = t }))) k.value.value;
        kind = refl;
        name = refl;
        named = places.neither;
        body = places.neither;
        use_trees = k.value.starts;
      })) s.rest)

  invocation_until : LeafUntil b (invocation attrs ts) (invocation attrs us)
  unfolding invocation
  invocation_until =
      when (is_some (reads path ts).0 && sees is_called (reads path ts).1)
      (λ e. rw (tests, e) (by (last_same b ts us (reads path ts).1 (reads path us).1 (rule_leads path ts) p.rest h) (and_parts (is_some (reads path ts).0) (sees is_called (reads path ts).1) e).1))
      (λ e. rw (tests, e) (leaf_same places.neither h))
    where
      p : Kept b (reads path ts) (reads path us)
      p = rule_local b path ts us h

      tests : (is_some (reads path us).0 && sees is_called (reads path us).1) ≡ (is_some (reads path ts).0 && sees is_called (reads path ts).1)
      tests = ap (λ o. is_some o && sees is_called (reads path us).1) p.value ∙ ap (λ t. is_some (reads path ts).0 && t) (is_called_same b (reads path ts).1 (reads path us).1 p.rest)

      by : SameLast b (reads path ts).1 (last_text (reads path ts).1.past ts) (last_text (reads path us).1.past us) → sees is_called (reads path ts).1 ≡ true
          → LeafUntil b (some_read (call_behind attrs (reads path ts).0 (bare_name (last_text (reads path ts).1.past ts)) (bumped (reads path ts).1))) (some_read (call_behind attrs (reads path us).0 (bare_name (last_text (reads path us).1.past us)) (bumped (reads path us).1)))
      by (beyond_braces g) e =
          let k = gone_on g (bumped_leads (reads path ts).1) in
          leaf_lost (gone_on k (call_end_leads (bumped (reads path ts).1)))
          (λ m r f d s. let body : (call_end (bumped (reads path ts).1)).0.braces ≡ Some r = ap (λ (x : LeafRead). x.body) (some_is _ m f) ∙ d in
          braced_gone b end r (laid.behind end (through (rule_leads path ts) (bumped_leads (reads path ts).1)) l.laid).laid k (subst (λ (o : Option TextRange). IsBraced (bumped (reads path ts).1) (call_end (bumped (reads path ts).1)).1 o) body (call_end_braced (bumped (reads path ts).1))) s)
      by (same_text f) e =
          let c = call_end_local b (bumped (reads path ts).1) (bumped (reads path us).1) (called_next b (reads path ts).1 (reads path us).1 p.rest e) in
          leaf_same (places.both (record {
            item = ap (λ (x : Option PathNode). item_without_bodies (call_leaf attrs x [] (call_end (bumped (reads path us).1)).0).item) p.value;
            kind = refl;
            name = ap bare_name f;
            named = places.neither;
            body = c.value.braces;
            use_trees = no_more;
          })) c.rest

  item_call_until : LeafUntil b (item_call attrs ts) (item_call attrs us)
  unfolding item_call
  item_call_until =
      let same = begins_call_beside b ts us h in
      when (begins_call ts) (λ e. rw (same, e) invocation_until) (λ e. rw (same, e) (leaf_same places.neither h))

-- ---- all kinds

leaf_by_until : (b : Bodies) → BeginPlain b → (end : ℕ) (k : Head) (attrs : List MetaView) (v : Option Visibility) (ts us : Tokens) → IsSound end ts → Beside b ts us → LeafUntil b (leaf_by k attrs v ts) (leaf_by k attrs v us)
leaf_by_until b plain end heads.Use attrs v ts us l h = use_until b plain end attrs v ts us l h
leaf_by_until b plain end heads.ExternCrate attrs v ts us l h = some_alike (crate_item_local b attrs v ts us h)
leaf_by_until b plain end heads.Impl attrs v ts us l h = implementation_until b plain end attrs v ts us l h
leaf_by_until b plain end heads.Struct attrs v ts us l h = structure_until b plain end attrs v ts us l h
leaf_by_until b plain end heads.Const attrs v ts us l h = some_alike (constant_local b attrs v ts us h)
leaf_by_until b plain end (heads.Plain k) attrs v ts us l h = plain_until b plain end attrs v ts us l h k
leaf_by_until b plain end heads.MacroRules attrs v ts us l h = some_alike (macro_definition_local b attrs ts us h)
leaf_by_until b plain end _ attrs v ts us l h = item_call_until b plain end attrs v ts us l h

pub leaf_until : (b : Bodies) → BeginPlain b → (end : ℕ) (f g : FrontRead) (ts us : Tokens) → FrontAlike b f g → IsSound end ts → Beside b ts us → LeafUntil b (leaf f ts) (leaf g us)
unfolding leaf
leaf_until b plain end f g ts us a l h =
    rw (a.head, a.attrs, a.visibility) (leaf_by_until b plain end f.head f.attrs f.visibility ts us l h)

-- what is left has gone into the braces, and they are not those of the item
pub record LeafLost (b : Bodies) (p : Option LeafRead × Tokens) : Type 0 where
  pub gone : Gone b p.1
  pub free : (l : LeafRead) (r : TextRange) → p.0 ≡ Some l → l.body ≡ Some r → r.start ≡ b.opening.at → ⊥

-- behind the `{`
pub leaf_gone : (b : Bodies) (end : ℕ) (h : FrontRead) (ts : Tokens) → IsSound end ts → Gone b ts → LeafLost b (leaf h ts)
leaf_gone b end h ts l g = record { gone = gone_on g (leads (leaf h ts).0 (leaf_at h ts)); free = λ m r e d s. some m r e d s (leaf_at h ts) }
  where
    leads : (o : Option LeafRead) → LeafAt ts (leaf h ts).1 o → LeadsTo ts (leaf h ts).1
    leads None p = p
    leads (Some m) p = p.leads

    some : (m : LeafRead) (r : TextRange) → (leaf h ts).0 ≡ Some m → m.body ≡ Some r → r.start ≡ b.opening.at → LeafAt ts (leaf h ts).1 (leaf h ts).0 → ⊥
    some m r e d s p =
        let is : LeafAt ts (leaf h ts).1 (Some m) = subst (LeafAt ts (leaf h ts).1) e p in
        braced_gone b end r l.laid g (subst (λ (o : Option TextRange). IsBraced ts (leaf h ts).1 o) d is.body) s
