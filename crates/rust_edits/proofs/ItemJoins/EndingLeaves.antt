-- Items that hold none are the same in a text that ends with a `;` or a `}` and in a longer one, where they end there or before.
use Rattle.std.proofs.Common.{◌≡◌, ◌≤◌, ◌<◌, ◌+◌, ◌==◌, ◌&&◌, ℕ, zero, suc, Bool, true, false, Option, Some, None, List, [], ◌++◌, length, refl, sym, ap, ◌∙◌, arith, codes}
use Rattle.rust_edits.proofs.Common.{is_some, nat_lt, bytes_eq, Visibility, AstIdKind, MetaView, PlainKind, ItemView, FieldsView, ast_kind, plain_item, const_item, struct_item, impl_item, extern_crate, use_item, macro_rules, behind_angles, behind_header, is_trait_impl, most_tokens, Tokens, word, text, bumped, eat_word, path, use_tree, NameRead, RestRead, LeafRead, no_name, written_name, named_or, written_rename, rename_of, bare_end, call_end, block_attributes, has_trait, node, named_node, leaf_read, plain_read, constant, structure, implementation, told_at, crate_item, use_read, use_declaration, macro_definition, is_called, begins_call, begins_call_same, call_leaf, some_read, invocation, item_call, leaf_by, leaf, Head, FrontRead, nat_tests, and_parts, and_right, eq-eqb, LeadsTo, here, further, through, when, eat_leads, eat_word_leads, reached_leads, behind_angles_leads, Ending, Near, Gone, bumped_onward, fewer, enough_left, more_left, past_same, taken_same, near_twins, behind_angles_near, reached_near, near_parting, Kept, AtEnd, is_still, Outcome, lost, stays, comes, untaken, map_outcome, eat_outcome, eat_fewer, kept, by_next, onward_leads, by_kept, eat_word_until, word_same, text_same, no_block, near_enters, fields_of, named_leads, renamed_leads, call_end_leads, use_tree_until, inner_some, bare_name, last_text_from, last_text, UpTo, mut_word, mut_word_leads, own_attributes, plain_leaf, rest_by, rest_leads, rest_of}
use Rattle.hir_input.specs.declared.ast.PlainKind.TheVariants as plain_kind
use Rattle.hir_input.specs.declared.ids.AstIdKind.TheVariants as kind
use Rattle.rust_cursor.specs.declared.cursor.generics.Reach.TheVariants as reaches
use Rattle.rust_cursor.proofs.EnclosedItems.{item_enclosed, impl_enclosed}
use Rattle.rust_cursor.proofs.EndingTokens.{gone_on}
use Rattle.rust_leaves.specs.declared.head.Head.TheVariants as heads
use Rattle.rust_edits.proofs.ItemJoins.EndingFronts.{FrontNear, are_further, is_further}
use Rattle.rust_edits.proofs.ItemJoins.Calls.{call_left}
use Rattle.rust_edits.proofs.ItemJoins.EndingFields.{in_order, lt_by, struct_fields_near}
use Rattle.rust_cursor.specs.Grammar.{reads}
use Rattle.rust_cursor.proofs.Rules.{rule_leads, rule_until}
use Rattle.rust_edits.proofs.ItemJoins.EndingParts.{Given, LeafNear, NameNear, RestNear, RestOutcome, attributes_same, call_end_fewer, call_end_outcome, given_on, named_or_until, named_until, rename_same, renamed_until, rest_fewer, rest_of_outcome, told_near}
use Rattle.rust_cursor.specs.Looks.{sees}
use Rattle.rust_cursor.proofs.Looks.{skipped_are, skipped_same}
use Rattle.rust_leaves.specs.Heads.{called_skipped}

-- ---- items

abbrev LeafOutcome : Ending → LeafRead × Tokens → LeafRead × Tokens → Type 0
LeafOutcome b p q = Outcome (LeafNear b) (λ l. l.is_ended) b p q

-- where the last reader but one went past the end
lost_by : {A : Type 0} {alike : A → A → Type 0} {ended : A → Bool} {b : Ending} {ts us : Tokens} {p q : A × Tokens} → Gone b ts us → LeadsTo ts p.1 → LeadsTo us q.1 → (ended p.0 ≡ true → length p.1.left < length ts.left)
    → (ended q.0 ≡ true → length q.1.left < length us.left) → Outcome alike ended b p q
lost_by {us = us} g p q strict strict' = lost (gone_on g p q) (λ e. let less = strict e in let few = g.few in omega arith) (λ s. untaken us g.none strict')

read_near : (b : Ending) (i i' : ItemView) (k : AstIdKind) (n n' : NameRead) (r r' : RestRead) → i' ≡ i → NameNear b n n' → RestNear b r r' → LeafNear b (leaf_read i k n r) (leaf_read i' k n' r')
read_near b i i' k n n' r r' e nn rr = record { item = e; kind = refl; name = nn.hashed; named = nn.range; body = rr.braces; ended = rr.ended; too_deep = refl; use_trees = refl }

plain_near : (b : Ending) (k : PlainKind) (attrs attrs' : List MetaView) (v : Option Visibility) (n n' : NameRead) (r r' : RestRead) → attrs' ≡ attrs → NameNear b n n' → RestNear b r r' → LeafNear b (plain_read k attrs v n r) (plain_read k attrs' v n' r')
plain_near b k attrs attrs' v n n' r r' a nn rr =
    read_near b _ _ (ast_kind k) n n' r r'
    (ap (λ z. plain_item k (named_node z n'.name v r'.body)) a ∙ ap (λ z. plain_item k (named_node attrs z v r'.body)) nn.name ∙ ap (λ z. plain_item k (named_node attrs n.name v z)) rr.body) nn rr

bare_near : (b : Ending) (t t' : Bool) → t' ≡ t → RestNear b (bare_end t) (bare_end t')
bare_near b t t' e = record { body = refl; ended = e; block = no_block; braces = refl }

-- the inner attributes of an item
item_attributes : {n m : ℕ} (b : Ending) (ts us : Tokens) → Given n m ts us → RestNear b (rest_of heads.Struct ts).0 (rest_of heads.Struct us).0 → block_attributes (rest_of heads.Struct us).0.block ≡ block_attributes (rest_of heads.Struct ts).0.block
unfolding rest_by
item_attributes {m = m} b ts us g r = attributes_same b _ _ r.block (λ a e. inner_some m us (rest_of heads.Struct us).1 a g.short (item_enclosed us a e))

impl_attributes : {n m : ℕ} (b : Ending) (ts us : Tokens) → Given n m ts us → RestNear b (rest_of heads.Impl ts).0 (rest_of heads.Impl us).0 → block_attributes (rest_of heads.Impl us).0.block ≡ block_attributes (rest_of heads.Impl ts).0.block
unfolding rest_by
impl_attributes {m = m} b ts us g r = attributes_same b _ _ r.block (λ a e. inner_some m us (rest_of heads.Impl us).1 a g.short (impl_enclosed us a e))

own_same : {n m : ℕ} (b : Ending) (k : PlainKind) (ts us : Tokens) → Given n m ts us → RestNear b (rest_of (heads.Plain k) ts).0 (rest_of (heads.Plain k) us).0
    → own_attributes k (rest_of (heads.Plain k) us).0.block ≡ own_attributes k (rest_of (heads.Plain k) ts).0.block
own_same b plain_kind.Fn ts us g r = item_attributes b ts us g r
own_same b plain_kind.Trait ts us g r = item_attributes b ts us g r
own_same b _ ts us g r = refl

mut_word_until : (b : Ending) (k : PlainKind) → UpTo (near_parting b) (mut_word k) (mut_word k)
mut_word_until b plain_kind.Static ts us h = eat_word_until (near_parting b) (codes "mut") refl ts us h
mut_word_until b _ ts us h = kept (record { value = refl; rest = h })

module _ (b : Ending) (attrs : List MetaView) (v : Option Visibility) where
  plain_outcome : {n m : ℕ} (k : PlainKind) (ts us : Tokens) → Given n m ts us → Near b ts us → LeafOutcome b (plain_leaf k attrs v ts) (plain_leaf k attrs v us)
  unfolding plain_leaf
  plain_outcome k ts us g h =
      let ts' = (mut_word k ts).1 in
      let us' = (mut_word k us).1 in
      by_kept (mut_word_until b k ts us h) (λ o. lost_by o (through (named_leads ts') (rest_leads (heads.Plain k) _)) (through (named_leads us') (rest_leads (heads.Plain k) _)) (λ e. let less = fewer (named_leads ts') in let strict = rest_fewer (heads.Plain k) (written_name ts').1 e in omega arith)
      (λ e. let less = fewer (named_leads us') in let strict = rest_fewer (heads.Plain k) (written_name us').1 e in omega arith))
      (λ m. by_kept (named_until b ts' us' m.rest) (λ o. lost_by o (rest_leads (heads.Plain k) _) (rest_leads (heads.Plain k) _) (rest_fewer (heads.Plain k) _) (rest_fewer (heads.Plain k) _))
      (λ l. map_outcome (λ r. plain_read k (attrs ++ own_attributes k r.block) v (written_name ts').0 r) (λ r. plain_read k (attrs ++ own_attributes k r.block) v (written_name us').0 r)
      (λ r. plain_near b k _ _ v _ _ _ _ (ap (λ z. attrs ++ z) (own_same b k _ _ (given_on g (through (mut_word_leads k ts) (named_leads ts')) (through (mut_word_leads k us) (named_leads us'))) r)) l.value r) (λ e. e) (λ e. e)
      (rest_of_outcome b (heads.Plain k) _ _ l.rest)))

  constant_outcome : (ts us : Tokens) → Near b ts us → LeafOutcome b (constant attrs v ts) (constant attrs v us)
  unfolding constant
  constant_outcome ts us h =
      let w = codes "_" in
      by_kept (named_until b ts us h)
      (λ o. lost_by o (through (eat_word_leads w _) (rest_leads heads.Const _)) (through (eat_word_leads w _) (rest_leads heads.Const _)) (λ e. let less = fewer (eat_word_leads w (written_name ts).1) in let strict = rest_fewer heads.Const (eat_word w (written_name ts).1).1 e in omega arith)
      (λ e. let less = fewer (eat_word_leads w (written_name us).1) in let strict = rest_fewer heads.Const (eat_word w (written_name us).1).1 e in omega arith))
      (λ l. by_kept (eat_word_until (near_parting b) w refl (written_name ts).1 (written_name us).1 l.rest) (λ o. lost_by o (rest_leads heads.Const _) (rest_leads heads.Const _) (rest_fewer heads.Const _) (rest_fewer heads.Const _))
      (λ k. map_outcome (λ r. leaf_read (const_item (named_node attrs (written_name ts).0.name v r.body)) kind.Const (written_name ts).0 r) (λ r. leaf_read (const_item (named_node attrs (written_name us).0.name v r.body)) kind.Const (written_name us).0 r)
      (λ r. read_near b _ _ kind.Const _ _ _ _ (ap (λ z. const_item (named_node attrs z v (rest_of heads.Const (eat_word w (written_name us).1).1).0.body)) l.value.name ∙ ap (λ z. const_item (named_node attrs (written_name ts).0.name v z)) r.body) l.value r)
      (λ e. e) (λ e. e) (rest_of_outcome b heads.Const _ _ k.rest)))

  crate_item_outcome : (ts us : Tokens) → Near b ts us → LeafOutcome b (crate_item attrs v ts) (crate_item attrs v us)
  unfolding crate_item
  crate_item_outcome ts us h =
      let c = codes "self" in
      let p = (named_or c ts).1 in
      let q = (named_or c us).1 in
      by_kept (named_or_until b c refl ts us h)
      (λ o. lost_by o (through (renamed_leads p) (eat_leads 59 _)) (through (renamed_leads q) (eat_leads 59 _)) (λ e. let less = fewer (renamed_leads p) in let strict = eat_fewer 59 (written_rename p).1 (omega arith) e in omega arith)
      (λ e. let less = fewer (renamed_leads q) in let strict = eat_fewer 59 (written_rename q).1 (omega arith) e in omega arith))
      (λ k. by_kept (renamed_until b p q k.rest) (λ o. lost_by o (eat_leads 59 _) (eat_leads 59 _) (eat_fewer 59 _ (omega arith)) (eat_fewer 59 _ (omega arith)))
      (λ l. map_outcome
      (λ t. leaf_read (extern_crate (named_node attrs (named_or c ts).0.name v []) (rename_of (written_rename p).0)) kind.ExternCrate (record { name = (named_or c ts).0.name; hashed = (named_or c ts).0.hashed; range = told_at (named_or c ts).0.range (written_rename p).0 }) (bare_end t))
      (λ t. leaf_read (extern_crate (named_node attrs (named_or c us).0.name v []) (rename_of (written_rename q).0)) kind.ExternCrate (record { name = (named_or c us).0.name; hashed = (named_or c us).0.hashed; range = told_at (named_or c us).0.range (written_rename q).0 }) (bare_end t))
      (λ e. read_near b _ _ kind.ExternCrate _ _ _ _
      (ap (λ z. extern_crate (named_node attrs z v []) (rename_of (written_rename q).0)) k.value.name ∙ ap (λ z. extern_crate (named_node attrs (named_or c ts).0.name v []) z) (rename_same b _ _ l.value))
      (record { name = k.value.name; hashed = k.value.hashed; range = told_near b _ _ _ _ k.value.range l.value })
      (bare_near b _ _ e))
      (λ e. e) (λ e. e) (eat_outcome b 59 _ _ l.rest)))

  use_outcome : (ts us : Tokens) → Near b ts us → LeafOutcome b (use_declaration attrs v ts) (use_declaration attrs v us)
  unfolding use_declaration
  use_outcome ts us h =
      by_kept (use_tree_until (near_parting b) (near_enters b) ts us h) (λ o. lost_by o (eat_leads 59 _) (eat_leads 59 _) (eat_fewer 59 _ (omega arith)) (eat_fewer 59 _ (omega arith)))
      (λ k. map_outcome (use_read attrs v (use_tree ts).0) (use_read attrs v (use_tree us).0)
      (λ e. record { item = ap (λ z. use_item (record { node = node attrs []; visibility = v; use_tree = z })) k.value.value; kind = refl; name = refl; named = refl; body = refl; ended = e; too_deep = is_further b _ _ k.value.too_deep; use_trees = are_further b _ _ k.value.starts })
      (λ e. e) (λ e. e) (eat_outcome b 59 _ _ k.rest))

  macro_definition_outcome : (ts us : Tokens) → Near b ts us → LeafOutcome b (macro_definition attrs ts) (macro_definition attrs us)
  unfolding macro_definition
  macro_definition_outcome ts us h =
      let c = codes "try" in
      by_kept (named_or_until b c refl ts us h) (λ o. lost_by o (call_end_leads _) (call_end_leads _) (call_end_fewer _) (call_end_fewer _))
      (λ k. map_outcome (λ r. leaf_read (macro_rules (node attrs r.body) (named_or c ts).0.name) kind.MacroRules (named_or c ts).0 r) (λ r. leaf_read (macro_rules (node attrs r.body) (named_or c us).0.name) kind.MacroRules (named_or c us).0 r)
      (λ r. read_near b _ _ kind.MacroRules _ _ _ _ (ap (λ z. macro_rules (node attrs (call_end (named_or c us).1).0.body) z) k.value.name ∙ ap (λ z. macro_rules (node attrs z) (named_or c ts).0.name) r.body) k.value r)
      (λ e. e) (λ e. e) (call_end_outcome b _ _ k.rest))

-- ---- impls

nil_word : (ts : Tokens) → ts.left ≡ [] → word ts ≡ []
unfolding word
nil_word ts e = rw e refl

no_for : (ts : Tokens) (end : ℕ) → word ts ≡ [] → (bytes_eq (word ts) (codes "for") && nat_lt ts.past end) ≡ false
no_for ts end e = rw e refl

not_before : (t : Bool) (m n : ℕ) → n ≤ m → (t && nat_lt m n) ≡ false
not_before t m n le = let no : nat_lt m n ≡ false = grind (arith, nat_tests) in rw no (and_right t false refl)

trait_same : {n m : ℕ} (b : Ending) (ts us es fs : Tokens) → Given n m ts us → Near b ts us → LeadsTo ts es → es.past ≡ fs.past + b.by → length b.behind ≤ length es.left → has_trait fs.past us ≡ has_trait es.past ts
unfolding has_trait is_trait_impl
trait_same b ts us es fs g h p e le =
    let x = behind_header (behind_angles ts) in
    let x' = behind_header (behind_angles us) in
    let leads : LeadsTo ts x = through (behind_angles_leads ts) (reached_leads reaches.Header _) in
    by_next (onward_leads (near_parting b) (behind_angles_near b ts us h) (reached_leads reaches.Header _) (reached_leads reaches.Header _) (λ k. reached_near b reaches.Header _ _ k))
    (λ o. let few = o.few in
    no_for x' fs.past (nil_word x' o.none) ∙ sym (not_before (bytes_eq (word x) (codes "for")) x.past es.past (in_order g.laid p leads (omega arith))))
    (λ k. ap (λ z. bytes_eq z (codes "for") && nat_lt x'.past fs.past) (word_same (near_twins b) x x' k)
    ∙ ap (λ t. bytes_eq (word x) (codes "for") && t) (lt_by x'.past fs.past b.by ∙ sym (ap (λ z. nat_lt z es.past) (past_same b x x' k) ∙ ap (λ z. nat_lt (x'.past + b.by) z) e)))

impl_near : {n m : ℕ} (b : Ending) (attrs : List MetaView) (ts us : Tokens) → Given n m ts us → Near b ts us → RestNear b (rest_of heads.Impl ts).0 (rest_of heads.Impl us).0 → (rest_of heads.Impl ts).1.past ≡ (rest_of heads.Impl us).1.past + b.by → length b.behind ≤ length (rest_of heads.Impl ts).1.left
    → LeafNear b (implementation attrs ts).0 (implementation attrs us).0
unfolding implementation
impl_near b attrs ts us g h r e le =
    read_near b _ _ kind.Impl no_name no_name _ _
    (ap (λ (z : List MetaView). impl_item (node (attrs ++ z) (rest_of heads.Impl us).0.body) (has_trait (rest_of heads.Impl us).1.past us)) (impl_attributes b ts us g r)
    ∙ ap (λ z. impl_item (node (attrs ++ block_attributes (rest_of heads.Impl ts).0.block) z) (has_trait (rest_of heads.Impl us).1.past us)) r.body
    ∙ ap (λ t. impl_item (node (attrs ++ block_attributes (rest_of heads.Impl ts).0.block) (rest_of heads.Impl ts).0.body) t) (trait_same b ts us (rest_of heads.Impl ts).1 (rest_of heads.Impl us).1 g h (rest_leads heads.Impl ts) e le))
    (record { name = refl; hashed = refl; range = refl }) r

implementation_outcome : {n m : ℕ} (b : Ending) (attrs : List MetaView) (ts us : Tokens) → Given n m ts us → Near b ts us → LeafOutcome b (implementation attrs ts) (implementation attrs us)
unfolding implementation
implementation_outcome b attrs ts us g h = by (rest_of_outcome b heads.Impl ts us h)
  where
    by : RestOutcome b (rest_of heads.Impl ts) (rest_of heads.Impl us) → LeafOutcome b (implementation attrs ts) (implementation attrs us)
    by (lost o f n) = lost o f n
    by (stays k) = stays (record { value = impl_near b attrs ts us g h k.value (past_same b _ _ k.rest) (enough_left b _ _ k.rest); rest = k.rest })
    by (comes r a) = comes (impl_near b attrs ts us g h r a.past (let same = ap length a.behind in omega arith)) a

-- ---- structs

block_leads : (ts a : Tokens) → (rest_of heads.Struct ts).0.block ≡ Some a → LeadsTo ts a
unfolding rest_by
block_leads ts a e = (item_enclosed ts a e).before

struct_near : {n m : ℕ} (b : Ending) (attrs : List MetaView) (v : Option Visibility) (ts us : Tokens) → Given n m ts us → NameNear b (written_name ts).0 (written_name us).0 → Near b (written_name ts).1 (written_name us).1 → RestNear b (rest_of heads.Struct (written_name ts).1).0 (rest_of heads.Struct (written_name us).1).0
    → (rest_of heads.Struct (written_name ts).1).1.past ≡ (rest_of heads.Struct (written_name us).1).1.past + b.by → length b.behind ≤ length (rest_of heads.Struct (written_name ts).1).1.left → LeafNear b (structure attrs v ts).0 (structure attrs v us).0
unfolding structure
struct_near b attrs v ts us g nn h r e le =
    let x = (written_name ts).1 in
    let y = (written_name us).1 in
    let given = given_on g (named_leads ts) (named_leads us) in
    read_near b _ _ kind.Struct _ _ _ _
    (ap (λ z. struct_item (named_node attrs z v (rest_of heads.Struct y).0.body) (fields_of y)) nn.name
    ∙ ap (λ z. struct_item (named_node attrs (written_name ts).0.name v z) (fields_of y)) r.body
    ∙ ap (λ (f : FieldsView). struct_item (named_node attrs (written_name ts).0.name v (rest_of heads.Struct x).0.body) f)
    (struct_fields_near b x y (rest_of heads.Struct x).1 (rest_of heads.Struct y).1 _ _ given.laid given.short.laid h r.block (block_leads x) (block_leads y) (rest_leads heads.Struct x) (rest_leads heads.Struct y) e le))
    nn r

structure_outcome : {n m : ℕ} (b : Ending) (attrs : List MetaView) (v : Option Visibility) (ts us : Tokens) → Given n m ts us → Near b ts us → LeafOutcome b (structure attrs v ts) (structure attrs v us)
unfolding structure
structure_outcome b attrs v ts us g h =
    by_kept (named_until b ts us h) (λ o. lost_by o (rest_leads heads.Struct _) (rest_leads heads.Struct _) (rest_fewer heads.Struct _) (rest_fewer heads.Struct _)) (λ l. by l.value l.rest (rest_of_outcome b heads.Struct _ _ l.rest))
  where
    by : NameNear b (written_name ts).0 (written_name us).0 → Near b (written_name ts).1 (written_name us).1 → RestOutcome b (rest_of heads.Struct (written_name ts).1) (rest_of heads.Struct (written_name us).1) → LeafOutcome b (structure attrs v ts) (structure attrs v us)
    by nn l (lost o f n) = lost o f n
    by nn l (stays k) = stays (record { value = struct_near b attrs v ts us g nn l k.value (past_same b _ _ k.rest) (enough_left b _ _ k.rest); rest = k.rest })
    by nn l (comes r a) = comes (struct_near b attrs v ts us g nn l r a.past (let same = ap length a.behind in omega arith)) a

-- ---- macro calls

-- The longer text went past the end, further where what it read is whole, of the shorter one nothing is left, and what was read of it has a flaw; or
-- as above.
pub data Ends {A : Type 0} (alike : A → A → Type 0) (Flawed Whole : A → Type 0) (b : Ending) : A × Tokens → A × Tokens → Type 0 where
  passes : {p q : A × Tokens} → length p.1.left ≤ length b.behind → b.level ≡ false → q.1.left ≡ [] → (is_still b ≡ true → Flawed q.0) → (Whole p.0 → length p.1.left < length b.behind)
      → Ends alike Flawed Whole b p q
  before_end : {p q : A × Tokens} → Kept alike b p q → Ends alike Flawed Whole b p q
  at_end : {p q : A × Tokens} → alike p.0 q.0 → AtEnd b p.1 q.1 → Ends alike Flawed Whole b p q

-- less is known where less is whole
pub weaker : {A : Type 0} {alike : A → A → Type 0} {Flawed Whole Less : A → Type 0} {b : Ending} {p q : A × Tokens} → (Less p.0 → Whole p.0) → Ends alike Flawed Whole b p q → Ends alike Flawed Less b p q
weaker {p = p} f (passes few uneven none never strict) = passes {p = p} few uneven none never (λ e. strict (f e))
weaker f (before_end k) = before_end k
weaker f (at_end t a) = at_end t a

pub data SomeLeaf (b : Ending) : Option LeafRead → Option LeafRead → Type 0 where
  no_leaf : SomeLeaf b None None
  one_leaf : {l m : LeafRead} → LeafNear b l m → SomeLeaf b (Some l) (Some m)

abbrev pub leaf_ended : Option LeafRead → Bool
leaf_ended None = false
leaf_ended (Some l) = l.is_ended

abbrev pub LeafEnds : Ending → Option LeafRead × Tokens → Option LeafRead × Tokens → Type 0
LeafEnds b p q = Ends (SomeLeaf b) (λ o. leaf_ended o ≡ false) (λ o. leaf_ended o ≡ true) b p q

leaf_by_outcome : {A : Type 0} {alike : A → A → Type 0} {ended : A → Bool} {b : Ending} {p q : A × Tokens} (f f' : A → LeafRead)
    → (alike p.0 q.0 → LeafNear b (f p.0) (f' q.0)) → ((f p.0).is_ended ≡ true → ended p.0 ≡ true) → (ended q.0 ≡ false → (f' q.0).is_ended ≡ false) → Outcome alike ended b p q
    → LeafEnds b (Some (f p.0), p.1) (Some (f' q.0), q.1)
leaf_by_outcome f f' same tells untold (lost g strict never) = passes g.few g.uneven g.none (λ s. untold (never s)) (λ e. strict (tells e))
leaf_by_outcome f f' same tells untold (stays k) = before_end (record { value = one_leaf (same k.value); rest = k.rest })
leaf_by_outcome f f' same tells untold (comes t a) = at_end (one_leaf (same t)) a

some_ends : {b : Ending} {p q : LeafRead × Tokens} → LeafOutcome b p q → LeafEnds b (some_read p) (some_read q)
some_ends o = leaf_by_outcome (λ l. l) (λ l. l) (λ k. k) (λ e. e) (λ e. e) o

-- what leads to tokens before the end is before it
before_near : (b : Ending) (ts us vs ws : Tokens) → Near b ts us → Near b vs ws → (ts.past == vs.past) ≡ false → LeadsTo ts vs → Near b (bumped ts) (bumped us) × LeadsTo (bumped ts) vs
before_near b ts us vs ws h k e here = absurd (let same : (ts.past == ts.past) ≡ true = eq-eqb ts.past ts.past refl in cc)
before_near b ts us vs ws h k e (further p) =
    (by_next (bumped_onward b ts us h) (λ o. let few = o.few in let less = fewer p in let more = more_left b vs ws o.uneven k in absurd (omega arith)) (λ n. n), p)

last_text_near : (b : Ending) (vs ws : Tokens) → Near b vs ws → (k : ℕ) (last : List ℕ) (ts us : Tokens) → Near b ts us → LeadsTo ts vs → last_text_from k ws.past last us ≡ last_text_from k vs.past last ts
last_text_near b vs ws n zero last ts us h p = refl
last_text_near b vs ws n (suc k) last ts us h p =
    let test : (us.past == ws.past) ≡ (ts.past == vs.past) = taken_same b vs ws ts us n h in
    when (ts.past == vs.past) (λ e. rw (test, e) refl)
    (λ e. let next = before_near b ts us vs ws h n e p in rw (test, e, text_same (near_twins b) ts us h) (last_text_near b vs ws n k (text ts) (bumped ts) (bumped us) next.0 next.1))

call_near : (b : Ending) (attrs : List MetaView) (p p' : Option _) (z z' : List ℕ) (r s : RestRead) → p' ≡ p → z' ≡ z → RestNear b r s → LeafNear b (call_leaf attrs p z r) (call_leaf attrs p' z' s)
call_near b attrs p p' z z' r s e f k =
    record {
      item = ap (λ q. (call_leaf attrs q z' s).item) e ∙ ap (λ t. (call_leaf attrs p z (record { body = t; is_ended = r.is_ended; block = r.block; braces = r.braces })).item) k.body;
      kind = refl;
      name = f;
      named = refl;
      body = k.braces;
      ended = k.ended;
      too_deep = refl;
      use_trees = refl;
    }

invocation_ends : (b : Ending) (attrs : List MetaView) (ts us : Tokens) → Near b ts us → begins_call us ≡ true → LeafEnds b (invocation attrs ts) (invocation attrs us)
unfolding invocation last_text
invocation_ends b attrs ts us h begins =
    by_kept (rule_until (near_parting b) path ts us h)
    (λ o. absurd (call_left us begins o.none))
    (λ k. let test : (is_some (reads path us).0 && sees is_called (reads path us).1) ≡ (is_some (reads path ts).0 && sees is_called (reads path ts).1) =
    ap (λ q. is_some q && sees is_called (reads path us).1) k.value ∙ ap (λ t. is_some (reads path ts).0 && t) (skipped_same (near_twins b) is_called 1 called_skipped (reads path ts).1 (reads path us).1 k.rest) in
    when (is_some (reads path ts).0 && sees is_called (reads path ts).1)
    (λ e. let next = skipped_are (near_twins b) is_called 1 (reads path ts).1 (reads path us).1 called_skipped k.rest (and_parts (is_some (reads path ts).0) (sees is_called (reads path ts).1) e).1 in
    rw (test, e)
    (leaf_by_outcome (call_leaf attrs (reads path ts).0 (bare_name (last_text_from most_tokens (reads path ts).1.past [] ts))) (call_leaf attrs (reads path us).0 (bare_name (last_text_from most_tokens (reads path us).1.past [] us)))
    (λ r. call_near b attrs _ _ _ _ _ _ k.value (ap bare_name (last_text_near b (reads path ts).1 (reads path us).1 k.rest _ [] ts us h (rule_leads path ts))) r) (λ e. e) (λ e. e) (call_end_outcome b _ _ next)))
    (λ e. rw (test, e) (before_end (record { value = no_leaf; rest = h }))))

item_call_ends : (b : Ending) (attrs : List MetaView) (ts us : Tokens) → Near b ts us → LeafEnds b (item_call attrs ts) (item_call attrs us)
unfolding item_call
item_call_ends b attrs ts us h =
    let same = begins_call_same (near_parting b) ts us h in
    when (begins_call ts) (λ e. rw (same, e) (invocation_ends b attrs ts us h (same ∙ e))) (λ e. rw (same, e) (before_end (record { value = no_leaf; rest = h })))

-- ---- by the word

pub leaf_ends : {n m : ℕ} (b : Ending) (f g : FrontRead) → FrontNear b f g → (ts us : Tokens) → Given n m ts us → Near b ts us → LeafEnds b (leaf f ts) (leaf g us)
unfolding leaf
leaf_ends b f g k ts us given h = rw (k.head, k.attrs, k.visibility) (by f.head)
  where
    by : (w : Head) → LeafEnds b (leaf_by w f.attrs f.visibility ts) (leaf_by w f.attrs f.visibility us)
    by heads.Use = some_ends (use_outcome b f.attrs f.visibility ts us h)
    by heads.ExternCrate = some_ends (crate_item_outcome b f.attrs f.visibility ts us h)
    by heads.Impl = some_ends (implementation_outcome b f.attrs ts us given h)
    by heads.Struct = some_ends (structure_outcome b f.attrs f.visibility ts us given h)
    by heads.Const = some_ends (constant_outcome b f.attrs f.visibility ts us h)
    by (heads.Plain k) = some_ends (plain_outcome b f.attrs f.visibility k ts us given h)
    by heads.MacroRules = some_ends (macro_definition_outcome b f.attrs f.visibility ts us h)
    by _ = item_call_ends b f.attrs ts us h
