-- What is left behind items that hold none is left of the tokens before them, and what they are.
use Rattle.std.proofs.Common.{◌≡◌, ◌==◌, ◌&&◌, ℕ, Bool, true, false, Option, Some, None, List, [], codes, refl, sym, subst, arith, is_some, bytes_eq}
use Rattle.rust_items.proofs.Common.{AllZip, and_parts, AstIdKind, FileAstId, Visibility, MetaView, PlainKind, no_items, Tokens, symbol, word, kind, text, at, eat, eat_word, is_empty, is_at_open, bumped, is_at_end, ExcerptRead, tree_body, LeadsTo, here, further, through, Forwards, when, bumped_leads, eat_leads, eat_word_leads, behind_tree_leads, taken_leads_on, Takes, takes, takes_leads, takes_behind, takes_before, symbol_some, word_none, HasBlock, no_block, block, taken_block, TextRange, Placed, placed_name, path, use_tree, placed_name_leads, placed_next, use_tree_leads, outer_attributes_leads, Head, LeafRead, range_to, name_read, written_name, named_or, crate_alias, crate_alias_if, written_rename, semicolon_end, call_end, constant, structure, implementation, told_at, crate_item, use_declaration, macro_definition, is_called, begins_call, invocation, item_call, leaf_by, leaf, FrontRead, front_behind, front, id_of, name_of, items_held, trees_in, written_trees, abi, modifiers, front_words, head, behind_others, plain_leaf, mut_word, by_taken, rest_by, rest_of}
use Rattle.std.specs.Option.{option_or}
use Rattle.hir_input.specs.declared.ast.PlainKind.TheVariants as plain_kind
use Rattle.hir_input.specs.declared.ids.AstIdKind.TheVariants as ast
use Rattle.rust_leaves.specs.declared.head.Head.TheVariants as heads
use Rattle.rust_leaves.specs.Inner.{behind_head}
use Rattle.rust_leaves.proofs.Fronts.{others_leads}
use Rattle.rust_leaves.proofs.Heads.{head_left, no_words}
use Rattle.rust_items.proofs.Names.{IsToken, untold, told_behind, named_told, named_or_told}
use Rattle.rust_items.proofs.TreesRead.{word_some, zip_is, IsRead, read_around, use_tree_told}
use Rattle.rust_cursor.specs.Grammar.{reads}
use Rattle.rust_cursor.proofs.Rules.{rule_leads}
use Rattle.rust_paths.specs.Visibilities.{visibility}
use Rattle.rust_cursor.specs.Looks.{sees}

-- ---- texts

pub tree_body_leads : Forwards tree_body
tree_body_leads ts = taken_leads_on _ _ ts

pub rest_leads : (h : Head) → Forwards (rest_of h)
unfolding rest_by
rest_leads = by_taken (λ r. Forwards (rest_by r)) (λ before e ts. taken_leads_on before e ts)

semicolon_end_leads : (read : ExcerptRead) → Forwards (semicolon_end read)
semicolon_end_leads read ts = eat_leads _ ts

pub call_end_leads : Forwards call_end
unfolding call_end
call_end_leads ts =
    when (is_at_open ts)
    (λ e. rw e (when (symbol ts == 123) (λ f. rw f (tree_body_leads ts)) (λ f. rw f (through (tree_body_leads ts) (semicolon_end_leads (tree_body ts).0 _)))))
    (λ e. rw e here)

-- ---- the words in front

pub behind_others_leads : (ts : Tokens) → LeadsTo ts (behind_others ts)
unfolding behind_others
behind_others_leads ts = when (is_at_end ts) (λ e. rw e here) (λ e. rw e (through (behind_tree_leads ts) (others_leads _ _)))

-- a word that begins an item is a token
pub record TakesBy (h : Head) (ts us : Tokens) : Type 0 where
  pub leads : LeadsTo ts us
  pub word : (h ≡ heads.Other → ⊥) → Takes ts us

word_takes : {h : Head} {ts us : Tokens} → Takes ts us → TakesBy h ts us
word_takes t = record { leads = takes_leads t; word = λ _. t }

head_some : (h : Head) (ts : Tokens) → is_empty ts ≡ false → TakesBy h ts (behind_head h ts)
head_some heads.Other ts e = record { leads = here; word = λ other. absurd (other refl) }
head_some heads.ExternCrate ts e = word_takes (takes ts here e (bumped_leads _))
head_some heads.MacroRules ts e = word_takes (takes ts here e (bumped_leads _))
head_some heads.ExternBlock ts e = word_takes (takes ts here e (rule_leads abi _))
head_some _ ts e = word_takes (takes ts here e here)

pub head_takes : (ts : Tokens) → TakesBy (reads head ts).0 ts (reads head ts).1
head_takes ts =
    when (is_empty ts)
    (λ e. rw (no_words ts (word_none ts e)) (record { leads = here; word = λ other. absurd (other refl) }))
    (λ e. subst (TakesBy (reads head ts).0 ts) (sym (head_left ts)) (head_some (reads head ts).0 ts e))

takes_by_behind : {h : Head} {ts us vs : Tokens} → LeadsTo ts us → TakesBy h us vs → TakesBy h ts vs
takes_by_behind p t = record { leads = through p t.leads; word = λ other. takes_behind p (t.word other) }

pub front_takes : (ts : Tokens) → TakesBy (front ts).0.head ts (front ts).1
unfolding front front_behind front_words
front_takes ts = takes_by_behind (through (outer_attributes_leads ts) (through (rule_leads visibility _) (rule_leads modifiers _))) (head_takes _)

pub front_start : (ts : Tokens) → (front ts).0.start ≡ at ts
unfolding front front_behind
front_start ts = refl

-- ---- names

-- a name, if there is one, is a token between what was given and what is left
pub data IsNamed : Tokens → Tokens → Option TextRange → Type 0 where
  nameless : {ts us : Tokens} → IsNamed ts us None
  by_token : {ts us : Tokens} (t : Tokens) → LeadsTo ts t → is_empty t ≡ false → LeadsTo (bumped t) us → IsNamed ts us (Some (record { start = at t; end = (bumped t).past }))

pub name_behind : {ts us vs : Tokens} {range : Option TextRange} → LeadsTo ts us → IsNamed us vs range → IsNamed ts vs range
name_behind p nameless = nameless
name_behind p (by_token t before some behind) = by_token t (through p before) some behind

pub name_before : {ts us vs : Tokens} {range : Option TextRange} → IsNamed ts us range → LeadsTo us vs → IsNamed ts vs range
name_before nameless p = nameless
name_before (by_token t before some behind) p = by_token t before some (through behind p)

pub named_leads : Forwards written_name
unfolding written_name
named_leads ts = placed_name_leads ts

read_named : (ts : Tokens) (o : Option Placed) → (placed_name ts).0 ≡ o → IsNamed ts (placed_name ts).1 (name_read o (text ts)).range
read_named ts None e = nameless
read_named ts (Some p) e = let n = placed_next ts p e in rw (n.start, n.end, n.left) (by_token ts here n.some here)

pub named_named : (ts : Tokens) → IsNamed ts (written_name ts).1 (written_name ts).0.range
unfolding written_name
named_named ts = read_named ts (placed_name ts).0 refl

pub named_or_leads : (keyword : List ℕ) → Forwards (named_or keyword)
unfolding named_or
named_or_leads keyword ts = when (bytes_eq (word ts) keyword) (λ e. rw e (bumped_leads ts)) (λ e. rw e (named_leads ts))

named_or_named : (keyword : List ℕ) → bytes_eq [] keyword ≡ false → (ts : Tokens) → IsNamed ts (named_or keyword ts).1 (named_or keyword ts).0.range
unfolding named_or
named_or_named keyword some ts =
    when (bytes_eq (word ts) keyword) (λ e. rw e (by_token ts here (word_some keyword some ts e) here)) (λ e. rw e (named_named ts))

pub alias_leads : Forwards crate_alias
unfolding crate_alias
alias_leads ts = when (bytes_eq (word ts) (codes "_")) (λ e. rw e (bumped_leads ts)) (λ e. rw e (named_leads ts))

alias_named : (ts : Tokens) → IsNamed ts (crate_alias ts).1 (crate_alias ts).0.range
unfolding crate_alias
alias_named ts = when (bytes_eq (word ts) (codes "_")) (λ e. rw e (by_token ts here (word_some (codes "_") refl ts e) here)) (λ e. rw e (named_named ts))

pub alias_if_leads : (found : Bool) → Forwards (crate_alias_if found)
alias_if_leads true ts = alias_leads ts
alias_if_leads false ts = here

pub renamed_leads : Forwards written_rename
unfolding written_rename
renamed_leads ts = through (eat_word_leads (codes "as") ts) (alias_if_leads _ _)

either_named : {ts us vs : Tokens} (a b : Option TextRange) → LeadsTo ts us → IsNamed us vs a → IsNamed ts vs b → IsNamed ts vs (option_or a b)
either_named (Some r) b p n m = name_behind p n
either_named None b p n m = m

told_if : (range : Option TextRange) (found : Bool) (ts us : Tokens) → IsNamed ts us range → LeadsTo ts us → IsNamed ts (crate_alias_if found us).1 (told_at range (crate_alias_if found us).0)
told_if range true ts us m p = either_named (crate_alias us).0.range range p (alias_named us) (name_before m (alias_leads us))
told_if range false ts us m p = m

told_named : (range : Option TextRange) (ts us : Tokens) → IsNamed ts us range → LeadsTo ts us → IsNamed ts (written_rename us).1 (told_at range (written_rename us).0)
unfolding written_rename
told_named range ts us m p =
    told_if range (eat_word (codes "as") us).0 ts (eat_word (codes "as") us).1 (name_before m (eat_word_leads (codes "as") us)) (through p (eat_word_leads (codes "as") us))

-- ---- braces

-- the braces that an item ends with: their `{` is a token between what was given and what is left, and another comes behind it
pub data IsBraced : Tokens → Tokens → Option TextRange → Type 0 where
  unbraced : {ts us : Tokens} → IsBraced ts us None
  braced : {ts us : Tokens} (b : Tokens) → LeadsTo ts b → is_empty b ≡ false → Takes (bumped b) us → IsBraced ts us (Some (record { start = at b; end = us.past }))

pub braces_behind : {ts us vs : Tokens} {range : Option TextRange} → LeadsTo ts us → IsBraced us vs range → IsBraced ts vs range
braces_behind p unbraced = unbraced
braces_behind p (braced b before some t) = braced b (through p before) some t

pub block_braced : {ts us : Tokens} {o : Option Tokens} → HasBlock ts us o → IsBraced ts us (range_to us.past o)
block_braced no_block = unbraced
block_braced (block b before some t) = braced b before some t

rest_braced : (h : Head) (ts : Tokens) → IsBraced ts (rest_of h ts).1 (rest_of h ts).0.braces
unfolding rest_by
rest_braced = by_taken (λ r. (ts : Tokens) → IsBraced ts (rest_by r ts).1 (rest_by r ts).0.braces) (λ before e ts. block_braced (taken_block before e ts))

pub call_end_braced : (ts : Tokens) → IsBraced ts (call_end ts).1 (call_end ts).0.braces
unfolding call_end
call_end_braced ts =
    when (is_at_open ts)
    (λ e. rw e (when (symbol ts == 123) (λ f. rw f (block_braced (taken_block _ _ ts))) (λ f. rw f unbraced)))
    (λ e. rw e unbraced)

-- ---- items that hold none

-- an id before it has its hash and its number
abbrev pub blank : AstIdKind → FileAstId
blank kind = record { kind = kind; hash = 0; number = 0 }

pub record IsLeaf (ts us : Tokens) (l : LeafRead) : Type 0 where
  pub leads : LeadsTo ts us
  pub id : id_of l.item ≡ Some (blank l.kind)
  pub alone : items_held l.item ≡ no_items
  pub name : IsNamed ts us l.named
  pub body : IsBraced ts us l.body
  pub told : (l.kind ≡ ast.ExternCrate → ⊥) → IsToken ts (name_of l.item) l.named
  pub uses : AllZip (IsRead ts us) l.use_trees (trees_in l.item)

pub mut_word_leads : (k : PlainKind) → Forwards (mut_word k)
mut_word_leads plain_kind.Static ts = eat_word_leads (codes "mut") ts
mut_word_leads _ ts = here

-- an item by what is told of it
leaf_by_told : {ts us : Tokens} (l : LeafRead) → id_of l.item ≡ Some (blank l.kind) → items_held l.item ≡ no_items → AllZip (IsRead ts us) l.use_trees (trees_in l.item) → LeadsTo ts us → IsNamed ts us l.named → IsBraced ts us l.body
    → ((l.kind ≡ ast.ExternCrate → ⊥) → IsToken ts (name_of l.item) l.named) → IsLeaf ts us l
leaf_by_told l e f uses leads name body told = record { leads = leads; id = e; alone = f; name = name; body = body; told = told; uses = uses }

module _ (attrs : List MetaView) (v : Option Visibility) (ts : Tokens) where
  pub plain_leaf_is : (k : PlainKind) → IsLeaf ts (plain_leaf k attrs v ts).1 (plain_leaf k attrs v ts).0
  unfolding plain_leaf
  plain_leaf_is k =
      leaf_by_told _ refl refl tt (through (mut_word_leads k ts) (through (named_leads _) (rest_leads (heads.Plain k) _))) (name_behind (mut_word_leads k ts) (name_before (named_named _) (rest_leads (heads.Plain k) _)))
      (braces_behind (through (mut_word_leads k ts) (named_leads _)) (rest_braced (heads.Plain k) _)) (λ _. told_behind (mut_word_leads k ts) _ _ (named_told _))

  pub const_leaf : IsLeaf ts (constant attrs v ts).1 (constant attrs v ts).0
  unfolding constant
  const_leaf =
      leaf_by_told _ refl refl tt (through (named_leads ts) (through (eat_word_leads _ _) (rest_leads heads.Const _))) (name_before (named_named ts) (through (eat_word_leads _ _) (rest_leads heads.Const _)))
      (braces_behind (through (named_leads ts) (eat_word_leads _ _)) (rest_braced heads.Const _)) (λ _. named_told ts)

  pub struct_leaf : IsLeaf ts (structure attrs v ts).1 (structure attrs v ts).0
  unfolding structure
  struct_leaf = leaf_by_told _ refl refl tt (through (named_leads ts) (rest_leads heads.Struct _)) (name_before (named_named ts) (rest_leads heads.Struct _)) (braces_behind (named_leads ts) (rest_braced heads.Struct _)) (λ _. named_told ts)

  pub impl_leaf : IsLeaf ts (implementation attrs ts).1 (implementation attrs ts).0
  unfolding implementation
  impl_leaf = leaf_by_told _ refl refl tt (rest_leads heads.Impl ts) nameless (rest_braced heads.Impl ts) (λ _. untold)

  pub crate_leaf : IsLeaf ts (crate_item attrs v ts).1 (crate_item attrs v ts).0
  unfolding crate_item
  crate_leaf =
      leaf_by_told _ refl refl tt (through (named_or_leads (codes "self") ts) (through (renamed_leads _) (eat_leads _ _)))
      (name_before (told_named (named_or (codes "self") ts).0.range ts (named_or (codes "self") ts).1 (named_or_named (codes "self") refl ts) (named_or_leads (codes "self") ts)) (eat_leads _ _)) unbraced (λ other. absurd (other refl))

  pub use_leaf : IsLeaf ts (use_declaration attrs v ts).1 (use_declaration attrs v ts).0
  unfolding use_declaration
  use_leaf =
      leaf_by_told _ refl refl
      (zip_is (IsRead ts (use_tree ts).1) (IsRead ts (eat 59 (use_tree ts).1).1) (read_around here (eat_leads 59 (use_tree ts).1)) (use_tree ts).0.starts (written_trees (use_tree ts).0.value) (use_tree_told ts))
      (through (use_tree_leads ts) (eat_leads _ _)) nameless unbraced (λ _. untold)

  pub macro_rules_leaf : IsLeaf ts (macro_definition attrs ts).1 (macro_definition attrs ts).0
  unfolding macro_definition
  macro_rules_leaf =
      leaf_by_told _ refl refl tt (through (named_or_leads (codes "try") ts) (call_end_leads _)) (name_before (named_or_named (codes "try") refl ts) (call_end_leads _))
      (braces_behind (named_or_leads (codes "try") ts) (call_end_braced _)) (λ _. named_or_told 116 (codes "ry") refl ts)

-- an item of tokens, one at least
pub record IsTaken (ts us : Tokens) (l : LeafRead) : Type 0 where
  pub takes : Takes ts us
  pub leaf : IsLeaf ts us l

leaf_taken : {ts us vs : Tokens} {l : LeafRead} → Takes ts us → IsLeaf us vs l → IsTaken ts vs l
leaf_taken {ts} {us} {vs} {l} t k = record {
  takes = takes_before t k.leads;
  leaf = record { leads = through (takes_leads t) k.leads; id = k.id; alone = k.alone; name = name_behind (takes_leads t) k.name; body = braces_behind (takes_leads t) k.body; told = λ other. told_behind (takes_leads t) _ _ (k.told other); uses = zip_is (IsRead us vs) (IsRead ts vs) (read_around (takes_leads t) here) l.use_trees (trees_in l.item) k.uses };
}

-- an item, or none
abbrev pub LeafFound : Tokens → Tokens → Option LeafRead → Type 0
LeafFound ts us None = LeadsTo ts us
LeafFound ts us (Some l) = IsTaken ts us l

pub called_some : (ts : Tokens) → sees is_called ts ≡ true → is_empty ts ≡ false
unfolding is_called
called_some ts e = symbol_some 33 ts (omega arith) (and_parts (symbol ts == 33) (is_at_open (bumped ts)) e).0

invocation_found : (attrs : List MetaView) (ts us : Tokens) → LeadsTo ts us → LeafFound ts (invocation attrs us).1 (invocation attrs us).0
unfolding invocation
invocation_found attrs ts us p =
    when (is_some (reads path us).0 && sees is_called (reads path us).1)
    (λ e. rw e (record {
      takes = takes (reads path us).1 (through p (rule_leads path us)) (called_some (reads path us).1 (and_parts (is_some (reads path us).0) (sees is_called (reads path us).1) e).1) (call_end_leads _);
      leaf = record { leads = through p (through (rule_leads path us) (further (call_end_leads _))); id = refl; alone = refl; name = nameless; body = braces_behind (through p (through (rule_leads path us) (further here))) (call_end_braced _); told = λ _. untold; uses = tt };
    }))
    (λ e. rw e p)

item_call_found : (attrs : List MetaView) (ts us : Tokens) → LeadsTo ts us → LeafFound ts (item_call attrs us).1 (item_call attrs us).0
unfolding item_call
item_call_found attrs ts us p = when (begins_call us) (λ e. rw e (invocation_found attrs ts us p)) (λ e. rw e p)

-- the same of the item's own parts
abbrev pub LeafAt : Tokens → Tokens → Option LeafRead → Type 0
LeafAt ts us None = LeadsTo ts us
LeafAt ts us (Some l) = IsLeaf ts us l

alone_at : (ts us : Tokens) (o : Option LeafRead) → LeafFound ts us o → LeafAt ts us o
alone_at ts us None p = p
alone_at ts us (Some l) p = p.leaf

taken_at : (ts us vs : Tokens) (o : Option LeafRead) → Takes ts us → LeafAt us vs o → LeafFound ts vs o
taken_at ts us vs None t p = through (takes_leads t) p
taken_at ts us vs (Some l) t p = leaf_taken t p

leaf_by_at : (h : Head) (attrs : List MetaView) (v : Option Visibility) (ts : Tokens) → LeafAt ts (leaf_by h attrs v ts).1 (leaf_by h attrs v ts).0
leaf_by_at heads.Use attrs v ts = use_leaf attrs v ts
leaf_by_at heads.ExternCrate attrs v ts = crate_leaf attrs v ts
leaf_by_at heads.Impl attrs v ts = impl_leaf attrs v ts
leaf_by_at heads.Struct attrs v ts = struct_leaf attrs v ts
leaf_by_at heads.Const attrs v ts = const_leaf attrs v ts
leaf_by_at (heads.Plain k) attrs v ts = plain_leaf_is attrs v ts k
leaf_by_at heads.MacroRules attrs v ts = macro_rules_leaf attrs v ts
leaf_by_at _ attrs v ts = alone_at ts (item_call attrs ts).1 (item_call attrs ts).0 (item_call_found attrs ts ts here)

pub leaf_at : (h : FrontRead) (ts : Tokens) → LeafAt ts (leaf h ts).1 (leaf h ts).0
unfolding leaf
leaf_at h ts = leaf_by_at h.head h.attrs h.visibility ts

leaf_by_found : (h : Head) (attrs : List MetaView) (v : Option Visibility) (ts us : Tokens) → TakesBy h ts us → LeafFound ts (leaf_by h attrs v us).1 (leaf_by h attrs v us).0
leaf_by_found heads.Other attrs v ts us t = item_call_found attrs ts us t.leads
leaf_by_found h attrs v ts us t = taken_at ts us (leaf_by h attrs v us).1 (leaf_by h attrs v us).0 (t.word (λ e. absurd cc)) (leaf_by_at h attrs v us)

-- behind what stands in front of an item
pub leaf_found : (h : FrontRead) (ts us : Tokens) → TakesBy h.head ts us → LeafFound ts (leaf h us).1 (leaf h us).0
unfolding leaf
leaf_found h ts us t = leaf_by_found h.head h.attrs h.visibility ts us t
