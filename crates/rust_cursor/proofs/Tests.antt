-- What is asked of tokens that look alike: where an item begins, where a walk goes on, and where it ends.
use Rattle.std.proofs.Common.{◌≡◌, ◌≢◌, ℕ, ◌==◌, Bool, true, false, List, refl, ap, ◌∙◌, sym, arith, codes, bytes_eq}
use Rattle.rust_cursor.proofs.Common.{eqb-true, nat_tests, Reach, Before, Nest, Extent, begins_binder, is_lone_for, is_header_end, is_barred, is_reached, is_closing, begins, begins_item, follows_const, follows_extern, follows_macro_rules, follows_union, begins_const, begins_impl_or_const, begins_with_attribute, begins_behind, begins_within, stops, ends, goes_on, more, has_blank, is_joined, leads_item, nest_behind, Tokens, symbol, word, bumped}
use Rattle.rust_cursor.specs.declared.cursor.generics.Reach.TheVariants as reaches
use Rattle.rust_cursor.specs.declared.cursor.nest.Before.TheVariants as befores
use Rattle.rust_cursor.specs.declared.cursor.texts.Extent.TheVariants as extents
use Rattle.rust_cursor.proofs.Begins.{no_item, none_leads}
use Rattle.rust_cursor.proofs.TokenRests.{when}
use Rattle.rust_cursor.proofs.TwinTokens.{Twins, is_edge, symbol_same, word_same, kind_same, text_same, empty_same, end_same, identifier_same, doc_same, edge_word, edge_identifier, edge_doc, edge_literal, edge_test, after_word, after_symbol, pair_same}

-- ---- where an item begins

union_same : (b : Twins) (ts us : Tokens) → b.are ts us → follows_union us ≡ follows_union ts
union_same b ts us h = rw (identifier_same b ts us h, word_same b ts us h) refl

extern_same : (b : Twins) (ts us : Tokens) → b.are ts us → follows_extern us ≡ follows_extern ts
extern_same b ts us h =
    when (is_edge (symbol ts))
    (λ e. let f = edge_test b ts us h e in rw (word_same b ts us h, symbol_same b ts us h, edge_literal ts e, edge_literal us f) refl)
    (λ e. rw (word_same b ts us h, symbol_same b ts us h, kind_same b ts us h, symbol_same b (bumped ts) (bumped us) (b.next ts us h e)) refl)

rules_same : (b : Twins) (ts us : Tokens) → b.are ts us → follows_macro_rules us ≡ follows_macro_rules ts
rules_same b ts us h =
    when (symbol ts == 33)
    (λ e. rw (symbol_same b ts us h, identifier_same b (bumped ts) (bumped us) (b.next ts us h (ap is_edge (eqb-true (symbol ts) 33 e)))) refl)
    (λ e. rw (symbol_same b ts us h, e) refl)

item_same : (b : Twins) (ts us : Tokens) → b.are ts us → b.are (bumped ts) (bumped us) → begins_item us ≡ begins_item ts
unfolding begins_item
item_same b ts us h n =
    rw (union_same b (bumped ts) (bumped us) n, extern_same b (bumped ts) (bumped us) n, rules_same b (bumped ts) (bumped us) n, word_same b ts us h, symbol_same b (bumped ts) (bumped us) n, identifier_same b (bumped ts) (bumped us) n, word_same b (bumped ts) (bumped us) n) refl

const_same : (b : Twins) (ts us : Tokens) → b.are ts us → follows_const us ≡ follows_const ts
const_same b ts us h =
    when (is_edge (symbol ts))
    (λ e. let f = edge_test b ts us h e in rw (edge_word ts e, edge_word us f, edge_identifier ts e, edge_identifier us f) refl)
    (λ e. let n = b.next ts us h e in
    rw (word_same b ts us h, identifier_same b ts us h, identifier_same b (bumped ts) (bumped us) n, symbol_same b (bumped ts) (bumped us) n, pair_same b 58 58 (bumped ts) (bumped us) refl n) refl)

impl_same : (b : Twins) (ts us : Tokens) → b.are ts us → b.are (bumped ts) (bumped us) → begins_impl_or_const us ≡ begins_impl_or_const ts
unfolding begins_impl_or_const
impl_same b ts us h n = rw (const_same b (bumped ts) (bumped us) n, word_same b ts us h, word_same b (bumped ts) (bumped us) n) refl

attribute_same : (b : Twins) (ts us : Tokens) → b.are ts us → b.are (bumped ts) (bumped us) → begins_with_attribute us ≡ begins_with_attribute ts
attribute_same b ts us h n = rw (symbol_same b ts us h, symbol_same b (bumped ts) (bumped us) n, impl_same b ts us h n) refl

behind_same : (b : Twins) (before : Before) (ts us : Tokens) → b.are ts us → b.are (bumped ts) (bumped us) → begins_behind before us ≡ begins_behind before ts
behind_same b befores.End ts us h n = attribute_same b ts us h n
behind_same b befores.Block ts us h n = attribute_same b ts us h n
behind_same b befores.Angle ts us h n = impl_same b ts us h n
behind_same b _ ts us h n = refl

named_same : (b : Twins) (n : Nest) (ts us : Tokens) → b.are ts us → b.are (bumped ts) (bumped us) → begins_const n us ≡ begins_const n ts
named_same b n ts us h k = rw (word_same b ts us h, const_same b (bumped ts) (bumped us) k) refl

within_same : (b : Twins) (ts us : Tokens) → b.are ts us → b.are (bumped ts) (bumped us) → begins_within us ≡ begins_within ts
unfolding begins_within
within_same b ts us h n = rw (word_same b ts us h, identifier_same b (bumped ts) (bumped us) n, item_same b ts us h n) refl

edge_begins : (n : Nest) (ts : Tokens) → is_edge (symbol ts) ≡ true → begins n ts ≡ false
edge_begins n ts e =
    let other : symbol ts ≢ 35 = grind (arith, nat_tests) in
    sym (none_leads n ts (ap leads_item (edge_word ts e)) other (edge_doc ts e))

pub begins_same : (b : Twins) (n : Nest) (ts us : Tokens) → b.are ts us → begins n us ≡ begins n ts
begins_same b n ts us h =
    when (is_edge (symbol ts)) (λ e. edge_begins n us (edge_test b ts us h e) ∙ sym (edge_begins n ts e))
    (λ e. let k = b.next ts us h e in rw (item_same b ts us h k, behind_same b n.before ts us h k, within_same b ts us h k, doc_same b ts us h, named_same b n ts us h k) refl)

pub begins_item_same : (b : Twins) (ts us : Tokens) → b.are ts us → begins_item us ≡ begins_item ts
begins_item_same b ts us h =
    when (is_edge (symbol ts)) (λ e. no_item us (ap leads_item (edge_word us (edge_test b ts us h e))) ∙ sym (no_item ts (ap leads_item (edge_word ts e))))
    (λ e. item_same b ts us h (b.next ts us h e))

-- ---- walks

pub nest_same : (b : Twins) (n : Nest) (ts us : Tokens) → b.are ts us → nest_behind n us ≡ nest_behind n ts
unfolding nest_behind
nest_same b n ts us h =
    rw (symbol_same b ts us h, b.glued ts us h, doc_same b ts us h, identifier_same b ts us h, word_same b ts us h, kind_same b ts us h, end_same b ts us h) refl

pub stops_same : (b : Twins) (e : Extent) (n : Nest) (ts us : Tokens) → b.are ts us → stops e n us ≡ stops e n ts
unfolding stops
stops_same b extents.Tree n ts us h = rw (empty_same b ts us h, symbol_same b ts us h) refl
stops_same b extents.Group n ts us h = rw (empty_same b ts us h, symbol_same b ts us h) refl
stops_same b _ n ts us h = rw (empty_same b ts us h, symbol_same b ts us h, begins_same b n ts us h) refl

goes_same : (b : Twins) (ts us : Tokens) → b.are ts us → goes_on us ≡ goes_on ts
goes_same b ts us h = rw (symbol_same b ts us h) refl

pub ends_same : (b : Twins) (e : Extent) (is_call : Bool) (n : Nest) (ts us : Tokens) → symbol us ≡ symbol ts → b.are (bumped ts) (bumped us) → ends e is_call n us ≡ ends e is_call n ts
unfolding ends
ends_same b extents.Value is_call n ts us s h = rw s refl
ends_same b extents.Item is_call n ts us s h = rw (s, goes_same b (bumped ts) (bumped us) h) refl
ends_same b extents.Macro is_call n ts us s h = rw s refl
ends_same b _ is_call n ts us s h = refl

joined_same : (b : Twins) (last : ℕ) (ts us : Tokens) → b.are ts us → is_joined last us ≡ is_joined last ts
unfolding is_joined
joined_same b last ts us h = rw (symbol_same b ts us h, b.glued ts us h) refl

pub more_same : (b : Twins) (e : Extent) (last : ℕ) (done : List ℕ) (ts us : Tokens) → b.are ts us → more e last done us ≡ more e last done ts
unfolding more has_blank
more_same b extents.Tree last done ts us h = rw (doc_same b ts us h, text_same b ts us h, joined_same b last ts us h) refl
more_same b _ last done ts us h = rw (doc_same b ts us h, text_same b ts us h) refl

pub closing_same : (b : Twins) (bracket : ℕ) (n : Nest) (ts us : Tokens) → b.are ts us → is_closing bracket n us ≡ is_closing bracket n ts
unfolding is_closing
closing_same b bracket n ts us h = rw (empty_same b ts us h, symbol_same b ts us h) refl

-- ---- angle brackets

binder_same : (b : Twins) (ts us : Tokens) → b.are ts us → begins_binder us ≡ begins_binder ts
binder_same b ts us h =
    when (symbol ts == 60)
    (λ e. let n = after_symbol b 60 ts us refl h e in rw (symbol_same b ts us h, kind_same b (bumped ts) (bumped us) n, symbol_same b (bumped ts) (bumped us) n) refl)
    (λ e. rw (symbol_same b ts us h, e) refl)

pub lone_for_same : (b : Twins) (ts us : Tokens) → b.are ts us → is_lone_for us ≡ is_lone_for ts
lone_for_same b ts us h =
    when (bytes_eq (word ts) (codes "for"))
    (λ e. rw (word_same b ts us h, e, binder_same b (bumped ts) (bumped us) (after_word b (codes "for") ts us refl h e)) refl)
    (λ e. rw (word_same b ts us h, e) refl)

header_same : (b : Twins) (n : Nest) (ts us : Tokens) → b.are ts us → is_header_end n us ≡ is_header_end n ts
header_same b n ts us h = rw (lone_for_same b ts us h, symbol_same b ts us h, word_same b ts us h) refl

barred_same : (b : Twins) (r : Reach) (n : Nest) (ts us : Tokens) → b.are ts us → is_barred r n us ≡ is_barred r n ts
barred_same b reaches.Angles n ts us h = rw (begins_same b n ts us h, symbol_same b ts us h, end_same b ts us h) refl
barred_same b reaches.Field n ts us h = rw (begins_same b n ts us h, symbol_same b ts us h, end_same b ts us h) refl
barred_same b reaches.Header n ts us h = rw (begins_same b n ts us h, header_same b n ts us h, symbol_same b ts us h) refl

pub reached_same : (b : Twins) (r : Reach) (n : Nest) (ts us : Tokens) → b.are ts us → is_reached r n us ≡ is_reached r n ts
unfolding is_reached
reached_same b r n ts us h = rw (empty_same b ts us h, barred_same b r n ts us h) refl
