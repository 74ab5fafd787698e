use Rattle.source_tags.proofs.Common.{◌≡◌, ◌+◌, ◌-◌, ◌++◌, ◌∙◌, ◌<◌, Bor, List, ℕ, None, Some, [], All, subst, ap, append-nil, append_assoc, arith, filter, flat_map, length, map, on_ok_weaker, option_copied, rules, string_bytes, sym, false, true, take_all, TagFile, choice_view, if_any, is_chosen, is_listed, listed_view, option_map, row_view, tagged_file, flat_map-map}
use Rattle.std.proofs.lemmas.List.{nil_from_length}
use Rattle.std.proofs.lemmas.Bool.Decides.{nat_tests}
use Rattle.std.specs.Option.{option_or}
use Rattle.std.specs.Prelude.{option_to_list}
use Rattle.hir_input.specs.declared.name.Name.{Name}
use Rattle.source_rows.specs.Labels.{kind_texts}
use Rattle.source_rows.specs.declared.listed.ListedMember.{ListedMember}
use Rattle.source_tags.specs.BlockItems.{block_places, block_row, inner_blocks, modules_of, place_moved_by, word_inside}
use Rattle.source_tags.specs.Inner.{FitsPlace, block_item_view, fn_block_view, holder_view}
use Rattle.source_rows.specs.Listed.{placed_members, told_item}
use Rattle.source_tags.specs.Tags as spec
unfoldable use Rattle.source_tags.specs.Tags.{all_member_tags, block_item_tags, block_tags, tags_at, tags_inside}
use Rattle.source_tags.specs.Views.{tag_choice_view}
use Rattle.source_tags.proofs.TagLists.{block_more, block_none, block_zero, body_none, one_more_told, same_file, told_behind}
use Rattle.source_tags.proofs.tags.Tagger.+bodies.Goals as goal

pub push_block-returns-in_default-clause-text : goal.push_block-returns-in_default-clause-text
push_block-returns-in_default-clause-text t c =
    let none : option_copied c.args.asked.bodies ≡ None = search rules in
    sym (append-nil (string_bytes c.args.out.now)) ∙ ap (λ (l : List ℕ). string_bytes c.args.out.now ++ l)
    (sym (block_none (option_copied c.args.asked.bodies) c.args.left (tagged_file c.args.self.now) (tag_choice_view c.args.asked) (fn_block_view c.args.block) none))

pub push_block-returns-then-left-eq0-clause-text : goal.push_block-returns-then-left-eq0-clause-text
push_block-returns-then-left-eq0-clause-text t c =
    let zero : c.args.left ≡ 0 = grind (arith, nat_tests, c.if-left-eq0.true) in
    sym (append-nil (string_bytes c.args.out.now)) ∙ ap (λ (l : List ℕ). string_bytes c.args.out.now ++ l)
    (sym (block_zero (option_copied c.args.asked.bodies) c.args.left (tagged_file c.args.self.now) (tag_choice_view c.args.asked) (fn_block_view c.args.block) zero))

pub push_block-returns-clause-text : goal.push_block-returns-clause-text
push_block-returns-clause-text t c =
    let f = tagged_file c.args.self.now in
    let a = tag_choice_view c.args.asked in
    let b = fn_block_view c.args.block in
    let left = c.args.left - 1 in
    let tags = spec.block_tags a.bodies left f a in
    let ps = block_places a.reading.edition b.text in
    let some : a.bodies ≡ Some c.in-Some.options.now = search rules in
    let positive : 0 < c.args.left = grind (arith, nat_tests, c.if-left-eq0.false) in
    let same = same_file c.args.self.now c.push_items.new.self c.in_ok-push_items.ensures.same in
    let places = c.deref.ensures.value ∙ c.in_ok-places.ensures.places in
    let again = c.deref-2.ensures.value ∙ c.in_ok-places.ensures.places in
    let blocks = c.deref-3.ensures.value ∙ c.in_ok-blocks.ensures ∙ ap (λ l. inner_blocks a.reading.edition l b.text) again in
    let first = c.in_ok-push_items.ensures.text ∙ ap (λ l. string_bytes c.args.out.now ++ spec.block_items_tags tags f a c.in-Some.options.now b [] l) places in
    let more = block_more c.in-Some.options.now a.bodies c.args.left f a b some positive in
    on_ok_weaker c.push_blocks.result (λ e. told_behind (λ g. flat_map (spec.inner_tags (spec.block_tags a.bodies left g a) b) (inner_blocks a.reading.edition ps b.text)) f (tagged_file c.push_items.new.self)
    (spec.block_items_tags tags f a c.in-Some.options.now b [] ps) (string_bytes c.args.out.now) (string_bytes c.push_items.new.out) (string_bytes c.push_blocks.new.out) same first
    (e ∙ ap (λ l. string_bytes c.push_items.new.out ++ flat_map (spec.inner_tags (spec.block_tags a.bodies left (tagged_file c.push_items.new.self) a) b) l) blocks)
    ∙ ap (λ (l : List ℕ). string_bytes c.args.out.now ++ l) (sym more)) c.push_blocks.ensures.text

pub push_item-returns-then-not-lists-clause-text : goal.push_item-returns-then-not-lists-clause-text
unfolding block_item_tags
push_item-returns-then-not-lists-clause-text t c =
    let row = block_row (fn_block_view c.args.block) (map holder_view c.args.holders.now) (block_item_view c.args.item.now) c.args.place in
    let no : is_listed (choice_view c.args.asked.choice) row ≡ false = sym (ap (is_listed (choice_view c.args.asked.choice)) c.in_ok-row.ensures) ∙ search rules in
    rw no (sym (append-nil (string_bytes c.args.out.now)))

pub push_item-returns-clause-text : goal.push_item-returns-clause-text
unfolding block_item_tags
push_item-returns-clause-text t c =
    let f = tagged_file c.args.self.now in
    let a = tag_choice_view c.args.asked in
    let b = fn_block_view c.args.block in
    let hs = map holder_view c.args.holders.now in
    let row = block_row b hs (block_item_view c.args.item.now) c.args.place in
    let yes : is_listed a.choice row ≡ true = sym (ap (is_listed a.choice) c.in_ok-row.ensures) ∙ search rules in
    let word : c.word_inside-word.result.now ≡ word_inside b.word (modules_of hs) = search rules in
    let place : c.moved_place-place.result ≡ place_moved_by b.base c.args.place = search rules in
    let tags = spec.block_tags a.bodies c.args.left f a in
    rw yes (on_ok_weaker c.push_placed.result (λ e. e ∙ (λ k. string_bytes c.args.out.now ++ spec.tags_at tags f a (word k) (c.in_ok-row.ensures k) (Some (place k)))) c.push_placed.ensures.text)

pub push_block-push_items-requires : goal.push_block-push_items-requires
push_block-push_items-requires t c =
    let positive : 0 < c.args.left = grind (arith, nat_tests, c.if-left-eq0.false) in
    (omega (arith, positive), subst (All (FitsPlace c.args.block.base)) (sym c.deref.ensures.value) (c.in_ok-places.ensures.fit c.args.block.base c.requires))

pub push_body-returns-in_default-3-clause-text : goal.push_body-returns-in_default-3-clause-text
push_body-returns-in_default-3-clause-text t c =
    let f = tagged_file c.args.self.now in
    let a = tag_choice_view c.args.asked in
    let none : a.bodies ≡ None = search rules in
    sym (append-nil (string_bytes c.args.out.now)) ∙ ap (λ (l : List ℕ). string_bytes c.args.out.now ++ l)
    (sym (body_none (spec.block_tags a.bodies c.args.left f a) a c.args.word.now (map (λ (n : Bor Name). n.now) c.args.scope.now) c.args.is_active (option_copied c.args.name) c.args.body (λ b. block_none a.bodies c.args.left f a b none)))

pub push_member_tags-loop-member-preserved : goal.push_member_tags-loop-member-preserved
push_member_tags-loop-member-preserved t c =
    let f = tagged_file c.args.self.now in
    let a = tag_choice_view c.args.asked in
    let scope = map (λ (n : Bor Name). n.now) c.args.scope.now in
    record {
      text = one_more_told (λ g (m : ListedMember). spec.member_tags (spec.block_tags a.bodies c.args.left g a) g a c.args.word.now scope (listed_view m)) f (tagged_file c.loop-member.self)
          c.args.members.now c.loop-member.member-index c.member-item.result (string_bytes c.args.out.now) (string_bytes c.loop-member.out) (string_bytes c.push_member.new.out)
          c.loop-member-test.true c.member-item.is (same_file c.args.self.now c.loop-member.self c.loop-member.invariant.same) c.loop-member.invariant.text c.in_ok-push_member.ensures.text;
      same = search rules;
    }

pub push_member_tags-returns-clause-text : goal.push_member_tags-returns-clause-text
unfolding tags_inside
push_member_tags-returns-clause-text t c =
    let f = tagged_file c.args.self.now in
    let a = tag_choice_view c.args.asked in
    let scope = map (λ (n : Bor Name). n.now) c.args.scope.now in
    let told = spec.member_tags (spec.block_tags a.bodies c.args.left f a) f a c.args.word.now scope in
    let whole = take_all c.loop-member.member-index c.args.members.now (search rules) in
    c.loop-member.invariant.text ∙ ap (λ (l : List ListedMember). string_bytes c.args.out.now ++ flat_map (λ m. told (listed_view m)) l) whole
    ∙ ap (λ (l : List ℕ). string_bytes c.args.out.now ++ l) (sym (flat_map-map told listed_view c.args.members.now))

pub push_placed-returns-clause-text : goal.push_placed-returns-clause-text
unfolding tags_at all_member_tags
push_placed-returns-clause-text t c =
    let f = tagged_file c.args.self.now in
    let a = tag_choice_view c.args.asked in
    let r = row_view c.args.row.now in
    let out = string_bytes c.args.out.now in
    let place = c.args.place in
    let around = spec.holder_at a.reading r place in
    let tags = λ (g : TagFile). spec.block_tags a.bodies c.args.left g a in
    let own = spec.own_tags (tags f) a c.args.word.now r r.id.kind place in
    let tag = if_any (spec.tag f c.args.word.now (option_map (told_item a.reading.closers) place) r) in
    let one = same_file c.args.self.now c.push_item_tag.new.self c.in_ok-push_item_tag.ensures.same in
    let two = same_file c.push_item_tag.new.self c.push_own.new.self c.in_ok-push_own.ensures.same ∙ one in
    let placed : c.told_some.result ≡ option_map (told_item a.reading.closers) place = search rules in
    let first = told_behind (λ g. spec.own_tags (tags g) a c.args.word.now r r.id.kind place) f (tagged_file c.push_item_tag.new.self) tag out (string_bytes c.push_item_tag.new.out) (string_bytes c.push_own.new.out) one
    (c.in_ok-push_item_tag.ensures.text ∙ ap (λ p. out ++ if_any (spec.tag f c.args.word.now p r)) placed) c.in_ok-push_own.ensures.text in
    let named : option_copied c.holder-name.result ≡ around = c.holder-name.ensures ∙ ap (option_or r.name) c.in_ok-type_name.ensures in
    let word = c.scope_word-word.ensures ∙ ap (λ n. spec.scope_word c.args.word.now n (kind_texts r.id.kind).scope) named in
    let scope = ap (map (λ (n : Bor Name). n.now)) c.deref.ensures.value ∙ c.in_ok-scope.ensures ∙ ap (λ n. r.scope ++ option_to_list n) named in
    let chosen = ap (map listed_view) c.deref-2.ensures.value ∙ c.in_ok-members.ensures in
    let members = λ (g : TagFile). spec.tags_inside (tags g) g a (spec.scope_word c.args.word.now around (kind_texts r.id.kind).scope) (r.scope ++ option_to_list around)
    (filter (λ m. is_chosen a.choice (r.level + 1) m.is_active) (placed_members a.reading place r.is_active)) in
    let last = tagged_file c.push_own.new.self in
    on_ok_weaker c.push_member_tags.result (λ e. told_behind members f last (tag ++ own) out (string_bytes c.push_own.new.out) (string_bytes c.push_member_tags.new.out) two first
    (e ∙ (λ k. string_bytes c.push_own.new.out ++ spec.tags_inside (tags last) last a (word k) (scope k) (chosen k)))
    ∙ ap (λ (l : List ℕ). out ++ l) (append_assoc tag own (members f))) c.push_member_tags.ensures.text

pub push_placed-returns-then-is_empty-clause-text : goal.push_placed-returns-then-is_empty-clause-text
unfolding tags_at all_member_tags tags_inside
push_placed-returns-then-is_empty-clause-text t c =
    let f = tagged_file c.args.self.now in
    let a = tag_choice_view c.args.asked in
    let r = row_view c.args.row.now in
    let out = string_bytes c.args.out.now in
    let place = c.args.place in
    let around = spec.holder_at a.reading r place in
    let tags = λ (g : TagFile). spec.block_tags a.bodies c.args.left g a in
    let own = spec.own_tags (tags f) a c.args.word.now r r.id.kind place in
    let tag = if_any (spec.tag f c.args.word.now (option_map (told_item a.reading.closers) place) r) in
    let one = same_file c.args.self.now c.push_item_tag.new.self c.in_ok-push_item_tag.ensures.same in
    let placed : c.told_some.result ≡ option_map (told_item a.reading.closers) place = search rules in
    let first = told_behind (λ g. spec.own_tags (tags g) a c.args.word.now r r.id.kind place) f (tagged_file c.push_item_tag.new.self) tag out (string_bytes c.push_item_tag.new.out) (string_bytes c.push_own.new.out) one
    (c.in_ok-push_item_tag.ensures.text ∙ ap (λ p. out ++ if_any (spec.tag f c.args.word.now p r)) placed) c.in_ok-push_own.ensures.text in
    let few : length c.in_ok-members.members.items ≡ 0 = grind (arith, nat_tests, c.is_empty.ensures, c.if-is_empty.true) in
    let empty = nil_from_length c.in_ok-members.members.items few in
    let none : filter (λ m. is_chosen a.choice (r.level + 1) m.is_active) (placed_members a.reading place r.is_active) ≡ [] = sym c.in_ok-members.ensures ∙ ap (map listed_view) empty in
    let told = spec.member_tags (tags f) f a (spec.scope_word c.args.word.now around (kind_texts r.id.kind).scope) (r.scope ++ option_to_list around) in
    first ∙ ap (λ (l : List ℕ). out ++ (tag ++ l)) (sym (append-nil own)) ∙ ap (λ ms. out ++ (tag ++ (own ++ flat_map told ms))) (sym none)
