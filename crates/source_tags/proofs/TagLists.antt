-- Tags that are pushed one after another.
use Rattle.source_tags.proofs.Common.{◌≡◌, Bool, Bor, ItemPlace, Option, RowView, Some, None, ℕ, suc, ◌+◌, ◌-◌, ◌<◌, List, [], ◌∷◌, ◌++◌, length, take, get_or, ap, refl, sym, ◌∙◌, append_assoc, append-nil, flat_map, flat_map-append, take_more, arith, TagFile, IsSameTagger, tagged_file}
use Rattle.std.proofs.Common.{drop, zero}
use Rattle.std.proofs.Math.Seq.{drop-cons}
use Rattle.hir_input.specs.Cfg.{AtomView}
use Rattle.source_tags.specs.BlockItems.{BlockItem, FnBlock, Holder, block_item, block_places, holders_behind, inner_blocks, still_around}
use Rattle.rust_paths.specs.declared.names.TextRange.{TextRange}
use Rattle.source_tags.specs.Tags.{BlockTags, TagChoice, tagged_block, block_item_tags, block_items_tags, body_tags, inner_tags, item_told, tag_of, tag_text}
unfoldable use Rattle.source_tags.specs.Tags.{block_tags}
use Rattle.source_tags.specs.declared.tags.TagForm.{TagForm}
use Rattle.source_tags.specs.declared.tags.Tagger.{Tagger}

-- nothing of the file is another
pub same_parts : {p q x y v w : Bor (List ℕ)} {a b : TagForm} {t u : List ℕ} → p ≡ q → a ≡ b → x ≡ y → v ≡ w → t ≡ u
    → ◌≡◌ {A = TagFile} (record { path = p.now; text = t; source = v.now; shown = x.now; form = a }) (record { path = q.now; text = u; source = w.now; shown = y.now; form = b })
same_parts e f g h i = λ k. record { path = (e k).now; text = i k; source = (h k).now; shown = (g k).now; form = f k }

pub same_file : (old new : Tagger) → IsSameTagger old new → tagged_file new ≡ tagged_file old
same_file old new s = same_parts s.0 s.1 s.2 s.3 s.4.0

-- the tag of an item with a name, a letter and a place
pub tag_told : (f : TagFile) (word : List ℕ) (r : RowView) (name letter : List ℕ) (p : ItemPlace) (n l : Option (List ℕ)) (q : Option ItemPlace) → n ≡ Some name → l ≡ Some letter → q ≡ Some p
    → tag_of f word r n l q ≡ Some (tag_text f (item_told r name letter p) word r.scope)
tag_told f word r name letter p n l q a b c = λ k. tag_of f word r (a k) (b k) (c k)

-- what is told of one more, behind what is told of those before it
pub one_more_told : {B : Type 0} (told : TagFile → B → List ℕ) (f again : TagFile) (xs : List B) (i : ℕ) (x : B) (o o1 o2 : List ℕ) → i < length xs → x ≡ get_or xs i x → again ≡ f
    → o1 ≡ o ++ flat_map (told f) (take i xs) → o2 ≡ o1 ++ told again x → o2 ≡ o ++ flat_map (told f) (take (i + 1) xs)
one_more_told told f again xs i x o o1 o2 h e t d g =
    let before = flat_map (told f) (take i xs) in
    g ∙ (λ k. d k ++ told (t k) x) ∙ append_assoc o before (told f x)
    ∙ ap (λ (ys : List ℕ). o ++ ys) (ap (λ (ys : List ℕ). before ++ ys) (sym (append-nil (told f x))) ∙ sym (flat_map-append (told f) (take i xs) (x ∷ []))
    ∙ ap (λ y. flat_map (told f) (take i xs ++ y ∷ [])) e ∙ ap (flat_map (told f)) (sym (take_more xs i x h)))

-- what is told behind something
pub told_behind : (told : TagFile → List ℕ) (f again : TagFile) (first o o1 o2 : List ℕ) → again ≡ f → o1 ≡ o ++ first → o2 ≡ o1 ++ told again → o2 ≡ o ++ (first ++ told f)
told_behind told f again first o o1 o2 t d g = g ∙ (λ k. d k ++ told (t k)) ∙ append_assoc o first (told f)

-- ---- blocks

-- nothing is told where bodies are not asked for, and where no more may stand in one another
pub block_none : (bodies : Option (List AtomView)) (left : ℕ) (f : TagFile) (a : TagChoice) (b : FnBlock) → bodies ≡ None → block_tags bodies left f a b ≡ []
unfolding block_tags
block_none None left f a b e = refl
block_none (Some o) left f a b e = absurd cc

pub block_zero : (bodies : Option (List AtomView)) (left : ℕ) (f : TagFile) (a : TagChoice) (b : FnBlock) → left ≡ 0 → block_tags bodies left f a b ≡ []
unfolding block_tags
block_zero None left f a b e = refl
block_zero (Some o) zero f a b e = refl
block_zero (Some o) (suc n) f a b e = absurd (omega arith)

pub body_none : (block : BlockTags) (a : TagChoice) (word : List ℕ) (scope : List (List ℕ)) (is_active : Bool) (name : Option (List ℕ)) (body : Option TextRange) → ((b : FnBlock) → block b ≡ [])
    → body_tags block a word scope is_active name body ≡ []
body_none block a word scope is_active None body h = refl
body_none block a word scope is_active (Some name) None h = refl
body_none block a word scope is_active (Some name) (Some body) h = h (tagged_block a.reading word (scope ++ name ∷ []) is_active body)

-- what stands in a block, where more may stand in it
pub block_more : (options : List AtomView) (bodies : Option (List AtomView)) (left : ℕ) (f : TagFile) (a : TagChoice) (b : FnBlock) → bodies ≡ Some options → 0 < left
    → block_tags bodies left f a b ≡ block_items_tags (block_tags bodies (left - 1) f a) f a options b [] (block_places a.reading.edition b.text)
    ++ flat_map (inner_tags (block_tags bodies (left - 1) f a) b) (inner_blocks a.reading.edition (block_places a.reading.edition b.text) b.text)
unfolding block_tags
block_more options None left f a b e h = absurd cc
block_more options (Some o) zero f a b e h = absurd (omega arith)
block_more options (Some o) (suc n) f a b e h =
    let same : options ≡ o = cc in
    let one : suc n - 1 ≡ n = omega arith in
    rw (one, same) refl

-- one more item of a block
pub items_more : (told : TagFile → BlockTags) (f again : TagFile) (a : TagChoice) (options : List AtomView) (b : FnBlock) (hs around next : List Holder) (ps : List ItemPlace) (i : ℕ) (p : ItemPlace) (item : BlockItem)
    (o o1 all : List ℕ) → i < length ps → p ≡ get_or ps i p → again ≡ f → around ≡ still_around p.range.start hs → item ≡ block_item a.reading.edition options b.text p
    → o1 ≡ o ++ block_item_tags (told again) again a b around item p → next ≡ holders_behind p.id.kind p.range.end item around
    → o ++ block_items_tags (told f) f a options b hs (drop i ps) ≡ all → o1 ++ block_items_tags (told f) f a options b next (drop (i + 1) ps) ≡ all
items_more told f again a options b hs around next ps i p item o o1 all h e t w is d n inv =
    let rest = drop (i + 1) ps in
    let one : suc i ≡ i + 1 = omega arith in
    let tags = λ (l : List Holder). block_items_tags (told f) f a options b l rest in
    let open_holders = still_around p.range.start hs in
    let read = block_item a.reading.edition options b.text p in
    let whole : drop i ps ≡ p ∷ rest = drop-cons ps i p h ∙ (λ k. sym e k ∷ drop (one k) ps) in
    (λ k. d k ++ tags (n k)) ∙ (λ k. (o ++ block_item_tags (told (t k)) (t k) a b (w k) (is k) p) ++ tags (holders_behind p.id.kind p.range.end (is k) (w k)))
    ∙ append_assoc o (block_item_tags (told f) f a b open_holders read p) (tags (holders_behind p.id.kind p.range.end read open_holders)) ∙ ap (λ (l : List ItemPlace). o ++ block_items_tags (told f) f a options b hs l) (sym whole) ∙ inv
