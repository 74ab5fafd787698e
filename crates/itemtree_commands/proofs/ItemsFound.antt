-- The items of a file by their ids.
use Rattle.std.proofs.Common.{◌≡◌, ℕ, ◌+◌, ◌<◌, ◌==◌, ◌&&◌, Bool, true, false, cond, if◌then◌else◌, List, [], ◌∷◌, ◌++◌, length, take, get_or, Option, Some, None, option_map, is_some, refl, ap, sym, subst, ◌∙◌, arith}
use Rattle.std.specs.HashMap.{get}
use Rattle.std.specs.Option.{option_or}
use Rattle.std.proofs.lemmas.Bool.Decides.{nat_tests}
use Rattle.std.proofs.lemmas.List.{take_more}
use Rattle.hir_input.specs.declared.ids.FileAstId.{FileAstId}
use Rattle.rust_items.specs.declared.source_file.ItemPlace.{ItemPlace}
use Rattle.source_imports.specs.Inner.{id_key}
use Rattle.source_rows.specs.Places.{is_id, place_of}
use Rattle.itemtree_commands.specs.declared.declarations.Declared as code_items
use Rattle.itemtree_commands.specs.ImportTargets.{written_item}
use Rattle.itemtree_commands.specs.Inner.{ItemKey, ItemsById, FindsItems, PutsItem, written_view, found_by, same_item}

-- ---- ids and keys

-- ids that pass the test have one key
one_key : (a b : FileAstId) → is_id a b ≡ true → id_key b ≡ id_key a
one_key a b t =
    let kinds : (id_key b).0 ≡ (id_key a).0 = grind (arith, nat_tests) in
    let hashes : b.hash ≡ a.hash = grind (arith, nat_tests) in
    let numbers : b.number ≡ a.number = grind (arith, nat_tests) in λ i. (kinds i, hashes i, numbers i)

same_test : (m n : ℕ) → (m == n) ≡ (n == m)
same_test m n = grind (arith, nat_tests)

and_turned : (a b c : Bool) → (a && (b && c)) ≡ ((a && b) && c)
and_turned true b c = refl
and_turned false b c = refl

-- the test of ids is that of their keys
key_test : (a b : FileAstId) → is_id a b ≡ same_item (id_key b) (id_key a)
key_test a b =
    and_turned ((id_key a).0 == (id_key b).0) (a.hash == b.hash) (a.number == b.number)
    ∙ (λ i. (same_test (id_key a).0 (id_key b).0 i && same_test a.hash b.hash i) && same_test a.number b.number i)

-- ---- one more item

or_none : {X : Type 0} (o : Option X) → option_or o None ≡ o
or_none None = refl
or_none (Some x) = refl

or_some : {X : Type 0} (o p : Option X) → is_some o ≡ true → o ≡ option_or o p
or_some None p e = absurd (cc)
or_some (Some x) p e = refl

none_of : {X Y : Type 0} (f : X → Y) (o : Option X) → is_some o ≡ false → option_map f o ≡ None
none_of f None e = refl
none_of f (Some x) e = absurd (cc)

some_of : {X Y : Type 0} (f : X → Y) (o : Option X) → is_some o ≡ true → is_some (option_map f o) ≡ true
some_of f None e = absurd (cc)
some_of f (Some x) e = refl

-- of an id that had none
pub put_new : (text : List ℕ) (old new : ItemsById) (p : ItemPlace) (d : code_items.Declared) → written_view d ≡ written_item text p → is_some (get same_item old (id_key p.id)) ≡ false
    → ((q : ItemKey) → get same_item new q ≡ cond (same_item (id_key p.id) q) (Some d) (get same_item old q)) → PutsItem text old new p
put_new text old new p d e none put id = by (is_id id p.id) refl
  where
    by : (b : Bool) → is_id id p.id ≡ b → found_by new id ≡ option_or (found_by old id) (if is_id id p.id then Some (written_item text p) else None)
    by true t =
        let had : found_by old id ≡ None = ap (λ k. option_map written_view (get same_item old k)) (sym (one_key id p.id t)) ∙ none_of written_view (get same_item old (id_key p.id)) none in
        let has : found_by new id ≡ Some (written_item text p) =
        ap (option_map written_view) (put (id_key id) ∙ ap (λ b. cond b (Some d) (get same_item old (id_key id))) (sym (key_test id p.id) ∙ t)) ∙ ap Some e in
        rw (had, t) has
    by false t =
        let has : found_by new id ≡ found_by old id = ap (option_map written_view) (put (id_key id) ∙ ap (λ b. cond b (Some d) (get same_item old (id_key id))) (sym (key_test id p.id) ∙ t)) in
        has ∙ sym (or_none (found_by old id)) ∙ ap (λ b. option_or (found_by old id) (if b then Some (written_item text p) else None)) (sym t)

pub put_key : (text : List ℕ) (old new : ItemsById) (p : ItemPlace) (d : code_items.Declared) (k : ItemKey) → k ≡ id_key p.id → written_view d ≡ written_item text p → is_some (get same_item old k) ≡ false
    → ((q : ItemKey) → get same_item new q ≡ cond (same_item k q) (Some d) (get same_item old q)) → PutsItem text old new p
put_key text old new p d k same e none put =
    put_new text old new p d e (subst (λ x. is_some (get same_item old x) ≡ false) same none) (subst (λ x. (q : ItemKey) → get same_item new q ≡ cond (same_item x q) (Some d) (get same_item old q)) same put)

-- of one that had another
pub put_old : (text : List ℕ) (old new : ItemsById) (p : ItemPlace) → is_some (get same_item old (id_key p.id)) ≡ true → new ≡ old → PutsItem text old new p
put_old text old new p some same id = ap (λ m. found_by m id) same ∙ by (is_id id p.id) refl
  where
    by : (b : Bool) → is_id id p.id ≡ b → found_by old id ≡ option_or (found_by old id) (if is_id id p.id then Some (written_item text p) else None)
    by true t =
        let has : is_some (get same_item old (id_key id)) ≡ true = ap (λ k. is_some (get same_item old k)) (sym (one_key id p.id t)) ∙ some in
        or_some (found_by old id) _ (some_of written_view (get same_item old (id_key id)) has)
    by false t = sym (or_none (found_by old id)) ∙ ap (λ b. option_or (found_by old id) (if b then Some (written_item text p) else None)) (sym t)

-- ---- all items

place_more : (id : FileAstId) (ps : List ItemPlace) (p : ItemPlace) → place_of id (ps ++ p ∷ []) ≡ option_or (place_of id ps) (if is_id id p.id then Some p else None)
place_more id [] p = refl
place_more id (x ∷ ps) p = by (is_id id x.id) refl (place_more id ps p)
  where
    by : (b : Bool) → is_id id x.id ≡ b → place_of id (ps ++ p ∷ []) ≡ option_or (place_of id ps) (if is_id id p.id then Some p else None)
        → place_of id ((x ∷ ps) ++ p ∷ []) ≡ option_or (place_of id (x ∷ ps)) (if is_id id p.id then Some p else None)
    by true t more = rw t refl
    by false t more = rw t more

map_or : {X Y : Type 0} (f : X → Y) (o : Option X) (b : Bool) (x : X) → option_map f (option_or o (if b then Some x else None)) ≡ option_or (option_map f o) (if b then Some (f x) else None)
map_or f None true x = refl
map_or f None false x = refl
map_or f (Some y) b x = refl

finds_more : (text : List ℕ) (old new : ItemsById) (ps : List ItemPlace) (p : ItemPlace) → PutsItem text old new p → FindsItems text old ps → FindsItems text new (ps ++ p ∷ [])
finds_more text old new ps p put finds id =
    put id ∙ ap (λ o. option_or o (if is_id id p.id then Some (written_item text p) else None)) (finds id)
    ∙ sym (map_or (written_item text) (place_of id ps) (is_id id p.id) p) ∙ sym (ap (option_map (written_item text)) (place_more id ps p))

pub finds_next : (text : List ℕ) (old new : ItemsById) (ps : List ItemPlace) (i : ℕ) (d : ItemPlace) → i < length ps → PutsItem text old new (get_or ps i d) → FindsItems text old (take i ps) → FindsItems text new (take (i + 1) ps)
finds_next text old new ps i d low put finds = subst (FindsItems text new) (sym (take_more ps i d low)) (finds_more text old new (take i ps) (get_or ps i d) put finds)
