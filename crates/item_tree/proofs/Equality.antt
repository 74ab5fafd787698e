-- `==` at items, at columns and at trees decides whether their values are one.
use Rattle.std.proofs.Common.{◌≡◌, ℕ, Bool, false, List, [], ◌∷◌, map, refl, ap, sym, ◌∙◌, rules, Option, None, Some, ◌==◌, ◌&&◌, length, ◌≤◌, Decides}
use Rattle.std.specs.Cmp.{booleans_Decides}
use Rattle.std.specs.Cmp.Lexicographic.{pointwise, pointwise_decides}
use Rattle.item_tree.proofs.Common.{false≢true, Decides-eqb, Decides-and, Decides-like, PlainKind, option_decides, context_decides, path_decides, collection_of, Inline, Outline, Rows, ctor_with, ctor_with_min, plain, constant, struct_item, use_item, extern_crate, impl_item, macro_call, macro_rules, extern_block, Unfolding, first_fixed, arena_of, leaf_row, parent_row, row_kind, layout, same, same_decides, ctor_ids, plain_place, module_row, item_row, key_in, tables_of, use_item_code}
use Rattle.hir_input.specs.contracts.ids.AstIdKindPartialEq.TheImpl as tag_eqs
use Rattle.hir_input.specs.contracts.expand_to.ExpandToPartialEq.TheImpl as expand_eqs
use Rattle.hir_input.specs.Equality.{DecidesEq, DecidesEqOf}
use Rattle.item_tree_attrs.specs.contracts.collect.AttrsOrCfgPartialEq.TheImpl as attrs_eqs
use Rattle.item_tree_attrs.proofs.AttrsEq.{attrs_decide}
use Rattle.item_tree.specs.contracts.items.FieldsShapePartialEq.TheImpl as shape_eqs
use Rattle.item_tree.specs.declared.items.StructValueNsCtor.TheVariants.{NoValueNsCtor, ValueNsCtorWithVis, ValueNsCtorWithMinVis}
use Rattle.item_tree.specs.contracts.items.StructValueNsCtorPartialEq.TheImpl as ctor_eqs
use Rattle.item_tree.specs.contracts.items.ExternCratePartialEq.TheImpl as crate_eqs
use Rattle.item_tree.specs.contracts.items.MacroCallPartialEq.TheImpl as call_eqs
use Rattle.item_tree.specs.contracts.items.ModPartialEq.TheImpl as mod_eqs
use Rattle.item_tree.specs.contracts.items.ModKindPartialEq.TheImpl as kind_eqs
use Rattle.item_tree.specs.contracts.items.StructPartialEq.TheImpl as struct_eqs
use Rattle.item_tree.specs.declared.items.ModItem.TheVariants as item
use Rattle.item_tree.specs.contracts.items.ModItemPartialEq.TheImpl as item_eqs
use Rattle.item_tree.specs.contracts.rows.AstKeyPartialEq.TheImpl as key_eqs
use Rattle.item_tree.specs.Items.{inline_ids, mod_value, struct_value}
use Rattle.item_tree.specs.UseItem.{UseItem}
use Rattle.item_tree.proofs.Canon.{layout-injective}
use Rattle.item_tree.proofs.Column.{plain_place-injective}
use Rattle.item_tree.proofs.UseEq.{aliases_decide}
use Rattle.item_tree.proofs.VisibilityEq.{raw_eq, raw_decides}

never : {P : Type 0} → (P → ⊥) → Decides false P
never f = (λ h. absurd (false≢true h), λ p. absurd (f p))

numbers_decide : (xs ys : List ℕ) → Decides (pointwise ◌==◌ xs ys) (xs ≡ ys)
numbers_decide = pointwise_decides Decides-eqb

-- ---- items by their values

pub tag_decides : DecidesEq tag_eqs.ghosts.eq
tag_decides x y = search rules

shape_decides : DecidesEq shape_eqs.ghosts.eq
shape_decides x y = search rules

expand_decides : DecidesEq expand_eqs.ghosts.eq
expand_decides x y = search rules

pub ctor_decides : DecidesEqOf ctor_ids ctor_eqs.ghosts.eq
ctor_decides NoValueNsCtor NoValueNsCtor = (λ h. refl, λ e. refl)
ctor_decides (ValueNsCtorWithVis i) (ValueNsCtorWithVis j) = Decides-like _ (ap ctor_with) (λ e. cc) (Decides-eqb i j)
ctor_decides (ValueNsCtorWithMinVis v) (ValueNsCtorWithMinVis w) = Decides-like _ (ap ctor_with_min) (λ e. cc) (numbers_decide v.items w.items)
ctor_decides _ _ = never (λ e. cc)

pub crate_decides : DecidesEq crate_eqs.ghosts.eq
crate_decides x y =
    Decides-like _ (λ p i. record { name = p.0 i; visibility = p.1.0 i; alias = p.1.1 i }) (λ e. (ap (λ z. z.name) e, (ap (λ z. z.visibility) e, ap (λ z. z.alias) e)))
    (Decides-and _ _ (numbers_decide x.name y.name) (Decides-and _ _ (Decides-eqb x.visibility y.visibility) (aliases_decide x.alias y.alias _ refl)))

pub call_decides : DecidesEq call_eqs.ghosts.eq
call_decides x y =
    Decides-like _ (λ p i. record { path = p.0 i; expand_to = p.1.0 i; ctxt = p.1.1 i }) (λ e. (ap (λ z. z.path) e, (ap (λ z. z.expand_to) e, ap (λ z. z.ctxt) e)))
    (Decides-and _ _ (path_decides x.path y.path) (Decides-and _ _ (expand_decides x.expand_to y.expand_to) (context_decides x.ctxt y.ctxt)))

pub mod_kind_decides : DecidesEqOf inline_ids kind_eqs.ghosts.eq
mod_kind_decides (Inline xs) (Inline ys) = Decides-like _ (ap Some) (λ e. cc) (numbers_decide xs.items ys.items)
mod_kind_decides Outline Outline = (λ h. refl, λ e. refl)
mod_kind_decides _ _ = never (λ e. cc)

pub mod_decides : DecidesEqOf mod_value mod_eqs.ghosts.eq
mod_decides x y =
    Decides-like _ (λ p i. record { name = p.0 i; visibility = p.1.0 i; items = p.1.1 i }) (λ e. (ap (λ z. z.name) e, (ap (λ z. z.visibility) e, ap (λ z. z.items) e)))
    (Decides-and _ _ (numbers_decide x.name y.name) (Decides-and _ _ (Decides-eqb x.visibility y.visibility) (mod_kind_decides x.kind y.kind)))

pub struct_decides : DecidesEqOf struct_value struct_eqs.ghosts.eq
struct_decides x y =
    Decides-like _ (λ p i. record { name = p.0 i; visibility = p.1.0 i; shape = p.1.1.0 i; ctor = p.1.1.1 i })
    (λ e. (ap (λ z. z.name) e, (ap (λ z. z.visibility) e, (ap (λ z. z.shape) e, ap (λ z. z.ctor) e))))
    (Decides-and _ _ (numbers_decide x.name y.name) (Decides-and _ _ (Decides-eqb x.visibility y.visibility) (Decides-and _ _ (shape_decides x.shape y.shape) (ctor_decides x.value_ns_ctor y.value_ns_ctor))))

pub use_decides : DecidesEq (same use_item_code)
use_decides = same_decides use_item_code

pub ruleset items_decide = (raw_decides, ctor_decides, crate_decides, call_decides, mod_kind_decides, mod_decides, struct_decides, use_decides)

-- ---- items by their rows

plain_decides : (k : PlainKind) (n m : List ℕ) (v w : ℕ) → Decides (pointwise ◌==◌ n m && v == w) (leaf_row (plain k n v) ≡ leaf_row (plain k m w))
plain_decides k n m v w = Decides-like _ (λ p i. leaf_row (plain k (p.0 i) (p.1 i))) (λ e. (cc, cc)) (Decides-and _ _ (numbers_decide n m) (Decides-eqb v w))

module_row-parts : (n m : List ℕ) (v w : ℕ) (o p : Option (List ℕ)) → module_row n v o ≡ module_row m w p → (n ≡ m) × ((v ≡ w) × (o ≡ p))
module_row-parts n m v w None None e = (cc, (cc, refl))
module_row-parts n m v w (Some is) (Some js) e = (cc, (cc, (cc)))
module_row-parts n m v w _ _ e = absurd (cc)

module_row-kind : (n : List ℕ) (v : ℕ) (o : Option (List ℕ)) → row_kind (module_row n v o) ≡ row_kind (module_row [] 0 None)
module_row-kind n v None = refl
module_row-kind n v (Some is) = refl

item_decides : DecidesEqOf item_row item_eqs.ghosts.eq
item_decides (item.Function x) (item.Function y) = plain_decides _ x.name y.name x.visibility y.visibility
item_decides (item.Union x) (item.Union y) = plain_decides _ x.name y.name x.visibility y.visibility
item_decides (item.Enum x) (item.Enum y) = plain_decides _ x.name y.name x.visibility y.visibility
item_decides (item.Static x) (item.Static y) = plain_decides _ x.name y.name x.visibility y.visibility
item_decides (item.Trait x) (item.Trait y) = plain_decides _ x.name y.name x.visibility y.visibility
item_decides (item.TypeAlias x) (item.TypeAlias y) = plain_decides _ x.name y.name x.visibility y.visibility
item_decides (item.Macro2 x) (item.Macro2 y) = plain_decides _ x.name y.name x.visibility y.visibility
item_decides (item.Const x) (item.Const y) =
    Decides-like _ (λ p i. leaf_row (constant (p.0 i) (p.1 i))) (λ e. (cc, cc)) (Decides-and _ _ (option_decides _ numbers_decide x.name y.name) (Decides-eqb x.visibility y.visibility))
item_decides (item.Struct x) (item.Struct y) =
    Decides-like _ (ap (λ z. leaf_row (struct_item z.name z.visibility z.shape z.ctor)))
    (λ e. let n : x.name ≡ y.name = cc in let v : x.visibility ≡ y.visibility = cc in let s : x.shape ≡ y.shape = cc in let c : ctor_ids x.value_ns_ctor ≡ ctor_ids y.value_ns_ctor = cc in
    λ i. record { name = n i; visibility = v i; shape = s i; ctor = c i })
    (struct_decides x y)
item_decides (item.Mod x) (item.Mod y) =
    Decides-like _ (ap (λ z. module_row z.name z.visibility z.items))
    (λ e. let p = module_row-parts x.name y.name x.visibility y.visibility (inline_ids x.kind) (inline_ids y.kind) e in λ i. record { name = p.0 i; visibility = p.1.0 i; items = p.1.1 i })
    (mod_decides x y)
item_decides (item.Use x) (item.Use y) =
    Decides-like _ (ap (λ (u : UseItem). leaf_row (use_item u.visibility u.tree))) (λ e. let v : x.visibility ≡ y.visibility = cc in let t : x.tree ≡ y.tree = cc in λ i. record { visibility = v i; tree = t i })
    (use_decides x y)
item_decides (item.ExternCrate x) (item.ExternCrate y) =
    Decides-like _ (ap (λ z. leaf_row (extern_crate z.name z.visibility z.alias))) (λ e. let n : x.name ≡ y.name = cc in let v : x.visibility ≡ y.visibility = cc in let a : x.alias ≡ y.alias = cc in λ i. record { name = n i; visibility = v i; alias = a i })
    (crate_decides x y)
item_decides (item.ExternBlock x) (item.ExternBlock y) = Decides-like _ (ap (parent_row extern_block)) (λ e. cc) (numbers_decide x.children.items y.children.items)
item_decides (item.Impl x) (item.Impl y) = Decides-like _ (ap (λ b. leaf_row (impl_item b))) (λ e. cc) (booleans_Decides x.is_trait_impl y.is_trait_impl)
item_decides (item.MacroCall x) (item.MacroCall y) =
    Decides-like _ (ap (λ z. leaf_row (macro_call z.path z.expand_to z.ctxt))) (λ e. let p : x.path ≡ y.path = cc in let t : x.expand_to ≡ y.expand_to = cc in let c : x.ctxt ≡ y.ctxt = cc in λ i. record { path = p i; expand_to = t i; ctxt = c i })
    (call_decides x y)
item_decides (item.MacroRules x) (item.MacroRules y) = Decides-like _ (ap (λ n. leaf_row (macro_rules n))) (λ e. cc) (numbers_decide x.name y.name)
item_decides (item.Mod x) y = never (λ e. let k = sym (module_row-kind x.name x.visibility (inline_ids x.kind)) ∙ ap row_kind e in cc)
item_decides x (item.Mod y) = never (λ e. let k = ap row_kind e ∙ module_row-kind y.name y.visibility (inline_ids y.kind) in cc)
item_decides x y = never (λ e. let k = ap row_kind e in cc)

-- ---- columns

key_decides : DecidesEqOf key_in key_eqs.ghosts.eq
key_decides x y =
    Decides-like _ (λ p i. record { hash = p.0 i; number = p.1 i }) (λ e. (ap (λ z. z.hash) e, ap (λ z. z.number) e)) (Decides-and _ _ (Decides-eqb x.hash y.hash) (Decides-eqb x.number y.number))

place_decides : DecidesEqOf plain_place ◌==◌
place_decides i j = Decides-like _ (ap plain_place) (plain_place-injective i j) (Decides-eqb i j)

-- tests of elements, lifted to lists
maps_decide : {X Y : Type 0} (E : X → X → Bool) (f : X → Y) → DecidesEqOf f E → (xs ys : List X) → Decides (pointwise E xs ys) (map f xs ≡ map f ys)
maps_decide E f d [] [] = (λ h. refl, λ e. refl)
maps_decide E f d (x ∷ xs) (y ∷ ys) = Decides-like _ (λ p i. p.0 i ∷ p.1 i) (λ e. (cc, cc)) (Decides-and _ _ (d x y) (maps_decide E f d xs ys))
maps_decide E f d _ _ = never (λ e. cc)

-- the tests of two trees' tables decide whether they unfold alike
pub tables_decide :
    (u w : Unfolding) (is js : List ℕ) (m n : ℕ) (s t : Rows) → length (arena_of u.forest) ≤ first_fixed → layout u ≡ tables_of is m s → layout w ≡ tables_of js n t →
    Decides
    ((m == n && pointwise ◌==◌ is js)
    && (((pointwise tag_eqs.ghosts.eq s.tags.items t.tags.items && pointwise key_eqs.ghosts.eq s.keys.items t.keys.items) && pointwise item_eqs.ghosts.eq s.items.items t.items.items)
    && ((pointwise ◌==◌ s.places.items t.places.items && pointwise attrs_eqs.ghosts.eq s.column.items t.column.items) && pointwise raw_eq s.arena t.arena)))
    (u ≡ w)
tables_decide u w is js m n s t few cs ct =
    Decides-like _
    (λ p. layout-injective u w few (cs ∙ (λ i. record {
      top_place = p.0.0 i;
      top = p.0.1 i;
      tags = p.1.0.0.0 i;
      keys = p.1.0.0.1 i;
      items = p.1.0.1 i;
      places = p.1.1.0.0 i;
      column = p.1.1.0.1 i;
      arena = p.1.1.1 i;
    }) ∙ sym ct))
    (λ e. let t = sym cs ∙ ap layout e ∙ ct in
    ((ap (λ z. z.top_place) t, ap (λ z. z.top) t), (((ap (λ z. z.tags) t, ap (λ z. z.keys) t), ap (λ z. z.items) t), ((ap (λ z. z.places) t, ap (λ z. z.column) t), ap (λ z. z.arena) t))))
    (Decides-and _ _ (Decides-and _ _ (place_decides m n) (numbers_decide is js))
    (Decides-and _ _ (Decides-and _ _ (Decides-and _ _ (pointwise_decides tag_decides s.tags.items t.tags.items) (maps_decide _ key_in key_decides s.keys.items t.keys.items)) (maps_decide _ item_row item_decides s.items.items t.items.items))
    (Decides-and _ _ (Decides-and _ _ (maps_decide _ plain_place place_decides s.places.items t.places.items) (maps_decide _ collection_of attrs_decide s.column.items t.column.items)) (pointwise_decides raw_decides s.arena t.arena))))
