-- The modules that a crate's rows speak of are its own, and an import is visible where it stands.
use Rattle.std.proofs.Common.{◌≡◌, ◌≤◌, ◌<◌, ◌==◌, ◌+◌, ℕ, zero, suc, Bool, true, false, ◌&&◌, not, nat_eq, nat_lt, List, [], ◌∷◌, ◌++◌, map, length, flat_map, get_or, Option, Some, None, slice_get, if◌then◌else◌, refl, sym, ap, subst, ◌∙◌, arith, option_map, option_and_then, Contains}
use Rattle.std.specs.{List.enumerate_from, List.list_any, List.AllByRecursion, List.position, Option.option_eq, Option.option_map_or, Option.option_flatten, Cmp.Lexicographic.pointwise}
use Rattle.std.proofs.lemmas.{Bool.false≢true, Option.none-some, Option.same_Some, Option.slice_get-get_or, Option.slice_get_within, Option.get_or_from_slice_get, List.length-map, List.Elements.All-from_recursion, List.Quantifiers.position-Some}
use Rattle.hir_input.specs.declared.ast.PlainKind.TheVariants as plain_kind
use Rattle.hir_input.specs.declared.mod_path.PathKind.{PathKind}
use Rattle.hir_input.specs.declared.mod_path.PathKind.TheVariants as path
use Rattle.hir_input.specs.{Cfg.CfgView, Path.Path}
use Rattle.item_tree.specs.Imports as kept
use Rattle.item_tree.specs.declared.visibility.RawVisibility.{RawVisibility}
use Rattle.item_tree.specs.declared.visibility.RawVisibility.TheVariants as raw
use Rattle.item_tree.specs.Node.{Leaf, plain, constant, struct_item, outline, use_item, extern_crate, impl_item, macro_call, macro_rules, Trunk, inline, extern_block, Node, leaf, parent, Forest, empty, more, Unfolding}
use Rattle.item_tree.specs.Tree.{Tree}
use Rattle.module_tree.specs.declared.data.{ModuleData.ModuleData, ModuleOrigin.ModuleOrigin, ModuleOrigin.TheVariants.CrateRoot, ModuleOrigin.TheVariants.File as file_origin, ModuleOrigin.TheVariants.Inline as inline_origin}
use Rattle.def_map.specs.declared.{push.Owner.Owner, push.Place.Place, kinds.Visibility.Visibility}
use Rattle.def_map.specs.declared.kinds.Namespace.TheVariants.{Values}
use Rattle.def_map.specs.declared.kinds.Visibility.TheVariants as seen_by
use Rattle.def_map.specs.declared.attributes.Marks.{Marks}
use Rattle.def_map.specs.declared.rows.ItemKey.{ItemKey}
use Rattle.def_map.specs.Crates.{Thing, an_item, unseen, parent_of, module_above, module_sees}
use Rattle.def_map.specs.Verdicts.{is_at_least}
use Rattle.def_map.specs.Attributes.{attr_marks}
use Rattle.def_map.specs.Facts.{IsOther}
use Rattle.def_map.specs.Language.{root_crates}
use Rattle.def_map.specs.Inner.Walking.{unseen_other}
use Rattle.def_map.specs.Laws.{IsRising, IsModuleOf, IsWhole}
use Rattle.def_map.specs.ModuleOrder.{is_parent_behind, are_behind}
use Rattle.def_map.specs.Tables as spec
use Rattle.def_map.specs.Tables.{CrateSources, CrateRow, declares, imports, veil, macro_veil, defines_macro, names_crate}
use Rattle.def_map.proofs.Order.{IsAbove, is_within_of, within_itself}

-- ---- parents stand before their modules

one_up : (parents : List (Option ℕ)) (m above count unseen_other : ℕ) → parent_of parents m ≡ Some above → module_above parents count above ≡ Some unseen_other → module_above parents (suc count) m ≡ Some unseen_other
one_up parents m above count unseen_other up says = ap (option_and_then (module_above parents count)) up ∙ says

both : (a b : Bool) → (a && b) ≡ true → (a ≡ true) × (b ≡ true)
both true b e = (refl, e)
both false b e = absurd (false≢true e)

lt_of : (a b : ℕ) → nat_lt a b ≡ true → a < b
lt_of a b e = grind (arith, e)

behind_at : (k : ℕ) (ps : List (Option ℕ)) (i : ℕ) (p : Option ℕ) → are_behind k ps ≡ true → slice_get ps i ≡ Some p → is_parent_behind (k + i) p ≡ true
behind_at k [] i p e f = absurd (none-some p f)
behind_at k (q ∷ qs) zero p e f =
    let here : k ≡ k + 0 = omega arith in
    subst (λ (n : ℕ). is_parent_behind n p ≡ true) here (subst (λ (o : Option ℕ). is_parent_behind k o ≡ true) (same_Some q p f) (both (is_parent_behind k q) (are_behind (k + 1) qs) e).0)
behind_at k (q ∷ qs) (suc i) p e f =
    let next : (k + 1) + i ≡ k + suc i = omega arith in
    subst (λ (n : ℕ). is_parent_behind n p ≡ true) next (behind_at (k + 1) qs i p (both (is_parent_behind k q) (are_behind (k + 1) qs) e).1 f)

module _ (parents : List (Option ℕ)) (ordered : are_behind 0 parents ≡ true) where
  before : (m q : ℕ) → slice_get parents m ≡ Some (Some q) → q < m
  before m q e = let h : is_parent_behind (0 + m) (Some q) ≡ true = behind_at 0 parents m (Some q) ordered e in let at : 0 + m ≡ m = omega arith in lt_of q m (subst (λ (n : ℕ). is_parent_behind n (Some q) ≡ true) at h)

  pub rising : IsRising parents
  rising m q e = by (slice_get parents m) refl e
    where
      by : (o : Option (Option ℕ)) → slice_get parents m ≡ o → option_flatten o ≡ Some q → q < m
      by None d h = absurd (none-some q h)
      by (Some None) d h = absurd (none-some q h)
      by (Some (Some r)) d h = before m q (d ∙ ap Some h)

  -- the root stands above all
  root_above : (n m : ℕ) → m ≤ n → m < length parents → IsAbove parents m 0
  root_above n zero low within = (0, refl)
  root_above zero (suc k) low within = absurd (omega arith)
  root_above (suc n) (suc k) low within = by (λ q h g. root_above n q h g) (slice_get parents (suc k)) refl (get_or parents (suc k) None, slice_get-get_or parents (suc k) None within)
    where
      up : ((q : ℕ) → q ≤ n → q < length parents → IsAbove parents q 0) → (q : ℕ) → slice_get parents (suc k) ≡ Some (Some q) → IsAbove parents (suc k) 0
      up rec q d =
          let less : q < suc k = before (suc k) q d in
          let found = rec q (omega arith) (omega arith) in
          (suc found.0, one_up parents (suc k) q found.0 0 (ap option_flatten d) found.1)

      by : ((q : ℕ) → q ≤ n → q < length parents → IsAbove parents q 0) → (o : Option (Option ℕ)) → slice_get parents (suc k) ≡ o → (p : Option ℕ) × (slice_get parents (suc k) ≡ Some p) → IsAbove parents (suc k) 0
      by rec None d f = absurd (none-some f.0 (sym d ∙ f.1))
      by rec (Some None) d f =
          let h : is_parent_behind (0 + suc k) None ≡ true = behind_at 0 parents (suc k) None ordered d in
          let at : 0 + suc k ≡ suc k = omega arith in
          absurd (false≢true (subst (λ (i : ℕ). is_parent_behind i None ≡ true) at h))
      by rec (Some (Some q)) d f = up rec q d

-- ---- a visibility in a path is that of a module around

module _ (parents : List (Option ℕ)) (m : ℕ) where
  child_above : (steps at c : ℕ) → spec.child_toward parents m steps at ≡ Some c → IsAbove parents at c
  child_above zero at c e = absurd (none-some c e)
  child_above (suc steps) at c e = by (λ above h. child_above steps above c h) (parent_of parents at) refl e
    where
      next : ((above : ℕ) → spec.child_toward parents m steps above ≡ Some c → IsAbove parents above c) → (above : ℕ) → parent_of parents at ≡ Some above → (b : Bool)
          → (if b then Some at else spec.child_toward parents m steps above) ≡ Some c → IsAbove parents at c
      next rec above d true h = (0, h)
      next rec above d false h = let up = rec above h in (suc up.0, one_up parents at above up.0 c d up.1)

      by : ((above : ℕ) → spec.child_toward parents m steps above ≡ Some c → IsAbove parents above c) → (o : Option ℕ) → parent_of parents at ≡ o
          → option_and_then (λ above. if above == m then Some at else spec.child_toward parents m steps above) o ≡ Some c → IsAbove parents at c
      by rec None d h = absurd (none-some c h)
      by rec (Some above) d h = next rec above d (above == m) h

module _ (parents : List (Option ℕ)) (s : CrateSources) (at : ℕ) where
  names_above : (names : List (List ℕ)) (m c : ℕ) → IsAbove parents at m → spec.around_by_names parents s at names m ≡ Some c → IsAbove parents at c
  names_above [] m c up e = subst (λ (k : ℕ). IsAbove parents at k) (same_Some m c e) up
  names_above (x ∷ xs) m c up e = by (λ child h g. names_above xs child c h g) (spec.child_toward parents m at at) refl e
    where
      next : ((child : ℕ) → IsAbove parents at child → spec.around_by_names parents s at xs child ≡ Some c → IsAbove parents at c) → (child : ℕ) → IsAbove parents at child → (b : Bool)
          → (if b then spec.around_by_names parents s at xs child else None) ≡ Some c → IsAbove parents at c
      next rec child h true g = rec child h g
      next rec child h false g = absurd (none-some c g)

      by : ((child : ℕ) → IsAbove parents at child → spec.around_by_names parents s at xs child ≡ Some c → IsAbove parents at c) → (o : Option ℕ) → spec.child_toward parents m at at ≡ o
          → option_and_then (λ child. if option_eq (pointwise nat_eq) (spec.module_name s.modules child) (Some x) then spec.around_by_names parents s at xs child else None) o ≡ Some c → IsAbove parents at c
      by rec None d g = absurd (none-some c g)
      by rec (Some child) d g = next rec child (child_above parents m at at child d) (option_eq (pointwise nat_eq) (spec.module_name s.modules child) (Some x)) g

  module _ (ordered : are_behind 0 parents ≡ true) (within : at < length parents) where
    root : IsAbove parents at 0
    root = root_above parents ordered at at (omega arith) within

    by_edition : (b : Bool) (m : ℕ) → (if b then Some 0 else None) ≡ Some m → IsAbove parents at m
    by_edition true m e = subst (λ (k : ℕ). IsAbove parents at k) (same_Some 0 m e) root
    by_edition false m e = absurd (none-some m e)

    start_above : (kind : PathKind) (m : ℕ) → spec.around_start parents s kind at ≡ Some m → IsAbove parents at m
    start_above path.Crate m e = subst (λ (k : ℕ). IsAbove parents at k) (same_Some 0 m e) root
    start_above (path.Super count) m e = (count, e)
    start_above (path.DollarCrate c) m e = absurd (none-some m e)
    start_above path.Plain m e = by_edition s.manifest.is_2015 m e
    start_above path.Abs m e = by_edition s.manifest.is_2015 m e

    around_above : (p : Path) (o : Option ℕ) (c : ℕ) → spec.around_start parents s p.kind at ≡ o → option_and_then (spec.around_by_names parents s at p.names) o ≡ Some c → IsAbove parents at c
    around_above p None c d e = absurd (none-some c e)
    around_above p (Some m) c d e = names_above p.names m c (start_above p.kind m d) e

    by_module : (p : Path) (o : Option ℕ) → spec.named_module_around parents s at p ≡ o → module_sees parents at (option_map_or seen_by.Module o seen_by.Public) ≡ true
    by_module p None d = refl
    by_module p (Some c) d = is_within_of parents (rising parents ordered) at c (around_above p (spec.around_start parents s p.kind at) c refl d)

    -- an item is seen where it stands
    pub sees_own : (v : RawVisibility) → module_sees parents at (spec.visibility_in parents s at v) ≡ true
    sees_own raw.Public = refl
    sees_own raw.PubCrate = is_within_of parents (rising parents ordered) at 0 root
    sees_own (raw.PubSelf e) = within_itself parents at
    sees_own (raw.Module p e) = by_module p (spec.named_module_around parents s at p) refl

-- ---- rows

module _ (parents : List (Option ℕ)) where
  -- the modules that a row speaks of are the crate's
  abbrev pub IsFine : CrateRow → Type 0
  IsFine (declares d) = IsModuleOf parents d.thing
  IsFine (imports at a v x) = (at < length parents) × (module_sees parents at v ≡ true)
  IsFine (veil at v) = Unit {0}
  IsFine macro_veil = Unit {0}
  IsFine (defines_macro name key) = Unit {0}
  IsFine (names_crate name) = Unit {0}

  abbrev pub AreFine : List CrateRow → Type 0
  AreFine rows = AllByRecursion IsFine rows

  fine_append : (xs ys : List CrateRow) → AreFine xs → AreFine ys → AreFine (xs ++ ys)
  fine_append [] ys f g = g
  fine_append (x ∷ xs) ys f g = (f.0, fine_append xs ys f.1 g)

  fine_if : (b : Bool) (xs ys : List CrateRow) → AreFine xs → AreFine ys → AreFine (if b then xs else ys)
  fine_if true xs ys f g = f
  fine_if false xs ys f g = g

  module _ (s : CrateSources) (sized : length s.modules ≡ length parents) (ordered : are_behind 0 parents ≡ true) where
    module _ (o : Owner) (within : o.place.at < length parents) where
      module_within : (m : ℕ) → spec.module_of s.modules o.place.at o.id ≡ Some m → m < length parents
      module_within m e = let h = (position-Some-within s.modules m e) in omega (arith, h, sized)
        where
          position-Some-within : (ms : List ModuleData) (k : ℕ) → position (spec.is_module_of o.place.at o.id) ms ≡ Some k → k < length ms
          position-Some-within [] k f = absurd (none-some k f)
          position-Some-within (n ∷ ms) k f = (position-Some (spec.is_module_of o.place.at o.id) (n ∷ ms) k n f).0

      fine_mod : (name : List ℕ) (v : Visibility) (found : Option ℕ) → spec.module_of s.modules o.place.at o.id ≡ found → AreFine (spec.mod_rows o name v found)
      fine_mod name v None e = (tt, (tt, tt))
      fine_mod name v (Some m) e = (module_within m e, fine_if (spec.inner_place o m).is_certain [] (veil m seen_by.Public ∷ []) tt (tt, tt))

      fine_plain : (k : _) (name : List ℕ) (v : Visibility) → IsFine (spec.plain_declared o k name v)
      fine_plain plain_kind.Fn name v = tt
      fine_plain plain_kind.Static name v = tt
      fine_plain plain_kind.MacroDef name v = tt
      fine_plain plain_kind.Enum name v = tt
      fine_plain plain_kind.Trait name v = tt
      fine_plain plain_kind.TypeAlias name v = tt
      fine_plain plain_kind.Union name v = tt

      fine_const : (name : Option (List ℕ)) (v : Visibility) → AreFine (spec.const_rows o name v)
      fine_const None v = tt
      fine_const (Some name) v = (tt, tt)

      fine_ctor : (name : List ℕ) (own : Visibility) (v : Option Visibility) → AreFine (spec.ctor_rows parents o name own v)
      fine_ctor name own None = tt
      fine_ctor name own (Some v) =
          fine_if (is_at_least parents v own) (spec.name_row o Values name (an_item (spec.owner_key o)) v ∷ []) (spec.name_row o Values name unseen own ∷ []) (tt, tt) (tt, tt)

      fine_crate : (name : Option (List ℕ)) (v : Visibility) → AreFine (spec.crate_rows o name v)
      fine_crate None v = tt
      fine_crate (Some name) v = (tt, fine_if (o.place.at == 0) (names_crate name ∷ []) [] (tt, tt) tt)

      fine_imports : (v : Visibility) (xs : List kept.Import) → module_sees parents o.place.at v ≡ true → AreFine (map (spec.import_row o v) xs)
      fine_imports v [] h = tt
      fine_imports v (x ∷ xs) h = ((within, h), fine_imports v xs h)

      fine_use : (v : Visibility) (t : Tree) → module_sees parents o.place.at v ≡ true → AreFine (spec.use_rows o v t)
      fine_use v t h =
          fine_if (o.place.is_certain && not o.marks.is_foreign) _ [] (fine_append _ _ (fine_imports v (kept.imports t) h) (fine_if _ [] (veil o.place.at v ∷ []) tt (tt, tt))) tt

      fine_leaf : {V : Type 0} (see : V → Visibility) → ((v : V) → module_sees parents o.place.at (see v) ≡ true) → (l : Leaf V) → AreFine (spec.leaf_rows parents s o see l)
      fine_leaf see h (plain k name v) = (fine_plain k name (see v), tt)
      fine_leaf see h (constant name v) = fine_const name (see v)
      fine_leaf see h (struct_item name v shape c) = (tt, fine_ctor name (spec.ctor_limit parents o.marks (see v)) (option_map (spec.ctor_limit parents o.marks) (spec.ctor_visibility parents see c)))
      fine_leaf see h (outline name v) = fine_mod name (see v) (spec.module_of s.modules o.place.at o.id) refl
      fine_leaf see h (use_item v t) = fine_use (see v) t (h v)
      fine_leaf see h (extern_crate name v alias) = fine_crate _ (see v)
      fine_leaf see h (impl_item of_trait) = tt
      fine_leaf see h (macro_call called e x) = (tt, tt)
      fine_leaf see h (macro_rules name) = (tt, fine_if o.marks.is_exported _ [] (tt, tt) tt)

      fine_trunk : {V : Type 0} (see : V → Visibility) (t : Trunk V) → AreFine (spec.trunk_rows parents s o see t)
      fine_trunk see (inline name v) = fine_mod name (see v) (spec.module_of s.modules o.place.at o.id) refl
      fine_trunk see extern_block = tt

      place_within : {V : Type 0} (t : Trunk V) (q : Place) → spec.place_inside parents s o t ≡ Some q → q.at < length parents
      place_within (inline name v) q e = by (spec.module_of s.modules o.place.at o.id) refl e
        where
          by : (found : Option ℕ) → spec.module_of s.modules o.place.at o.id ≡ found → option_map (spec.inner_place o) found ≡ Some q → q.at < length parents
          by None d f = absurd (none-some q f)
          by (Some m) d f = subst (λ (p : Place). p.at < length parents) (same_Some (spec.inner_place o m) q f) (module_within m d)
      place_within extern_block q e = subst (λ (p : Place). p.at < length parents) (same_Some (spec.inner_place o o.place.at) q e) within

    fine_marked : (at : ℕ) (m : Marks) → AreFine (spec.marked_rows at m)
    fine_marked at m = fine_if m.is_veiling (veil at seen_by.Public ∷ []) [] (tt, tt) tt

    fine_present : (at : ℕ) (m : Marks) (cfg : Option CfgView) (rows : List CrateRow) → AreFine rows → AreFine (spec.present_by s.manifest.features at m cfg rows)
    fine_present at m None rows f = fine_append (spec.marked_rows at m) rows (fine_marked at m) f
    fine_present at m (Some cfg) rows f = fine_if _ (veil at seen_by.Public ∷ macro_veil ∷ []) [] (tt, (tt, tt)) tt

    fine_inside : (f : Forest) → ((p : Place) → p.at < length parents → AreFine (spec.forest_rows parents s p f)) → (q : Option Place) → ((r : Place) → q ≡ Some r → r.at < length parents)
        → AreFine (option_map_or (λ inner. spec.forest_rows parents s inner f) q [])
    fine_inside f rec None h = tt
    fine_inside f rec (Some q) h = rec q (h q refl)

    mutual
      fine_node : (p : Place) (n : Node) → p.at < length parents → AreFine (spec.node_rows parents s p n)
      fine_node p (leaf h l) within =
          fine_present p.at (attr_marks h.attrs.attrs) h.attrs.false_cfg _ (fine_leaf (spec.owner_of parents s p (leaf h l)) within (spec.visibility_in parents s p.at) (sees_own parents s p.at ordered within) l)
      fine_node p (parent h t f) within =
          let o = spec.owner_of parents s p (parent h t f) in
          fine_present p.at (attr_marks h.attrs.attrs) h.attrs.false_cfg _
          (fine_append _ _ (fine_trunk o within (spec.visibility_in parents s p.at) t) (fine_inside f (λ r h. fine_forest r f h) (spec.place_inside parents s o t) (λ q e. place_within o within t q e)))

      fine_forest : (p : Place) (f : Forest) → p.at < length parents → AreFine (spec.forest_rows parents s p f)
      fine_forest p empty within = tt
      fine_forest p (more n f) within = fine_append (spec.node_rows parents s p n) (spec.forest_rows parents s p f) (fine_node p n within) (fine_forest p f within)

    fine_file : (at : ℕ) (words : Option ℕ) (u : Option Unfolding) → at < length parents → AreFine (spec.file_rows parents s at words u)
    fine_file at words None within = (tt, (tt, tt))
    fine_file at words (Some u) within =
        fine_append (spec.hidden_rows u words) _ (fine_if (spec.hides_exports u words) (macro_veil ∷ []) [] (tt, tt) tt) (fine_present at (attr_marks u.top_attrs.attrs) u.top_attrs.false_cfg _ (fine_forest _ u.forest within))

    fine_origin : (at file : ℕ) (origin : ModuleOrigin) → at < length parents → AreFine (spec.origin_rows parents s at file origin)
    fine_origin at file CrateRoot within = fine_file at (slice_get s.export_words file) (slice_get s.trees file) within
    fine_origin at file (file_origin a) within = fine_file at (slice_get s.export_words file) (slice_get s.trees file) within
    fine_origin at file (inline_origin a) within = tt

    fine_modules : (k : ℕ) (ms : List ModuleData) → k + length ms ≤ length parents → AreFine (flat_map (spec.module_rows parents s) (enumerate_from k ms))
    fine_modules k [] h = tt
    fine_modules k (m ∷ ms) h = fine_append (spec.module_rows parents s (k, m)) _ (fine_origin k m.file m.origin (omega arith)) (fine_modules (k + 1) ms (omega arith))

    fine_root_crates : (names : List (List ℕ)) → AreFine (map spec.root_crate names)
    fine_root_crates [] = tt
    fine_root_crates (name ∷ names) = (tt, fine_root_crates names)

    pub rows_fine : AreFine (spec.rows_with parents s)
    rows_fine =
        let names = root_crates s.manifest.is_2015 in
        fine_append (map spec.root_crate names ++ spec.expanded_rows s.allows_expanded) _
        (fine_append (map spec.root_crate names) (spec.expanded_rows s.allows_expanded) (fine_root_crates names) (fine_if s.allows_expanded (macro_veil ∷ []) [] (tt, tt) tt))
        (fine_modules 0 s.modules (omega arith))

-- ---- the crate that rows make

module _ {X : Type 0} (P : X → Type 0) (xs : List X) (f : AllByRecursion P xs) where
  of_all : (x : X) → Contains xs x → P x
  of_all x h = subst P h.2 (All-from_recursion P xs f h.0 x h.1)

  of_place : (i : ℕ) (x : X) → slice_get xs i ≡ Some x → P x
  of_place i x e = subst P (get_or_from_slice_get xs i x x e) (All-from_recursion P xs f i x (slice_get_within xs i x e))

module _ (parents : List (Option ℕ)) where
  declared_fine : (rows : List CrateRow) → AreFine parents rows → AllByRecursion (λ d. IsModuleOf parents d.thing) (flat_map spec.row_declarations rows)
  declared_fine [] f = tt
  declared_fine (declares d ∷ rows) f = (f.0, declared_fine rows f.1)
  declared_fine (imports at a v x ∷ rows) f = declared_fine rows f.1
  declared_fine (veil at v ∷ rows) f = declared_fine rows f.1
  declared_fine (macro_veil ∷ rows) f = declared_fine rows f.1
  declared_fine (defines_macro name key ∷ rows) f = declared_fine rows f.1
  declared_fine (names_crate name ∷ rows) f = declared_fine rows f.1

  imports_fine : (rows : List CrateRow) → AreFine parents rows → AllByRecursion (λ u. (u.parent < length parents) × (module_sees parents u.parent u.visibility ≡ true)) (flat_map spec.row_imports rows)
  imports_fine [] f = tt
  imports_fine (declares d ∷ rows) f = imports_fine rows f.1
  imports_fine (imports at a v x ∷ rows) f = (f.0, imports_fine rows f.1)
  imports_fine (veil at v ∷ rows) f = imports_fine rows f.1
  imports_fine (macro_veil ∷ rows) f = imports_fine rows f.1
  imports_fine (defines_macro name key ∷ rows) f = imports_fine rows f.1
  imports_fine (names_crate name ∷ rows) f = imports_fine rows f.1

  unseen_fine : (names : List (List ℕ)) → AllByRecursion (λ p. IsModuleOf parents p.1) (map unseen_other names)
  unseen_fine [] = tt
  unseen_fine (name ∷ names) = (tt, unseen_fine names)

  others_fine : (rows : List CrateRow) (crates : Option (List (List ℕ))) (n : List ℕ) (t : Thing ItemKey) → IsOther (spec.others_from rows crates) n t → IsModuleOf parents t
  others_fine rows None n t e = subst (IsModuleOf parents) (sym e) tt
  others_fine rows (Some crates) n t h = by_veil (list_any spec.is_root_veil rows) h
    where
      by_veil : (b : Bool) → IsOther (if b then None else Some (map unseen_other (spec.other_names rows crates))) n t → IsModuleOf parents t
      by_veil true e = subst (IsModuleOf parents) (sym e) tt
      by_veil false h = of_all (λ (p : List ℕ × Thing ItemKey). IsModuleOf parents p.1) (map unseen_other (spec.other_names rows crates)) (unseen_fine (spec.other_names rows crates)) (n, t) h

pub whole : (s : CrateSources) → are_behind 0 (spec.parents_of s.modules) ≡ true → 0 < length s.modules → IsWhole (spec.crate_of s)
whole s ordered some =
    let parents = spec.parents_of s.modules in
    let rows = spec.rows_of s in
    let sized : length s.modules ≡ length parents = sym (length-map s.modules spec.parent_number) in
    let fine = rows_fine parents s sized ordered in
    record {
      root = omega (arith, sized, some);
      rising = rising parents ordered;
      declarations = λ x h. of_all (λ d. IsModuleOf parents d.thing) (flat_map spec.row_declarations rows) (declared_fine parents rows fine) x h;
      others = λ n t h. others_fine parents rows s.manifest.crates n t h;
      imports = λ i u e. of_place (λ u. (u.parent < length parents) × (module_sees parents u.parent u.visibility ≡ true)) (flat_map spec.row_imports rows) (imports_fine parents rows fine) i u e;
    }
