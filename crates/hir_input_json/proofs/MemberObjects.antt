-- An object whose members are taken out as they are read.
use Rattle.std.proofs.Common.{◌≡◌, ℕ, List, [], ◌∷◌, Option, Some, None, String, Global, Ordering, Equal, string_bytes, nat_cmp, is_eq, cond, false, bytes_eq, refl, sym, ap, ◌∙◌}
use Rattle.std.proofs.lemmas.Map.Text.{is_eq-slice_cmp}
use Rattle.std.proofs.lemmas.Slice.Eq.{bytes_eq-Decides}
use Rattle.hir_input_json.proofs.Common.{slice_cmp, match_ordering, field, with_null, without_key}
use Rattle.std.specs.Map.{set_value}
use Rattle.std.specs.BTreeMap.{is_at}
use Rattle.serde_json.specs.Data.{Data, null, object, Members, no_members, member}
use Rattle.serde_json.specs.Find.{get, get_member}
use Rattle.serde_json.specs.View.{view, members_view}
use Rattle.serde_json.specs.declared.value.Value.{Value}

set_or : (o : Ordering) (e : String Global × Value) (w : Value) (es rest : List (String Global × Value)) (ms : Members) → view w ≡ null → members_view rest ≡ ms
    → members_view (cond (is_eq o) ((e.0, w) ∷ es) (e ∷ rest)) ≡ match_ordering o (member (string_bytes e.0) (view e.1) ms) (member (string_bytes e.0) null (members_view es)) (member (string_bytes e.0) (view e.1) ms)
set_or Equal e w es rest ms is h = ap (λ d. member (string_bytes e.0) d (members_view es)) is
set_or o e w es rest ms is h = ap (member (string_bytes e.0) (view e.1)) h

pub members_set : (name : List ℕ) (es : List (String Global × Value)) (w : Value) → view w ≡ null → members_view (set_value (is_at (λ k. slice_cmp nat_cmp name (string_bytes k))) es w) ≡ with_null name (members_view es)
members_set name [] w is = refl
members_set name (e ∷ es) w is = set_or (slice_cmp nat_cmp name (string_bytes e.0)) e w es _ _ is (members_set name es w is)

absent_or : (o : Ordering) (key : List ℕ) (d : Data) (ms rest : Members) (v : Option Data) → match_ordering o v (Some d) v ≡ None → (v ≡ None → rest ≡ ms)
    → match_ordering o (member key d rest) (member key null ms) (member key d rest) ≡ member key d ms
absent_or Equal key d ms rest v h same = absurd cc
absent_or o key d ms rest v h same = ap (member key d) (same h)

-- what has no such member stays as it is
pub drop_absent : (name : List ℕ) (ms : Members) → get_member name ms ≡ None → with_null name ms ≡ ms
drop_absent name no_members h = refl
drop_absent name (member l e ms) h = absent_or (slice_cmp nat_cmp name l) l e ms (with_null name ms) (get_member name ms) h (drop_absent name ms)

-- ---- the other keys

either : (o : Ordering) (a b : Option Data) → is_eq o ≡ false → match_ordering o a b a ≡ a
either Equal a b e = absurd cc
either o a b e = refl

keeps_at : (o : Ordering) (k key l : List ℕ) (e : Data) (ms : Members) → slice_cmp nat_cmp key l ≡ o → bytes_eq k key ≡ false → get_member k (with_null key ms) ≡ get_member k ms
    → get_member k (match_ordering o (member l e (with_null key ms)) (member l null ms) (member l e (with_null key ms))) ≡ get_member k (member l e ms)
keeps_at Equal k key l e ms is other later =
    let same : key ≡ l = (bytes_eq-Decides key l).0 (sym (is_eq-slice_cmp key l) ∙ ap is_eq is) in
    let apart = is_eq-slice_cmp k l ∙ ap (bytes_eq k) (sym same) ∙ other in
    either (slice_cmp nat_cmp k l) (get_member k ms) (Some null) apart ∙ sym (either (slice_cmp nat_cmp k l) (get_member k ms) (Some e) apart)
keeps_at o k key l e ms is other later = ap (λ r. match_ordering (slice_cmp nat_cmp k l) r (Some e) r) later

get_member-with_null : (k key : List ℕ) (ms : Members) → bytes_eq k key ≡ false → get_member k (with_null key ms) ≡ get_member k ms
get_member-with_null k key no_members other = refl
get_member-with_null k key (member l e ms) other = keeps_at _ k key l e ms refl other (get_member-with_null k key ms other)

-- another key finds what it found
get_other : (k key : List ℕ) (d : Data) → bytes_eq k key ≡ false → get k (without_key key d) ≡ get k d
unfolding without_key
get_other k key (object ms) other = get_member-with_null k key ms other
get_other k key d other = refl

pub field_without : (k key : List ℕ) (d : Data) → bytes_eq k key ≡ false → field k (without_key key d) ≡ field k d
unfolding field
field_without k key d other = rw (get_other k key d other) refl
