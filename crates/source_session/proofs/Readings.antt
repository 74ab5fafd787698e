-- Lines without what is read of them elsewhere.
use Rattle.std.proofs.Common.{◌≡◌, ℕ, true, false, ◌||◌, if◌then◌else◌, bytes_eq, List, Option, Some, None, Ordering, Less, Equal, Greater, nat_cmp, is_eq, length, codes, is_none, refl, ap, sym, subst, ◌∙◌}
use Rattle.std.proofs.lemmas.Map.Text.{is_eq-slice_cmp}
use Rattle.source_session.proofs.Common.{bytes_eq-Decides, slice_cmp, match_ordering, option_map, unwrap_or, right, wrong, Tells, pointer_in, field, unless_null, with_null, without_key, field_without, is_known, unknown_key, only_known, Settings, settings, Asked, line_asked, first_line, later_line, Open, asked_of, crate_count, of_opened, of_session}
use Rattle.serde_json.specs.declared.value.Value.{Value}
use Rattle.serde_json.specs.Data.{Data, null, boolean, number, string, array, object, Members, no_members, member}
use Rattle.serde_json.specs.View.{view}
use Rattle.hir_input_json.specs.declared.fault.Fault.{Fault}
use Rattle.source_session.specs.declared.keys.LineObject.{LineObject}
use Rattle.source_session.specs.declared.keys.LineObject.TheVariants.{Whole}

-- ---- lines

-- an object without what opens a session
abbrev pub rest_of : Data → Data
rest_of d = without_key (codes "edition") (without_key (codes "skipped") (without_key (codes "crates") d))

-- has the same edits and shows
pub asked_rest : (count : ℕ) (d : Data) → line_asked count (rest_of d) ≡ line_asked count d
asked_rest count d =
    let a = without_key (codes "crates") d in
    let b = without_key (codes "skipped") a in
    let edits : field (codes "edits") (rest_of d) ≡ field (codes "edits") d = field_without (codes "edits") (codes "edition") b refl ∙ field_without (codes "edits") (codes "skipped") a refl ∙ field_without (codes "edits") (codes "crates") d refl in
    let shows : field (codes "shows") (rest_of d) ≡ field (codes "shows") d = field_without (codes "shows") (codes "edition") b refl ∙ field_without (codes "shows") (codes "skipped") a refl ∙ field_without (codes "shows") (codes "crates") d refl in
    rw (edits, shows) refl

module _ (d : Data) (s : Settings) (n : ℕ) (known : only_known Whole d ≡ right tt) (opened : settings d ≡ right s) (count : n ≡ length s.crates) where
  pub first_read : (a : Asked) → line_asked n (rest_of d) ≡ right a → first_line d ≡ right (s, a)
  first_read a e = rw (known, opened, subst (λ k. line_asked k d ≡ right a) count (sym (asked_rest n d) ∙ e)) refl

  wrong_rest : (p : List ℕ) → line_asked n (rest_of d) ≡ wrong p → first_line d ≡ wrong p
  wrong_rest p e = rw (known, opened, subst (λ k. line_asked k d ≡ wrong p) count (sym (asked_rest n d) ∙ e)) refl

  pub first_tells : (e : Fault) → Tells (line_asked n (rest_of d)) e → Tells (first_line d) e
  first_tells e h = λ w. wrong_rest (pointer_in e) (h w)

-- ---- lines without their ids

known_or : (o : LineObject) (key : List ℕ) (d : Data) (ms : Members) → is_known o key ≡ true → unknown_key o (member key d ms) ≡ unknown_key o ms
known_or o key d ms known = rw known (elim (is_none (unless_null d)) as (λ b. (if b || true then unknown_key o ms else Some key) ≡ unknown_key o ms) [ true ↦ refl | false ↦ refl ])

known_at : (c : Ordering) (o : LineObject) (key l : List ℕ) (d : Data) (ms : Members) → slice_cmp nat_cmp key l ≡ c → is_known o key ≡ true → unknown_key o (with_null key ms) ≡ unknown_key o ms
    → unknown_key o (match_ordering c (member l d (with_null key ms)) (member l null ms) (member l d (with_null key ms))) ≡ unknown_key o (member l d ms)
known_at Less o key l d ms is known same = ap (λ u. if is_none (unless_null d) || is_known o l then u else Some l) same
known_at Equal o key l d ms is known same =
    let one : key ≡ l = (bytes_eq-Decides key l).0 (sym (is_eq-slice_cmp key l) ∙ ap is_eq is) in
    sym (known_or o l d ms (subst (λ k. is_known o k ≡ true) one known))
known_at Greater o key l d ms is known same = ap (λ u. if is_none (unless_null d) || is_known o l then u else Some l) same

-- a key that it may have is as good as absent
unknown_without : (o : LineObject) (key : List ℕ) (ms : Members) → is_known o key ≡ true → unknown_key o (with_null key ms) ≡ unknown_key o ms
unknown_without o key no_members known = refl
unknown_without o key (member l d ms) known = known_at _ o key l d ms refl known (unknown_without o key ms known)

known_without : (o : LineObject) (key : List ℕ) (d : Data) → is_known o key ≡ true → only_known o (without_key key d) ≡ only_known o d
unfolding without_key
known_without o key (object ms) known = rw (unknown_without o key ms known) refl
known_without o key null known = refl
known_without o key (boolean b) known = refl
known_without o key (number n) known = refl
known_without o key (string s) known = refl
known_without o key (array ds) known = refl

first_no_id : (d : Data) → first_line (without_key (codes "id") d) ≡ first_line d
first_no_id d =
    let without_id : (key : List ℕ) → bytes_eq key (codes "id") ≡ false → field key (without_key (codes "id") d) ≡ field key d = λ key. field_without key (codes "id") d in
    rw (known_without Whole (codes "id") d refl, without_id (codes "crates") refl, without_id (codes "skipped") refl, without_id (codes "edition") refl, without_id (codes "start") refl, without_id (codes "edits") refl, without_id (codes "shows") refl) refl

later_no_id : (count : ℕ) (d : Data) → later_line count (without_key (codes "id") d) ≡ later_line count d
later_no_id count d =
    let without_id : (key : List ℕ) → bytes_eq key (codes "id") ≡ false → field key (without_key (codes "id") d) ≡ field key d = λ key. field_without key (codes "id") d in
    rw (known_without Whole (codes "id") d refl, without_id (codes "crates") refl, without_id (codes "skipped") refl, without_id (codes "edition") refl, without_id (codes "start") refl, without_id (codes "edits") refl, without_id (codes "shows") refl) refl

pub asked_no_id : (open_one : Open) (d : Data) → asked_of open_one (without_key (codes "id") d) ≡ asked_of open_one d
asked_no_id None d = ap of_opened (first_no_id d)
asked_no_id (Some s) d = ap (of_session s) (later_no_id (crate_count s) d)

-- a value, or a null where there is none
pub view_or_null : (o : Option Value) (v : Value) → view v ≡ null → view (unwrap_or o v) ≡ unwrap_or (option_map view o) null
view_or_null None v h = h
view_or_null (Some x) v h = refl
