-- Crates that lines name, and values without floats.
use Rattle.std.proofs.Common.{◌≡◌, Bool, ℕ, ◌+◌, ◌<◌, ◌^◌, suc, false, ◌||◌, List, [], ◌∷◌, ◌++◌, Option, Some, None, is_some, option_map, All, length, map, filter, take, get_or, refl, sym, ap, subst, ◌∙◌, arith}
use Rattle.source_session.proofs.Common.{take_more, AllByRecursion, AllZip, Crate, FileAstId, Edit, Place, File, Block, edit_view, NamesKnown, State, change_number, Knows, Entry, ItemPlace, Table, Outline, TreeItems, ImportPlaces, Changes, Problems, Find, Search, ast_of, found_form, found_value, id_form, in_file, place_by_id, AreUnfloating, IsOwn, IsUsable, NamesCrateOf, text_edit_view, crate_limit, crate_count, opened_session, settings_view, crate_view, length-map, length-take, All-weaker, IsCrateOf, ShowNamesCrate, Session, all_items, change_form, change_with, item_objects, items_member, pathless_source, shown_tree, unset_form, unset_place, IsPresentValue, IsShowValue, IsValueUnless, is_sought, text_bytes, text_places, places_of_text, text_problems, text_reading, Texts, text_of_place, text_in}
use Rattle.serde_json.specs.Data.{Data}
use Rattle.serde_json.specs.Written.{has_float}
use Rattle.hir_input.specs.declared.ids.HirFileId.{HirFileId}
use Rattle.item_tree_db.specs.declared.edit.Edit.TheVariants.{SetFile, RemoveFile, SetBlock, RemoveBlock, SetCfg}
use Rattle.item_tree_db.specs.Since.{Change}
use Rattle.item_tree_request.specs.declared.request.show.Show.{Show}
use Rattle.item_tree_request.specs.declared.request.show.Show.TheVariants.{OfTree, Changed}
use Rattle.item_tree_request.specs.Named as request
use Rattle.source_listing.proofs.NoFloats.{no_float_in_outline, no_float_in_problems}
use Rattle.source_imports.proofs.NoFloats.{no_float_in_imports}
use Rattle.line_index.specs.declared.Units.{Units}
use Rattle.source_session.proofs.Matches.{no_float_id, no_float_in_matches}
use Rattle.source_session.specs.ShownTexts.{member_options}
use Rattle.source_session.specs.declared.line.Asked as code_asked
use Rattle.source_session.specs.declared.line.Settings as code_settings
use Rattle.text_session.specs.declared.edit.TextEdit as code
use Rattle.text_session.specs.declared.edit.TextEdit.TheVariants.{SetText, ChangeText}
use Rattle.text_session.specs.declared.edit.TextEdit.TheVariants as edits
use Rattle.source_session.specs.declared.show.LineShow.{LineShow}

-- ---- crates

pub show_known : (table : State) (show : Show) → request.NamesCrate (length table.crates) show → Knows table show
show_known table (OfTree show) named = named.0
show_known table (Changed since) named = tt

edit_known : (table : State) (e : Edit) → request.EditNamesCrate (length table.crates) e → NamesKnown table (edit_view e)
edit_known table (SetFile file syntax) named = tt
edit_known table (RemoveFile file) named = tt
edit_known table (SetBlock block syntax) named = tt
edit_known table (RemoveBlock block) named = tt
edit_known table (SetCfg krate options) named = named.0

usable_known : (table : State) (e : code.TextEdit) → IsUsable (length table.crates) e → NamesCrateOf table (text_edit_view e)
usable_known table (edits.Table e) named = edit_known table e named
usable_known table (SetText file text) named = tt
usable_known table (ChangeText file range text) named = tt

pub edits_known : (table : State) (es : List code.TextEdit) → All (IsUsable (length table.crates)) es → AllByRecursion (NamesCrateOf table) (map text_edit_view es)
edits_known table [] named = tt
edits_known table (e ∷ es) named = (usable_known table e (named 0 e (omega arith)), edits_known table es (λ k d within. named (suc k) d (omega (arith, within))))

-- ---- a list of crates of which those that have a number are taken

module _ (m n : ℕ) (fewer : (k : ℕ) → k < m → k < 2 ^ 32 → k < n) where
  edit_over : (e : Edit) → request.EditNamesCrate m e → request.EditNamesCrate n e
  edit_over (SetFile file syntax) h = tt
  edit_over (RemoveFile file) h = tt
  edit_over (SetBlock block syntax) h = tt
  edit_over (RemoveBlock block) h = tt
  edit_over (SetCfg krate options) h = (fewer krate.0 h.0 h.1, h.1)

  usable_over : (e : code.TextEdit) → IsUsable m e → IsUsable n e
  usable_over (edits.Table e) h = edit_over e h
  usable_over (SetText file text) h = h
  usable_over (ChangeText file range text) h = h

  crate_over : (krate : Crate) → IsCrateOf m krate → IsCrateOf n krate
  crate_over krate h = (fewer krate.0 h.0 h.1, h.1)

  table_show_over : (show : Show) → request.NamesCrate m show → request.NamesCrate n show
  table_show_over (OfTree show) h = (fewer show.krate.0 h.0 h.1, h.1)
  table_show_over (Changed since) h = tt

  show_over : (show : LineShow) → ShowNamesCrate m show → ShowNamesCrate n show
  show_over (Table show) h = table_show_over show h
  show_over (Outline krate file units has_members) h = crate_over krate h
  show_over (TreeItems krate place units) h = crate_over krate h
  show_over (ImportPlaces krate place units) h = crate_over krate h
  show_over (Changes since) h = tt
  show_over (Problems file units) h = tt
  show_over (Find sought) h = tt
  show_over (Search searched) h = tt

  own_over : (a : code_asked.Asked) → IsOwn m a → IsOwn n a
  own_over a h = record {
    edits = All-weaker (IsUsable m) (IsUsable n) usable_over a.edits.items h.edits;
    shows = All-weaker (ShowNamesCrate m) (ShowNamesCrate n) show_over a.shows.items h.shows;
  }

-- what the first line asks for names crates of the session that it opens
pub own_opened : (s : code_settings.Settings) (a : code_asked.Asked) → IsOwn (length s.crates.items) a → IsOwn (crate_count (opened_session (settings_view s))) a
own_opened s a own =
    let views = map crate_view s.crates.items in
    own_over (length s.crates.items) (length (take crate_limit views)) (λ k less small. omega (arith, less, small, length-take crate_limit views, length-map s.crates.items crate_view)) a own

-- ---- floats

no_float_in_file : (units : Units) (file : HirFileId) (krate : Crate) (id : Data) (text : List ℕ) (place : Option ItemPlace) → has_float id ≡ false → has_float (in_file units file krate id text place) ≡ false
no_float_in_file units file krate id text None h = ap (λ b. b || false) h
no_float_in_file units file krate id text (Some place) h = ap (λ b. b || false) h

no_float_found : (units : Units) (texts : Texts) (place : Place) (krate : Crate) (id : Option FileAstId) → has_float (found_value units texts place krate id) ≡ false
no_float_found units texts (File file) krate id = let t = text_in texts file.0 in no_float_in_file units file krate (id_form id) (text_bytes t) (place_by_id t id) (no_float_id id)
no_float_found units texts (Block block) krate id = ap (λ b. b || false) (no_float_id id)

no_float_in_found : (units : Units) (u : Session) (entries : List Entry) → AreUnfloating (map (found_form units u) entries)
no_float_in_found units u [] = refl
no_float_in_found units u (e ∷ es) = rw (no_float_found units u.texts e.place e.krate (ast_of u.table e), no_float_in_found units u es) refl

-- a change holds none beside what its items hold
no_float_change : (items : List Data) (c : Change) → AreUnfloating items → has_float (change_with (items_member items) c) ≡ false
no_float_change items (File file, krate, n) h = ap (λ b. b || false) h
no_float_change items (Block block, krate, n) h = ap (λ b. b || false) h

no_float_change_form : (c : Change) → has_float (change_form c) ≡ false
no_float_change_form (File file, krate, n) = refl
no_float_change_form (Block block, krate, n) = refl

no_float_in_changes : (changes : List Change) → AreUnfloating (map change_form changes)
no_float_in_changes [] = refl
no_float_in_changes (c ∷ cs) = rw (no_float_change_form c, no_float_in_changes cs) refl

no_float_items : (u : Session) (krate : Crate) (place : Place) (units : Units) (has_members : Bool) → AreUnfloating (item_objects u krate place units has_members)
no_float_items u krate place units has_members =
    let t = text_of_place u.texts place in
    let s = pathless_source (text_bytes t) in no_float_in_outline units s (text_reading u.edition.0 (member_options u.table krate has_members) t) u.edition.1 (text_places t) all_items (shown_tree u krate place)

-- ---- shows

no_float_present : (u : Session) (show : LineShow) (d : Data) → IsPresentValue u show d → has_float d ≡ false
no_float_present u (Table show) d h = ap has_float h.2
no_float_present u (Outline krate file units has_members) d h = ap has_float h ∙ no_float_items u krate (File file) units has_members
no_float_present u (TreeItems krate place units) d h = ap has_float h ∙ no_float_change (item_objects u krate place units false) (place, krate, change_number u.table place krate.0) (no_float_items u krate place units false)
no_float_present u (ImportPlaces krate place units) d h = let t = text_of_place u.texts place in ap has_float h ∙ no_float_in_imports units (text_bytes t) u.edition.1 (places_of_text t) (shown_tree u krate place).forest
no_float_present u (Changes since) d h = ap has_float h.2 ∙ no_float_in_changes h.0
no_float_present u (Problems file units) d h = let t = text_in u.texts file.0 in ap has_float h ∙ no_float_in_problems units (text_bytes t) (text_problems t)
no_float_present u (Search q) d h = ap has_float h.2 ∙ no_float_in_matches u q h.0
no_float_present u (Find q) d h = ap has_float h.2 ∙ no_float_in_found q.units u (filter (is_sought u.table q) h.0)

no_float_unset : (place : Place) → has_float (unset_form place) ≡ false
no_float_unset (File file) = refl
no_float_unset (Block block) = refl

no_float_unless : (unset : Option Place) (u : Session) (show : LineShow) (d : Data) → IsValueUnless unset u show d → has_float d ≡ false
no_float_unless None u show d h = no_float_present u show d h
no_float_unless (Some place) u show d h = ap has_float h ∙ no_float_unset place

pub no_float_in_shown : (u : Session) (shows : List LineShow) (ds : List Data) → AllZip (IsShowValue u) shows ds → AreUnfloating ds
no_float_in_shown u [] [] are = refl
no_float_in_shown u [] (d ∷ ds) are = absurd are
no_float_in_shown u (x ∷ xs) [] are = absurd are
no_float_in_shown u (x ∷ xs) (d ∷ ds) are = rw (no_float_unless (unset_place u.table x) u x d are.0, no_float_in_shown u xs ds are.1) refl

-- something is set at a place whose syntax is lent
pub lent_set : {A B C : Type 0} (o : Option A) (f : A → B) (g : B → C) (p : Option C) → option_map g (option_map f o) ≡ p → is_some o ≡ is_some p
lent_set None f g p e = ap is_some e
lent_set (Some a) f g p e = ap is_some e

-- ---- one value more

zip_push : {A B : Type 0} (R : A → B → Type 0) (xs : List A) (ys : List B) (x : A) (y : B) → AllZip R xs ys → R x y → AllZip R (xs ++ x ∷ []) (ys ++ y ∷ [])
zip_push R [] [] x y are is = (is, tt)
zip_push R [] (z ∷ ys) x y are is = absurd are
zip_push R (w ∷ xs) [] x y are is = absurd are
zip_push R (w ∷ xs) (z ∷ ys) x y are is = (are.0, zip_push R xs ys x y are.1 is)

pub zip_more : {A B : Type 0} (R : A → B → Type 0) (xs : List A) (ys : List B) (i : ℕ) (d : A) (y : B) → i < length xs → AllZip R (take i xs) ys → R (get_or xs i d) y → AllZip R (take (i + 1) xs) (ys ++ y ∷ [])
zip_more R xs ys i d y within are is = subst (λ front. AllZip R front (ys ++ y ∷ [])) (sym (take_more xs i d within)) (zip_push R (take i xs) ys (get_or xs i d) y are is)
