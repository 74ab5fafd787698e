-- A request that is written is read again.
use Rattle.std.proofs.Common.{◌≡◌, ◌+◌, ◌^◌, ℕ, List, [], ◌∷◌, Bool, true, false, nat_lt, IfSome, Some, None, if◌then◌else◌, refl, sym, ap, subst, ◌∙◌, arith}
use Rattle.std.proofs.lemmas.Bool.Decides.{nat_tests}
use Rattle.serde_json.specs.Data.{Data, null, number, unsigned, Items}
use Rattle.serde_json.specs.Written.{has_float, items_have_float}
use Rattle.item_tree_request.proofs.Writing.Common.{EditionYear, AtomView, SyntaxView, right, wrong, atom_data, each_data, name_data, whole_data, Show, request, request_parts, block_object, crate_object, edit_data, edition_data, edition_object, edits_data, file_object, show_word, place_show, request_data, request_object, show_data}
use Rattle.hir_input.specs.declared.edition.EditionYear.TheVariants.{E2015}
use Rattle.hir_input_json.specs.Cfgs.{atom}
use Rattle.hir_input_json.specs.Editions.{EditionView, edition, year}
use Rattle.hir_input_json.specs.Forms.{number_below, each, field, identifier_form, unless_null, whole_form}
use Rattle.hir_input_json.specs.Syntaxes.{syntax}
use Rattle.hir_input_json.specs.Writing.Held.{Holds, HoldEach}
use Rattle.hir_input_json.specs.Writing.Laws.{IsReadAs, kept_bodies}
use Rattle.hir_input_json.specs.Writing.Literals.{year_number}
use Rattle.hir_input_json.specs.Writing.Syntaxes.{syntax_data}
use Rattle.hir_input_json.proofs.Writing.CfgLaws.{atom_law}
use Rattle.hir_input_json.proofs.Writing.WrittenParts.{bind, each_law, mapped, name_law, whole_law}
use Rattle.hir_input_json.proofs.Writing.SyntaxLaws.{syntax_read}
use Rattle.item_tree.specs.CrateView.{CrateView}
use Rattle.item_tree_db.specs.declared.place.Place.{Place}
use Rattle.item_tree_db.specs.declared.place.Place.TheVariants.{File, Block}
use Rattle.item_tree_db.specs.Edits.{set}
use Rattle.item_tree_request.specs.declared.request.show.Show.TheVariants.{OfTree, Changed}
use Rattle.item_tree_request.specs.declared.request.show.ShowKind.{ShowKind}
use Rattle.item_tree_request.specs.declared.request.show.ShowKind.TheVariants.{Page}
use Rattle.item_tree_request.specs.Edits.{crate_data, edit}
use Rattle.item_tree_request.specs.Shows.{show}
use Rattle.item_tree_request.specs.Writing.MeantRequests.{files_set, meant_request}

-- ---- editions

year_law : (y : EditionYear) → year (number (unsigned (year_number y))) ≡ right y
year_law E2015 = refl
year_law y = refl

edition_law : (e : EditionView) → IfSome (edition_data e) (Holds edition e)
unfolding field
edition_law e =
    mapped (each_data name_data e.1) (edition_object (year_number e.0)) (HoldEach identifier_form e.1) (Holds edition e) (each_law name_data identifier_form name_law e.1)
    (λ ds h. record { there = refl; reads = rw (year_law e.0, h.reads 0) refl; exact = rw h.exact refl })

-- ---- crates

crate_of : List AtomView → CrateView
crate_of options = record { root = record { 0 = 0 }; options = options; attrs = [] }

crate_law : (options : List AtomView) (ds : Items) → each atom ds ≡ right options → crate_data (crate_object ds) ≡ right (crate_of options)
unfolding field crate_of
crate_law options ds h = rw h refl

-- ---- edits

there_by : (s : SyntaxView) (d : Data) → syntax d ≡ right s → unless_null d ≡ Some d
unfolding field
there_by s null h = absurd cc
there_by s d h = refl

edit_law : (count : ℕ) (bodies : Bool) (n : ℕ) (s : SyntaxView) → IfSome (edit_data bodies n s) (Holds (edit count) (set (File (record { 0 = n })) (kept_bodies bodies s)))
unfolding field
edit_law count bodies n s =
    bind (whole_data (2 ^ 32) n) _ (Holds (whole_form (2 ^ 32)) n) (Holds (edit count) (set (File (record { 0 = n })) (kept_bodies bodies s))) (whole_law (2 ^ 32) n) (λ f h.
    bind (syntax_data bodies s) _ (IsReadAs (kept_bodies bodies s)) (Holds (edit count) (set (File (record { 0 = n })) (kept_bodies bodies s))) (syntax_read bodies s) (λ d k.
    record { there = refl; reads = rw (h.there, h.reads, there_by (kept_bodies bodies s) d k.reads, k.reads) refl; exact = rw (h.exact, k.no_float) refl }))

edits_law : (count : ℕ) (bodies : Bool) (n : ℕ) (ss : List SyntaxView) → IfSome (edits_data bodies n ss) (HoldEach (edit count) (files_set bodies n ss))
edits_law count bodies n [] = record { reads = λ k. refl; exact = refl }
edits_law count bodies n (s ∷ ss) =
    bind (edit_data bodies n s) _ (Holds (edit count) (set (File (record { 0 = n })) (kept_bodies bodies s))) (HoldEach (edit count) (files_set bodies n (s ∷ ss))) (edit_law count bodies n s) (λ d h.
    bind (edits_data bodies (n + 1) ss) _ (HoldEach (edit count) (files_set bodies (n + 1) ss)) (HoldEach (edit count) (files_set bodies n (s ∷ ss))) (edits_law count bodies (n + 1) ss) (λ ds hs.
    record { reads = λ k. rw (h.reads, hs.reads (k + 1)) refl; exact = rw (h.exact, hs.exact) refl }))

-- ---- shows

file_reads : (kind : ShowKind) (n : ℕ) (d : Data) → Holds (whole_form (2 ^ 32)) n d
    → show 1 (file_object (show_word kind) (number (unsigned 0)) d) ≡ right (OfTree (record { kind = kind; krate = record { 0 = 0 }; place = File (record { 0 = n }) }))
unfolding field
file_reads Page n d h = rw (h.there, h.reads) refl
file_reads kind n d h = rw (h.there, h.reads) refl

block_reads : (kind : ShowKind) (n : ℕ) (d : Data) → Holds (whole_form (2 ^ 32)) n d
    → show 1 (block_object (show_word kind) (number (unsigned 0)) d) ≡ right (OfTree (record { kind = kind; krate = record { 0 = 0 }; place = Block (record { 0 = n }) }))
unfolding field
block_reads Page n d h = rw (h.there, h.reads) refl
block_reads kind n d h = rw (h.there, h.reads) refl

place_law : (kind : ShowKind) (place : Place) → IfSome (place_show (show_word kind) (number (unsigned 0)) place) (Holds (show 1) (OfTree (record { kind = kind; krate = record { 0 = 0 }; place = place })))
unfolding field
place_law kind (File file) =
    mapped (whole_data (2 ^ 32) file.0) _ (Holds (whole_form (2 ^ 32)) file.0) (Holds (show 1) (OfTree (record { kind = kind; krate = record { 0 = 0 }; place = File file }))) (whole_law (2 ^ 32) file.0)
    (λ d h. record { there = refl; reads = file_reads kind file.0 d h; exact = rw h.exact refl })
place_law kind (Block block) =
    mapped (whole_data (2 ^ 32) block.0) _ (Holds (whole_form (2 ^ 32)) block.0) (Holds (show 1) (OfTree (record { kind = kind; krate = record { 0 = 0 }; place = Block block }))) (whole_law (2 ^ 32) block.0)
    (λ d h. record { there = refl; reads = block_reads kind block.0 d h; exact = rw h.exact refl })

first_by : (b : Bool) (k : ℕ) → nat_lt k 1 ≡ b → IfSome (if b then Some k else None) (λ n. k ≡ 0)
first_by true k h = grind (arith, nat_tests)
first_by false k h = tt

tree_law : (kind : ShowKind) (k : ℕ) (place : Place)
    → IfSome (show_data (OfTree (record { kind = kind; krate = record { 0 = k }; place = place }))) (Holds (show 1) (OfTree (record { kind = kind; krate = record { 0 = k }; place = place })))
tree_law kind k place =
    bind (number_below 1 k) _ (λ n. k ≡ 0) (Holds (show 1) (OfTree (record { kind = kind; krate = record { 0 = k }; place = place }))) (first_by (nat_lt k 1) k refl) (λ n z.
    subst (λ m. IfSome (place_show (show_word kind) (number (unsigned 0)) place) (Holds (show 1) (OfTree (record { kind = kind; krate = record { 0 = m }; place = place })))) (sym z) (place_law kind place))

show_law : (s : Show) → IfSome (show_data s) (Holds (show 1) s)
unfolding field
show_law (OfTree t) = tree_law t.kind t.krate.0 t.place
show_law (Changed since) =
    mapped (whole_data (2 ^ 64) since) _ (Holds (whole_form (2 ^ 64)) since) (Holds (show 1) (Changed since)) (whole_law (2 ^ 64) since)
    (λ d h. record { there = refl; reads = rw (h.there, h.reads) refl; exact = rw h.exact refl })

-- ---- requests

exact_law : (atoms edits shows names : Items) (language : Data) → items_have_float atoms ≡ false → has_float language ≡ false → items_have_float edits ≡ false → items_have_float shows ≡ false → items_have_float names ≡ false
    → has_float (request_object (crate_object atoms) language edits shows names) ≡ false
exact_law atoms edits shows names language a l e s n = rw (a, l, e, s, n) refl

parts_law : (bodies : Bool) (skipped : List (List ℕ)) (e : EditionView) (options : List AtomView) (files : List SyntaxView) (shows : List Show) (names : Items) (language : Data) (atoms edits shown : Items)
    → HoldEach identifier_form skipped names → Holds edition e language → HoldEach atom options atoms → HoldEach (edit 1) (files_set bodies 0 files) edits → HoldEach (show 1) shows shown
    → request_parts (request_object (crate_object atoms) language edits shown names) ≡ right (meant_request bodies skipped e options files shows)
unfolding field crate_of
parts_law bodies skipped e options files shows names language atoms edits shown n l a d s =
    rw (n.reads 0, l.there, l.reads, crate_law options atoms (a.reads 0), d.reads 0, s.reads 0) refl

abbrev IsAsked : Bool → List (List ℕ) → EditionView → List AtomView → List SyntaxView → List Show → Data → Type 0
IsAsked bodies skipped e options files shows d = request d ≡ right (meant_request bodies skipped e options files shows)

whole_request : (bodies : Bool) (skipped : List (List ℕ)) (e : EditionView) (options : List AtomView) (files : List SyntaxView) (shows : List Show) (names : Items) (language : Data) (atoms edits shown : Items)
    → HoldEach identifier_form skipped names → Holds edition e language → HoldEach atom options atoms → HoldEach (edit 1) (files_set bodies 0 files) edits → HoldEach (show 1) shows shown
    → IsAsked bodies skipped e options files shows (request_object (crate_object atoms) language edits shown names)
unfolding request
whole_request bodies skipped e options files shows names language atoms edits shown n l a d s =
    ap (λ b. if b then wrong [] else request_parts (request_object (crate_object atoms) language edits shown names)) (exact_law atoms edits shown names language a.exact l.exact d.exact s.exact n.exact)
    ∙ parts_law bodies skipped e options files shows names language atoms edits shown n l a d s

request_law : (bodies : Bool) (skipped : List (List ℕ)) (e : EditionView) (options : List AtomView) (files : List SyntaxView) (shows : List Show)
    → IfSome (request_data bodies skipped e options files shows) (IsAsked bodies skipped e options files shows)
request_law bodies skipped e options files shows =
    bind (each_data name_data skipped) _ (HoldEach identifier_form skipped) (IsAsked bodies skipped e options files shows) (each_law name_data identifier_form name_law skipped) (λ names n.
    bind (edition_data e) _ (Holds edition e) (IsAsked bodies skipped e options files shows) (edition_law e) (λ language l.
    bind (each_data atom_data options) _ (HoldEach atom options) (IsAsked bodies skipped e options files shows) (each_law atom_data atom atom_law options) (λ atoms a.
    bind (edits_data bodies 0 files) _ (HoldEach (edit 1) (files_set bodies 0 files)) (IsAsked bodies skipped e options files shows) (edits_law 1 bodies 0 files) (λ edits d.
    bind (each_data show_data shows) _ (HoldEach (show 1) shows) (IsAsked bodies skipped e options files shows) (each_law show_data (show 1) show_law shows) (λ shown s.
    whole_request bodies skipped e options files shows names language atoms edits shown n l a d s)))))

-- whatever data it is
pub request_again : (bodies : Bool) (skipped : List (List ℕ)) (e : EditionView) (options : List AtomView) (files : List SyntaxView) (shows : List Show) (d : Data)
    → request_data bodies skipped e options files shows ≡ Some d → request d ≡ right (meant_request bodies skipped e options files shows)
request_again bodies skipped e options files shows d is = subst (λ o. IfSome o (IsAsked bodies skipped e options files shows)) is (request_law bodies skipped e options files shows)
