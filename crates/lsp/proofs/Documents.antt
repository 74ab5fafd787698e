-- Entries of a map as plain data.
use Rattle.std.proofs.Common.{◌≡◌, Bool, true, false, cond, List, [], ◌∷◌, Option, Some, None, Result, Err, subst, map, option_map, option_copied, Bor, refl, sym, ap, ◌∙◌, ℕ, String, Global, Ordering, Less, Equal, Greater, string_bytes}
use Rattle.std.specs.BTreeMap.{insert_entry, is_at}
use Rattle.std.specs.Cmp.Lexicographic.{slice_cmp}
use Rattle.std.specs.Map.{lookup, remove_entry}
use Rattle.std.specs.Ordering.{is_eq, match_ordering, nat_cmp}
use Rattle.std.specs.String.{string_cmp}
use Rattle.std.proofs.lemmas.Map.Text.{is_eq-slice_cmp}
use Rattle.std.proofs.lemmas.Slice.Eq.{bytes_eq-Decides}
use Rattle.lsp.specs.declared.document.Document.{Document}
use Rattle.serde_json.specs.Data.{Data}
use Rattle.hir_input_json.specs.Reading.{Reading, right, ◌>>=◌}
use Rattle.hir_input_json.specs.Reads.{Tells}
use Rattle.hir_input_json.specs.declared.fault.Fault.{Fault}
use Rattle.hir_input_json.specs.declared.fault.Fault.TheVariants.{WrongForm, OutOfMemory}
use Rattle.lsp.specs.Inner.{OnRead}
use Rattle.lsp.specs.Servers.{changed_by}
use Rattle.lsp.specs.Documents as view
use Rattle.lsp.specs.Documents.{Documents, asked_document, document_in, open_document, uri_form, with_document, without_document}
use Rattle.lsp.specs.Views.{document_view, document_entry_view}

module _ {K L X Y : Type 0} (f : K → L) (g : X → Y) where
  abbrev seen : K × X → L × Y
  seen e = (f e.0, g e.1)

  module _ (test : L → Bool) where
    lookup_by : (b : Bool) (x : X) (o : Option X) (p : Option Y) → p ≡ option_map g o → cond b (Some (g x)) p ≡ option_map g (cond b (Some x) o)
    lookup_by true x o p e = refl
    lookup_by false x o p e = e

    lookup_seen : (es : List (K × X)) → lookup test (map seen es) ≡ option_map g (lookup (λ k. test (f k)) es)
    lookup_seen [] = refl
    lookup_seen (e ∷ es) = lookup_by (test (f e.0)) e.1 (lookup (λ k. test (f k)) es) (lookup test (map seen es)) (lookup_seen es)

    remove_by : (b : Bool) (e : K × X) (es ds : List (K × X)) (ms : List (L × Y)) → ms ≡ map seen ds → cond b (map seen es) (seen e ∷ ms) ≡ map seen (cond b es (e ∷ ds))
    remove_by true e es ds ms is = refl
    remove_by false e es ds ms is = ap (λ l. seen e ∷ l) is

    remove_seen : (es : List (K × X)) → remove_entry test (map seen es) ≡ map seen (remove_entry (λ k. test (f k)) es)
    remove_seen [] = refl
    remove_seen (e ∷ es) = remove_by (test (f e.0)) e es (remove_entry (λ k. test (f k)) es) (remove_entry test (map seen es)) (remove_seen es)

  module _ (cmp : L → L → Ordering) where
    insert_by : (o : Ordering) (e : K × X) (k : K) (v : X) (es ds : List (K × X)) (ms : List (L × Y)) → ms ≡ map seen ds
        → match_ordering o (seen (k, v) ∷ seen e ∷ map seen es) ((f e.0, g v) ∷ map seen es) (seen e ∷ ms) ≡ map seen (match_ordering o ((k, v) ∷ e ∷ es) ((e.0, v) ∷ es) (e ∷ ds))
    insert_by Less e k v es ds ms is = refl
    insert_by Equal e k v es ds ms is = refl
    insert_by Greater e k v es ds ms is = ap (λ l. seen e ∷ l) is

    insert_seen : (es : List (K × X)) (k : K) (v : X) → insert_entry cmp (map seen es) (f k) (g v) ≡ map seen (insert_entry (λ a b. cmp (f a) (f b)) es k v)
    insert_seen [] k v = refl
    insert_seen (e ∷ es) k v = insert_by (cmp (f k) (f e.0)) e k v es (insert_entry (λ a b. cmp (f a) (f b)) es k v) (insert_entry cmp (map seen es) (f k) (g v)) (insert_seen es k v)

-- ---- documents

abbrev Entries : Type 0
Entries = List (String Global × Document)

module _ (es : Entries) (uri : List ℕ) where
  -- the query of a name
  abbrev at : String Global → Bool
  at = is_at (λ k. slice_cmp nat_cmp uri (string_bytes k))

  pub document_found : document_in (map document_entry_view es) uri ≡ option_map document_view (lookup at es)
  document_found = lookup_seen string_bytes document_view (is_at (slice_cmp nat_cmp uri)) es

  pub document_closed : map document_entry_view (remove_entry at es) ≡ without_document (map document_entry_view es) uri
  document_closed = sym (remove_seen string_bytes document_view (is_at (slice_cmp nat_cmp uri)) es)

-- a document that is lent
pub lent_view : (o : Option (Bor Document)) → option_map (λ d. document_view d.now) o ≡ option_map document_view (option_copied o)
lent_view None = refl
lent_view (Some d) = refl

pub document_put : (es : Entries) (uri : String Global) (d : Document) → map document_entry_view (insert_entry string_cmp es uri d) ≡ with_document (map document_entry_view es) (string_bytes uri) (document_view d)
document_put es uri d = sym (insert_seen string_bytes document_view (slice_cmp nat_cmp) es uri d)

-- a name that is found is the one that was asked for
pub name_found : (uri : List ℕ) (name : String Global) → slice_cmp nat_cmp uri (string_bytes name) ≡ Equal → uri ≡ string_bytes name
name_found uri name same = (bytes_eq-Decides uri (string_bytes name)).0 (sym (is_eq-slice_cmp uri (string_bytes name)) ∙ ap is_eq same)

-- the document of the name that parameters give
pub document_asked : (ds : Documents) (params : Data) (uri : List ℕ) (d : view.Document) → uri_form params ≡ right uri → open_document (document_in ds uri) ≡ right d → asked_document ds params ≡ right (uri, d)
document_asked ds params uri d u o = ap (λ r. ◌>>=◌ r (λ uri. ◌>>=◌ (open_document (document_in ds uri)) (λ d. right (uri, d)))) u ∙ ap (λ r. ◌>>=◌ r (λ d. right (uri, d))) o

-- one whose changes cannot be read is closed
unread_by : (A : Type 0) (e : Fault) (docs new : Documents) (uri : List ℕ) (r : Reading view.Document) → Tells r e → new ≡ without_document docs uri → OnRead {A = A} (Err e) (new ≡ changed_by docs uri (Some r))
unread_by A (WrongForm pointer) docs new uri r told is = is ∙ ap (λ r. changed_by docs uri (Some r)) (sym (told refl))
unread_by A OutOfMemory docs new uri r told is = tt

pub closed_unread : {A : Type 0} (result : Result A Fault) (e : Fault) (docs new : Documents) (uri : List ℕ) (o : Option (Reading view.Document)) (r : Reading view.Document) → result ≡ Err e → o ≡ Some r → Tells r e
    → new ≡ without_document docs uri → OnRead result (new ≡ changed_by docs uri o)
closed_unread {A} result e docs new uri o r is stood told left =
    subst (λ x. OnRead x (new ≡ changed_by docs uri o)) (sym is) (subst (λ o. OnRead {A = A} (Err e) (new ≡ changed_by docs uri o)) (sym stood) (unread_by A e docs new uri r told left))
