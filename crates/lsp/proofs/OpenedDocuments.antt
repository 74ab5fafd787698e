-- A document is answered as one that was just opened.
use Rattle.std.proofs.Common.{◌≡◌, ◌↔◌, ℕ, ℤ, Bool, true, false, cond, List, [], ◌∷◌, Option, Some, None, Ok, Err, codes, option_and_then, ⊎_elim, inl, inr, refl, ap, sym, subst, ◌∙◌}
use Rattle.std.proofs.lemmas.Map.Text.{is_eq-slice_cmp}
use Rattle.std.proofs.lemmas.Slice.Eq.{bytes_eq-Decides}
use Rattle.serde_json.specs.Data.{Data, null, boolean, number, string, array, object}
use Rattle.serde_json.specs.Find.{as_str, get}
use Rattle.hir_input_json.specs.Reading.{Reading, right, wrong, under, ◌>>=◌}
use Rattle.hir_input_json.specs.Forms.{field, object_members, required_by, text_form, unless_null}
use Rattle.line_index.specs.declared.Point.{Point}
use Rattle.lsp.specs.Documents.{Document, Documents, asked_document, document_in, open_document, open_form, opened_form, uri_form, uri_in}
use Rattle.lsp.proofs.Documents.{document_asked}
use Rattle.lsp.specs.Opened.{AreAnsweredAlike, HasJustOpened, IsAboutDocument, IsSameText}
use Rattle.lsp.specs.Ranges.{AreAskedRanges, AreRanges, asked_places, places_form}
use Rattle.lsp.specs.Responses.{RequestOutcome}
use Rattle.lsp.specs.Servers.{ServerState, AreAskedSymbols, AreRustSymbols, IsDoneUnless, documents_by, noticed_documents, noticed_in, opened_documents, refusal}
use Rattle.lsp.specs.declared.client.Client.{Client}
use Rattle.lsp.specs.declared.method.NotificationMethod.TheVariants.{DidOpen}
use Rattle.lsp.specs.declared.method.RangeKind.{RangeKind}
use Rattle.lsp.specs.declared.method.RequestMethod.{RequestMethod}
use Rattle.lsp.specs.declared.method.RequestMethod.TheVariants.{DocumentSymbol, Ranges}
use Rattle.lsp.specs.declared.phase.Phase.TheVariants.{Running}
use Rattle.itemtree_commands.specs.declared.Options.{Options}
use Rattle.line_index.specs.declared.Units.{Units}

-- ---- parameters that open a document name it

under_right : {A : Type 0} (step : List ℕ) (r : Reading A) (a : A) → under step r ≡ right a → r ≡ right a
under_right step (right b) a e = e
under_right step (wrong pointer) a e = absurd cc

after_right : {A B : Type 0} (r : Reading A) (f : A → Reading B) (b : B) → ◌>>=◌ r f ≡ right b → (a : A) × (r ≡ right a) × (f a ≡ right b)
after_right (right a) f b e = (a, refl, e)
after_right (wrong pointer) f b e = absurd cc

required_is : {A : Type 0} (form : Data → Reading A) (o : Option Data) (a : A) → required_by form o ≡ right a → (d : Data) × (o ≡ Some d) × (form d ≡ right a)
required_is form (Some d) a e = (d, refl, e)
required_is form None a e = absurd cc

found_unless_null : (o : Option Data) (d : Data) → option_and_then unless_null o ≡ Some d → o ≡ Some d
found_unless_null (Some null) d e = absurd cc
found_unless_null (Some (boolean b)) d e = e
found_unless_null (Some (number n)) d e = e
found_unless_null (Some (string s)) d e = e
found_unless_null (Some (array ds)) d e = e
found_unless_null (Some (object ms)) d e = e
found_unless_null None d e = absurd cc

got : (key : List ℕ) (d e : Data) → field key d ≡ Some e → get key d ≡ Some e
unfolding field
got key d e is = found_unless_null (get key d) e is

-- what is read at a key stands there
read_at : {A : Type 0} (key : List ℕ) (form : Data → Reading A) (d : Data) (a : A) → under key (required_by form (field key d)) ≡ right a → (e : Data) × (get key d ≡ Some e) × (form e ≡ right a)
read_at key form d a is = let (e, at, reads) = required_is form (field key d) a (under_right key (required_by form (field key d)) a is) in (e, got key d e at, reads)

text_is : (d : Data) (text : List ℕ) → text_form d ≡ right text → as_str d ≡ Some text
text_is (string s) text e = cc
text_is null text e = absurd cc
text_is (boolean b) text e = absurd cc
text_is (number n) text e = absurd cc
text_is (array ds) text e = absurd cc
text_is (object ms) text e = absurd cc

named_by : (d : Data) (o : List ℕ × Document) → opened_form d ≡ right o → option_and_then as_str (get (codes "uri") d) ≡ Some o.0
named_by d o e =
    let (ms, _, after) = after_right (object_members d) _ o e in
    let (uri, reads, rest) = after_right (under (codes "uri") (required_by text_form (field (codes "uri") d))) _ o after in
    let (language, _, later) = after_right (under (codes "languageId") (required_by text_form (field (codes "languageId") d))) _ o rest in
    let (text, _, last) = after_right (under (codes "text") (required_by text_form (field (codes "text") d))) _ o later in
    let (value, at, is) = read_at (codes "uri") text_form d uri reads in
    let same : uri ≡ o.0 = cc in
    ap (option_and_then as_str) at ∙ text_is value uri is ∙ ap Some same

pub opening_names : (params : Data) (d : List ℕ × Document) → open_form params ≡ right d → uri_in params ≡ Some d.0
opening_names params d e =
    let (ms, _, after) = after_right (object_members params) _ d e in
    let (value, at, is) = read_at (codes "textDocument") opened_form params d after in
    ap (λ o. option_and_then as_str (option_and_then (get (codes "uri")) o)) at ∙ named_by value d is

-- ---- an answer is one of the name, the text and the kind

-- a document of this version
abbrev of_version : Document → Option ℤ → Document
of_version d version = record { text = d.text; is_rust = d.is_rust; version = version }

symbols_of_version : (o : Options) (c : Client) (uri : List ℕ) (d : Document) (version : Option ℤ) (b : Bool) (out : RequestOutcome) → AreRustSymbols o c b uri (of_version d version) out ↔ AreRustSymbols o c b uri d out
symbols_of_version o c uri d version true (Ok symbols) = (λ h. h, λ h. h)
symbols_of_version o c uri d version true (Err e) = (λ h. h, λ h. h)
symbols_of_version o c uri d version false out = (λ h. h, λ h. h)

ranges_of_version : (o : Options) (units : Units) (kind : RangeKind) (d : Document) (version : Option ℤ) (places : List Point) (out : RequestOutcome) → AreRanges o units kind (of_version d version) places out ↔ AreRanges o units kind d places out
ranges_of_version o units kind d version places (Ok a) = (λ h. h, λ h. h)
ranges_of_version o units kind d version places (Err e) = (λ h. h, λ h. h)

asked_of_version : (o : Options) (units : Units) (kind : RangeKind) (d : Document) (version : Option ℤ) (r : Reading (List Point)) (out : RequestOutcome)
    → AreAskedRanges o units kind (◌>>=◌ r (λ places. right (of_version d version, places))) out ↔ AreAskedRanges o units kind (◌>>=◌ r (λ places. right (d, places))) out
asked_of_version o units kind d version (right places) out = ranges_of_version o units kind d version places out
asked_of_version o units kind d version (wrong pointer) out = (λ h. h, λ h. h)

is_version : (d e : Document) → IsSameText e d → e ≡ of_version d e.version
is_version d e same = λ i. record { text = same.text i; is_rust = same.is_rust i; version = e.version }

-- ---- what parameters ask about is the document of their name

places_asked : (kind : RangeKind) (ds : Documents) (params : Data) (uri : List ℕ) (d : Document) → uri_form params ≡ right uri → document_in ds uri ≡ Some d
    → asked_places kind ds params ≡ ◌>>=◌ (places_form kind params) (λ places. right (d, places))
places_asked kind ds params uri d u f =
    ap (λ r. ◌>>=◌ r (λ uri. ◌>>=◌ (places_form kind params) (λ places. ◌>>=◌ (open_document (document_in ds uri)) (λ d. right (d, places))))) u
    ∙ ap (λ o. ◌>>=◌ (places_form kind params) (λ places. ◌>>=◌ (open_document o) (λ d. right (d, places)))) f

only_one : (uri : List ℕ) (d : Document) → document_in ((uri, d) ∷ []) uri ≡ Some d
only_one uri d = ap (λ b. cond b (Some d) None) (is_eq-slice_cmp uri uri ∙ (bytes_eq-Decides uri uri).1 refl)

-- ---- a server that has just opened a document

module _ (o : Options) (c : Client) (uri : List ℕ) (d : Document) (fresh : ServerState) (h : HasJustOpened o c uri d fresh) where
  is_noticed : fresh ≡ noticed_documents h.between DidOpen h.opening
  is_noticed = h.is ∙ ap (λ p. noticed_in p h.between DidOpen h.opening) (ap (λ s. s.phase) h.initialized.0)

  has_options : fresh.options ≡ o
  has_options = ap (λ s. s.options) is_noticed ∙ ap (λ s. s.options) h.initialized.0

  has_client : fresh.client ≡ c
  has_client = ap (λ s. s.client) is_noticed ∙ ap (λ s. s.client) h.initialized.0 ∙ h.client

  is_running : fresh.phase ≡ Running
  is_running = ap (λ s. s.phase) is_noticed ∙ ap (λ s. s.phase) h.initialized.0

  has_opened : fresh.documents ≡ (uri, h.document) ∷ []
  has_opened =
      ap (λ s. s.documents) is_noticed ∙ ap (documents_by h.between DidOpen h.opening) (opening_names h.opening (uri, h.document) h.opens)
      ∙ ap (λ ds. opened_documents ds (open_form h.opening)) (ap (λ s. s.documents) h.initialized.0) ∙ ap (opened_documents []) h.opens

-- ---- the law

cast : {A B : Type 0} → A ≡ B → A → B
cast e a = subst (λ (T : Type 0). T) e a

-- what is answered where nothing refuses it
done_alike : (s t : ServerState) (uri : List ℕ) (d e : Document) (method : RequestMethod) (params : Data) (out : RequestOutcome) → s.options ≡ t.options → s.client ≡ t.client → IsSameText e d
    → document_in s.documents uri ≡ Some d → document_in t.documents uri ≡ Some e → IsAboutDocument method → uri_form params ≡ right uri
    → IsDoneUnless (refusal Running method) s method params s out ↔ IsDoneUnless (refusal Running method) t method params t out
done_alike s t uri d e DocumentSymbol params out o c same f g about u =
    let version = symbols_of_version t.options t.client uri d e.version d.is_rust out in
    let mine : AreAskedSymbols s.options s.client (asked_document s.documents params) out ≡ AreRustSymbols t.options t.client d.is_rust uri d out =
    (λ i. AreAskedSymbols (o i) (c i) (document_asked s.documents params uri d u (ap open_document f) i) out) in
    let theirs : AreAskedSymbols t.options t.client (asked_document t.documents params) out ≡ AreRustSymbols t.options t.client d.is_rust uri (of_version d e.version) out =
    ap (λ r. AreAskedSymbols t.options t.client r out) (document_asked t.documents params uri e u (ap open_document g) ∙ ap (λ d. right (uri, d)) (is_version d e same)) in
    (λ h. (refl, cast (sym theirs) (version.1 (cast mine h.1))), λ h. (refl, cast (sym mine) (version.0 (cast theirs h.1))))
done_alike s t uri d e (Ranges kind) params out o c same f g about u =
    let version = asked_of_version t.options t.client.units kind d e.version (places_form kind params) out in
    let mine : AreAskedRanges s.options s.client.units kind (asked_places kind s.documents params) out ≡ AreAskedRanges t.options t.client.units kind (◌>>=◌ (places_form kind params) (λ places. right (d, places))) out =
    (λ i. AreAskedRanges (o i) ((c i).units) kind (places_asked kind s.documents params uri d u f i) out) in
    let theirs : AreAskedRanges t.options t.client.units kind (asked_places kind t.documents params) out
    ≡ AreAskedRanges t.options t.client.units kind (◌>>=◌ (places_form kind params) (λ places. right (of_version d e.version, places))) out =
    ap (λ r. AreAskedRanges t.options t.client.units kind r out)
    (places_asked kind t.documents params uri e u g ∙ ap (λ d. ◌>>=◌ (places_form kind params) (λ places. right (d, places))) (is_version d e same)) in
    (λ h. (refl, cast (sym theirs) (version.1 (cast mine h.1))), λ h. (refl, cast (sym mine) (version.0 (cast theirs h.1))))
done_alike s t uri d e _ params out o c same f g about u = absurd about

-- a document is answered as one that was just opened
pub as_just_opened : (s fresh : ServerState) (d : Document) (uri : List ℕ) → s.phase ≡ Running → document_in s.documents uri ≡ Some d → HasJustOpened s.options s.client uri d fresh → AreAnsweredAlike s fresh uri
as_just_opened s fresh d uri running f h method params out about u =
    let opened = has_opened s.options s.client uri d fresh h in
    let one = ap (λ ds. document_in ds uri) opened ∙ only_one uri h.document in
    let done = done_alike s fresh uri d h.document method params out (sym (has_options s.options s.client uri d fresh h)) (sym (has_client s.options s.client uri d fresh h)) h.same f one about u in
    let mine : IsDoneUnless (refusal s.phase method) s method params s out ≡ IsDoneUnless (refusal Running method) s method params s out = ap (λ p. IsDoneUnless (refusal p method) s method params s out) running in
    let theirs : IsDoneUnless (refusal fresh.phase method) fresh method params fresh out ≡ IsDoneUnless (refusal Running method) fresh method params fresh out =
    ap (λ p. IsDoneUnless (refusal p method) fresh method params fresh out) (is_running s.options s.client uri d fresh h) in
    (λ a. ⊎_elim (λ x. inl (refl, x.1)) (λ x. inr (cast (sym theirs) (done.0 (cast mine x)))) a, λ a. ⊎_elim (λ x. inl (refl, x.1)) (λ x. inr (cast (sym mine) (done.1 (cast theirs x)))) a)
