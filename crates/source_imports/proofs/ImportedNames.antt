-- Imports.
use Rattle.source_imports.proofs.Common.{◌≡◌, ℕ, ◌<◌, ◌+◌, List, [], ◌∷◌, ◌++◌, length, map, take, ap, sym, ◌∙◌, subst, append-nil, Option, All, slice_index_or, flat_map, flat_map-append, flat_map-map, Import, Forest, Source, Spot, Units, FilePlaces, get_or-map, length-map, take_more, declarations, DeclarationView, view_of, import_lines, of_seen, of_uses, seen_lines}
use Rattle.list_forms.specs.declared.lines.Form.{Form}
use Rattle.source_imports.specs.ImportCfgs.{ImportChoice}

-- what is told of what is collected is what is told of what is declared
pub seen_of_all : {A D : Type 0} (each : (ℕ → Option Spot) → Import → List A) (see : D → DeclarationView) (units : Units) (text : List ℕ) (places : FilePlaces) (ds : List D) (f : Forest)
    → map see ds ≡ map view_of (declarations f) → flat_map (λ d. of_seen each units text places (see d)) ds ≡ of_uses each units text places f
seen_of_all each see units text places ds f e =
    sym (flat_map-map (of_seen each units text places) see ds) ∙ ap (flat_map (of_seen each units text places)) e ∙ flat_map-map (of_seen each units text places) view_of (declarations f)

-- the lines of what is collected are those of what is declared
pub lines_of_all : {D : Type 0} (see : D → DeclarationView) (reserved : List (List ℕ)) (form : Form) (c : ImportChoice) (s : Source) (places : FilePlaces) (ds : List D) (f : Forest)
    → map see ds ≡ map view_of (declarations f) → flat_map (λ d. seen_lines reserved form c s places (see d)) ds ≡ import_lines reserved form c s places f
lines_of_all see reserved form c s places ds f e =
    let lines : DeclarationView → List ℕ = seen_lines reserved form c s places in
    sym (flat_map-map lines see ds) ∙ ap (flat_map lines) e ∙ flat_map-map lines view_of (declarations f)

-- what is collected is contained, each by itself
pub contained_at : {D : Type 0} (P : ℕ → Type 0) (id : D → ℕ) (ds : List D) (i : ℕ) (d : D) → All P (map id ds) → i < length ds → slice_index_or ds i d ≡ d → P (id d)
contained_at P id ds i d all l e =
    let found : P (slice_index_or (map id ds) i (id d)) = all i (id d) (rw (length-map ds id) l) in
    let same : slice_index_or (map id ds) i (id d) ≡ id d = get_or-map id ds i d (id d) l ∙ ap id e in
    subst P same found

-- what is told of one more
pub one_more_seen : {A D : Type 0} (told : D → List A) (ds : List D) (i : ℕ) (d : D) (before after : List A) → i < length ds → slice_index_or ds i d ≡ d
    → before ≡ flat_map told (take i ds) → after ≡ before ++ told d → after ≡ flat_map told (take (i + 1) ds)
one_more_seen told ds i d before after l g e n =
    let more : take (i + 1) ds ≡ take i ds ++ d ∷ [] = take_more ds i d l ∙ ap (λ y. take i ds ++ y ∷ []) g in
    n ∙ ap (λ b. b ++ told d) e ∙ ap (λ b. flat_map told (take i ds) ++ b) (sym (append-nil (told d)))
    ∙ sym (flat_map-append told (take i ds) (d ∷ [])) ∙ ap (flat_map told) (sym more)
