-- What is read of a text with what is wanted of it: its places are as before.
use Rattle.std.proofs.Common.{◌≡◌, ◌≢◌, ◌≤◌, ℕ, List, [], map, length, refl, sym, ap, subst, ◌∙◌, AllPairs, IfOk, Result, Ok, Err}
use Rattle.rust_items.proofs.Common.{AllocError, EditionYear, FileAstId, MetaView, ItemView, ItemViews, plain_item, SyntaxView, source_file, items_from, items_of, syntax_view, tokens_of, inner_attributes, AreIds, kept_metas, Wanted, clipped_item, clipped_list, ItemPlace, Telling, id_of, name_of, IsWritten, items_held, IsPlace, ArePlaces, nothing, placed, clipped_items, with_ids, with_feeds, returns_from, place_by, place_in, moved_span, moved_problem, FileView, file_view, places, read_of, found_in, items_in, clipped_syntax, clipped_file, IsClipped, IsClippedFile, IsFileView, IsSourceFile, reading_file}
use Rattle.rust_items.specs.declared.log.Problem.{Problem}
use Rattle.rust_items.specs.declared.source_file.Reading.{Reading}
use Rattle.rust_items.specs.declared.source_file.SourceFile.{SourceFile}
use Rattle.rust_items.proofs.BareItems.{all, list_whole, wanted_from}
use Rattle.rust_items.proofs.BodilessIds.{with_clipped}
use Rattle.rust_items.proofs.FilePlaces.{view_placed, view_distinct}

-- ---- what was read, as a file

-- what is read of a text, where its items have these ids
abbrev whole_of : EditionYear → List ℕ → (ℕ → ℕ) → List FileAstId → FileView
whole_of edition text place ids = record {
  syntax = source_file (inner_attributes (tokens_of edition text)).0 (with_ids (items_in edition text) ids).0;
  places = places ids (map (moved_span place) (found_in edition text).spans);
  use_trees = map place (found_in edition text).use_trees;
  problems = map (moved_problem place) (found_in edition text).problems;
}

same_views : (file : FileView) (syntax : SyntaxView) (at : List ItemPlace) (uses : List ℕ) (wrong : List Problem) → file.syntax ≡ syntax → file.places ≡ at → file.use_trees ≡ uses → file.problems ≡ wrong
    → file ≡ record { syntax = syntax; places = at; use_trees = uses; problems = wrong }
same_views file syntax at uses wrong a b c d =
    ap (λ (s : SyntaxView). record { syntax = s; places = file.places; use_trees = file.use_trees; problems = file.problems }) a
    ∙ ap (λ (p : List ItemPlace). record { syntax = syntax; places = p; use_trees = file.use_trees; problems = file.problems }) b
    ∙ ap (λ (u : List ℕ). record { syntax = syntax; places = at; use_trees = u; problems = file.problems }) c
    ∙ ap (λ (p : List Problem). record { syntax = syntax; places = at; use_trees = uses; problems = p }) d

file_clipped : (w : Wanted) (edition : EditionYear) (text : List ℕ) (place : ℕ → ℕ) (ids : List FileAstId) (is : List ItemView) → is ≡ clipped_items w (read_of edition text).0
    → (file : FileView) → file.syntax ≡ source_file (kept_metas w.metas (inner_attributes (tokens_of edition text)).0) (with_ids (items_from is) ids).0
    → file.places ≡ places ids (map (moved_span place) (found_in edition text).spans) → file.use_trees ≡ map place (found_in edition text).use_trees → file.problems ≡ map (moved_problem place) (found_in edition text).problems
    → file ≡ clipped_file w (whole_of edition text place ids)
unfolding items_in clipped_items
file_clipped w edition text place ids is e file a b c d =
    let attrs = kept_metas w.metas (inner_attributes (tokens_of edition text)).0 in
    let list : with_ids (items_from is) ids ≡ with_ids (clipped_list w (items_in edition text)) ids = ap (λ l. with_ids l ids) (ap items_from e ∙ sym (wanted_from w (read_of edition text).0)) in
    same_views file _ _ _ _ (a ∙ ap (λ r. source_file attrs r.0) (list ∙ with_clipped w (items_in edition text) ids)) b c d

-- what is read, with its ids, is that of the text
pub is_clipped : (w : Wanted) (edition : EditionYear) (text : List ℕ) (place : ℕ → ℕ) (ids : List FileAstId) (is : List ItemView) (file : FileView) → AreIds (found_in edition text).rows ids
    → is ≡ clipped_items w (read_of edition text).0 → file.syntax ≡ source_file (kept_metas w.metas (inner_attributes (tokens_of edition text)).0) (with_ids (items_from is) ids).0
    → file.places ≡ places ids (map (moved_span place) (found_in edition text).spans) → file.use_trees ≡ map place (found_in edition text).use_trees → file.problems ≡ map (moved_problem place) (found_in edition text).problems
    → IsClipped w edition text place file
is_clipped w edition text place ids is file are e a b c d =
    record { read = whole_of edition text place ids; is_read = record { ids = ids; are_ids = are; syntax = refl; places = refl; use_trees = refl; problems = refl }; clipped = file_clipped w edition text place ids is e file a b c d }

-- what is read of a text with line feeds alone is read of the text
pub same_reading : (w : Wanted) (edition : EditionYear) (text feeds : List ℕ) (len : ℕ) (returns : List ℕ) (r : Result Reading AllocError) → feeds ≡ with_feeds text → len ≡ length (with_feeds text) → returns ≡ returns_from 0 text
    → IfOk r (λ read. IsClipped w edition feeds (place_by len returns) (reading_file read)) → IfOk r (λ read. IsClippedFile w edition text (reading_file read))
unfolding place_in
same_reading w edition text feeds len returns (Err e) f l k is = tt
same_reading w edition text feeds len returns (Ok read) f l k is =
    subst (λ (p : List ℕ × (ℕ × List ℕ)). IsClipped w edition p.0 (place_by p.1.0 p.1.1) (reading_file read))
    (let e : (feeds, (len, returns)) ≡ (with_feeds text, (length (with_feeds text), returns_from 0 text)) = cc in e) is

-- a file with this syntax
abbrev with_syntax : FileView → SyntaxView → FileView
with_syntax file s = record file { syntax = s }

whole_syntax : (s : SyntaxView) (attrs : List MetaView) (is : ItemViews) → s ≡ source_file attrs is → clipped_syntax all s ≡ s
unfolding kept_metas
whole_syntax s attrs is e = ap (clipped_syntax all) e ∙ ap (source_file attrs) (list_whole is) ∙ sym e

pub file_seen : (edition : EditionYear) (text : List ℕ) (file : SourceFile) → IsClippedFile all edition text (file_view file) → IsSourceFile edition text file
file_seen edition text file is = subst (IsFileView edition text) (sym (is.clipped ∙ ap (with_syntax is.read) (whole_syntax is.read.syntax _ _ is.is_read.syntax))) is.is_read

-- ---- places

clipped_id : (w : Wanted) (i : ItemView) → id_of (clipped_item w i) ≡ id_of i
clipped_id w (plain_item k m) = refl
clipped_id w _ = refl

clipped_name : (w : Wanted) (i : ItemView) → name_of (clipped_item w i) ≡ name_of i
clipped_name w (plain_item k m) = refl
clipped_name w _ = refl

clipped_held : (w : Wanted) (i : ItemView) → items_held (clipped_item w i) ≡ clipped_list w (items_held i)
clipped_held w (plain_item k m) = refl
clipped_held w _ = refl

clipped_place : {N : Telling} (w : Wanted) (from to : ℕ) (i : ItemView) (p : ItemPlace) → IsPlace N from to i p → IsPlace N from to (clipped_item w i) p
clipped_place w from to i p place =
    record {
      id = clipped_id w i ∙ place.id;
      begins = place.begins;
      some = place.some;
      ends = place.ends;
      name = place.name;
      body = place.body;
      named = λ other. rw (clipped_name w i) (place.named other);
    }

clipped_places : {N : Telling} {from to : ℕ} {is : ItemViews} {ps rest : List ItemPlace} (w : Wanted) → ArePlaces N from to is ps rest → ArePlaces N from to (clipped_list w is) ps rest
clipped_places w nothing = nothing
clipped_places {from} {to} w (placed {i = i} {p = p} place inside behind) = placed (clipped_place w from to i p place) (rw (clipped_held w i) (clipped_places w inside)) (clipped_places w behind)

pub clipped_placed : (w : Wanted) (edition : EditionYear) (text : List ℕ) (file : SourceFile) → IsClippedFile w edition text (file_view file) → ArePlaces (IsWritten text) 0 (length text) (items_of (syntax_view file.syntax)) file.places.items []
clipped_placed w edition text file is =
    let syntax = is.is_read.syntax in
    let items : items_of (clipped_syntax w is.read.syntax) ≡ clipped_list w (items_of is.read.syntax) = ap (λ s. items_of (clipped_syntax w s)) syntax ∙ sym (ap (λ s. clipped_list w (items_of s)) syntax) in
    subst (λ (v : FileView). ArePlaces (IsWritten text) 0 (length text) (items_of v.syntax) v.places []) (sym is.clipped)
    (subst (λ (is' : ItemViews). ArePlaces (IsWritten text) 0 (length text) is' is.read.places []) (sym items) (clipped_places w (view_placed edition text is.read is.is_read)))

pub clipped_distinct : (w : Wanted) (edition : EditionYear) (text : List ℕ) (file : SourceFile) → IsClippedFile w edition text (file_view file) → length text ≤ 4294967296 → AllPairs (λ p q. p.id ≢ q.id) file.places.items
clipped_distinct w edition text file is short = subst (λ (v : FileView). AllPairs (λ p q. p.id ≢ q.id) v.places) (sym is.clipped) (view_distinct edition text is.read is.is_read short)
