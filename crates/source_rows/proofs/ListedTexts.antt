-- What lists read of texts, and the ids of their items.
use Rattle.std.proofs.Common.{◌≡◌, ◌≢◌, ◌<◌, ℕ, List, [], ◌∷◌, Option, Some, None, option_map, string_bytes, unwrap_or, vec_len, length, map, get_or, AllPairs, arith, refl, ap, ◌∙◌, sym, subst}
use Rattle.std.proofs.lemmas.List.{get_or-map, length-map}
use Rattle.hir_input.specs.declared.edition.EditionYear.{EditionYear}
use Rattle.hir_input.specs.Attr.{MetaView}
use Rattle.hir_input.specs.Bodies.{without_bodies}
use Rattle.hir_input.specs.Syntax.{ItemViews, SyntaxView, source_file}
use Rattle.rust_leaves.specs.declared.wanted.Wanted.{Wanted}
use Rattle.rust_mended.specs.declared.edit.Edit.{Edit}
use Rattle.rust_mended.specs.declared.text.Mended.{Mended}
use Rattle.rust_mended.specs.Texts.{edits, mended_text, puts}
use Rattle.rust_metas.specs.Docs.{kept_metas}
use Rattle.rust_items.specs.declared.log.Problem.{Problem}
use Rattle.rust_items.specs.declared.source_file.ItemPlace.{ItemPlace}
use Rattle.rust_items.specs.SourceFiles.{FileView, IsClippedFile, IsFileView, clipped_file, clipped_syntax}
use Rattle.rust_items.proofs.BareItems.{bare, list_bare}
use Rattle.source_rows.specs.Listed.{Closers, told_place, told_item}
use Rattle.source_rows.specs.declared.mended_file.MendedFile.{MendedFile}
use Rattle.source_rows.specs.ListedFiles.{HasTextOf, IsListedBare, IsListedClipped, IsListedFile, closers_by, closers_in, closers_of, listed_closers, told_file}

-- ---- ids

pairs_told : (c : Closers) (ps : List ItemPlace) → AllPairs (λ p q. p.id ≢ q.id) ps → AllPairs (λ p q. p.id ≢ q.id) (map (told_item (Some c)) ps)
pairs_told c ps h i j d a b =
    let n : length (map (told_item (Some c)) ps) ≡ length ps = length-map ps (told_item (Some c)) in
    let first : get_or (map (told_item (Some c)) ps) i d ≡ told_item (Some c) (get_or ps i d) = get_or-map (told_item (Some c)) ps i d d (omega arith) in
    let second : get_or (map (told_item (Some c)) ps) j d ≡ told_item (Some c) (get_or ps j d) = get_or-map (told_item (Some c)) ps j d d (omega arith) in
    λ e. h i j d a (omega arith) (sym (ap (λ (p : ItemPlace). p.id) first) ∙ e ∙ ap (λ (p : ItemPlace). p.id) second)

-- the ids of items stay their own where their places are moved
pub ids_told : (c : Closers) (problems : List Problem) (read file : FileView) → AllPairs (λ p q. p.id ≢ q.id) read.places → file ≡ told_file (Some c) problems read → AllPairs (λ p q. p.id ≢ q.id) file.places
ids_told c problems read file h e = subst (λ (f : FileView). AllPairs (λ p q. p.id ≢ q.id) f.places) (sym e) (pairs_told c read.places h)

-- ---- where nothing is mended

same_items : (ps : List ItemPlace) → ps ≡ map (told_item None) ps
same_items [] = refl
same_items (p ∷ ps) = ap (λ (qs : List ItemPlace). p ∷ qs) (same_items ps)

same_places : (ns : List ℕ) → ns ≡ map (told_place None) ns
same_places [] = refl
same_places (n ∷ ns) = ap (λ (ms : List ℕ). n ∷ ms) (same_places ns)

same_file : (file : FileView) → file ≡ told_file None file.problems file
same_file file = λ j. record { syntax = file.syntax; places = same_items file.places j; use_trees = same_places file.use_trees j; problems = file.problems }

pub no_problems : (ps : List Problem) → length ps ≡ 0 → ps ≡ []
no_problems [] e = refl
no_problems (p ∷ ps) e = absurd (omega arith)

damaged : (text : List ℕ) (ps : List Problem) (items : List ItemPlace) → 0 < length ps → listed_closers text ps items ≡ closers_of text items
damaged text [] items l = absurd (omega arith)
damaged text (p ∷ ps) items l = refl

module _ (edition : EditionYear) (text : List ℕ) where
  own_listed : (file : FileView) → IsFileView edition text file → None ≡ listed_closers text file.problems file.places → IsListedFile edition text None file
  own_listed file h e = record { own = file; is_own = h; is_mended = e; read = file; is_read = h; told = same_file file }

  -- what is read of a text without problems is listed
  pub whole_listed : (file : FileView) → IsFileView edition text file → file.problems ≡ [] → IsListedFile edition text None file
  whole_listed file h e = own_listed file h (sym (ap (λ ps. listed_closers text ps file.places) e))

  -- and only that
  pub listed_whole : (closers : Option Closers) (file : FileView) → IsListedFile edition text closers file → file.problems ≡ [] → (closers ≡ None) × IsFileView edition text file
  listed_whole closers file h e =
      let none : h.own.problems ≡ [] = sym (ap (λ (f : FileView). f.problems) h.told) ∙ e in
      let unmended : closers ≡ None = h.is_mended ∙ ap (λ ps. listed_closers text ps h.read.places) none in
      by closers unmended h none
    where
      by : (c : Option Closers) → c ≡ None → (l : IsListedFile edition text c file) → l.own.problems ≡ [] → (c ≡ None) × IsFileView edition text file
      by None u l n =
          let same : l.own.problems ≡ l.read.problems = l.is_own.problems ∙ sym l.is_read.problems in
          (refl, subst (IsFileView edition text) (same_file l.read ∙ ap (λ ps. told_file None ps l.read) (sym same) ∙ sym l.told) l.is_read)
      by (Some c) u l n = absurd cc

-- ---- with what is wanted

module _ (w : Wanted) (edition : EditionYear) (text : List ℕ) (file : FileView) (b : IsClippedFile w edition text file) where
  own_clipped : None ≡ listed_closers text file.problems file.places → IsListedClipped w edition text None file
  own_clipped e = record { read = b.read; is_read = own_listed edition text b.read b.is_read (e ∙ ap (λ (f : FileView). listed_closers text f.problems f.places) b.clipped); clipped = b.clipped }

  -- what is read of a text without problems
  pub whole_clipped : length file.problems ≡ 0 → IsListedClipped w edition text None file
  whole_clipped e = own_clipped (sym (ap (λ ps. listed_closers text ps file.places) (no_problems file.problems e)))

  -- what is read of a text that is not mended
  pub unmended_clipped : edits text ≡ [] → IsListedClipped w edition text None file
  unmended_clipped e = own_clipped (by file.problems)
    where
      by : (ps : List Problem) → None ≡ listed_closers text ps file.places
      by [] = refl
      by (p ∷ ps) = ap (λ es. closers_by file.places es (puts text)) (sym e)

  -- what is read of its mended text
  pub mended_clipped : (closers : Option Closers) (c : Closers) (again told : FileView) → closers ≡ Some c → closers_of text again.places ≡ Some c → 0 < length file.problems → IsClippedFile w edition (mended_text text) again → told ≡ told_file (Some c) file.problems again
      → IsListedClipped w edition text closers told
  mended_clipped closers c again told is of l a e = subst (λ z. IsListedClipped w edition text z told) (sym is) (record {
    read = told_file (Some c) b.read.problems a.read;
    is_read = record {
      own = b.read;
      is_own = b.is_read;
      read = a.read;
      is_mended = sym of ∙ ap (λ (f : FileView). closers_of text f.places) a.clipped ∙ sym (damaged text b.read.problems a.read.places (subst (λ (f : FileView). 0 < length f.problems) b.clipped l));
      is_read = a.is_read;
      told = refl;
    };
    clipped = e ∙ ap (λ (f : FileView). told_file (Some c) file.problems f) a.clipped ∙ ap (λ (f : FileView). told_file (Some c) f.problems (clipped_file w a.read)) b.clipped;
  })

-- where closers are put in a text that is mended
pub closers_are : (text : List ℕ) (m : Mended) (items : List ItemPlace) → (m.edits.items ≡ edits text) × (0 < vec_len m.edits) → m.puts.items ≡ puts text
    → closers_of text items ≡ Some (record { puts = m.puts.items; items = items })
closers_are text m items h p = by (edits text) refl
  where
    by : (es : List Edit) → edits text ≡ es → closers_by items es (puts text) ≡ Some (record { puts = m.puts.items; items = items })
    by [] e = let none : length m.edits.items ≡ 0 = ap length (h.0 ∙ e) in absurd (omega (arith, none, h.1, m.edits.ok.0))
    by (x ∷ xs) e = ap (λ (a : List ℕ). Some (record { puts = a; items = items })) (sym p)

-- and where they were put in one that was read
pub closers_kept : (o : Option MendedFile) (m : Mended) (items : List ItemPlace) → option_map (λ x. x.mended) o ≡ Some m → option_map (λ x. x.items.items) o ≡ Some items
    → closers_in o ≡ Some (record { puts = m.puts.items; items = items })
closers_kept None m items e f = absurd cc
closers_kept (Some x) m items e f =
    let same : x.mended ≡ m = ap (λ (o : Option Mended). unwrap_or o m) e in
    let stand : x.items.items ≡ items = ap (λ (o : Option (List ItemPlace)). unwrap_or o items) f in
    λ k. Some (record { puts = (same k).puts.items; items = stand k })

pub text_kept : (text : List ℕ) (o : Option MendedFile) (m : Mended) → option_map (λ x. x.mended) o ≡ Some m → string_bytes m.text ≡ mended_text text → m.edits.items ≡ edits text → HasTextOf text o
text_kept text None m e t f = tt
text_kept text (Some x) m e t f =
    let same : x.mended ≡ m = ap (λ (o : Option Mended). unwrap_or o m) e in (ap (λ (y : Mended). string_bytes y.text) same ∙ t, ap (λ (y : Mended). y.edits.items) same ∙ f)

-- ---- without the texts of bodies

bare_syntax : (s : SyntaxView) (attrs : List MetaView) (is : ItemViews) → s ≡ source_file attrs is → clipped_syntax bare s ≡ without_bodies s
unfolding kept_metas
bare_syntax s attrs is e = ap (clipped_syntax bare) e ∙ ap (source_file attrs) (list_bare is) ∙ sym (ap without_bodies e)

pub bare_listed : (edition : EditionYear) (text : List ℕ) (closers : Option Closers) (file : FileView) → IsListedClipped bare edition text closers file → IsListedBare edition text closers file
bare_listed edition text closers file b = record {
  read = b.read;
  is_read = b.is_read;
  bare = b.clipped ∙ ap (λ s. record b.read { syntax = s }) (bare_syntax b.read.syntax _ _ (ap (λ (f : FileView). f.syntax) b.is_read.told ∙ b.is_read.is_read.syntax));
}
