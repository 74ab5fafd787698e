-- Labels, and items in turn.
use Rattle.std.proofs.Common.{◌≡◌, ◌<◌, ◌+◌, ℕ, List, [], ◌∷◌, ◌++◌, length, drop, get_or, refl, ap, sym, ◌∙◌, append_assoc, codes}
use Rattle.hir_input.specs.declared.edition.EditionYear.{EditionYear}
use Rattle.rust_items.specs.declared.source_file.ItemPlace.{ItemPlace}
use Rattle.source_rows.proofs.Steps.{drop_next}
use Rattle.source_changes.specs.Parts.{Outer, Part, around_behind, item_parts_from, label, parts_of, still_open}

-- a path is not empty
some_label : (word path name : List ℕ) → label word (path ++ codes "::" ++ name) ≡ word ++ 32 ∷ (path ++ codes "::" ++ name)
some_label word [] name = refl
some_label word (b ∷ bs) name = refl

pub path_label : (word path name : List ℕ) → label word (path ++ codes "::" ++ name) ≡ word ++ codes " " ++ path ++ codes "::" ++ name
path_label word path name =
    let front = word ++ codes " " in
    some_label word path name ∙ sym (append_assoc word (codes " ") (path ++ codes "::" ++ name)) ∙ sym (append_assoc front (path ++ codes "::") name)
    ∙ ap (λ l. l ++ name) (sym (append_assoc front path (codes "::")))

-- one more item
pub parts_more : (edition : EditionYear) (text : List ℕ) (done pushed : List Part) (around open_around next : List Outer) (items : List ItemPlace) (i : ℕ) (s : ItemPlace) (all : List Part) → i < length items → s ≡ get_or items i s
    → open_around ≡ still_open s.range.start around → pushed ≡ done ++ parts_of edition text open_around s → next ≡ around_behind text open_around s.id.kind s → done ++ item_parts_from edition text around (drop i items) ≡ all
    → pushed ++ item_parts_from edition text next (drop (i + 1) items) ≡ all
parts_more edition text done pushed around open_around next items i s all h e o p n inv =
    let rest : List ItemPlace = drop (i + 1) items in
    (λ k. p k ++ item_parts_from edition text (n k) rest) ∙ append_assoc done (parts_of edition text open_around s) (item_parts_from edition text (around_behind text open_around s.id.kind s) rest)
    ∙ (λ k. done ++ (parts_of edition text (o k) s ++ item_parts_from edition text (around_behind text (o k) s.id.kind s) rest))
    ∙ ap (λ (ss : List ItemPlace). done ++ item_parts_from edition text around ss) (sym (drop_next items i s h e)) ∙ inv
