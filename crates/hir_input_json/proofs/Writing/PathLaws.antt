-- A path and a visibility that are written are read again.
use Rattle.std.proofs.Common.{◌≡◌, ◌^◌, ℕ, List, [], ◌∷◌, IfSome, codes, decimal, refl}
use Rattle.serde_json.specs.Data.{Data, string, array, Items, no_items, item}
use Rattle.hir_input.specs.declared.mod_path.PathKind.{PathKind}
use Rattle.hir_input_json.proofs.Writing.Common.{Plain, Super, DollarCrate, PathNode, Visibility, Reading, right, wrong, under, each_from, field, identifier_form, whole_form, path_node_form, vis_form, each_data, name_data, whole_data, kind_data, path_data, visibility_data, Holds, HoldEach}
use Rattle.hir_input.specs.declared.ast.PathNode.TheVariants.{Readable, Unreadable}
use Rattle.hir_input.specs.declared.ast.Visibility.TheVariants.{InPath}
use Rattle.hir_input_json.specs.Reading.{◌>>=◌}
use Rattle.hir_input_json.proofs.Writing.WrittenParts.{bind, mapped, each_law, name_law, whole_law}

-- one before others
abbrev led : {A : Type 0} → Reading A → Reading (List A) → Reading (List A)
led r rs = do
  a ← r
  as' ← rs
  right (a ∷ as')

not_none : {A : Type 0} (r : Reading A) (rs : Reading (List A)) → led r rs ≡ right [] → ⊥
not_none (wrong pointer) rs h = absurd cc
not_none (right a) (wrong pointer) h = absurd cc
not_none (right a) (right as') h = absurd cc

abbrev node_of : PathKind → List (List ℕ) → PathNode
node_of kind names = Readable (record { kind = kind; names = names })

plain_law : (names : List (List ℕ)) (d : Data) (ds : Items) → HoldEach identifier_form names (item d ds) → Holds path_node_form (node_of Plain names) (array (item (string (codes "plain")) (item d ds)))
plain_law [] d ds h = absurd (not_none (under (decimal 1) (identifier_form d)) (each_from 2 identifier_form ds) (h.reads 1))
plain_law (n ∷ ns) d ds h = record { there = refl; reads = rw (h.reads 1) refl; exact = h.exact }

kind_law : (kind : PathKind) (names : List (List ℕ)) (ds : Items) → HoldEach identifier_form names ds → IfSome (kind_data kind ds) (Holds path_node_form (node_of kind names))
kind_law Plain names no_items h = tt
kind_law Plain names (item d ds) h = plain_law names d ds h
kind_law (Super n) names ds h =
    mapped (whole_data (2 ^ 32) n) _ (Holds (whole_form (2 ^ 32)) n) (Holds path_node_form (node_of (Super n) names)) (whole_law (2 ^ 32) n)
    (λ d k. record { there = refl; reads = rw (k.reads, h.reads 2) refl; exact = rw (k.exact, h.exact) refl })
kind_law (DollarCrate c) names ds h =
    mapped (whole_data (2 ^ 32) c.0) _ (Holds (whole_form (2 ^ 32)) c.0) (Holds path_node_form (node_of (DollarCrate c) names)) (whole_law (2 ^ 32) c.0)
    (λ d k. record { there = refl; reads = rw (k.reads, h.reads 2) refl; exact = rw (k.exact, h.exact) refl })
kind_law kind names ds h = record { there = refl; reads = rw (h.reads 1) refl; exact = h.exact }

pub path_law : (p : PathNode) → IfSome (path_data p) (Holds path_node_form p)
path_law (Readable p) =
    bind (each_data name_data p.names) (kind_data p.kind) (HoldEach identifier_form p.names) (Holds path_node_form (Readable p)) (each_law name_data identifier_form name_law p.names) (λ ds h. kind_law p.kind p.names ds h)
path_law Unreadable = record { there = refl; reads = refl; exact = refl }

pub visibility_law : (v : Visibility) → IfSome (visibility_data v) (Holds vis_form v)
unfolding field
visibility_law (InPath p) =
    mapped (path_data p) _ (Holds path_node_form p) (Holds vis_form (InPath p)) (path_law p) (λ d h. record { there = refl; reads = rw (h.there, h.reads) refl; exact = rw h.exact refl })
visibility_law v = record { there = refl; reads = refl; exact = refl }
