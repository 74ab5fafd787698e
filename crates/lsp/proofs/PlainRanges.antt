-- Ranges hold no float.
use Rattle.std.proofs.Common.{◌≡◌, ℕ, Bool, true, false, ◌&&◌, ◌||◌, if◌then◌else◌, List, [], ◌∷◌, ◌++◌, Option, Some, None, flat_map, map, codes, nat_lt, refl, ap, unwrap_or}
use Rattle.serde_json.specs.Data.{Data, object, no_members, member}
use Rattle.list_forms.specs.Lines.{count_form}
use Rattle.line_index.specs.declared.Units.TheVariants.{Bytes}
use Rattle.serde_json.specs.View.{items_of}
use Rattle.serde_json.specs.Written.{has_float, items_have_float}
use Rattle.line_index.specs.declared.Point.{Point}
use Rattle.line_index.specs.declared.Units.{Units}
use Rattle.rust_paths.specs.declared.names.TextRange.{TextRange}
use Rattle.lsp.specs.Bytes.{byte_of, place_of_byte, range_span}
use Rattle.lsp.specs.Folding.{fold_data, fold_range}
use Rattle.lsp.specs.Highlight.{highlights_at, mark_data, marks_at}
use Rattle.lsp.specs.Parts.{holds_byte}
use Rattle.lsp.specs.Ranges.{range_items}
use Rattle.lsp.specs.Selection.{Chain, inner_data, is_range_within, selection_at, whole_chain, with_part, with_parts, with_range}
use Rattle.lsp.specs.declared.method.RangeKind.{RangeKind}
use Rattle.lsp.specs.declared.method.RangeKind.TheVariants.{Folding, Selection, Highlight}
use Rattle.lsp.specs.declared.parts.Part.{Part}

-- no float in the items of a list
abbrev pub ArePlain : List Data → Type 0
ArePlain ds = items_have_float (items_of ds) ≡ false

first_none : (a b : Bool) → (a || b) ≡ false → a ≡ false
first_none false b e = refl
first_none true b e = absurd cc

second_none : (a b : Bool) → (a || b) ≡ false → b ≡ false
second_none false b e = e
second_none true b e = absurd cc

plain_both : (xs ys : List Data) → ArePlain xs → ArePlain ys → ArePlain (xs ++ ys)
plain_both [] ys e f = f
plain_both (x ∷ xs) ys e f =
    let here = first_none (has_float x) (items_have_float (items_of xs)) e in
    let rest = second_none (has_float x) (items_have_float (items_of xs)) e in rw (here, plain_both xs ys rest f) refl

plain_map : {A : Type 0} (each : A → Data) (xs : List A) → ((x : A) → has_float (each x) ≡ false) → ArePlain (map each xs)
plain_map each [] h = refl
plain_map each (x ∷ xs) h = rw (h x, plain_map each xs h) refl

plain_flat : {A : Type 0} (each : A → List Data) (xs : List A) → ((x : A) → ArePlain (each x)) → ArePlain (flat_map each xs)
plain_flat each [] h = refl
plain_flat each (x ∷ xs) h = plain_both (each x) (flat_map each xs) (h x) (plain_flat each xs h)

lines_by : (b : Bool) (start end : ℕ) → ArePlain (if b then object (member (codes "endLine") (count_form end) (member (codes "startLine") (count_form start) no_members)) ∷ [] else [])
lines_by false start end = refl
lines_by true start end = refl

plain_fold : (text : List ℕ) (p : Part) → ArePlain (fold_data text p)
plain_fold text p =
    let start = (place_of_byte Bytes text (fold_range p).start).line in
    let end = (place_of_byte Bytes text (fold_range p).end).line in lines_by (nat_lt start end) start end

chain_by : (b : Bool) (c d : Chain) → has_float c.value ≡ false → has_float d.value ≡ false → has_float (if b then d else c).value ≡ false
chain_by true c d e f = f
chain_by false c d e f = e

plain_range : (units : Units) (text : List ℕ) (at : ℕ) (r : TextRange) (c : Chain) → has_float c.value ≡ false → has_float (with_range units text at r c).value ≡ false
plain_range units text at r c e =
    chain_by (is_range_within c.range r && holds_byte at r) c (record { range = r; value = inner_data (range_span units text r) c.value }) e (ap (λ b. b || false) e)

plain_parts : (units : Units) (text : List ℕ) (at : ℕ) (ps : List Part) (c : Chain) → has_float c.value ≡ false → has_float (with_parts units text at ps c).value ≡ false
plain_parts units text at [] c e = e
plain_parts units text at (p ∷ ps) c e = plain_parts units text at ps (with_part units text at p c) (plain_range units text at (unwrap_or p.name p.range) (with_range units text at p.range c) (plain_range units text at p.range c e))

plain_mark : (units : Units) (text : List ℕ) (m : Option TextRange) → ArePlain (mark_data units text m)
plain_mark units text None = refl
plain_mark units text (Some r) = refl

pub plain_ranges : (kind : RangeKind) (units : Units) (text : List ℕ) (ps : List Part) (places : List Point) → ArePlain (range_items kind units text ps places)
plain_ranges Folding units text ps places = plain_flat (fold_data text) ps (plain_fold text)
plain_ranges Selection units text ps places = plain_map (selection_at units text ps) places (λ place. plain_parts units text (byte_of units place text) ps (whole_chain units text) refl)
plain_ranges Highlight units text ps places = plain_flat (highlights_at units text ps) places (λ place. plain_flat (mark_data units text) (marks_at (byte_of units place text) ps) (plain_mark units text))
