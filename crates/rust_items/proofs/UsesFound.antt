-- The use trees of items, with the ranges of the items' places.
use Rattle.std.proofs.Common.{◌≡◌, ◌<◌, ◌≤◌, ℕ, List, [], ◌∷◌, ◌++◌, ap, ◌∙◌, append_assoc, arith, All}
use Rattle.rust_items.proofs.Common.{AllZip, ItemView, ItemViews, no_items, item_and, items_from, UseTreeView, TextRange, ItemPlace, items_held, trees_in, trees_within}
use Rattle.rust_items.proofs.TreesRead.{zip_is}

-- ---- the use trees of items that follow one another

pub record IsWithin (from to : ℕ) (range : TextRange) : Type 0 where
  pub begins : from ≤ range.start
  pub some : range.start ≤ range.end
  pub ends : range.end ≤ to

abbrev pub IsIn : ℕ → ℕ → ℕ → Type 0
IsIn from to s = (from ≤ s) × (s < to)

-- The places of items in preorder, from a byte on and up to another, and where the use trees of the items begin: those of an item that
-- holds none in its range, and those of one that holds others where these have them.
pub data UsesIn (R : ℕ → UseTreeView → Type 0) : ℕ → ℕ → ItemViews → List ItemPlace → List ℕ → Type 0 where
  no_uses : {from to : ℕ} → UsesIn R from to no_items [] []
  leaf_uses : {from to : ℕ} {i : ItemView} {is : ItemViews} {p : ItemPlace} {ps : List ItemPlace} {starts : List ℕ} (own behind : List ℕ)
      → starts ≡ own ++ behind → items_held i ≡ no_items → IsWithin from to p.range → All (IsIn p.range.start p.range.end) own → AllZip R own (trees_in i)
      → UsesIn R p.range.end to is ps behind → UsesIn R from to (item_and i is) (p ∷ ps) starts
  holder_uses : {from to : ℕ} {i : ItemView} {is : ItemViews} {p : ItemPlace} {ps : List ItemPlace} {starts : List ℕ} (inner later : List ItemPlace) (below behind : List ℕ)
      → ps ≡ inner ++ later → starts ≡ below ++ behind → trees_in i ≡ trees_within (items_held i) → IsWithin from to p.range
      → UsesIn R p.range.start p.range.end (items_held i) inner below → UsesIn R p.range.end to is later behind → UsesIn R from to (item_and i is) (p ∷ ps) starts

widened_within : {from to : ℕ} {range : TextRange} (low high : ℕ) → low ≤ from → to ≤ high → IsWithin from to range → IsWithin low high range
widened_within low high l h w = let b = w.begins in let e = w.ends in record { begins = omega arith; some = w.some; ends = omega arith }

-- from an earlier byte on and up to a later one
pub widened_uses : {R : ℕ → UseTreeView → Type 0} {from to : ℕ} {is : ItemViews} {ps : List ItemPlace} {us : List ℕ} (low high : ℕ) → low ≤ from → to ≤ high → UsesIn R from to is ps us → UsesIn R low high is ps us
widened_uses low high l h no_uses = no_uses
widened_uses low high l h (leaf_uses {p = p} own behind e none w own_in each later) =
    leaf_uses own behind e none (widened_within low high l h w) own_in each (widened_uses p.range.end high (omega arith) h later)
widened_uses low high l h (holder_uses {p = p} inner later below behind e f same w a b) =
    holder_uses inner later below behind e f same (widened_within low high l h w) a (widened_uses p.range.end high (omega arith) h b)

-- where something else is read
pub retold_uses : {R S : ℕ → UseTreeView → Type 0} {from to : ℕ} {is : ItemViews} {ps : List ItemPlace} {us : List ℕ} → ((s : ℕ) (t : UseTreeView) → R s t → S s t) → UsesIn R from to is ps us → UsesIn S from to is ps us
retold_uses f no_uses = no_uses
retold_uses {R} {S} f (leaf_uses {i = i} own behind e none w own_in each later) = leaf_uses own behind e none w own_in (zip_is R S f own (trees_in i) each) (retold_uses f later)
retold_uses f (holder_uses inner later below behind e g same w a b) = holder_uses inner later below behind e g same w (retold_uses f a) (retold_uses f b)

-- more items behind
pub joined_uses : {R : ℕ → UseTreeView → Type 0} {ps : List ItemPlace} {us : List ℕ} (from mid low to : ℕ) (xs ys : List ItemView) (qs : List ItemPlace) (vs : List ℕ) → from ≤ low → mid ≤ low → mid ≤ to
    → UsesIn R from mid (items_from xs) ps us → UsesIn R low to (items_from ys) qs vs → UsesIn R from to (items_from (xs ++ ys)) (ps ++ qs) (us ++ vs)
joined_uses from mid low to [] ys qs vs a b c no_uses q = widened_uses from to a (omega arith) q
joined_uses from mid low to (x ∷ xs) ys qs vs a b c (leaf_uses {p = p} own behind e none w own_in each later) q =
    let ends = w.ends in
    leaf_uses own (behind ++ vs) (ap (λ l. l ++ vs) e ∙ append_assoc own behind vs) none (widened_within from to (omega arith) c w) own_in each
    (joined_uses p.range.end mid low to xs ys qs vs (omega arith) b c later q)
joined_uses from mid low to (x ∷ xs) ys qs vs a b c (holder_uses {p = p} inner later below behind e f same w m n) q =
    let ends = w.ends in
    holder_uses inner (later ++ qs) below (behind ++ vs) (ap (λ l. l ++ qs) e ∙ append_assoc inner later qs) (ap (λ l. l ++ vs) f ∙ append_assoc below behind vs) same (widened_within from to (omega arith) c w) m
    (joined_uses p.range.end mid low to xs ys qs vs (omega arith) b c n q)
