-- The text of a token or a tree is the same of tokens beside, until it goes into the braces.
use Rattle.std.proofs.Common.{◌≡◌, ◌<◌, ℕ, zero, suc, true, false, Option, None, List, [], length, refl, ap, ◌∙◌, arith}
use Rattle.rust_cursor.proofs.Common.{Nest, Extent, Tokens, symbol, bumped, is_mark, nest_behind, ExcerptRead, stops, ends, more, taking, excerpt_behind, tree_text, Bodies, Beside}
use Rattle.rust_cursor.specs.declared.cursor.texts.Extent.TheVariants as extents
use Rattle.rust_cursor.proofs.TokenRests.{LeadsTo, here, when, taking_leads}
use Rattle.rust_cursor.proofs.Scans.{taking_stop, taking_end, taking_more, taking_some}
use Rattle.rust_cursor.proofs.Nesting.{shorter}
use Rattle.rust_cursor.proofs.Views.{beside_twins, symbol_same}
use Rattle.rust_cursor.proofs.Tests.{nest_same, stops_same, ends_same, more_same}
use Rattle.rust_cursor.proofs.BodyReaders.{gone_on, gone, kept, UpTo, Onward, into, on, bumped_onward}
use Rattle.rust_cursor.proofs.BodyValues.{UntilBy, went, stayed, by_stayed}

-- the same text
abbrev SameText : ExcerptRead → ExcerptRead → Type 0
SameText r s = s.text ≡ r.text

-- what is taken from a token on is left of what is behind it
taken_on : (e : Extent) (done : List ℕ) (last : ℕ) (o : Option Tokens) (n : Nest) (ts : Tokens) → stops e n ts ≡ false → LeadsTo (bumped ts) (taking e done last o n ts).1
taken_on e done last o n ts p =
    when (ends e (is_mark n.before) (nest_behind n ts) ts)
    (λ q. rw (taking_end e done last o n ts p q) here)
    (λ q. rw (taking_more e done last o n ts p q) (taking_leads e _ _ _ _ (bumped ts)))

-- a token, and then the others
text_next : (b : Bodies) (e : Extent) (done : List ℕ) (last : ℕ) (o o' : Option Tokens) (n : Nest) (ts us : Tokens) → Beside b ts us → stops e n ts ≡ false → Onward b (bumped ts) (bumped us)
    → ((done : List ℕ) (last : ℕ) (o o' : Option Tokens) (n : Nest) → Beside b (bumped ts) (bumped us) → UntilBy SameText b (taking e done last o n (bumped ts)) (taking e done last o' n (bumped us)))
    → UntilBy SameText b (taking e done last o n ts) (taking e done last o' n us)
text_next b e done last o o' n ts us h p (into g) rest = went (gone_on g (taken_on e done last o n ts p))
text_next b e done last o o' n ts us h p (on next) rest =
    let call = is_mark n.before in
    let p' : stops e n us ≡ false = stops_same (beside_twins b) e n ts us h ∙ p in
    let same = nest_same (beside_twins b) n ts us h in
    let ends' : ends e call (nest_behind n us) us ≡ ends e call (nest_behind n ts) ts = ap (λ (k : Nest). ends e call k us) same ∙ ends_same (beside_twins b) e call (nest_behind n ts) ts us (symbol_same b ts us h) next in
    when (ends e call (nest_behind n ts) ts)
    (λ q. rw (taking_end e done last o n ts p q, taking_end e done last o' n us p' (ends' ∙ q), same, more_same (beside_twins b) e last done ts us h)
    (stayed (record { value = refl; rest = next })))
    (λ q. rw (taking_more e done last o n ts p q, taking_more e done last o' n us p' (ends' ∙ q), same, more_same (beside_twins b) e last done ts us h, symbol_same b ts us h)
    (rest (more e last done ts) (symbol ts) _ _ (nest_behind n ts) next))

text_until : (b : Bodies) (e : Extent) (fuel : ℕ) (ts us : Tokens) → length ts.left < fuel → (done : List ℕ) (last : ℕ) (o o' : Option Tokens) (n : Nest) → Beside b ts us
    → UntilBy SameText b (taking e done last o n ts) (taking e done last o' n us)
text_until b e zero ts us below done last o o' n h = absurd (omega arith)
text_until b e (suc fuel) ts us below done last o o' n h =
    when (stops e n ts)
    (λ p. let p' : stops e n us ≡ true = stops_same (beside_twins b) e n ts us h ∙ p in
    rw (taking_stop e done last o n ts p, taking_stop e done last o' n us p') (stayed (record { value = refl; rest = h })))
    (λ p. let less = shorter ts (taking_some e n ts p) in
    text_next b e done last o o' n ts us h p (bumped_onward b ts us h) (text_until b e fuel (bumped ts) (bumped us) (omega arith)))

pub tree_text_until : (b : Bodies) → UpTo b tree_text
unfolding excerpt_behind
tree_text_until b ts us h =
    by_stayed (text_until b extents.Tree (suc (length ts.left)) ts us (omega arith) [] 0 None None _ h) (λ g. gone g) (λ k. kept (record { value = k.value; rest = k.rest }))
