-- Steps of what is read in turns.
use Rattle.std.proofs.Common.{◌≡◌, ◌≢◌, ◌==◌, ◌<◌, ◌+◌, ◌-◌, ℕ, zero, suc, Bool, true, false, List, [], ◌∷◌, ◌++◌, Option, refl, sym, ap, ◌∙◌, arith, append-nil, option_to_list, ne_eqb}
use Rattle.rust_items.proofs.Common.{FileAstId, ItemView, Tokens, symbol, at, behind_tree, progress_from, ItemSpan, ItemPlace, Found, Finder, and_problem, finding_from, deep_block, block_of, inside, turn, places}
use Rattle.rust_items.specs.declared.log.ProblemKind.TheVariants as problem
use Rattle.rust_items.specs.Items.{no_block}

-- ---- lists of items

pub finding_stop : (ends : Tokens → Bool) (turn : Finder (Option ItemView)) (n : ℕ) (done : List ItemView) (f : Found) (ts : Tokens) → ends ts ≡ true → finding_from ends turn n done f ts ≡ (done, (f, ts))
finding_stop ends turn zero done f ts e = refl
finding_stop ends turn (suc n) done f ts e = rw e refl

-- one more turn
pub finding_more : (ends : Tokens → Bool) (turn : Finder (Option ItemView)) (bound at past : ℕ) (done done' : List ItemView) (i : Option ItemView) (f f' : Found) (ts mid after : Tokens) (all : List ItemView × (Found × Tokens)) → at < bound → ends ts ≡ false
    → turn f ts ≡ (i, (f', mid)) → past ≡ ts.past → after ≡ progress_from past mid → done' ≡ done ++ option_to_list i → finding_from ends turn (bound - at) done f ts ≡ all → finding_from ends turn (bound - (at + 1)) done' f' after ≡ all
finding_more ends turn bound at past done done' i f f' ts mid after all below e told p a d before =
    let next : bound - at ≡ suc (bound - (at + 1)) = omega arith in
    let n = bound - (at + 1) in
    let step : finding_from ends turn (bound - at) done f ts ≡ finding_from ends turn n (done ++ option_to_list (turn f ts).0) (turn f ts).1.0 (progress_from ts.past (turn f ts).1.1) = rw (next, e) refl in
    let here : finding_from ends turn n (done ++ option_to_list (turn f ts).0) (turn f ts).1.0 (progress_from ts.past (turn f ts).1.1) ≡ finding_from ends turn n (done ++ option_to_list i) f' (progress_from ts.past mid) =
    ap (λ r. finding_from ends turn n (done ++ option_to_list r.0) r.1.0 (progress_from ts.past r.1.1)) told in
    ap (λ l. finding_from ends turn n l f' after) d
    ∙ ap (λ k. finding_from ends turn n (done ++ option_to_list i) f' k) (a ∙ ap (λ k. progress_from k mid) p)
    ∙ sym here ∙ sym step ∙ before

-- ---- modules

-- one that is too deep
pub inside_deep : (left : ℕ) (f : Found) (ts : Tokens) → left ≡ 0 → (symbol ts == 123) ≡ true → inside left f ts ≡ (deep_block, (and_problem problem.TooDeep (at ts) f, behind_tree ts))
unfolding inside
inside_deep zero f ts e b = rw b refl
inside_deep (suc left) f ts e b = absurd (omega arith)

-- no braces
pub inside_none : (left : ℕ) (f : Found) (ts : Tokens) → symbol ts ≢ 123 → inside left f ts ≡ (no_block, (f, ts))
unfolding inside
inside_none zero f ts e = let other : (symbol ts == 123) ≡ false = ne_eqb (symbol ts) 123 e in rw other refl
inside_none (suc left) f ts e = let other : (symbol ts == 123) ≡ false = ne_eqb (symbol ts) 123 e in rw other refl

-- the braces of a module
pub inside_some : (left : ℕ) (f : Found) (ts : Tokens) → 0 < left → (symbol ts == 123) ≡ true → inside left f ts ≡ block_of (turn (left - 1)) f ts
unfolding inside turn
inside_some zero f ts h e = absurd (omega arith)
inside_some (suc left) f ts h e = let less : suc left - 1 ≡ left = omega arith in rw (e, less) refl

-- ---- places

-- no id is left
pub places_none : (done : List ItemPlace) (spans : List ItemSpan) → done ++ places [] spans ≡ done
places_none done spans = append-nil done

-- no place is left
pub places_over : (done : List ItemPlace) (id : FileAstId) (ids : List FileAstId) → done ++ places (id ∷ ids) [] ≡ done
places_over done id ids = append-nil done
