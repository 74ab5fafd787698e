-- What stands in front of an item, and a name, is the same in a text that ends with a `;` or a `}` and in a longer one, until these pass the end.
use Rattle.std.proofs.Common.{◌≡◌, ◌+◌, ℕ, Option, List, refl, Some, None, ◌∷◌, ap, ◌∙◌, map}
use Rattle.rust_edits.proofs.Common.{option_map, MetaView, Tokens, at, bumped, FrontRead, front_behind, front, front_words, next_name, taken_with, name, Placed, placed_if, placed_name, Forwards, Ending, Near, at_same, past_same, near_parting, near_enters, near_levels, UntilBy, gone, kept, by_kept, then_until, AreAlike, no_more, one_more, IsAlike, neither, both, outer_attributes_until}
use Rattle.rust_cursor.specs.Grammar.{by_identifier}
use Rattle.rust_cursor.specs.Looks.{is_edge}
use Rattle.rust_cursor.proofs.Looks.{token_same}
use Rattle.rust_cursor.proofs.EndingTokens.{near_twins}
use Rattle.rust_cursor.proofs.Rules.{rule_leads, rule_until}
use Rattle.rust_paths.specs.Names.{identifier_name}
use Rattle.rust_paths.proofs.UseTreeRests.{name_symbol}

-- the same, so much further on
pub record FrontNear (b : Ending) (f g : FrontRead) : Type 0 where
  pub start : f.start ≡ g.start + b.by
  pub attrs : g.attrs ≡ f.attrs
  pub visibility : g.visibility ≡ f.visibility
  pub head : g.head ≡ f.head

front_behind_until : (b : Ending) (s s' : ℕ) → s ≡ s' + b.by → (attrs : List MetaView) (ts us : Tokens) → Near b ts us → UntilBy (FrontNear b) b (front_behind s attrs ts) (front_behind s' attrs us)
unfolding front_behind
front_behind_until b s s' e attrs ts us h =
    by_kept (rule_until (near_parting b) front_words ts us h) (λ g. gone g)
    (λ k. kept (record { value = record { start = e; attrs = refl; visibility = ap (λ p. p.0) k.value; head = ap (λ p. p.1) k.value }; rest = k.rest }))

front_behind_leads : (s : ℕ) (attrs : List MetaView) → Forwards (front_behind s attrs)
unfolding front_behind
front_behind_leads s attrs ts = rule_leads front_words ts

pub front_until : (b : Ending) (ts us : Tokens) → Near b ts us → UntilBy (FrontNear b) b (front ts) (front us)
unfolding front
front_until b ts us h =
    then_until (near_parting b) (front_behind (at ts)) (front_behind (at us)) (front_behind_leads (at ts)) (front_behind_leads (at us)) (λ attrs ts' us' k. front_behind_until b (at ts) (at us) (at_same b ts us h) attrs ts' us' k) (outer_attributes_until (near_parting b) (near_enters b) (near_levels b) ts us h)

-- ---- names and use trees

-- the same name, so much further on
pub data PlacedNear (b : Ending) : Option Placed → Option Placed → Type 0 where
  no_place : PlacedNear b None None
  placed_near : {p q : Placed} → q.name ≡ p.name → p.start ≡ q.start + b.by → p.end ≡ q.end + b.by → PlacedNear b (Some p) (Some q)

placed_kept : (b : Ending) (o o' : Option (List ℕ)) (ts us : Tokens) → o' ≡ o → Near b ts us → ((n : List ℕ) → o ≡ Some n → Near b (bumped ts) (bumped us))
    → UntilBy (PlacedNear b) b (placed_if (at ts) (taken_with o ts).0 (taken_with o ts).1.past, (taken_with o ts).1) (placed_if (at us) (taken_with o' us).0 (taken_with o' us).1.past, (taken_with o' us).1)
placed_kept b None o' ts us e h next = rw e (kept (record { value = no_place; rest = h }))
placed_kept b (Some n) o' ts us e h next = rw e (kept (record { value = placed_near refl (at_same b ts us h) (past_same b (bumped ts) (bumped us) (next n refl)); rest = next n refl }))

pub placed_name_until : (b : Ending) (ts us : Tokens) → Near b ts us → UntilBy (PlacedNear b) b (placed_name ts) (placed_name us)
unfolding placed_name name next_name
placed_name_until b ts us h = placed_kept b (next_name ts) (next_name us) ts us (token_same (near_twins b) (by_identifier identifier_name) ts us h) h (λ n e. (near_twins b).next ts us h (ap is_edge (name_symbol n ts e)))

-- places so much further on
abbrev pub further_on : Ending → List ℕ → List ℕ
further_on b = map (λ n. n + b.by)

pub are_further : (b : Ending) (f g : List ℕ) → AreAlike (λ n m. n ≡ m + b.by) f g → f ≡ further_on b g
are_further b f g no_more = refl
are_further b f g (one_more {y = y} {xs = xs} {ys = ys} h k) = ap (λ (n : ℕ). n ∷ xs) h ∙ ap (λ l. (y + b.by) ∷ l) (are_further b xs ys k)

pub is_further : (b : Ending) (o p : Option ℕ) → IsAlike (λ n m. n ≡ m + b.by) o p → o ≡ option_map (λ n. n + b.by) p
is_further b o p neither = refl
is_further b o p (both h) = ap Some h
