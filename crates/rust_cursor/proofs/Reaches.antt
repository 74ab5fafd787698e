-- Steps of what passes over angle brackets.
use Rattle.std.proofs.Common.{◌≡◌, true, false, sym, ap, ◌∙◌}
use Rattle.rust_cursor.proofs.Common.{Nest, Reach, Tokens, is_empty, bumped, nest_behind, is_reached, is_closed, reach_from}
use Rattle.rust_cursor.proofs.Nesting.{not_first}
use Rattle.rust_cursor.proofs.Steps.{passing, passing_stop, passing_end, passing_more}

pub reaching_stop : (r : Reach) (nest : Nest) (ts : Tokens) → is_reached r nest ts ≡ true → reach_from r nest ts ≡ ts
unfolding reach_from passing
reaching_stop r nest ts s = passing_stop (is_reached r) (is_closed r) nest ts s

-- where a token is passed over, one is left
pub reaching_some : (r : Reach) (nest : Nest) (ts : Tokens) → is_reached r nest ts ≡ false → is_empty ts ≡ false
unfolding is_reached
reaching_some r nest ts s = not_first (is_empty ts) _ s

pub reaching_end : (r : Reach) (nest : Nest) (ts : Tokens) → is_reached r nest ts ≡ false → is_closed r (nest_behind nest ts) ≡ true → reach_from r nest ts ≡ bumped ts
unfolding reach_from passing
reaching_end r nest ts s f = passing_end (is_reached r) (is_closed r) nest ts (reaching_some r nest ts s) s f

pub reaching_more : (r : Reach) (nest : Nest) (ts : Tokens) → is_reached r nest ts ≡ false → is_closed r (nest_behind nest ts) ≡ false → reach_from r nest ts ≡ reach_from r (nest_behind nest ts) (bumped ts)
unfolding reach_from passing
reaching_more r nest ts s f = passing_more (is_reached r) (is_closed r) nest ts (reaching_some r nest ts s) s f

-- a turn
pub reaching_turn : (r : Reach) (nest behind : Nest) (ts ts' all : Tokens) → is_reached r nest ts ≡ false → behind ≡ nest_behind nest ts → is_closed r behind ≡ false → ts' ≡ bumped ts → reach_from r nest ts ≡ all → reach_from r behind ts' ≡ all
reaching_turn r nest behind ts ts' all s b f n told =
    let step = reaching_more r nest ts s (ap (λ k. is_closed r k) (sym b) ∙ f) in
    cc
