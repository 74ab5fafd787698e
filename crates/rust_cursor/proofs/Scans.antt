-- Steps of what takes texts.
use Rattle.std.proofs.Common.{◌≡◌, ℕ, true, false, Bool, Option, None, List, [], ◌∷◌, refl, sym, ap, ◌∙◌}
use Rattle.rust_cursor.proofs.Common.{EditionYear, Piece, Nest, Extent, Tokens, symbol, is_empty, bumped, is_mark, is_whole, nest_behind, ExcerptRead, excerpt, stops, ends, opened_behind, block_at, more, taking, taking_from}
use Rattle.rust_cursor.proofs.Nesting.{not_first}

stop_from : (e : Extent) (done : List ℕ) (last : ℕ) (opened : Option Tokens) (nest : Nest) (ts : Tokens) (left : List Piece) → stops e nest ts ≡ true
    → taking_from e done last opened nest ts left ≡ (excerpt done false None, ts)
stop_from e done last opened nest ts [] s = refl
stop_from e done last opened nest ts (t ∷ left) s = rw s refl

-- nothing more is taken
pub taking_stop : (e : Extent) (done : List ℕ) (last : ℕ) (opened : Option Tokens) (nest : Nest) (ts : Tokens) → stops e nest ts ≡ true → taking e done last opened nest ts ≡ (excerpt done false None, ts)
unfolding taking
taking_stop e done last opened nest ts s = stop_from e done last opened nest ts ts.left s

end_from : (e : Extent) (done : List ℕ) (last : ℕ) (opened : Option Tokens) (nest : Nest) (past : ℕ) (left : List Piece) (u : Option ℕ) (y : EditionYear) → (let here : Tokens = record { past = past; left = left; unended = u; edition = y } in
    stops e nest here ≡ false → ends e (is_mark nest.before) (nest_behind nest here) here ≡ true
    → taking e done last opened nest here ≡ (excerpt (more e last done here) (is_whole (nest_behind nest here)) (block_at (opened_behind opened nest here) here), bumped here))
unfolding stops is_empty taking
end_from e done last opened nest past [] u y s f = absurd cc
end_from e done last opened nest past (t ∷ ts) u y s f = rw (s, f) refl

-- the next token is the last
pub taking_end : (e : Extent) (done : List ℕ) (last : ℕ) (opened : Option Tokens) (nest : Nest) (ts : Tokens) → stops e nest ts ≡ false → ends e (is_mark nest.before) (nest_behind nest ts) ts ≡ true
    → taking e done last opened nest ts ≡ (excerpt (more e last done ts) (is_whole (nest_behind nest ts)) (block_at (opened_behind opened nest ts) ts), bumped ts)
taking_end e done last opened nest ts s f = end_from e done last opened nest ts.past ts.left ts.unended ts.edition s f

more_from : (e : Extent) (done : List ℕ) (last : ℕ) (opened : Option Tokens) (nest : Nest) (past : ℕ) (left : List Piece) (u : Option ℕ) (y : EditionYear) → (let here : Tokens = record { past = past; left = left; unended = u; edition = y } in
    stops e nest here ≡ false → ends e (is_mark nest.before) (nest_behind nest here) here ≡ false
    → taking e done last opened nest here ≡ taking e (more e last done here) (symbol here) (opened_behind opened nest here) (nest_behind nest here) (bumped here))
unfolding stops is_empty taking bumped
more_from e done last opened nest past [] u y s f = absurd cc
more_from e done last opened nest past (t ∷ ts) u y s f = rw (s, f) refl

-- the next token is taken, and more
pub taking_more : (e : Extent) (done : List ℕ) (last : ℕ) (opened : Option Tokens) (nest : Nest) (ts : Tokens) → stops e nest ts ≡ false → ends e (is_mark nest.before) (nest_behind nest ts) ts ≡ false
    → taking e done last opened nest ts ≡ taking e (more e last done ts) (symbol ts) (opened_behind opened nest ts) (nest_behind nest ts) (bumped ts)
taking_more e done last opened nest ts s f = more_from e done last opened nest ts.past ts.left ts.unended ts.edition s f

-- where something is taken, something is left
pub taking_some : (e : Extent) (nest : Nest) (ts : Tokens) → stops e nest ts ≡ false → is_empty ts ≡ false
unfolding stops
taking_some e nest ts s = not_first (is_empty ts) _ s

-- a turn
pub taking_turn : (e : Extent) (done done' : List ℕ) (last last' : ℕ) (opened opened' : Option Tokens) (nest behind : Nest) (is_call : Bool) (ts ts' : Tokens) (all : ExcerptRead × Tokens) → stops e nest ts ≡ false
    → is_call ≡ is_mark nest.before → behind ≡ nest_behind nest ts → ends e is_call behind ts ≡ false → done' ≡ more e last done ts → last' ≡ symbol ts → opened' ≡ opened_behind opened nest ts → ts' ≡ bumped ts
    → taking e done last opened nest ts ≡ all → taking e done' last' opened' behind ts' ≡ all
taking_turn e done done' last last' opened opened' nest behind is_call ts ts' all s i b f d l o n told =
    let step = taking_more e done last opened nest ts s (ap (λ k. ends e (is_mark nest.before) k ts) (sym b) ∙ ap (λ k. ends e k behind ts) (sym i) ∙ f) in
    cc

-- the last turn
pub taking_last : (e : Extent) (done done' : List ℕ) (last : ℕ) (opened opened' block : Option Tokens) (nest behind : Nest) (is_call is_ended : Bool) (ts ts' : Tokens) (all : ExcerptRead × Tokens) → stops e nest ts ≡ false
    → is_call ≡ is_mark nest.before → behind ≡ nest_behind nest ts → ends e is_call behind ts ≡ true → done' ≡ more e last done ts → opened' ≡ opened_behind opened nest ts → block ≡ block_at opened' ts → is_ended ≡ is_whole behind → ts' ≡ bumped ts
    → taking e done last opened nest ts ≡ all → all ≡ (excerpt done' is_ended block, ts')
taking_last e done done' last opened opened' block nest behind is_call is_ended ts ts' all s i b f d o k w n told =
    let step = taking_end e done last opened nest ts s (ap (λ k. ends e (is_mark nest.before) k ts) (sym b) ∙ ap (λ k. ends e k behind ts) (sym i) ∙ f) in
    sym told ∙ step
    ∙ ap (λ t. (excerpt t (is_whole (nest_behind nest ts)) (block_at (opened_behind opened nest ts) ts), bumped ts)) (sym d)
    ∙ ap (λ c. (excerpt done' c (block_at (opened_behind opened nest ts) ts), bumped ts)) (sym (w ∙ ap is_whole b))
    ∙ ap (λ c. (excerpt done' is_ended c, bumped ts)) (sym (k ∙ ap (λ c. block_at c ts) o))
    ∙ ap (λ c. (excerpt done' is_ended block, c)) (sym n)
