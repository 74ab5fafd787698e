-- Items are the same in a text that ends with a `;` or a `}` and in a longer one, where they end there or before.
use Rattle.std.proofs.Common.{◌≡◌, ◌≤◌, length-append, ◌<◌, ◌+◌, ◌==◌, ◌&&◌, ℕ, zero, suc, Bool, true, false, Option, Some, None, List, [], ◌∷◌, ◌++◌, length, refl, ap, ◌∙◌, arith, codes}
use Rattle.rust_edits.specs.ItemJoins.Ends.{is_unfinished_at}
use Rattle.rust_edits.proofs.Common.{not, common_steps, option_to_list, is_some, AstIdKind, MetaView, ItemView, most_tokens, progress_from, Tokens, symbol, at, eat_word, bumped, is_at_end, TextRange, path, use_tree, inner_attributes, Head, FrontRead, front, constant, structure, implementation, crate_item, use_declaration, macro_definition, is_called, begins_call, invocation, item_call, leaf_by, leaf, LeafRead, written_name, named_or, written_rename, ProblemKind, Found, Finder, and_problem, and_problem_at, and_item, and_leaf, leaf_found, leaf_turn, finding_from, finding, is_list_end, BlockRead, block_of, as_extern, extern_kept, extern_found, unmatched_token, extern_turn, extern_inside, inside, turn, IsLaid, behind, LeadsTo, here, further, through, when, bumped_leads, beyond_leads, eat_leads, eat_word_leads, Ending, Near, fewer, nothing, bumped_onward, at_same, past_same, near_twins, beyond_near, near_parting, near_enters, near_levels, Kept, AtEnd, is_still, Outcome, lost, stays, comes, untaken, eat_outcome, eat_fewer, Same, by_next, by_kept, symbol_same, empty_same, end_same, use_tree_leads, inner_attributes_leads, inner_attributes_until, behind_others_onward, named_leads, named_or_leads, renamed_leads, behind_others_leads, front_takes, LeafAt, leaf_at, Finds, extern_turn_found, list_from, mut_word, mut_word_leads, plain_leaf}
use Rattle.rust_leaves.specs.declared.head.Head.TheVariants as heads
use Rattle.rust_items.specs.declared.log.ProblemKind.TheVariants as problem
use Rattle.rust_edits.proofs.ItemJoins.EndingFronts.{FrontNear, front_until}
use Rattle.rust_edits.proofs.ItemJoins.EndingParts.{LeafNear, Given, given_on, call_end_fewer, rest_fewer}
use Rattle.rust_edits.proofs.ItemJoins.EndingLeaves.{Ends, passes, before_end, at_end, SomeLeaf, no_leaf, one_leaf, leaf_ended, LeafEnds, leaf_ends}
use Rattle.rust_cursor.specs.Grammar.{reads}
use Rattle.rust_cursor.proofs.Rules.{rule_leads}
use Rattle.rust_cursor.specs.Looks.{sees}
pub use Rattle.rust_edits.proofs.ItemJoins.FoundFurther.{place_on, FoundNear, problem_near, item_near, leaf_near, all_near}

-- ---- what a reader of items finds

-- what was read with what was found, and what is left
abbrev pub flat : {A : Type 0} → A × (Found × Tokens) → (A × Found) × Tokens
flat r = ((r.0, r.1.0), r.1.1)

pub record FoundAlike {A : Type 0} (b : Ending) (before : Found) (p q : A × Found) : Type 0 where
  pub value : q.0 ≡ p.0
  pub found : FoundNear b before p.1 q.1

-- how many problems are told
abbrev pub told : Found → ℕ
told f = length f.problems

-- a problem more is told than of this
abbrev pub TellsMore : {A : Type 0} → Found → A × Found → Type 0
TellsMore g r = told g < told r.1

-- a problem that is told
pub told_problem : (k : ProblemKind) (at : ℕ) (f : Found) → told f < told (and_problem k at f)
told_problem k at f = let sum = length-append f.problems (record { kind = k; at = at } ∷ []) in omega arith

told_deep : (k : ProblemKind) (o : Option ℕ) (f : Found) → told f ≤ told (and_problem_at k o f)
told_deep k None f = omega arith
told_deep k (Some at) f = let more = told_problem k at f in omega arith

-- the longer text comes to its end or goes past it, and nothing is left of the shorter one, or both stay before it
pub data Long {A : Type 0} (alike : A → A → Type 0) (b : Ending) : A × Tokens → A × Tokens → Type 0 where
  over : {p q : A × Tokens} → length p.1.left ≤ length b.behind → b.level ≡ false → q.1.left ≡ [] → Long alike b p q
  under : {p q : A × Tokens} → Kept alike b p q → Long alike b p q

pub ends_long : {A : Type 0} {alike : A → A → Type 0} {Flawed Whole : A → Type 0} {b : Ending} {p q : A × Tokens} → Ends alike Flawed Whole b p q → Long alike b p q
ends_long {p = p} (passes few uneven none never strict) = over {p = p} few uneven none
ends_long (before_end k) = under k
ends_long {b = b} {p = p} (at_end t a) = over {p = p} (let same = ap length a.behind in omega arith) a.uneven a.none

pub by_long : {A B : Type 0} {alike : A → A → Type 0} {b : Ending} {p q : A × Tokens} → Long alike b p q
    → (length p.1.left ≤ length b.behind → b.level ≡ false → q.1.left ≡ [] → B) → (Kept alike b p q → B) → B
by_long (over few uneven none) far near = far few uneven none
by_long (under k) far near = near k

abbrev pub TurnLong : Ending → Finder (Option ItemView) → Type 0
TurnLong b turn =
    (n m : ℕ) (before f g : Found) (ts us : Tokens) → Given n m ts us → Near b ts us → FoundNear b before f g → Long (FoundAlike b before) b (flat (turn f ts)) (flat (turn g us))

-- ---- lists

pub top_end : (is_top : Bool) (b : Ending) (ts us : Tokens) → Near b ts us → is_list_end is_top us ≡ is_list_end is_top ts
unfolding is_list_end
top_end is_top b ts us h = rw (empty_same (near_twins b) ts us h, symbol_same (near_twins b) ts us h) refl

module _ (is_top : Bool) (b : Ending) (turn : Finder (Option ItemView)) (t : TurnLong b turn) (finds : (end : ℕ) → Finds end turn) where
  list_leads : (n k : ℕ) (done : List ItemView) (f : Found) (ts : Tokens) → IsLaid n ts → LeadsTo ts (finding_from (is_list_end is_top) turn k done f ts).1.1
  list_leads n k done f ts l = (list_from n (is_list_end is_top) turn (finds n) k done f ts l).found.leads

  pub list_long : (n m k : ℕ) (before : Found) (done done' : List ItemView) (f g : Found) (ts us : Tokens) → Given n m ts us → Near b ts us → done' ≡ done → FoundNear b before f g
      → Long (FoundAlike b before) b (flat (finding_from (is_list_end is_top) turn k done f ts)) (flat (finding_from (is_list_end is_top) turn k done' g us))
  list_long n m zero before done done' f g ts us given h d a = under (record { value = record { value = d; found = a }; rest = h })
  list_long n m (suc k) before done done' f g ts us given h d a =
      let r = turn f ts in
      let r' = turn g us in
      let next = progress_from ts.past r.1.1 in
      let next' = progress_from us.past r'.1.1 in
      let to : LeadsTo ts r.1.1 = (finds n f ts given.laid).leads in
      let to' : LeadsTo us r'.1.1 = (finds m g us given.short.laid).leads in
      let far : LeadsTo ts next = through to (beyond_leads ts.past r.1.1) in
      let far' : LeadsTo us next' = through to' (beyond_leads us.past r'.1.1) in
      let rest = list_leads n k (done ++ option_to_list r.0) r.1.0 next (behind n far given.laid).laid in
      let rest' = list_leads m k (done' ++ option_to_list r'.0) r'.1.0 next' (behind m far' given.short.laid).laid in
      when (is_list_end is_top ts)
      (λ e. rw (top_end is_top b ts us h, e) (under (record { value = record { value = d; found = a }; rest = h })))
      (λ e. rw (top_end is_top b ts us h, e)
      (by_long {B = Long (FoundAlike b before) b (flat (finding_from (is_list_end is_top) turn k (done ++ option_to_list r.0) r.1.0 next)) (flat (finding_from (is_list_end is_top) turn k (done' ++ option_to_list r'.0) r'.1.0 next'))}
      (t n m before f g ts us given h a)
      (λ few uneven none.
      over {p = flat (finding_from (is_list_end is_top) turn k (done ++ option_to_list r.0) r.1.0 next)} (let less = fewer (through (beyond_leads ts.past r.1.1) rest) in omega arith) uneven
      (nothing (through (beyond_leads us.past r'.1.1) rest') none))
      (λ l. by_next (beyond_near b ts us r.1.1 r'.1.1 h l.rest)
      (λ o. over {p = flat (finding_from (is_list_end is_top) turn k (done ++ option_to_list r.0) r.1.0 next)} (let few = o.few in let less = fewer rest in omega arith) o.uneven (nothing rest' o.none))
      (λ w. list_long n m k before _ _ r.1.0 r'.1.0 next next' (given_on given far far') w
      (ap (λ z. z ++ option_to_list r'.0) d ∙ ap (λ z. done ++ option_to_list z) l.value.value) l.value.found))))

-- ---- blocks

-- it is not closed, or a problem more is told of what stands in it
pub data IsOpen (g : Found) (r : BlockRead × Found) : Type 0 where
  is_open : r.0.is_ended ≡ false → IsOpen g r
  is_told : told g < told r.1 → IsOpen g r

abbrev pub IsClosed : BlockRead × Found → Type 0
IsClosed r = r.0.is_ended ≡ true

abbrev pub BlockEnds : (BlockRead × Found → Type 0) → Ending → Finder BlockRead → Type 0
BlockEnds Whole b inside =
    (n m : ℕ) (before f g : Found) (ts us : Tokens) → Given n m ts us → Near b ts us → FoundNear b before f g → Ends (FoundAlike b before) (IsOpen g) Whole b (flat (inside f ts)) (flat (inside g us))

abbrev read_as : List MetaView → List ItemView → Bool → BlockRead
read_as attrs is t = record { attrs = attrs; items = Some is; is_ended = t }

read_same : (attrs attrs' : List MetaView) (is is' : List ItemView) (t t' : Bool) → attrs' ≡ attrs → is' ≡ is → t' ≡ t → read_as attrs' is' t' ≡ read_as attrs is t
read_same attrs attrs' is is' t t' e d c = rw (e, d, c) refl

-- behind the items of a block
closed_ends : (b : Ending) (before base : Found) (attrs attrs' : List MetaView) (is is' : List ItemView) (f g : Found) {p q : Bool × Tokens} → attrs' ≡ attrs → is' ≡ is → FoundNear b before f g → Outcome Same (λ t. t) b p q
    → Ends (FoundAlike b before) (IsOpen base) IsClosed b ((read_as attrs is p.0, f), p.1) ((read_as attrs' is' q.0, g), q.1)
closed_ends b before base attrs attrs' is is' f g {p = p} {q = q} e d n (lost o s c) = passes {p = ((read_as attrs is p.0, f), p.1)} o.few o.uneven o.none (λ t. is_open (c t)) s
closed_ends b before base attrs attrs' is is' f g {p = p} {q = q} e d n (stays k) = before_end (record { value = record { value = read_same attrs attrs' is is' p.0 q.0 e d k.value; found = n }; rest = k.rest })
closed_ends b before base attrs attrs' is is' f g {p = p} {q = q} e d n (comes c a) = at_end (record { value = read_same attrs attrs' is is' p.0 q.0 e d c; found = n }) a

module _ (b : Ending) (turn : Finder (Option ItemView)) (t : TurnLong b turn) (finds : (end : ℕ) → Finds end turn) where
  pub block_ends : (n m : ℕ) (before f g : Found) (ts us : Tokens) → Given n m ts us → Near b ts us → FoundNear b before f g
      → Ends (FoundAlike b before) (IsOpen g) IsClosed b (flat (block_of turn f ts)) (flat (block_of turn g us))
  unfolding finding
  block_ends n m before f g ts us given h a =
      let inner = inner_attributes (bumped ts) in
      let inner' = inner_attributes (bumped us) in
      let open_to : LeadsTo ts inner.1 = further (inner_attributes_leads (bumped ts)) in
      let open_to' : LeadsTo us inner'.1 = further (inner_attributes_leads (bumped us)) in
      let given' = given_on given open_to open_to' in
      let list = finding_from (is_list_end false) turn most_tokens [] f inner.1 in
      let list' = finding_from (is_list_end false) turn most_tokens [] g inner'.1 in
      let list_to : LeadsTo inner.1 list.1.1 = list_leads false b turn t finds n most_tokens [] f inner.1 given'.laid in
      let list_to' : LeadsTo inner'.1 list'.1.1 = list_leads false b turn t finds m most_tokens [] g inner'.1 given'.short.laid in
      let far : length list.1.1.left ≤ length b.behind → b.level ≡ false → list'.1.1.left ≡ [] → Ends (FoundAlike b before) (IsOpen g) IsClosed b (flat (block_of turn f ts)) (flat (block_of turn g us)) =
      λ few uneven none. passes {p = flat (block_of turn f ts)} (let less = fewer (eat_leads 125 list.1.1) in omega arith) uneven (nothing (eat_leads 125 list'.1.1) none)
      (λ s. is_open (untaken list'.1.1 none (eat_fewer 125 list'.1.1 (omega arith)))) (λ e. let less = eat_fewer 125 list.1.1 (omega arith) e in omega arith) in
      by_next (bumped_onward b ts us h)
      (λ o. far (let few = o.few in let less = fewer (through (inner_attributes_leads (bumped ts)) list_to) in omega arith) o.uneven (nothing (through (inner_attributes_leads (bumped us)) list_to') o.none))
      (λ k. by_kept (inner_attributes_until (near_parting b) (near_enters b) (near_levels b) (bumped ts) (bumped us) k)
      (λ o. far (let few = o.few in let less = fewer list_to in omega arith) o.uneven (nothing list_to' o.none))
      (λ l. by_long (list_long false b turn t finds n m most_tokens before [] [] f g inner.1 inner'.1 given' l.rest refl a) far
      (λ w. closed_ends b before g inner.0 inner'.0 list.0 list'.0 list.1.0 list'.1.0 l.value w.value.value w.value.found (eat_outcome b 125 list.1.1 list'.1.1 w.rest))))

  -- what is closed takes a token
  pub block_fewer : (n : ℕ) (f : Found) (ts : Tokens) → IsLaid n ts → (block_of turn f ts).0.is_ended ≡ true → length (block_of turn f ts).1.1.left < length ts.left
  unfolding finding
  block_fewer n f ts laid e =
      let inner = inner_attributes (bumped ts) in
      let to : LeadsTo ts inner.1 = further (inner_attributes_leads (bumped ts)) in
      let list = finding_from (is_list_end false) turn most_tokens [] f inner.1 in
      let first = fewer to in
      let second = fewer (list_leads false b turn t finds n most_tokens [] f inner.1 (behind n to laid).laid) in
      let strict = eat_fewer 125 list.1.1 (omega arith) e in omega arith

-- ---- items that hold none

pub leaf_leads : (h : FrontRead) (ts : Tokens) → LeadsTo ts (leaf h ts).1
leaf_leads h ts = by (leaf h ts).0 (leaf_at h ts)
  where
    by : (o : Option LeafRead) → LeafAt ts (leaf h ts).1 o → LeadsTo ts (leaf h ts).1
    by None p = p
    by (Some l) p = p.leads

pub found_leads : (depth start : ℕ) (o : Option LeafRead) (f : Found) (ts : Tokens) → LeadsTo ts (leaf_found depth start o f ts).1.1
found_leads depth start None f ts = behind_others_leads ts
found_leads depth start (Some l) f ts = here

-- an item that was not left unfinished at this place
abbrev pub is_finished : ℕ → Option ItemView × Found → Bool
is_finished start r = is_some r.0 && not (is_unfinished_at start r.1.problems)

abbrev pub TurnEnds : Ending → Found → Found → ℕ → Option ItemView × (Found × Tokens) → Option ItemView × (Found × Tokens) → Type 0
TurnEnds b before g start r r' = Ends (FoundAlike b before) (TellsMore g) (λ r. is_finished start r ≡ true) b (flat r) (flat r')

-- it is ended
finished_leaf : (depth start end : ℕ) (l : LeafRead) (f : Found) → is_finished start (Some l.item, and_leaf depth start end l f) ≡ true → l.is_ended ≡ true
finished_leaf depth start end l f e = grind (arith, common_steps)

pub leaf_strict : (m depth start : ℕ) (o : Option LeafRead) (f : Found) (ts : Tokens) → (leaf_ended o ≡ true → length ts.left < m)
    → is_finished start ((leaf_found depth start o f ts).0, (leaf_found depth start o f ts).1.0) ≡ true → length (leaf_found depth start o f ts).1.1.left < m
leaf_strict m depth start None f ts strict e = absurd cc
leaf_strict m depth start (Some l) f ts strict e = strict (finished_leaf depth start ts.past l f e)

-- of an item without its end a problem is told
told_item : (depth start end : ℕ) (body : Option TextRange) (k : AstIdKind) (name : List ℕ) (range : Option TextRange) (f : Found) → told f < told (and_item depth start end body k name range false f)
told_item depth start end body k name range f = told_problem problem.Unfinished start f

told_leaf : (depth start end : ℕ) (l : LeafRead) (f : Found) → l.is_ended ≡ false → told f < told (and_leaf depth start end l f)
told_leaf depth start end l f e =
    rw e (let first = told_item depth start end l.body l.kind l.name l.named f in
    let more = told_deep problem.TooDeep l.too_deep (and_item depth start end l.body l.kind l.name l.named false f) in omega arith)

pub found_told : (depth start : ℕ) (o : Option LeafRead) (f : Found) (ts : Tokens) → leaf_ended o ≡ false → told f < told (leaf_found depth start o f ts).1.0
found_told depth start None f ts e = told_problem problem.NoItem start f
found_told depth start (Some l) f ts e = told_leaf depth start ts.past l f e

-- where nothing is left behind what was read, and it is not ended
leaf_passes : (b : Ending) (before f g : Found) (depth start start' : ℕ) (o o' : Option LeafRead) (ts us : Tokens) → length ts.left ≤ length b.behind → b.level ≡ false → us.left ≡ [] → (is_still b ≡ true → leaf_ended o' ≡ false) → (leaf_ended o ≡ true → length ts.left < length b.behind)
    → TurnEnds b before g start (leaf_found depth start o f ts) (leaf_found depth start' o' g us)
leaf_passes b before f g depth start start' o o' ts us few uneven none never strict =
    passes {p = flat (leaf_found depth start o f ts)} (let less = fewer (found_leads depth start o f ts) in omega arith) uneven (nothing (found_leads depth start' o' g us) none)
    (λ s. found_told depth start' o' g us (never s)) (leaf_strict (length b.behind) depth start o f ts strict)

kept_leaf : (b : Ending) (before f g : Found) (depth start start' : ℕ) (ts us : Tokens) → start ≡ start' + b.by → FoundNear b before f g → Near b ts us → (o o' : Option LeafRead) → SomeLeaf b o o'
    → TurnEnds b before g start (leaf_found depth start o f ts) (leaf_found depth start' o' g us)
kept_leaf b before f g depth start start' ts us s n h _ _ no_leaf =
    by_next (behind_others_onward (near_parting b) ts us h) (λ w. passes {p = flat (leaf_found depth start None f ts)} w.few w.uneven w.none (λ s. told_problem problem.NoItem start' g) (λ e. absurd cc))
    (λ w. before_end (record { value = record { value = refl; found = problem_near b before f g problem.NoItem start start' s n }; rest = w }))
kept_leaf b before f g depth start start' ts us s n h _ _ (one_leaf {l = l} {m = m} i) =
    before_end (record { value = record { value = ap Some i.item; found = leaf_near b before f g depth start start' ts.past us.past l m s (past_same b ts us h) i n }; rest = h })

ended_leaf : (b : Ending) (before f g : Found) (depth start start' : ℕ) (ts us : Tokens) → start ≡ start' + b.by → FoundNear b before f g → AtEnd b ts us → (o o' : Option LeafRead) → SomeLeaf b o o'
    → TurnEnds b before g start (leaf_found depth start o f ts) (leaf_found depth start' o' g us)
ended_leaf b before f g depth start start' ts us s n a _ _ no_leaf =
    leaf_passes b before f g depth start start' None None ts us (let same = ap length a.behind in omega arith) a.uneven a.none (λ s. refl) (λ e. absurd cc)
ended_leaf b before f g depth start start' ts us s n a _ _ (one_leaf {l = l} {m = m} i) =
    at_end (record { value = ap Some i.item; found = leaf_near b before f g depth start start' ts.past us.past l m s a.past i n }) a

leaf_found_ends : (b : Ending) (before f g : Found) (depth start start' : ℕ) {p q : Option LeafRead × Tokens} → start ≡ start' + b.by → FoundNear b before f g → LeafEnds b p q
    → TurnEnds b before g start (leaf_found depth start p.0 f p.1) (leaf_found depth start' q.0 g q.1)
leaf_found_ends b before f g depth start start' {p = p} {q = q} s n (passes few uneven none never strict) = leaf_passes b before f g depth start start' p.0 q.0 p.1 q.1 few uneven none never strict
leaf_found_ends b before f g depth start start' {p = p} {q = q} s n (before_end k) = kept_leaf b before f g depth start start' p.1 q.1 s n k.rest p.0 q.0 k.value
leaf_found_ends b before f g depth start start' {p = p} {q = q} s n (at_end t a) = ended_leaf b before f g depth start start' p.1 q.1 s n a p.0 q.0 t

pub leaf_turn_ends : (n m : ℕ) (b : Ending) (before f g : Found) (depth : ℕ) (h h' : FrontRead) → FrontNear b h h' → (ts us : Tokens) → Given n m ts us → Near b ts us → FoundNear b before f g
    → TurnEnds b before g h.start (leaf_turn depth h f ts) (leaf_turn depth h' g us)
unfolding leaf_turn
leaf_turn_ends n m b before f g depth h h' k ts us given w a = leaf_found_ends b before f g depth h.start h'.start k.start a (leaf_ends b h h' k ts us given w)

-- ---- extern blocks

extern_leads : (depth start : ℕ) (o : Option LeafRead) (f : Found) (ts : Tokens) → LeadsTo ts (extern_found depth start o f ts).1.1
extern_leads depth start None f ts = behind_others_leads ts
extern_leads depth start (Some l) f ts = here

extern_over : (b : Ending) (before f g : Found) (depth start start' : ℕ) (o o' : Option LeafRead) (ts us : Tokens) → length ts.left ≤ length b.behind → b.level ≡ false → us.left ≡ []
    → Long (FoundAlike b before) b (flat (extern_found depth start o f ts)) (flat (extern_found depth start' o' g us))
extern_over b before f g depth start start' o o' ts us few uneven none =
    over {p = flat (extern_found depth start o f ts)} (let less = fewer (extern_leads depth start o f ts) in omega arith) uneven (nothing (extern_leads depth start' o' g us) none)

extern_kept_near : (b : Ending) (before f g : Found) (depth start start' : ℕ) (ts us : Tokens) (l m : LeafRead) (o o' : Option ItemView) → start ≡ start' + b.by → ts.past ≡ us.past + b.by → LeafNear b l m → o' ≡ o → FoundNear b before f g
    → FoundAlike b before (extern_kept depth start ts.past l o f) (extern_kept depth start' us.past m o' g)
extern_kept_near b before f g depth start start' ts us l m None o' s p i e n = rw e (record { value = refl; found = problem_near b before f g problem.NoItem start start' s n })
extern_kept_near b before f g depth start start' ts us l m (Some item) o' s p i e n = rw e (record { value = refl; found = leaf_near b before f g depth start start' ts.past us.past l m s p i n })

extern_under : (b : Ending) (before f g : Found) (depth start start' : ℕ) (ts us : Tokens) → start ≡ start' + b.by → FoundNear b before f g → Near b ts us → (o o' : Option LeafRead) → SomeLeaf b o o'
    → Long (FoundAlike b before) b (flat (extern_found depth start o f ts)) (flat (extern_found depth start' o' g us))
extern_under b before f g depth start start' ts us s n h _ _ no_leaf =
    by_next (behind_others_onward (near_parting b) ts us h) (λ w. over {p = flat (extern_found depth start None f ts)} w.few w.uneven w.none)
    (λ w. under (record { value = record { value = refl; found = problem_near b before f g problem.NoItem start start' s n }; rest = w }))
extern_under b before f g depth start start' ts us s n h _ _ (one_leaf {l = l} {m = m} i) =
    under (record { value = extern_kept_near b before f g depth start start' ts us l m (as_extern l.item) (as_extern m.item) s (past_same b ts us h) i (ap as_extern i.item) n; rest = h })

-- tokens that close nothing
pub unmatched_long : (b : Ending) (before f g : Found) (ts us : Tokens) → Near b ts us → FoundNear b before f g → Long (FoundAlike b before) b (flat (unmatched_token f ts)) (flat (unmatched_token g us))
unmatched_long b before f g ts us h a =
    by_next (bumped_onward b ts us h) (λ w. over {p = flat (unmatched_token f ts)} w.few w.uneven w.none)
    (λ w. under (record { value = record { value = refl; found = problem_near b before f g problem.Unmatched (at ts) (at us) (at_same b ts us h) a }; rest = w }))

pub front_leads : (ts : Tokens) → LeadsTo ts (front ts).1
front_leads ts = (front_takes ts).leads

pub extern_turn_long : (b : Ending) (depth : ℕ) → TurnLong b (extern_turn depth)
unfolding extern_turn
extern_turn_long b depth n m before f g ts us given h a =
    let fr = front ts in
    let fr' = front us in
    let l = leaf fr.0 fr.1 in
    let l' = leaf fr'.0 fr'.1 in
    when (is_at_end ts)
    (λ e. rw (end_same (near_twins b) ts us h, e) (unmatched_long b before f g ts us h a))
    (λ e. rw (end_same (near_twins b) ts us h, e)
    (by_kept (front_until b ts us h)
    (λ o. extern_over b before f g depth fr.0.start fr'.0.start l.0 l'.0 l.1 l'.1 (let few = o.few in let less = fewer (leaf_leads fr.0 fr.1) in omega arith) o.uneven (nothing (leaf_leads fr'.0 fr'.1) o.none))
    (λ k. by_ends (leaf_ends b fr.0 fr'.0 k.value fr.1 fr'.1 (given_on given (front_leads ts) (front_leads us)) k.rest)
    (λ few uneven none. extern_over b before f g depth fr.0.start fr'.0.start l.0 l'.0 l.1 l'.1 few uneven none)
    (λ w. extern_under b before f g depth fr.0.start fr'.0.start l.1 l'.1 k.value.start a w.rest l.0 l'.0 w.value))))
  where
    by_ends : {p q : Option LeafRead × Tokens} {B : Type 0} → LeafEnds b p q → (length p.1.left ≤ length b.behind → b.level ≡ false → q.1.left ≡ [] → B) → (Kept (SomeLeaf b) b p q → B) → B
    by_ends o far close = by_long (ends_long o) far close

pub extern_inside_ends : (b : Ending) (depth : ℕ) → BlockEnds IsClosed b (extern_inside depth)
unfolding extern_inside
extern_inside_ends b depth n m before f g ts us given h a =
    when (symbol ts == 123)
    (λ e. rw (symbol_same (near_twins b) ts us h, e) (block_ends b (extern_turn depth) (extern_turn_long b depth) (λ end. extern_turn_found end depth) n m before f g ts us given h a))
    (λ e. rw (symbol_same (near_twins b) ts us h, e) (before_end (record { value = record { value = refl; found = a }; rest = h })))

pub extern_inside_fewer : (b : Ending) (depth n : ℕ) (f : Found) (ts : Tokens) → IsLaid n ts → (extern_inside depth f ts).0.is_ended ≡ true → length (extern_inside depth f ts).1.1.left < length ts.left
unfolding extern_inside
extern_inside_fewer b depth n f ts laid e =
    when (symbol ts == 123)
    (λ g. rw g (block_fewer b (extern_turn depth) (extern_turn_long b depth) (λ end. extern_turn_found end depth) n f ts laid (rw g at e)))
    (λ g. absurd (let no = rw g at e in cc))

pub extern_unended : (depth : ℕ) (f : Found) (ts : Tokens) → ts.left ≡ [] → (extern_inside depth f ts).0.is_ended ≡ false
unfolding extern_inside symbol
extern_unended depth f ts e = rw e refl

-- ---- what is ended takes a token

pub leaf_fewer : (h : FrontRead) (ts : Tokens) → leaf_ended (leaf h ts).0 ≡ true → length (leaf h ts).1.left < length ts.left
unfolding leaf item_call invocation plain_leaf constant structure implementation crate_item use_declaration macro_definition
leaf_fewer h ts = by h.head
  where
    named_first : length (written_name ts).1.left ≤ length ts.left
    named_first = fewer (named_leads ts)

    called : leaf_ended (invocation h.attrs ts).0 ≡ true → length (invocation h.attrs ts).1.left < length ts.left
    called e =
        when (is_some (reads path ts).0 && sees is_called (reads path ts).1)
        (λ f. rw f
        (let first = fewer (rule_leads path ts) in
        let second = fewer (bumped_leads (reads path ts).1) in
        let strict = call_end_fewer (bumped (reads path ts).1) (rw f at e) in omega arith))
        (λ f. absurd (let no = rw f at e in cc))

    by : (w : Head) → leaf_ended (leaf_by w h.attrs h.visibility ts).0 ≡ true → length (leaf_by w h.attrs h.visibility ts).1.left < length ts.left
    by heads.Use e = let first = fewer (use_tree_leads ts) in let strict = eat_fewer 59 (use_tree ts).1 (omega arith) e in omega arith
    by heads.ExternCrate e =
        let p = (named_or (codes "self") ts).1 in
        let first = fewer (named_or_leads (codes "self") ts) in
        let second = fewer (renamed_leads p) in
        let strict = eat_fewer 59 (written_rename p).1 (omega arith) e in omega arith
    by heads.Impl e = rest_fewer heads.Impl ts e
    by heads.Struct e = let strict = rest_fewer heads.Struct (written_name ts).1 e in omega (arith, named_first)
    by heads.Const e =
        let second = fewer (eat_word_leads (codes "_") (written_name ts).1) in let strict = rest_fewer heads.Const (eat_word (codes "_") (written_name ts).1).1 e in omega (arith, named_first)
    by (heads.Plain k) e =
        let p = (mut_word k ts).1 in
        let first = fewer (mut_word_leads k ts) in
        let second = fewer (named_leads p) in
        let strict = rest_fewer (heads.Plain k) (written_name p).1 e in omega arith
    by heads.MacroRules e =
        let first = fewer (named_or_leads (codes "try") ts) in let strict = call_end_fewer (named_or (codes "try") ts).1 e in omega arith
    by _ e = when (begins_call ts) (λ f. rw f (called (rw f at e))) (λ f. absurd (let no = rw f at e in cc))
