-- What readers of items find: the items, with their places.
use Rattle.std.proofs.Common.{◌≡◌, ◌≤◌, ◌+◌, ◌-◌, ℕ, zero, suc, Bool, true, false, Option, Some, None, List, [], ◌∷◌, ◌++◌, map, length, refl, sym, ap, ◌∙◌, arith, append_assoc, append-nil, option_to_list}
use Rattle.rust_items.proofs.Common.{map-append, AstIdKind, ItemView, ItemViews, no_items, items_from, Tokens, most_tokens, progress_from, LeadsTo, here, through, when, beyond_leads, IsLaid, Row, TextRange, ItemSpan, ProblemKind, ItemPlace, Found, Finder, nothing_found, and_problem, and_problem_if, and_problem_at, and_use_trees, and_all, and_flaw, and_item, finding_from, finding, inside, turn, Telling, name_of, ArePlaces, nothing, placed}
use Rattle.rust_cursor.proofs.TokenPlaces.{behind}
use Rattle.rust_items.specs.declared.log.ProblemKind.TheVariants as problem
use Rattle.rust_items.proofs.ItemRests.{blank}
use Rattle.rust_items.proofs.TreesRead.{IsRead, read_around}
use Rattle.rust_items.proofs.UsesFound.{UsesIn, no_uses, retold_uses, joined_uses}
use Rattle.rust_items.proofs.Names.{IsToken, told_behind}

-- ---- places

-- what is told of the place of an item before its id is known
abbrev pub Span : Type 0
Span = ItemSpan

-- with more places behind
framed : {N : Telling} {from to : ℕ} {is : ItemViews} {ps rest : List ItemPlace} (more : List ItemPlace) → ArePlaces N from to is ps rest → ArePlaces N from to is (ps ++ more) (rest ++ more)
framed more nothing = nothing
framed more (placed p inside behind) = placed p (framed more inside) (framed more behind)

-- from an earlier place on and up to a later one
pub widened : {N : Telling} {from to : ℕ} {is : ItemViews} {ps rest : List ItemPlace} (low high : ℕ) → low ≤ from → to ≤ high → ArePlaces N from to is ps rest → ArePlaces N low high is ps rest
widened low high l h nothing = nothing
widened low high l h (placed {to = to} {p = p} place inside behind) =
    let begins = place.begins in
    let ends = place.ends in
    placed (record { id = place.id; begins = omega arith; some = place.some; ends = omega arith; name = place.name; body = place.body; named = place.named }) inside (widened p.range.end high (omega arith) h behind)

-- where something else is told of the names
pub retold : {N M : Telling} {from to : ℕ} {is : ItemViews} {ps rest : List ItemPlace} → ((o : Option (List ℕ)) (r : Option TextRange) → N o r → M o r) → ArePlaces N from to is ps rest → ArePlaces M from to is ps rest
retold f nothing = nothing
retold f (placed {i = i} {p = p} place inside behind) =
    placed (record { id = place.id; begins = place.begins; some = place.some; ends = place.ends; name = place.name; body = place.body; named = λ other. f (name_of i) p.name (place.named other) }) (retold f inside) (retold f behind)

-- more items behind
joined : {N : Telling} (from mid low to : ℕ) (xs ys : List ItemView) (ps ms rest : List ItemPlace) → from ≤ low → mid ≤ low → mid ≤ to
    → ArePlaces N from mid (items_from xs) ps ms → ArePlaces N low to (items_from ys) ms rest → ArePlaces N from to (items_from (xs ++ ys)) ps rest
joined from mid low to [] ys ps ms rest a b c nothing q = widened from to a (omega arith) q
joined from mid low to (x ∷ xs) ys ps ms rest a b c (placed {p = p} place inside behind) q =
    let begins = place.begins in
    let ends = place.ends in
    placed (record { id = place.id; begins = place.begins; some = place.some; ends = omega arith; name = place.name; body = place.body; named = place.named }) inside (joined p.range.end mid low to xs ys _ ms rest (omega arith) b c behind q)

-- there are no more items than bytes
pub few : {N : Telling} {from to : ℕ} {is : ItemViews} {ps rest : List ItemPlace} → ArePlaces N from to is ps rest → length ps ≤ length rest + (to - from)
few nothing = omega arith
few (placed place inside behind) =
    let begins = place.begins in
    let some = place.some in
    let ends = place.ends in
    let within = few inside in
    let later = few behind in
    omega arith

-- ---- what is found

abbrev pub row_kind : Row → AstIdKind
row_kind row = row.kind

abbrev pub place_kind : ItemPlace → AstIdKind
place_kind p = p.id.kind

abbrev pub place_span : ItemPlace → ItemSpan
place_span p = record { range = p.range; name = p.name; body = p.body }

-- these items were found, with their places, but for the hashes and numbers of their ids
pub record Adds (f g : Found) (ps : List ItemPlace) : Type 0 where
  pub rows : map row_kind g.rows ≡ map row_kind f.rows ++ map place_kind ps
  pub spans : g.spans ≡ f.spans ++ map place_span ps

pub adds_none : (f : Found) → Adds f f []
adds_none f = record { rows = sym (append-nil _); spans = sym (append-nil _) }

pub adds_problem : {f g : Found} {ps : List ItemPlace} (kind : ProblemKind) (place : ℕ) → Adds f g ps → Adds f (and_problem kind place g) ps
adds_problem kind place a = record { rows = a.rows; spans = a.spans }

adds_problem_if : {f g : Found} {ps : List ItemPlace} (test : Bool) (kind : ProblemKind) (place : ℕ) → Adds f g ps → Adds f (and_problem_if test kind place g) ps
adds_problem_if true kind place a = adds_problem kind place a
adds_problem_if false kind place a = a

adds_flaw : {f g : Found} {ps : List ItemPlace} (is_ended is_nameless : Bool) (start : ℕ) → Adds f g ps → Adds f (and_flaw is_ended is_nameless start g) ps
adds_flaw true is_nameless start a = adds_problem_if is_nameless problem.Nameless start a
adds_flaw false is_nameless start a = adds_problem problem.Unfinished start a

pub adds_problem_at : {f g : Found} {ps : List ItemPlace} (kind : ProblemKind) (place : Option ℕ) → Adds f g ps → Adds f (and_problem_at kind place g) ps
adds_problem_at kind None a = a
adds_problem_at kind (Some place) a = adds_problem kind place a

pub adds_use_trees : {f g : Found} {ps : List ItemPlace} (starts : List ℕ) → Adds f g ps → Adds f (and_use_trees starts g) ps
adds_use_trees starts a = record { rows = a.rows; spans = a.spans }

pub adds_more : {f g h : Found} {ps qs : List ItemPlace} → Adds f g ps → Adds g h qs → Adds f h (ps ++ qs)
adds_more {f} {g} {h} {ps} {qs} a b = record {
  rows = b.rows ∙ ap (λ l. l ++ map place_kind qs) a.rows ∙ append_assoc (map row_kind f.rows) (map place_kind ps) (map place_kind qs)
      ∙ ap (λ l. map row_kind f.rows ++ l) (sym (map-append place_kind ps qs));
  spans = b.spans ∙ ap (λ l. l ++ map place_span qs) a.spans ∙ append_assoc f.spans (map place_span ps) (map place_span qs)
      ∙ ap (λ l. f.spans ++ l) (sym (map-append place_span ps qs));
}

pub adds_all : (f g : Found) (ps : List ItemPlace) → Adds nothing_found g ps → Adds f (and_all g f) ps
adds_all f g ps a = record {
  rows = map-append row_kind f.rows g.rows ∙ ap (λ l. map row_kind f.rows ++ l) a.rows;
  spans = ap (λ l. f.spans ++ l) a.spans;
}

-- the place of an item before its id has its hash and its number
abbrev pub unnumbered : AstIdKind → ℕ → ℕ → Option TextRange → Option TextRange → ItemPlace
unnumbered kind start end body name = record { id = blank kind; range = record { start = start; end = end }; name = name; body = body }

pub adds_item : (f : Found) (depth start end : ℕ) (body : Option TextRange) (kind : AstIdKind) (hashed : List ℕ) (name : Option TextRange) (is_ended : Bool)
    → Adds f (and_item depth start end body kind hashed name is_ended f) (unnumbered kind start end body name ∷ [])
adds_item f depth start end body kind hashed name is_ended =
    adds_flaw is_ended _ start (record { rows = map-append row_kind f.rows (record { depth = depth; kind = kind; name = hashed } ∷ []); spans = refl })

-- ---- what a reader of items finds

-- these items were found, with their places between what was given and what is left
pub record AreFound (ts us : Tokens) (f g : Found) (is : ItemViews) : Type 0 where
  pub leads : LeadsTo ts us
  pub places : List ItemPlace
  pub adds : Adds f g places
  pub are : ArePlaces (IsToken ts) ts.past us.past is places []
  pub starts : List ℕ
  pub more : g.use_trees ≡ f.use_trees ++ starts
  pub uses : UsesIn (IsRead ts us) ts.past us.past is places starts

pub none_found : {ts us : Tokens} (f g : Found) → LeadsTo ts us → Adds f g [] → g.use_trees ≡ f.use_trees → AreFound ts us f g no_items
none_found f g p a e = record { leads = p; places = []; adds = a; are = nothing; starts = []; more = e ∙ sym (append-nil f.use_trees); uses = no_uses }

-- what a reader finds in tokens that end before this place
abbrev pub Finds : ℕ → Finder (Option ItemView) → Type 0
Finds end turn = (f : Found) (ts : Tokens) → IsLaid end ts → AreFound ts (turn f ts).1.1 f (turn f ts).1.0 (items_from (option_to_list (turn f ts).0))

pub found_more : (end : ℕ) (ts us vs ws : Tokens) (f g h : Found) (xs ys : List ItemView) → IsLaid end ts → LeadsTo us vs → AreFound ts us f g (items_from xs)
    → AreFound vs ws g h (items_from ys) → AreFound ts ws f h (items_from (xs ++ ys))
found_more end ts us vs ws f g h xs ys laid p a b =
    let first = behind end a.leads laid in
    let next = behind end p first.laid in
    let last = behind end b.leads next.laid in
    record {
      leads = through a.leads (through p b.leads);
      places = a.places ++ b.places;
      adds = adds_more a.adds b.adds;
      are = joined ts.past us.past vs.past ws.past xs ys (a.places ++ b.places) b.places [] (omega arith) (omega arith) (omega arith) (framed b.places a.are) (retold (told_behind (through a.leads p)) b.are);
      starts = a.starts ++ b.starts;
      more = b.more ∙ ap (λ l. l ++ b.starts) a.more ∙ append_assoc f.use_trees a.starts b.starts;
      uses = joined_uses ts.past us.past vs.past ws.past xs ys b.places b.starts (omega arith) (omega arith) (omega arith) (retold_uses (read_around here (through p b.leads)) a.uses) (retold_uses (read_around (through a.leads p) here) b.uses);
    }

-- ---- lists

-- a list that was found behind items
pub record IsListed (ts : Tokens) (f : Found) (done : List ItemView) (r : List ItemView × (Found × Tokens)) : Type 0 where
  pub new : List ItemView
  pub list : r.0 ≡ done ++ new
  pub found : AreFound ts r.1.1 f r.1.0 (items_from new)

module _ (end : ℕ) (ends : Tokens → Bool) (turn : Finder (Option ItemView)) (t : Finds end turn) where
  list_end : (done : List ItemView) (f : Found) (ts : Tokens) → IsListed ts f done (done, (f, ts))
  list_end done f ts = record { new = []; list = sym (append-nil done); found = none_found f f here (adds_none f) refl }

  list_more : (done : List ItemView) (f : Found) (ts : Tokens) (r : List ItemView × (Found × Tokens)) → IsLaid end ts
      → IsListed (progress_from ts.past (turn f ts).1.1) (turn f ts).1.0 (done ++ option_to_list (turn f ts).0) r → IsListed ts f done r
  list_more done f ts r laid rest = record {
    new = option_to_list (turn f ts).0 ++ rest.new;
    list = rest.list ∙ append_assoc done (option_to_list (turn f ts).0) rest.new;
    found = found_more end ts _ _ _ f _ _ (option_to_list (turn f ts).0) rest.new laid (beyond_leads ts.past (turn f ts).1.1) (t f ts laid) rest.found;
  }

  pub list_from : (n : ℕ) (done : List ItemView) (f : Found) (ts : Tokens) → IsLaid end ts → IsListed ts f done (finding_from ends turn n done f ts)
  list_from zero done f ts laid = list_end done f ts
  list_from (suc n) done f ts laid =
      let first = behind end (t f ts laid).leads laid in
      let next = behind end (beyond_leads ts.past (turn f ts).1.1) first.laid in
      let rest = list_from n (done ++ option_to_list (turn f ts).0) (turn f ts).1.0 (progress_from ts.past (turn f ts).1.1) next.laid in
      when (ends ts) (λ e. rw e (list_end done f ts)) (λ e. rw e (list_more done f ts _ laid rest))

  pub list_found : (f : Found) (ts : Tokens) → IsLaid end ts → AreFound ts (finding ends turn f ts).1.1 f (finding ends turn f ts).1.0 (items_from (finding ends turn f ts).0)
  unfolding finding
  list_found f ts laid = let l = list_from most_tokens [] f ts laid in rw l.list l.found
