-- Where lines begin in a text of which a part was replaced.
use Rattle.std.proofs.Common.{◌≡◌, ◌≢◌, ℕ, zero, suc, ◌+◌, ◌-◌, ◌==◌, Bool, true, false, not, ◌&&◌, List, [], ◌∷◌, ◌++◌, cond, ⊎_elim, refl, sym, ap, ◌∙◌, subst, arith, ◌<◌, ◌≤◌, nat_lt, length, take, drop, get_or, map, slice_index_or, if◌then◌else◌, length-drop, length-take-le, length-append, append_assoc}
use Rattle.std.proofs.lemmas.Bool.{cases_Bool, ltb-false, ltb-true}
use Rattle.std.proofs.lemmas.List.{append-nil, get_or-append-add, get_or-drop, take-append-drop, take_rest}
use Rattle.std.proofs.Math.ListN.{get_or-append}
use Rattle.std.proofs.Math.Seq.{take-length}
use Rattle.std.proofs.Math.Seq.{drop-append_seam, take-append_seam, take-add}
use Rattle.std.specs.List.{AllWithin}
use Rattle.line_index.specs.declared.LineEnds.{LineEnds}
use Rattle.line_index.specs.Inner.{starts_before}
use Rattle.line_index.specs.Points.{begins_end, is_line_end, is_fed, is_split}
use Rattle.line_index.specs.Starts.{line_starts, replace_range, starts_from}
use Rattle.line_index.proofs.Begins.{above}

pub fed_in_front : (a b : List ℕ) → length a ≢ 0 → is_fed a ≡ is_fed (a ++ b)
fed_in_front [] b some = absurd (some refl)
fed_in_front (x ∷ a) b some = refl

pub ends_by_feed : (ends : LineEnds) (b : ℕ) (u v : List ℕ) → is_fed u ≡ is_fed v → is_line_end ends b u ≡ is_line_end ends b v
unfolding is_split
ends_by_feed ends b u v e = ap (λ t. begins_end ends b && not (b == 13 && t)) e

-- ---- parts

starts_split : (ends : LineEnds) (at : ℕ) (a b : List ℕ) → starts_from ends at (a ++ b) ≡ starts_before ends at b a ++ starts_from ends (at + length a) b
starts_split ends at [] b = ap (λ n. starts_from ends n b) (omega arith)
starts_split ends at (x ∷ a) b =
    let rest : starts_from ends (suc at) (a ++ b) ≡ starts_before ends (suc at) b a ++ starts_from ends (at + length (x ∷ a)) b
    = starts_split ends (suc at) a b ∙ ap (λ n. starts_before ends (suc at) b a ++ starts_from ends n b) (omega arith) in
    ⊎_elim (λ (e : is_line_end ends x (a ++ b) ≡ true). rw e (ap (λ l. suc at ∷ l) rest)) (λ (e : is_line_end ends x (a ++ b) ≡ false). rw e rest) (cases_Bool (is_line_end ends x (a ++ b)))

-- all of a text is in front of nothing
pub all_before : (ends : LineEnds) (text : List ℕ) → starts_before ends 0 [] text ≡ line_starts ends text
all_before ends text =
    sym (ap (starts_from ends 0) (sym (append-nil text)) ∙ starts_split ends 0 text [] ∙ append-nil (starts_before ends 0 [] text))

fed_alike : (a u v : List ℕ) → is_fed u ≡ is_fed v → is_fed (a ++ u) ≡ is_fed (a ++ v)
fed_alike [] u v e = e
fed_alike (x ∷ a) u v e = refl

starts_alike : (ends : LineEnds) (at : ℕ) (a u v : List ℕ) → is_fed u ≡ is_fed v → starts_before ends at u a ≡ starts_before ends at v a
starts_alike ends at [] u v e = refl
starts_alike ends at (x ∷ a) u v e =
    ap (λ t. cond t (suc at ∷ starts_before ends (suc at) u a) (starts_before ends (suc at) u a)) (ends_by_feed ends x (a ++ u) (a ++ v) (fed_alike a u v e))
    ∙ ap (λ l. cond (is_line_end ends x (a ++ v)) (suc at ∷ l) l) (starts_alike ends (suc at) a u v e)

-- ---- which stand before and behind a place

below_if : (t : Bool) (at m : ℕ) (xs : List ℕ) → suc at ≤ m → ((k d : ℕ) → k < length xs → get_or xs k d ≤ m) → (k d : ℕ) → k < length (cond t (suc at ∷ xs) xs) → get_or (cond t (suc at ∷ xs) xs) k d ≤ m
below_if true at m xs low all zero d l = omega (arith, low)
below_if true at m xs low all (suc k) d l = all k d (omega (arith, l))
below_if false at m xs low all k d l = all k d l

below : (ends : LineEnds) (at m : ℕ) (next a : List ℕ) → at + length a ≤ m → (k d : ℕ) → k < length (starts_before ends at next a) → get_or (starts_before ends at next a) k d ≤ m
below ends at m next [] low k d l = absurd (omega (arith, l))
below ends at m next (x ∷ a) low k d l =
    below_if (is_line_end ends x (a ++ next)) at m (starts_before ends (suc at) next a) (omega (arith, low)) (below ends (suc at) m next a (omega (arith, low))) k d l

pub starts_below : (ends : LineEnds) (at : ℕ) (bytes : List ℕ) (k d : ℕ) → k < length (starts_from ends at bytes) → get_or (starts_from ends at bytes) k d ≤ at + length bytes
starts_below ends at [] k d l = absurd (omega (arith, l))
starts_below ends at (b ∷ bytes) k d l =
    below_if (is_line_end ends b bytes) at (at + length (b ∷ bytes)) (starts_from ends (suc at) bytes) (omega arith)
    (λ i e h. let far = starts_below ends (suc at) bytes i e h in omega (arith, far)) k d l

cut_at : (ls rs : List ℕ) (p k : ℕ) → ((i d : ℕ) → i < length ls → get_or ls i d ≤ p) → ((i d : ℕ) → i < length rs → p < get_or rs i d) → k ≤ length (ls ++ rs)
    → AllWithin (λ s. s ≤ p) (ls ++ rs) 0 k → AllWithin (λ s. p < s) (ls ++ rs) k (length (ls ++ rs)) → k ≡ length ls
cut_at ls rs p k low high bound before behind =
    let both = length-append ls rs in
    let less : k < length ls → ⊥ = λ l.
    let first = low k 0 l in
    let same = get_or-append ls rs 0 k l in
    let far = behind k 0 (omega arith) (omega (arith, both, l)) in
    omega (arith, first, same, far) in
    let more : length ls < k → ⊥ = λ l.
    let first = high 0 0 (omega (arith, both, bound, l)) in
    let same = get_or-append-add ls rs 0 0 in
    let index : get_or (ls ++ rs) (length ls + 0) 0 ≡ get_or (ls ++ rs) (length ls) 0 = ap (λ i. get_or (ls ++ rs) i 0) (omega arith) in
    let near = before (length ls) 0 (omega arith) l in
    omega (arith, first, same, index, near) in
    ⊎_elim (λ (t : nat_lt k (length ls) ≡ true). absurd (less (ltb-true k (length ls) t)))
    (λ (t : nat_lt k (length ls) ≡ false).
    ⊎_elim (λ (u : nat_lt (length ls) k ≡ true). absurd (more (ltb-true (length ls) k u)))
    (λ (u : nat_lt (length ls) k ≡ false). let first = ltb-false k (length ls) t in let second = ltb-false (length ls) k u in omega (arith, first, second))
    (cases_Bool (nat_lt (length ls) k)))
    (cases_Bool (nat_lt k (length ls)))

-- those up to a place are those of what stands before it
pub parted : (ends : LineEnds) (text xs : List ℕ) (p k : ℕ) → xs ≡ line_starts ends text → p ≤ length text → k ≤ length xs → AllWithin (λ s. s ≤ p) xs 0 k → AllWithin (λ s. p < s) xs k (length xs)
    → (take k xs ≡ starts_before ends 0 (drop p text) (take p text)) × (drop k xs ≡ starts_from ends p (drop p text))
parted ends text xs p k same short bound before behind =
    let front = take p text in
    let rest = drop p text in
    let ls = starts_before ends 0 rest front in
    let rs = starts_from ends p rest in
    let long : length front ≡ p = length-take-le p text short in
    let whole : xs ≡ ls ++ rs
    = same ∙ ap (starts_from ends 0) (sym (take-append-drop p text)) ∙ starts_split ends 0 front rest ∙ ap (λ n. ls ++ starts_from ends n rest) (omega (arith, long)) in
    let count : k ≡ length ls
    = cut_at ls rs p k (below ends 0 p rest front (omega (arith, long))) (above ends p rest) (subst (λ (l : List ℕ). k ≤ length l) whole bound)
    (subst (λ (l : List ℕ). AllWithin (λ s. s ≤ p) l 0 k) whole before) (subst (λ (l : List ℕ). AllWithin (λ s. p < s) l k (length l)) whole behind) in (
      ap (take k) whole ∙ ap (λ n. take n (ls ++ rs)) count ∙ take-append_seam ls rs,
      ap (drop k) whole ∙ ap (λ n. drop n (ls ++ rs)) count ∙ drop-append_seam ls rs,
    )

-- ---- moved

moved_from : (ends : LineEnds) (bytes : List ℕ) (from to u v : ℕ) → from ≤ u → v + from ≡ u + to → map (λ s. s - from + to) (starts_from ends u bytes) ≡ starts_from ends v bytes
moved_from ends [] from to u v low e = refl
moved_from ends (b ∷ bytes) from to u v low e =
    let rest = moved_from ends bytes from to (suc u) (suc v) (omega (arith, low)) (omega (arith, e)) in
    let first : suc u - from + to ≡ suc v = omega (arith, low, e) in
    ⊎_elim (λ (is : is_line_end ends b bytes ≡ true). rw is (ap (λ n. n ∷ map (λ s. s - from + to) (starts_from ends (suc u) bytes)) first ∙ ap (λ l. suc v ∷ l) rest))
    (λ (is : is_line_end ends b bytes ≡ false). rw is rest)
    (cases_Bool (is_line_end ends b bytes))

pub moved_fit : (ends : LineEnds) (text xs : List ℕ) (passed k d : ℕ) → xs ≡ line_starts ends text → k < length (take (length xs - passed) (drop passed xs))
    → get_or (take (length xs - passed) (drop passed xs)) k d ≤ length text
moved_fit ends text xs passed k d same l =
    let part : take (length xs - passed) (drop passed xs) ≡ drop passed xs = take_rest xs passed in
    let count = ap length part in
    let long = length-drop passed xs in
    let all = ap length same in
    let at : get_or (take (length xs - passed) (drop passed xs)) k d ≡ get_or (line_starts ends text) (passed + k) d
    = ap (λ z. get_or z k d) part ∙ get_or-drop passed xs k d ∙ ap (λ z. get_or z (passed + k) d) same in
    let most = starts_below ends 0 text (passed + k) d (omega (arith, l, count, long, all)) in
    omega (arith, at, most)

-- ---- one byte more

pushed_if : (t : Bool) (at : ℕ) (old rest : List ℕ) → (old ++ (if t then (at + 1) ∷ [] else [])) ++ rest ≡ old ++ cond t (suc at ∷ rest) rest
pushed_if true at old rest = append_assoc old ((at + 1) ∷ []) rest ∙ ap (λ n. old ++ (n ∷ rest)) (omega arith)
pushed_if false at old rest = ap (λ l. l ++ rest) (append-nil old)

tail_is : (x : ℕ) (ys : List ℕ) → take (length (x ∷ ys) - 1) (drop 1 (x ∷ ys)) ≡ ys
tail_is x ys =
    let long : length (x ∷ ys) - 1 ≡ length ys = omega arith in
    ap (λ n. take n ys) long ∙ take-length ys

pub pushed : (ends : LineEnds) (at : ℕ) (next near xs new old total : List ℕ) (t : Bool) → 1 ≤ length xs → t ≡ is_line_end ends (slice_index_or xs 0 0) near
    → is_fed near ≡ is_fed (take (length xs - 1) (drop 1 xs) ++ next) → new ≡ old ++ (if t then (at + 1) ∷ [] else []) → old ++ starts_before ends at next xs ≡ total
    → new ++ starts_before ends (at + 1) next (take (length xs - 1) (drop 1 xs)) ≡ total
pushed ends at next near [] new old total t some is fed one all = absurd (omega (arith, some))
pushed ends at next near (x ∷ ys) new old total t some is fed one all =
    let one_on : at + 1 ≡ suc at = omega arith in
    let rest : starts_before ends (at + 1) next (take (length (x ∷ ys) - 1) (drop 1 (x ∷ ys))) ≡ starts_before ends (suc at) next ys
    = ap (λ n. starts_before ends n next (take (length (x ∷ ys) - 1) (drop 1 (x ∷ ys)))) one_on ∙ ap (starts_before ends (suc at) next) (tail_is x ys) in
    let ends_so : t ≡ is_line_end ends x (ys ++ next) = is ∙ ends_by_feed ends x near (ys ++ next) (fed ∙ ap (λ z. is_fed (z ++ next)) (tail_is x ys)) in
    ap (λ l. l ++ starts_before ends (at + 1) next (take (length (x ∷ ys) - 1) (drop 1 (x ∷ ys)))) one
    ∙ ap (λ l. (old ++ (if t then (at + 1) ∷ [] else [])) ++ l) rest
    ∙ pushed_if t at old (starts_before ends (suc at) next ys)
    ∙ ap (λ u. old ++ cond u (suc at ∷ starts_before ends (suc at) next ys) (starts_before ends (suc at) next ys)) ends_so
    ∙ all

-- ---- all parts

fed_first : (n : ℕ) (z rest : List ℕ) → 1 ≤ n → 1 ≤ length z → is_fed z ≡ is_fed (take n z ++ rest)
fed_first zero z rest some long = absurd (omega (arith, some))
fed_first (suc n) [] rest some long = absurd (omega (arith, long))
fed_first (suc n) (b ∷ z) rest some long = refl

kept_alike : (ends : LineEnds) (text rest : List ℕ) (from before : ℕ) → before ≡ from - 1 → from ≤ length text
    → starts_before ends 0 (drop before text) (take before text) ≡ starts_before ends 0 (take (from - before) (drop before text) ++ rest) (take before text)
kept_alike ends text rest zero before e short =
    let start : before ≡ 0 = omega (arith, e) in
    let none : take before text ≡ [] = ap (λ n. take n text) start in
    ap (starts_before ends 0 (drop before text)) none ∙ sym (ap (starts_before ends 0 (take (0 - before) (drop before text) ++ rest)) none)
kept_alike ends text rest (suc n) before e short =
    starts_alike ends 0 (take before text) (drop before text) (take (suc n - before) (drop before text) ++ rest)
    (fed_first (suc n - before) (drop before text) rest (omega (arith, e)) (omega (arith, e, short, length-drop before text)))

assoc_all : (k m w d : List ℕ) → k ++ m ++ w ++ d ≡ k ++ (m ++ (w ++ d))
assoc_all k m w d = append_assoc (k ++ m) w d ∙ append_assoc k m (w ++ d)

-- part by part
pub replaced_by : (ends : LineEnds) (text xs bytes near behind moved one two three all : List ℕ) (from to before kept passed : ℕ) → xs ≡ line_starts ends text → from ≤ to → to ≤ length text
    → before ≡ from - 1 → kept ≤ length xs → AllWithin (λ s. s ≤ before) xs 0 kept → AllWithin (λ s. before < s) xs kept (length xs)
    → passed ≤ length xs → AllWithin (λ s. s ≤ to) xs 0 passed → AllWithin (λ s. to < s) xs passed (length xs) → is_fed near ≡ is_fed (bytes ++ behind)
    → behind ≡ drop to text → moved ≡ drop passed xs → one ≡ take kept xs → two ≡ one ++ starts_before ends before near (take (from - before) (drop before text))
    → three ≡ two ++ starts_before ends from behind bytes → all ≡ three ++ map (λ s. s - to + (from + length bytes)) moved → all ≡ line_starts ends (replace_range text from to bytes)
replaced_by ends text xs bytes near behind moved one two three all from to before kept passed same range within start bound low high bound' low' high' fed rest gone first second third last =
    let front = take before text in
    let mid = take (from - before) (drop before text) in
    let left = bytes ++ behind in
    let kept_is : one ≡ starts_before ends 0 (mid ++ left) front
    = first ∙ (parted ends text xs before kept same (omega (arith, start, range, within)) bound low high).0 ∙ kept_alike ends text left from before start (omega (arith, range, within)) in
    let mid_is : starts_before ends before near mid ≡ starts_before ends before left mid = starts_alike ends before mid near left fed in
    let moved_is : map (λ s. s - to + (from + length bytes)) moved ≡ starts_from ends (from + length bytes) behind
    = ap (map (λ s. s - to + (from + length bytes))) (gone ∙ (parted ends text xs to passed same within bound' low' high').1)
    ∙ moved_from ends (drop to text) to (from + length bytes) to (from + length bytes) (omega arith) (omega arith) ∙ ap (starts_from ends (from + length bytes)) (sym rest) in
    let front_long : length front ≡ before = length-take-le before text (omega (arith, start, range, within)) in
    let mid_long : before + length mid ≡ from
    = let long = length-take-le (from - before) (drop before text) (omega (arith, start, range, within, length-drop before text)) in omega (arith, long, start) in
    let whole : before + (from - before) ≡ from = omega (arith, start) in
    let parts : take from text ≡ front ++ mid = ap (λ n. take n text) (sym whole) ∙ take-add before (from - before) text in
    let text_is : replace_range text from to bytes ≡ front ++ (mid ++ left) = ap (λ z. z ++ bytes ++ drop to text) parts ∙ ap (λ z. front ++ mid ++ bytes ++ z) (sym rest) ∙ assoc_all front mid bytes behind in
    let split : line_starts ends (front ++ (mid ++ left)) ≡ starts_before ends 0 (mid ++ left) front
    ++ (starts_before ends before left mid ++ (starts_before ends from behind bytes ++ starts_from ends (from + length bytes) behind))
    = starts_split ends 0 front (mid ++ left) ∙ ap (λ n. starts_before ends 0 (mid ++ left) front ++ starts_from ends n (mid ++ left)) (omega (arith, front_long))
    ∙ ap (λ l. starts_before ends 0 (mid ++ left) front ++ l) (starts_split ends before mid left)
    ∙ ap (λ n. starts_before ends 0 (mid ++ left) front ++ (starts_before ends before left mid ++ starts_from ends n left)) mid_long
    ∙ ap (λ l. starts_before ends 0 (mid ++ left) front ++ (starts_before ends before left mid ++ l)) (starts_split ends from bytes behind) in
    let two_is : two ≡ starts_before ends 0 (mid ++ left) front ++ starts_before ends before left mid = second ∙ ap (λ l. l ++ starts_before ends before near mid) kept_is ∙ ap (λ l. starts_before ends 0 (mid ++ left) front ++ l) mid_is in
    last ∙ ap (λ l. l ++ map (λ s. s - to + (from + length bytes)) moved) (third ∙ ap (λ l. l ++ starts_before ends from behind bytes) two_is)
    ∙ ap (λ l. starts_before ends 0 (mid ++ left) front ++ starts_before ends before left mid ++ starts_before ends from behind bytes ++ l) moved_is
    ∙ assoc_all (starts_before ends 0 (mid ++ left) front) (starts_before ends before left mid) (starts_before ends from behind bytes) (starts_from ends (from + length bytes) behind)
    ∙ sym split ∙ ap (line_starts ends) (sym text_is)

pub rest_long : (xs : List ℕ) → 1 ≤ length xs → length (take (length xs - 1) (drop 1 xs)) + 1 ≡ length xs
rest_long [] some = absurd (omega (arith, some))
rest_long (x ∷ ys) some = let rest = ap length (tail_is x ys) in omega (arith, rest)
