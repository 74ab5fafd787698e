-- Readers of two texts that look alike: they read alike, until one goes past where the texts part.
use Rattle.std.proofs.Common.{◌≡◌, ℕ, zero, suc, ◌-◌, Bool, true, false, List, [], ◌∷◌, ◌++◌, refl, ap, ◌∙◌, sym, subst, if◌then◌else◌, bytes_eq}
use Rattle.rust_cursor.proofs.Common.{behind_angles, behind_closed, behind_tree, progress_from, turns_from, turns, one, tree_text, Reader, Tokens, symbol, at, bumped, taken_if, eat, eat_word, is_pair, eat_pair, behind_field}
use Rattle.rust_cursor.proofs.TokenRests.{LeadsTo, through, Forwards, when, bumped_leads, behind_closed_leads, behind_tree_leads, behind_angles_leads, beyond_leads, turns_from_leads, taken_leads_on, reached_leads}
use Rattle.rust_cursor.proofs.TwinTokens.{Twins, is_edge, symbol_test, word_test, after_word, after_symbol, pair_same, after_pair}

-- one went past where they part, or both look alike
pub data Onward (are lost : Tokens → Tokens → Type 0) (ts us : Tokens) : Type 0 where
  into : lost ts us → Onward are lost ts us
  on : are ts us → Onward are lost ts us

-- what is read is alike, and what is left looks alike
pub record Kept {A : Type 0} (alike : A → A → Type 0) (are : Tokens → Tokens → Type 0) (p q : A × Tokens) : Type 0 where
  pub value : alike p.0 q.0
  pub rest : are p.1 q.1

pub data UntilBy {A : Type 0} (alike : A → A → Type 0) (are lost : Tokens → Tokens → Type 0) : A × Tokens → A × Tokens → Type 0 where
  gone : {p q : A × Tokens} → lost p.1 q.1 → UntilBy alike are lost p q
  kept : {p q : A × Tokens} → Kept alike are p q → UntilBy alike are lost p q

-- what is the same is alike
abbrev pub Same : {A : Type 0} → A → A → Type 0
Same a a' = a' ≡ a

-- what is known of brackets and of what is passed over
pub record Parting : Type 1 where
  pub twins : Twins
  pub lost : Tokens → Tokens → Type 0
  pub lost_on : (ts us vs ws : Tokens) → lost ts us → LeadsTo ts vs → LeadsTo us ws → lost vs ws
  pub closed : (bracket : ℕ) (ts us : Tokens) → twins.are ts us → Onward twins.are lost (behind_closed bracket ts) (behind_closed bracket us)
  pub tree : (ts us : Tokens) → twins.are ts us → Onward twins.are lost (behind_tree ts) (behind_tree us)
  pub angles : (ts us : Tokens) → twins.are ts us → Onward twins.are lost (behind_angles ts) (behind_angles us)
  pub field : (ts us : Tokens) → twins.are ts us → Onward twins.are lost (behind_field ts) (behind_field us)
  pub passed : (ts us ts' us' : Tokens) → twins.are ts us → twins.are ts' us' → Onward twins.are lost (progress_from ts.past ts') (progress_from us.past us')

abbrev pub Until : {A : Type 0} → Parting → A × Tokens → A × Tokens → Type 0
Until b p q = UntilBy Same b.twins.are b.lost p q

-- two readers, which differ in the places that they are given
abbrev pub UpTo : {A : Type 0} → Parting → Reader A → Reader A → Type 0
UpTo b m m' = (ts us : Tokens) → b.twins.are ts us → Until b (m ts) (m' us)

-- ---- one or the other

pub by_next : {P : Type 0} {are lost : Tokens → Tokens → Type 0} {ts us : Tokens} → Onward are lost ts us → (lost ts us → P) → (are ts us → P) → P
by_next (into g) left same = left g
by_next (on h) left same = same h

pub onward_leads : (b : Parting) {ts us : Tokens} → Onward b.twins.are b.lost ts us → {vs ws : Tokens} → LeadsTo ts vs → LeadsTo us ws → (b.twins.are ts us → Onward b.twins.are b.lost vs ws) → Onward b.twins.are b.lost vs ws
onward_leads b {ts} {us} (into g) {vs} {ws} p q same = into (b.lost_on ts us vs ws g p q)
onward_leads b (on h) p q same = same h

pub cond_onward : {are lost : Tokens → Tokens → Type 0} {t' t : Bool} {ts us ts' us' : Tokens} → t' ≡ t → (t ≡ true → Onward are lost ts us) → (t ≡ false → Onward are lost ts' us')
    → Onward are lost (if t then ts else ts') (if t' then us else us')
cond_onward {t = true} e when_so otherwise = rw e (when_so refl)
cond_onward {t = false} e when_so otherwise = rw e (otherwise refl)

pub by_kept : {A B : Type 0} {alike : A → A → Type 0} {are lost : Tokens → Tokens → Type 0} {p q : A × Tokens} → UntilBy alike are lost p q → (lost p.1 q.1 → B) → (Kept alike are p q → B) → B
by_kept (gone g) left same = left g
by_kept (kept k) left same = same k

pub cond_until : {A : Type 0} {alike : A → A → Type 0} {are lost : Tokens → Tokens → Type 0} {t' t : Bool} {p q p' q' : A × Tokens} → t' ≡ t
    → (t ≡ true → UntilBy alike are lost p p') → (t ≡ false → UntilBy alike are lost q q') → UntilBy alike are lost (if t then p else q) (if t' then p' else q')
cond_until {t = true} e when_so otherwise = rw e (when_so refl)
cond_until {t = false} e when_so otherwise = rw e (otherwise refl)

-- the same value, and what is left
pub with_rest : {A : Type 0} {are lost : Tokens → Tokens → Type 0} (a : A) {ts us : Tokens} → Onward are lost ts us → UntilBy Same are lost (a, ts) (a, us)
with_rest a (into g) = gone g
with_rest a (on h) = kept (record { value = refl; rest = h })

pub map_until : {A B : Type 0} {are lost : Tokens → Tokens → Type 0} {p q : A × Tokens} (f : A → B) → UntilBy Same are lost p q → UntilBy Same are lost (f p.0, p.1) (f q.0, q.1)
map_until f (gone g) = gone g
map_until f (kept k) = kept (record { value = ap f k.value; rest = k.rest })

-- and then others are passed over
pub pass_until : {A : Type 0} {alike : A → A → Type 0} (b : Parting) {p q : A × Tokens} (behind : Tokens → Tokens) → ((ts : Tokens) → LeadsTo ts (behind ts)) → ((ts us : Tokens) → b.twins.are ts us → Onward b.twins.are b.lost (behind ts) (behind us))
    → UntilBy alike b.twins.are b.lost p q → UntilBy alike b.twins.are b.lost (p.0, behind p.1) (q.0, behind q.1)
pass_until b {p} {q} behind leads same (gone g) = gone (b.lost_on p.1 q.1 _ _ g (leads p.1) (leads q.1))
pass_until b {p} {q} behind leads same (kept k) = by_next (same p.1 q.1 k.rest) (λ g. gone g) (λ h. kept (record { value = k.value; rest = h }))

-- ---- one reader after another

-- what is read of what was left
pub then_until : {A B : Type 0} {alike : B → B → Type 0} (b : Parting) {p q : A × Tokens} (f f' : A → Reader B) → ((a : A) → Forwards (f a)) → ((a : A) → Forwards (f' a))
    → ((a : A) (ts us : Tokens) → b.twins.are ts us → UntilBy alike b.twins.are b.lost (f a ts) (f' a us)) → Until b p q → UntilBy alike b.twins.are b.lost (f p.0 p.1) (f' q.0 q.1)
then_until b {p} {q} f f' leads leads' more (gone g) = gone (b.lost_on p.1 q.1 _ _ g (leads p.0 p.1) (leads' q.0 q.1))
then_until {alike = alike} b {p} {q} f f' leads leads' more (kept k) =
    subst (λ a. UntilBy alike b.twins.are b.lost (f p.0 p.1) (f' a q.1)) (sym k.value) (more p.0 p.1 q.1 k.rest)

taken_until : (b : Parting) (t' t : Bool) (ts us : Tokens) → t' ≡ t → b.twins.are ts us → (t ≡ true → b.twins.are (bumped ts) (bumped us)) → Until b (taken_if t ts) (taken_if t' us)
taken_until b t' true ts us e h next = rw e (kept (record { value = refl; rest = next refl }))
taken_until b t' false ts us e h next = rw e (kept (record { value = refl; rest = h }))

pub eat_until : (b : Parting) (c : ℕ) → is_edge c ≡ false → UpTo b (eat c) (eat c)
unfolding eat
eat_until b c other ts us h = taken_until b _ _ ts us (symbol_test b.twins c ts us h) h (λ e. after_symbol b.twins c ts us other h e)

pub eat_word_until : (b : Parting) (w : List ℕ) → bytes_eq [] w ≡ false → UpTo b (eat_word w) (eat_word w)
unfolding eat_word
eat_word_until b w empty ts us h = taken_until b _ _ ts us (word_test b.twins w ts us h) h (λ e. after_word b.twins w ts us empty h e)

pub eat_pair_until : (b : Parting) (c d : ℕ) → is_edge c ≡ false → is_edge d ≡ false → UpTo b (eat_pair c d) (eat_pair c d)
unfolding eat_pair
eat_pair_until b c d p q ts us h =
    let same = pair_same b.twins c d ts us p h in
    when (is_pair c d ts)
    (λ e. rw (same, e) (kept (record { value = refl; rest = after_pair b.twins c d ts us p q h e })))
    (λ e. rw (same, e) (kept (record { value = refl; rest = h })))

-- ---- turns

module _ {A : Type 0} (b : Parting) (alike : List A → List A → Type 0) (join : (xs xs' ys ys' : List A) → alike xs xs' → alike ys ys' → alike (xs ++ ys) (xs' ++ ys')) (ends : Tokens → Bool)
    (same : (ts us : Tokens) → b.twins.are ts us → ends us ≡ ends ts) (reader reader' : Reader (List A)) (each : (ts us : Tokens) → b.twins.are ts us → UntilBy alike b.twins.are b.lost (reader ts) (reader' us)) (leads : Forwards reader) (leads' : Forwards reader') where
  turns_from_by : (n : ℕ) (done done' : List A) → alike done done' → (ts us : Tokens) → b.twins.are ts us → UntilBy alike b.twins.are b.lost (turns_from ends reader n done ts) (turns_from ends reader' n done' us)
  turns_from_by zero done done' d ts us h = kept (record { value = d; rest = h })
  turns_from_by (suc n) done done' d ts us h =
      let next = progress_from ts.past (reader ts).1 in
      let next' = progress_from us.past (reader' us).1 in
      let rest = turns_from_leads ends reader leads n (done ++ (reader ts).0) next in
      let rest' = turns_from_leads ends reader' leads' n (done' ++ (reader' us).0) next' in
      cond_until (same ts us h) (λ _. kept (record { value = d; rest = h }))
      (λ _. by_kept (each ts us h) (λ g. gone (b.lost_on (reader ts).1 (reader' us).1 _ _ g (through (beyond_leads ts.past (reader ts).1) rest) (through (beyond_leads us.past (reader' us).1) rest')))
      (λ k. by_next (b.passed ts us _ _ h k.rest) (λ g. gone (b.lost_on next next' _ _ g rest rest'))
      (λ l. turns_from_by n (done ++ (reader ts).0) (done' ++ (reader' us).0) (join done done' _ _ d k.value) next next' l)))

  pub turns_by : alike [] [] → (ts us : Tokens) → b.twins.are ts us → UntilBy alike b.twins.are b.lost (turns ends reader ts) (turns ends reader' us)
  unfolding turns
  turns_by none ts us h = turns_from_by _ [] [] none ts us h

join_same : {A : Type 0} (xs xs' ys ys' : List A) → Same xs xs' → Same ys ys' → Same (xs ++ ys) (xs' ++ ys')
join_same xs xs' ys ys' e f = ap (λ l. l ++ ys') e ∙ ap (λ l. xs ++ l) f

pub one_until : {A : Type 0} (b : Parting) (m m' : Reader A) → UpTo b m m' → UpTo b (one m) (one m')
one_until b m m' u ts us h = map_until (λ a. a ∷ []) (u ts us h)

pub turns_until : {A : Type 0} (b : Parting) (ends : Tokens → Bool) (m m' : Reader A) → ((ts us : Tokens) → b.twins.are ts us → ends us ≡ ends ts) → UpTo b m m' → Forwards (one m) → Forwards (one m') → UpTo b (turns ends (one m)) (turns ends (one m'))
turns_until b ends m m' same each leads leads' ts us h = turns_by b Same join_same ends same (one m) (one m') (one_until b m m' each) leads leads' refl ts us h

-- ---- any token

-- what is known of one token further, of texts, and of the places that are told
pub record Entering (b : Parting) : Type 1 where
  pub onward : (ts us : Tokens) → b.twins.are ts us → Onward b.twins.are b.lost (bumped ts) (bumped us)
  pub text : UpTo b tree_text tree_text
  pub place : ℕ → ℕ → Type 0
  pub at_place : (ts us : Tokens) → b.twins.are ts us → place (at ts) (at us)

-- the next token stands as far from the one anchor as from the other, and so does its end
pub record Counted (b : Parting) (a a' : ℕ) : Type 0 where
  pub start : (ts us : Tokens) → b.twins.are ts us → at us - a' ≡ at ts - a
  pub end : (ts us : Tokens) → b.twins.are ts us → is_edge (symbol ts) ≡ false → (bumped us).past - a' ≡ (bumped ts).past - a

-- which anchors are so
pub record Levels (b : Parting) : Type 1 where
  pub level : ℕ → ℕ → Tokens → Tokens → Type 0
  pub are : (a a' : ℕ) (ts us : Tokens) → level a a' ts us → b.twins.are ts us
  pub here : (ts us : Tokens) → b.twins.are ts us → level (at ts) (at us) ts us
  pub next : (a a' : ℕ) (ts us : Tokens) → level a a' ts us → is_edge (symbol ts) ≡ false → level a a' (bumped ts) (bumped us)
  pub further : (a a' : ℕ) (ts us vs ws : Tokens) → level a a' ts us → LeadsTo ts vs → b.twins.are vs ws → Onward (level a a') b.lost vs ws
  pub start : (a a' : ℕ) (ts us : Tokens) → level a a' ts us → at us - a' ≡ at ts - a
  pub end : (a a' : ℕ) (ts us : Tokens) → level a a' ts us → is_edge (symbol ts) ≡ false → (bumped us).past - a' ≡ (bumped ts).past - a

module _ (b : Parting) (l : Levels b) (a a' : ℕ) where
  pub level_on : (ts us vs ws : Tokens) → l.level a a' ts us → LeadsTo ts vs → Onward b.twins.are b.lost vs ws → Onward (l.level a a') b.lost vs ws
  level_on ts us vs ws h p (into g) = into g
  level_on ts us vs ws h p (on k) = l.further a a' ts us vs ws h p k

  -- from such anchors readers go on alike
  abbrev pub levelled : Parting
  levelled = record {
    twins = record {
      are = l.level a a';
      edition = λ ts us h. b.twins.edition ts us (l.are a a' ts us h);
      first = λ A d v s ts us h. b.twins.first A d v s ts us (l.are a a' ts us h);
      glued = λ ts us h. b.twins.glued ts us (l.are a a' ts us h);
      next = l.next a a';
    };
    lost = b.lost;
    lost_on = b.lost_on;
    closed = λ c ts us h. level_on ts us _ _ h (behind_closed_leads c ts) (b.closed c ts us (l.are a a' ts us h));
    tree = λ ts us h. level_on ts us _ _ h (behind_tree_leads ts) (b.tree ts us (l.are a a' ts us h));
    angles = λ ts us h. level_on ts us _ _ h (behind_angles_leads ts) (b.angles ts us (l.are a a' ts us h));
    field = λ ts us h. level_on ts us _ _ h (reached_leads _ ts) (b.field ts us (l.are a a' ts us h));
    passed = λ ts us ts' us' h k. level_on ts' us' _ _ k (beyond_leads ts.past ts') (b.passed ts us ts' us' (l.are a a' ts us h) (l.are a a' ts' us' k));
  }

  level_text : (ts us : Tokens) → l.level a a' ts us → Until b (tree_text ts) (tree_text us) → Until levelled (tree_text ts) (tree_text us)
  level_text ts us h (gone g) = gone g
  level_text ts us h (kept k) = by_next (l.further a a' ts us _ _ h (taken_leads_on _ _ ts) k.rest) (λ g. gone g) (λ m. kept (record { value = k.value; rest = m }))

  pub level_enters : Entering b → Entering levelled
  level_enters e = record {
    onward = λ ts us h. level_on ts us _ _ h (bumped_leads ts) (e.onward ts us (l.are a a' ts us h));
    text = λ ts us h. level_text ts us h (e.text ts us (l.are a a' ts us h));
    place = e.place;
    at_place = λ ts us h. e.at_place ts us (l.are a a' ts us h);
  }

  pub level_counted : Counted levelled a a'
  level_counted = record { start = l.start a a'; end = l.end a a' }

  pub until_level : {A : Type 0} {p q : A × Tokens} → Until levelled p q → Until b p q
  until_level (gone g) = gone g
  until_level {p = p} {q = q} (kept k) = kept (record { value = k.value; rest = l.are a a' p.1 q.1 k.rest })
