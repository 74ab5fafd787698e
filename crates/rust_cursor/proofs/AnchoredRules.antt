-- The laws of all rules with places.
use Rattle.std.proofs.Common.{◌≡◌, ℕ, ◌-◌, refl, if◌then◌else◌}
use Rattle.rust_cursor.proofs.Common.{one, Tokens, symbol, kind, text, at, bumped}
use Rattle.rust_cursor.specs.Anchored.{Anchored, unplaced, then_from, from_seen, spans, repeats_from, bracket_from, reads_from}
use Rattle.rust_cursor.specs.Looks.{View, sees, skip}
use Rattle.rust_cursor.proofs.TokenRests.{Forwards, further, through, bumped_leads, behind_closed_leads, turns_leads}
use Rattle.rust_cursor.proofs.Looks.{look_same, seen_no_edge, skipped_are, skipped_same, token_same}
use Rattle.rust_cursor.proofs.PartingReaders.{Counted, Entering, Parting, UntilBy, UpTo, cond_until, kept, then_until, turns_until}
use Rattle.rust_cursor.proofs.Rules.{by_test, inside_until, rule_leads, rule_until_by, skip_leads}

pub rule_leads_from : {A : Type 0} (o : ℕ) (g : Anchored A) → Forwards (reads_from o g)
rule_leads_from o (unplaced g) ts = rule_leads g ts
rule_leads_from o (then_from m f) ts = through (rule_leads_from o m ts) (rule_leads_from o (f (reads_from o m ts).0) (reads_from o m ts).1)
rule_leads_from o (from_seen l n p g h) ts =
    by_test (sees l ts) ts (reads_from o g (skip n ts)) (reads_from o h ts) (through (skip_leads n ts) (rule_leads_from o g (skip n ts))) (rule_leads_from o h ts)
rule_leads_from o (spans l p view g) ts =
    by_test (sees l ts) ts (view ts.edition (kind ts) (text ts) (at ts - o) ((bumped ts).past - o), bumped ts) (reads_from o g ts) (bumped_leads ts) (rule_leads_from o g ts)
rule_leads_from o (repeats_from l p g) ts = turns_leads (sees l) (one (reads_from o g)) (λ us. rule_leads_from o g us) ts
rule_leads_from o (bracket_from g) ts = further (through (rule_leads_from o g (bumped ts)) (behind_closed_leads (symbol ts) _))

span_same : {A : Type 0} (view : View (ℕ → ℕ → A)) (ts us : Tokens) (a a' : ℕ) → view us.edition (kind us) (text us) ≡ view ts.edition (kind ts) (text ts) → at us - a' ≡ at ts - a → (bumped us).past - a' ≡ (bumped ts).past - a
    → view us.edition (kind us) (text us) (at us - a') ((bumped us).past - a') ≡ view ts.edition (kind ts) (text ts) (at ts - a) ((bumped ts).past - a)
span_same view ts us a a' e s f = rw (e, s, f) refl

-- from anchors that are as far from both
pub rule_until_from : {A : Type 0} (b : Parting) → Entering b → (a a' : ℕ) → Counted b a a' → (g : Anchored A) → UpTo b (reads_from a g) (reads_from a' g)
rule_until_from b e a a' c (unplaced g) ts us h = rule_until_by b (λ _. e) g ts us h
rule_until_from b e a a' c (then_from m f) ts us h =
    then_until b (λ x. reads_from a (f x)) (λ x. reads_from a' (f x)) (λ x. rule_leads_from a (f x)) (λ x. rule_leads_from a' (f x)) (λ x. rule_until_from b e a a' c (f x)) (rule_until_from b e a a' c m ts us h)
rule_until_from b e a a' c (from_seen l n p g k) ts us h =
    cond_until (skipped_same b.twins l n p ts us h) (λ t. rule_until_from b e a a' c g (skip n ts) (skip n us) (skipped_are b.twins l n ts us p h t)) (λ _. rule_until_from b e a a' c k ts us h)
rule_until_from b e a a' c (spans l p view g) ts us h =
    cond_until (skipped_same b.twins l 1 p ts us h)
    (λ t. kept (record {
      value = span_same view ts us a a' (token_same b.twins view ts us h) (c.start ts us h) (c.end ts us h (seen_no_edge l ts p t));
      rest = skipped_are b.twins l 1 ts us p h t;
    }))
    (λ _. rule_until_from b e a a' c g ts us h)
rule_until_from b e a a' c (repeats_from l p g) ts us h =
    turns_until b (sees l) (reads_from a g) (reads_from a' g) (look_same b.twins l p) (rule_until_from b e a a' c g) (λ ts. rule_leads_from a g ts) (λ ts. rule_leads_from a' g ts) ts us h
rule_until_from b e a a' c (bracket_from g) ts us h =
    inside_until b e (reads_from a g) (reads_from a' g) (rule_leads_from a g) (rule_leads_from a' g) (rule_until_from b e a a' c g) ts us h
