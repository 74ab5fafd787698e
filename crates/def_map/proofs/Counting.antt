-- As many facts are derived of a crate as are found, by different numbers.
use Rattle.std.proofs.Common.{◌≡◌, ◌≢◌, ◌+◌, ◌⊎◌, inl, inr, ℕ, suc, List, [], ◌∷◌, Option, Some, None, refl, sym, ap, subst, ◌∙◌, length, Contains, option_map, arith}
use Rattle.std.specs.List.{AllPairs}
use Rattle.std.proofs.lemmas.List.Elements.{Contains-get_or}
use Rattle.std.proofs.lemmas.List.Kept.{AllPairs-cons}
use Rattle.std.proofs.lemmas.Option.{same_Some}
use Rattle.def_map.specs.declared.kinds.Visibility.{Visibility}
use Rattle.def_map.specs.declared.facts as code
use Rattle.def_map.specs.declared.facts.Fact.TheVariants.{Names, EveryName, Stands, Gives, Copies}
use Rattle.def_map.specs.declared.rows.ItemKey.{ItemKey}
use Rattle.def_map.specs.Closing.{thing_of, loop_fact, SaysOf}
use Rattle.def_map.specs.Crates.{Crate, unseen}
use Rattle.def_map.specs.Facts.{Fact, names, stands, gives, IsGlobCopy, Derives}
use Rattle.def_map.specs.Numbers.{crate_by_numbers, numbered_fact, IsNumbering}
use Rattle.def_map.specs.Refused.{Counted}
use Rattle.def_map.proofs.TableRows.{there_again}
use Rattle.def_map.proofs.Listing.{contains_here, contains_there, contains_cases, not_in_nil}
use Rattle.def_map.proofs.CrateNumbers.{derived_back, copied_back}

-- ---- different elements

pairs_below : {X : Type 0} (x : X) (xs : List X) → AllPairs (λ a b. a ≢ b) (x ∷ xs) → AllPairs (λ a b. a ≢ b) xs
pairs_below x xs all i j d low within = all (suc i) (suc j) d (omega (arith, low)) (omega (arith, within))

not_below : {X : Type 0} (x : X) (xs : List X) → AllPairs (λ a b. a ≢ b) (x ∷ xs) → Contains xs x → ⊥
not_below x xs all (k, low, same) = all 0 (suc k) x (omega arith) (omega (arith, low)) (sym same)

one_more : {X : Type 0} (x : X) (xs : List X) → (Contains xs x → ⊥) → AllPairs (λ a b. a ≢ b) xs → AllPairs (λ a b. a ≢ b) (x ∷ xs)
one_more x xs new all = AllPairs-cons (λ a b. a ≢ b) x xs (λ k d low same. new (subst (Contains xs) (sym same) (Contains-get_or xs k d low))) all

-- ---- facts of the loop and those that are derived

module _ (number : List ℕ → Option ℕ) (item : ItemKey → ℕ) (c : Crate (List ℕ) ItemKey) (ok : IsNumbering number item c) where
  abbrev Named : Type 0
  Named = Fact (List ℕ) ItemKey

  abbrev Copy : Type 0
  Copy = ℕ × ℕ × Visibility

  abbrev e : Crate ℕ ℕ
  e = crate_by_numbers number item c

  abbrev image : Named → Option code.Fact.Fact
  image f = option_map loop_fact (numbered_fact number item f)

  abbrev copy_fact : Copy → code.Fact.Fact
  copy_fact p = Copies p.0 p.1 p.2

  -- what was found, and where it comes from
  record Split (found : List code.Fact.Fact) : Type 0 where
    counted : Counted c
    facts_from : (f : Named) → Contains counted.facts f → (g : code.Fact.Fact) × Contains found g × (image f ≡ Some g)
    copies_from : (p : Copy) → Contains counted.copies p → Contains found (copy_fact p)
    size : length found ≡ length counted.facts + length counted.copies

  module _ (g : code.Fact.Fact) (found : List code.Fact.Fact) (new : Contains found g → ⊥) (rest : Split found) where
    with_fact : (f : Named) → Derives c f → image f ≡ Some g → Split (g ∷ found)
    with_fact f derived is = record {
      counted = record {
        facts = f ∷ rest.counted.facts;
        copies = rest.counted.copies;
        derived = λ x has. by x (contains_cases f rest.counted.facts x has);
        copied = rest.counted.copied;
        different = one_more f rest.counted.facts (λ has. let s = rest.facts_from f has in new (subst (Contains found) (same_Some s.0 g (sym s.2 ∙ is)) s.1)) rest.counted.different;
        apart = rest.counted.apart;
      };
      facts_from = λ x has. from x (contains_cases f rest.counted.facts x has);
      copies_from = λ p has. contains_there g found (copy_fact p) (rest.copies_from p has);
      size = ap suc rest.size ∙ more (length rest.counted.facts) (length rest.counted.copies);
    }
      where
        more : (a b : ℕ) → suc (a + b) ≡ suc a + b
        more a b = omega arith

        by : (x : Named) → (f ≡ x) ⊎ Contains rest.counted.facts x → Derives c x
        by x (inl same) = subst (Derives c) same derived
        by x (inr has) = rest.counted.derived x has

        from : (x : Named) → (f ≡ x) ⊎ Contains rest.counted.facts x → (h : code.Fact.Fact) × Contains (g ∷ found) h × (image x ≡ Some h)
        from x (inl same) = (g, contains_here g found, ap image (sym same) ∙ is)
        from x (inr has) = let s = rest.facts_from x has in (s.0, contains_there g found s.0 s.1, s.2)

    with_copy : (p : Copy) → IsGlobCopy c p.0 p.1 p.2 → copy_fact p ≡ g → Split (g ∷ found)
    with_copy p copied is = record {
      counted = record {
        facts = rest.counted.facts;
        copies = p ∷ rest.counted.copies;
        derived = rest.counted.derived;
        copied = λ x has. by x (contains_cases p rest.counted.copies x has);
        different = rest.counted.different;
        apart = one_more p rest.counted.copies (λ has. new (subst (Contains found) is (rest.copies_from p has))) rest.counted.apart;
      };
      facts_from = λ x has. let s = rest.facts_from x has in (s.0, contains_there g found s.0 s.1, s.2);
      copies_from = λ x has. from x (contains_cases p rest.counted.copies x has);
      size = ap suc rest.size ∙ next (length rest.counted.facts) (length rest.counted.copies);
    }
      where
        next : (a b : ℕ) → suc (a + b) ≡ a + suc b
        next a b = omega arith

        by : (x : Copy) → (p ≡ x) ⊎ Contains rest.counted.copies x → IsGlobCopy c x.0 x.1 x.2
        by x (inl same) = subst (λ (z : Copy). IsGlobCopy c z.0 z.1 z.2) same copied
        by x (inr has) = rest.counted.copied x has

        from : (x : Copy) → (p ≡ x) ⊎ Contains rest.counted.copies x → Contains (g ∷ found) (copy_fact x)
        from x (inl same) = subst (Contains (g ∷ found)) (sym is ∙ ap copy_fact same) (contains_here g found)
        from x (inr has) = contains_there g found (copy_fact x) (rest.copies_from x has)

    with_back : (h : Fact ℕ ℕ) → loop_fact h ≡ g → Derives e h → Split (g ∷ found)
    with_back h is derived = let b = derived_back number item c ok h derived in with_fact b.0 b.2 (ap (option_map loop_fact) b.1 ∙ ap Some is)

    with_one : SaysOf e g → Split (g ∷ found)
    with_one says = by g refl says
      where
        by : (h : code.Fact.Fact) → h ≡ g → SaysOf e h → Split (g ∷ found)
        by (Names m ns n t v) is s = with_back (names m ns (Some n) (thing_of t) v) (ap (λ z. Names m ns n z v) (there_again t) ∙ is) s
        by (EveryName m ns v) is s = with_back (names m ns None unseen v) is s
        by (Stands i k t) is s = with_back (stands i k (thing_of t)) (ap (λ z. Stands i k z) (there_again t) ∙ is) s
        by (Gives i ns t v) is s = with_back (gives i ns (thing_of t) v) (ap (λ z. Gives i ns z v) (there_again t) ∙ is) s
        by (Copies from into v) is s = with_copy (from, into, v) (copied_back number item c ok from into v s) is

  split : (found : List code.Fact.Fact) → ((g : code.Fact.Fact) → Contains found g → SaysOf e g) → AllPairs (λ a b. a ≢ b) found → Split found
  split [] says different = record {
    counted = record {
      facts = [];
      copies = [];
      derived = λ f has. absurd (not_in_nil f has);
      copied = λ p has. absurd (not_in_nil p has);
      different = λ i j d low within. absurd (omega (arith, within));
      apart = λ i j d low within. absurd (omega (arith, within));
    };
    facts_from = λ f has. absurd (not_in_nil f has);
    copies_from = λ p has. absurd (not_in_nil p has);
    size = refl;
  }
  split (g ∷ found) says different =
      with_one g found (not_below g found different) (split found (λ h has. says h (contains_there g found h has)) (pairs_below g found different)) (says g (contains_here g found))

  -- facts that are found, each once, are so many
  pub counted_of : (found : List code.Fact.Fact) → ((g : code.Fact.Fact) → Contains found g → SaysOf e g) → AllPairs (λ a b. a ≢ b) found
      → (d : Counted c) × (length found ≡ length d.facts + length d.copies)
  counted_of found says different = let s = split found says different in (s.counted, s.size)
