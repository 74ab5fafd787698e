-- Readers of tokens beside read alike: those that stay before the braces or pass over them, and those that may go into them, until one does.
use Rattle.rust_cursor.proofs.Common.{Bodies, Beside, Reader, Tokens, symbol}
use Rattle.rust_cursor.proofs.BodyValues as stands
use Rattle.rust_cursor.proofs.AnchorPlaces.{Level, level_beside, level_here, level_next, level_on, start_level, end_level}
use Rattle.rust_cursor.proofs.LocalReaders as local
use Rattle.rust_cursor.proofs.PartingReaders.{Onward, into, on, UntilBy, gone, kept, Same, Parting, UpTo, by_kept, Entering, Levels}
use Rattle.rust_cursor.proofs.Passing.{behind_angles_beside, behind_field_beside, behind_closed_beside, behind_tree_beside, beyond_beside}
use Rattle.rust_cursor.proofs.Places.{SamePlace, at_place}
use Rattle.rust_cursor.proofs.TreeTexts.{tree_text_until}
use Rattle.rust_cursor.proofs.BodyReaders as until
use Rattle.rust_cursor.proofs.Views.{no_brace, beside_twins}

-- no reader is lost
abbrev pub alongside : Bodies → Parting
alongside b = record {
  twins = beside_twins b;
  lost = λ ts us. ⊥;
  lost_on = λ ts us vs ws g p q. g;
  closed = λ c ts us h. on (behind_closed_beside b c ts us h);
  tree = λ ts us h. on (behind_tree_beside b ts us h);
  angles = λ ts us h. on (behind_angles_beside b ts us h);
  field = λ ts us h. on (behind_field_beside b ts us h);
  passed = λ ts us ts' us' h k. on (beyond_beside b ts us ts' us' h k);
}

pub beside_on : {b : Bodies} {ts us : Tokens} → Onward (Beside b) (λ ts us. ⊥) ts us → Beside b ts us
beside_on (into g) = absurd g
beside_on (on h) = h

pub is_local : {A : Type 0} (b : Bodies) (m : Reader A) → UpTo (alongside b) m m → local.Local b m
is_local b m u ts us h = by_kept (u ts us h) (λ g. absurd g) (λ k. record { value = k.value; rest = k.rest })

-- the one that went into the braces is
abbrev pub into_braces : Bodies → Parting
into_braces b = record {
  twins = beside_twins b;
  lost = λ ts us. until.Gone b ts;
  lost_on = λ ts us vs ws g p q. until.gone_on g p;
  closed = λ c ts us h. on (behind_closed_beside b c ts us h);
  tree = λ ts us h. on (behind_tree_beside b ts us h);
  angles = λ ts us h. on (behind_angles_beside b ts us h);
  field = λ ts us h. on (behind_field_beside b ts us h);
  passed = λ ts us ts' us' h k. on (beyond_beside b ts us ts' us' h k);
}

abbrev pub braces_enter : (b : Bodies) → Entering (into_braces b)
braces_enter b = record {
  onward = λ ts us h. until.by_next (until.bumped_onward b ts us h) (λ g. into g) (λ k. on k);
  text = λ ts us h. until.by_kept (tree_text_until b ts us h) (λ g. gone g) (λ k. kept (record { value = k.value; rest = k.rest }));
  place = SamePlace b;
  at_place = at_place b;
}

pub braces_levels : (b : Bodies) → Levels (into_braces b)
braces_levels b = record {
  level = Level b;
  are = λ a a' ts us h. level_beside ts us h;
  here = level_here b;
  next = λ a a' ts us h f. level_next b a a' ts us h (no_brace (symbol ts) f);
  further = level_on b;
  start = start_level b;
  end = λ a a' ts us h f. end_level b a a' ts us h (no_brace (symbol ts) f);
}

pub went_until : {A : Type 0} {b : Bodies} {alike : A → A → Type 0} {p q : A × Tokens} → UntilBy alike (Beside b) (λ ts us. until.Gone b ts) p q → stands.UntilBy alike b p q
went_until (gone g) = stands.went g
went_until (kept k) = stands.stayed (record { value = k.value; rest = k.rest })

pub is_until : {A : Type 0} {b : Bodies} {p q : A × Tokens} → UntilBy Same (Beside b) (λ ts us. until.Gone b ts) p q → until.Until b p q
is_until (gone g) = until.gone g
is_until (kept k) = until.kept (record { value = k.value; rest = k.rest })
