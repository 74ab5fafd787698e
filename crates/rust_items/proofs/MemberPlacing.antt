-- Members stand where they are read.
use Rattle.std.proofs.Common.{◌≡◌, ◌<◌, ◌≤◌, ◌==◌, ◌-◌, ◌^◌, ℕ, zero, suc, Bool, Option, Some, None, List, [], ◌∷◌, ◌++◌, map, length, codes, sym, ◌∙◌, arith, append_assoc, append-nil, option_to_list}
use Rattle.hir_input.specs.declared.edition.EditionYear.{EditionYear}
use Rattle.hir_input.specs.declared.ids.AstIdKind.{AstIdKind}
use Rattle.hir_input.specs.declared.ids.AstIdKind.TheVariants as kind
use Rattle.hir_input.specs.declared.ast.Visibility.{Visibility}
use Rattle.hir_input.specs.Attr.{MetaView}
use Rattle.rust_items.proofs.MemberCommon.{ItemView, Tokens, tokens_of, Reader, symbol, at, is_at_end, bumped, eat_word, most_tokens, progress_from, turns_from, turns, perhaps, TextRange, front, LeafRead, written_name, IsNameIn, Stand, MemberRead, moved_member, MemberTold, told_with, body_of, member_kept, leaf_member, associated_item, opens_generics, is_pair_here, behind_operand, is_part_end, behind_operands, behind_value, is_type_end, behind_type_part, behind_type_parts, behind_type, behind_part, part_of, part_member, member_turn, is_list_over, members_from, members_in, cut_out, ArePlaced}
use Rattle.rust_metas.specs.Docs.{kept_metas}
use Rattle.rust_metas.specs.declared.wanted.WantedMetas.{WantedMetas}
use Rattle.rust_cursor.proofs.TokenRests.{LeadsTo, here, further, through, when, bumped_leads, eat_leads, eat_word_leads, behind_tree_leads, behind_angles_leads, beyond_leads, takes, takes_leads}
use Rattle.rust_cursor.proofs.TokenPlaces.{IsLaid, behind, past_within, at_behind, taken_behind, takes_strict, tokens_laid}
use Rattle.rust_paths.specs.Visibilities.{visibility}
use Rattle.rust_metas.specs.Attributes.{outer_attributes, inner_attributes}
use Rattle.rust_metas.proofs.AttributeRests.{outer_attributes_leads, inner_attributes_leads}
use Rattle.rust_items.proofs.Places.{name_in}
use Rattle.rust_items.proofs.ItemRests.{IsBraced, braced, IsNamed, by_token, LeafFound, IsTaken, front_takes, front_start, leaf_found, named_leads, named_named, behind_others_leads}
use Rattle.rust_items.specs.declared.member.MemberKind.{MemberKind}
use Rattle.rust_items.specs.declared.member.MemberKind.TheVariants as member
use Rattle.rust_items.proofs.MemberCuts.{placed_widened, members_fit, members_moved}
use Rattle.rust_cursor.specs.Grammar.{reads}
use Rattle.rust_cursor.proofs.Rules.{rule_leads}

-- ---- lists of members

joined : (from mid low to : ℕ) (xs ys : List MemberRead) → from ≤ low → mid ≤ low → mid ≤ to → ArePlaced from mid xs → ArePlaced low to ys → ArePlaced from to (xs ++ ys)
joined from mid low to [] ys a b c p q = placed_widened from to low to ys a (omega arith) q
joined from mid low to (x ∷ xs) ys a b c p q =
    let begins : from ≤ x.range.start = p.0.begins in
    let ends : x.range.end ≤ mid = p.0.ends in
    (record { begins = omega arith; some = p.0.some; ends = omega arith; name = p.0.name; body = p.0.body }, joined x.range.end mid low to xs ys (omega arith) b c p.1 q)

-- these members were found between what was given and what is left
pub record AreFound (ts us : Tokens) (ms : List MemberRead) : Type 0 where
  pub leads : LeadsTo ts us
  pub placed : ArePlaced ts.past us.past ms

none_found : {ts us : Tokens} → LeadsTo ts us → AreFound ts us []
none_found p = record { leads = p; placed = tt }

-- what a reader finds in tokens that end before this place
abbrev pub Finds : ℕ → Reader (Option MemberRead) → Type 0
Finds end reader = (ts : Tokens) → IsLaid end ts → AreFound ts (reader ts).1 (option_to_list (reader ts).0)

found_more : (end : ℕ) (ts us vs ws : Tokens) (xs ys : List MemberRead) → IsLaid end ts → LeadsTo us vs → AreFound ts us xs → AreFound vs ws ys → AreFound ts ws (xs ++ ys)
found_more end ts us vs ws xs ys laid p a b =
    let first = behind end a.leads laid in
    let next = behind end p first.laid in
    let last = behind end b.leads next.laid in
    record {
      leads = through a.leads (through p b.leads);
      placed = joined ts.past us.past vs.past ws.past xs ys (omega arith) (omega arith) (omega arith) a.placed b.placed;
    }

-- a list that was found behind members
pub record IsListed (ts : Tokens) (done : List MemberRead) (r : List MemberRead × Tokens) : Type 0 where
  pub new : List MemberRead
  pub list : r.0 ≡ done ++ new
  pub found : AreFound ts r.1 new

module _ (end : ℕ) (ends : Tokens → Bool) (reader : Reader (Option MemberRead)) (f : Finds end reader) where
  list_end : (done : List MemberRead) (ts : Tokens) → IsListed ts done (done, ts)
  list_end done ts = record { new = []; list = sym (append-nil done); found = none_found here }

  list_more : (done : List MemberRead) (ts : Tokens) (r : List MemberRead × Tokens) → IsLaid end ts → IsListed (progress_from ts.past (reader ts).1) (done ++ option_to_list (reader ts).0) r → IsListed ts done r
  list_more done ts r laid rest = record {
    new = option_to_list (reader ts).0 ++ rest.new;
    list = rest.list ∙ append_assoc done (option_to_list (reader ts).0) rest.new;
    found = found_more end ts _ _ _ (option_to_list (reader ts).0) rest.new laid (beyond_leads ts.past (reader ts).1) (f ts laid) rest.found;
  }

  pub list_from : (n : ℕ) (done : List MemberRead) (ts : Tokens) → IsLaid end ts → IsListed ts done (turns_from ends (perhaps reader) n done ts)
  list_from zero done ts laid = list_end done ts
  list_from (suc n) done ts laid =
      let first = behind end (f ts laid).leads laid in
      let next = behind end (beyond_leads ts.past (reader ts).1) first.laid in
      let rest = list_from n (done ++ option_to_list (reader ts).0) (progress_from ts.past (reader ts).1) next.laid in
      when (ends ts) (λ e. rw e (list_end done ts)) (λ e. rw e (list_more done ts _ laid rest))

  pub list_found : (ts : Tokens) → IsLaid end ts → AreFound ts (turns ends (perhaps reader) ts).1 (turns ends (perhaps reader) ts).0
  unfolding turns
  list_found ts laid = let l = list_from most_tokens [] ts laid in rw l.list l.found

-- ---- names and bodies

braces_in : (end : ℕ) (ts us : Tokens) (body : Option TextRange) → IsLaid end ts → IsBraced ts us body → IsNameIn (record { start = at ts; end = us.past }) body
braces_in end ts us None laid n = tt
braces_in end ts us (Some range) laid (braced b before some t) =
    let first = behind end before laid in
    let strict = takes_strict end (takes b here some (takes_leads t)) first.laid in
    (first.place, strict, omega arith)

body_in : (k : MemberKind) (range : TextRange) (body : Option TextRange) → IsNameIn range body → IsNameIn range (body_of k body)
body_in member.Function range body h = h
body_in _ range body h = tt

-- ---- of a trait or an impl

kept_found : (end : ℕ) (ts us : Tokens) (l : LeafRead) (o : Option MemberTold) → IsLaid end ts → IsTaken ts us l → AreFound ts us (option_to_list (member_kept (at ts) us.past l o))
kept_found end ts us l None laid t = none_found (takes_leads t.takes)
kept_found end ts us l (Some told) laid t = record {
  leads = takes_leads t.takes;
  placed = (
    record {
      begins = at_behind end ts laid;
      some = takes_strict end t.takes laid;
      ends = omega arith;
      name = name_in end ts us l.named laid t.leaf.name;
      body = body_in told.kind (record { start = at ts; end = us.past }) l.body (braces_in end ts us l.body laid t.leaf.body);
    },
    tt,
  );
}

leaf_kept_found : (end : ℕ) (ts us : Tokens) (told : ItemView → Option MemberTold) (o : Option LeafRead) → IsLaid end ts → LeafFound ts us o → AreFound ts (leaf_member told (at ts) o us).1 (option_to_list (leaf_member told (at ts) o us).0)
leaf_kept_found end ts us told None laid p = none_found (through p (behind_others_leads us))
leaf_kept_found end ts us told (Some l) laid t = kept_found end ts us l (told l.item) laid t

pub associated_found : (end : ℕ) (w : WantedMetas) → Finds end (associated_item w)
unfolding associated_item
associated_found end w ts laid =
    when (is_at_end ts) (λ e. rw e (none_found (bumped_leads ts)))
    (λ e. rw (e, front_start ts) (leaf_kept_found end ts _ (told_with w) _ laid (leaf_found (front ts).0 ts (front ts).1 (front_takes ts))))

-- ---- variants and fields

behind_operand_leads : (stand : Stand) (ts : Tokens) → LeadsTo ts (behind_operand stand ts)
behind_operand_leads stand ts =
    when (opens_generics stand ts) (λ e. rw e (behind_angles_leads ts))
    (λ e. rw e (when (is_pair_here stand ts) (λ f. rw f (further (bumped_leads _))) (λ f. rw f (behind_tree_leads ts))))

behind_operands_leads : (n : ℕ) (stand : Stand) (ts : Tokens) → LeadsTo ts (behind_operands n stand ts)
behind_operands_leads zero stand ts = here
behind_operands_leads (suc n) stand ts = when (is_part_end stand ts) (λ e. rw e here) (λ e. rw e (through (behind_operand_leads stand ts) (behind_operands_leads n _ _)))

behind_value_leads : (ts : Tokens) → LeadsTo ts (behind_value ts)
unfolding behind_value
behind_value_leads ts = behind_operands_leads _ _ ts

behind_type_part_leads : (ts : Tokens) → LeadsTo ts (behind_type_part ts)
behind_type_part_leads ts = when (symbol ts == 60) (λ e. rw e (behind_angles_leads ts)) (λ e. rw e (behind_tree_leads ts))

behind_type_parts_leads : (n : ℕ) (ts : Tokens) → LeadsTo ts (behind_type_parts n ts)
behind_type_parts_leads zero ts = here
behind_type_parts_leads (suc n) ts = when (is_type_end ts) (λ e. rw e here) (λ e. rw e (through (behind_type_part_leads ts) (behind_type_parts_leads n _)))

behind_type_leads : (ts : Tokens) → LeadsTo ts (behind_type ts)
unfolding behind_type
behind_type_leads ts = behind_type_parts_leads _ ts

behind_part_leads : (k : MemberKind) (ts : Tokens) → LeadsTo ts (behind_part k ts)
behind_part_leads member.Variant ts = behind_value_leads ts
behind_part_leads _ ts = through (behind_type_leads ts) (behind_value_leads _)

part_placed : (end : ℕ) (ts us vs ps qs : Tokens) (k : MemberKind) (attrs : List MetaView) (v : Option Visibility) (identifier : Option (List ℕ)) (name : Option TextRange) → IsLaid end ts → LeadsTo ts us → IsNamed us vs name → LeadsTo vs ps → LeadsTo ps qs
    → ArePlaced ts.past qs.past (option_to_list (part_of k (at ts) attrs v identifier name ps.past))
part_placed end ts us vs ps qs k attrs v identifier None laid a n b c = tt
part_placed end ts us vs ps qs k attrs v identifier (Some name) laid a (by_token t before some later) b c =
    let to_name = behind end (through a before) laid in
    let strict = taken_behind end t to_name.laid some in
    let next = behind end (bumped_leads t) to_name.laid in
    let last = behind end (through later b) next.laid in
    let after = behind end c last.laid in (
      record { begins = at_behind end ts laid; some = omega arith; ends = after.past; name = (to_name.place, strict, last.past); body = tt },
      tt,
    )

part_found : (end : ℕ) (w : WantedMetas) (k : MemberKind) → Finds end (part_member w k)
unfolding part_member
part_found end w k ts laid =
    let a = outer_attributes ts in
    let v = reads visibility a.1 in
    let u = eat_word (codes "unsafe") v.1 in
    let n = written_name u.1 in
    let before = through (outer_attributes_leads ts) (through (rule_leads visibility a.1) (eat_word_leads (codes "unsafe") v.1)) in
    let rest = behind_part_leads k n.1 in
    let comma = eat_leads 44 (behind_part k n.1) in
    record {
      leads = through before (through (named_leads u.1) (through rest comma));
      placed = part_placed end ts u.1 n.1 (behind_part k n.1) _ k (kept_metas w a.0) v.0 n.0.name n.0.range laid before (named_named u.1) rest comma;
    }

-- ---- all

turn_found : (end : ℕ) (w : WantedMetas) (k : AstIdKind) → Finds end (member_turn w k)
unfolding member_turn
turn_found end w kind.Enum = part_found end w member.Variant
turn_found end w kind.Struct = part_found end w member.Field
turn_found end w kind.Union = part_found end w member.Field
turn_found end w _ = associated_found end w

from_placed : (end : ℕ) (w : WantedMetas) (k : AstIdKind) (ts : Tokens) → IsLaid end ts → ArePlaced 0 end (members_from w k ts)
unfolding members_from
from_placed end w k ts laid =
    let inner_leads : LeadsTo ts (inner_attributes (bumped ts)).1 = further (inner_attributes_leads (bumped ts)) in
    let first = behind end inner_leads laid in
    let found = list_found end is_list_over (member_turn w k) (turn_found end w k) (inner_attributes (bumped ts)).1 first.laid in
    let last = behind end found.leads first.laid in
    when (symbol ts == 123)
    (λ e. rw e (placed_widened 0 end _ _ _ (omega arith) (past_within end _ last.laid) found.placed))
    (λ e. rw e tt)

-- the members of a text stand in it
pub members_placed : (w : WantedMetas) (edition : EditionYear) (k : AstIdKind) (text : List ℕ) → ArePlaced 0 (length text) (members_in w edition k text)
members_placed w edition k text = from_placed (length text) w k (tokens_of edition text) (tokens_laid edition text)

-- ---- members of a part of a text

module _ (w : WantedMetas) (edition : EditionYear) (k : AstIdKind) (text part : List ℕ) (range : TextRange) (cut : Some part ≡ cut_out text range) (ms : List MemberRead) (read : ms ≡ members_in w edition k part) where
  here_placed : ArePlaced 0 (length part) ms
  here_placed = rw read (members_placed w edition k part)

  -- they fit where they stand in the text
  pub part_fits : range.end < 2 ^ 64 → ArePlaced 0 (18446744073709551615 - range.start) ms
  part_fits fits = members_fit text part range ms fits (sym cut) here_placed

  -- where they are moved, they stand in the range
  pub part_moved : (moved : List MemberRead) → moved ≡ map (moved_member range.start) ms → ArePlaced range.start range.end moved
  part_moved moved e = rw e (members_moved text part range ms (sym cut) here_placed)
