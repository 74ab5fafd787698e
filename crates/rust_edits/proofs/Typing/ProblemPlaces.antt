-- Problems stand where they stood, or are moved with the text.
use Rattle.std.proofs.Common.{◌≡◌, ℕ, suc, false, List, [], ◌∷◌, length, refl, ap, sym, subst, ◌∙◌, map, arith}
use Rattle.rust_edits.proofs.Common.{slice_index, filter, EditionYear, StandsAlone, tokens_in_front, moved_piece, Piece, symbol_from, symbol_of, is_significant, is_significant_kind, TokenKind, tokens_of, Problem, ProblemKind, and_problem_at, with_feeds, place_in, moved_problem, FileView, found_in, read_of, IsFile, with_body, IsTyped, Loose, none_loose, loose_behind, loose_from, loose_in, ProblemsMove, shifted_by, nat_tests, body, inside_of, tokens_sound, when, AreAlike, no_more, one_more, IsAlike}
use Rattle.rust_items.specs.declared.log.ProblemKind.TheVariants as problem
use Rattle.rust_edits.proofs.Typing.EndedRests.{SameLoose}
use Rattle.rust_edits.proofs.Typing.MovedItems.{place_is}
use Rattle.rust_edits.proofs.Typing.ProblemsAlike.{ProblemAlike, maybe_same, FileTold, of_none, alike, file_told}
use Rattle.rust_edits.proofs.Typing.ProblemsIn.{AreIn, unended_kept, read_leads, problems_in}
use Rattle.rust_edits.proofs.Typing.Returns.{feeds_body}
use Rattle.rust_edits.proofs.Typing.Texts.{bodies, IsMoved, of_bodies, of_places, are_moved, tokens_beside, begin_plain}
use Rattle.rust_edits.proofs.Typing.Typing.{typed, has_typed}
use Rattle.rust_edits.proofs.Typing.UnendedTokens.{unended_alike}

-- ---- what is loose between the braces

pub passed_symbol : (k : TokenKind) (b : ℕ) → is_significant_kind k ≡ false → symbol_from k b ≡ 0
passed_symbol k b e = grind (arith, nat_tests)

loose_counted : (d : ℕ) (l : Loose) (ts : List Piece) → loose_from l (filter is_significant (map (moved_piece d) ts)) ≡ loose_from l ts
loose_counted d l [] = refl
loose_counted d l (t ∷ ts) =
    when (is_significant_kind t.kind) (λ e. rw e (loose_counted d (loose_behind l (symbol_of t)) ts))
    (λ e. let none : symbol_of t ≡ 0 = passed_symbol t.kind (slice_index t.text 0) e in rw (e, none) (loose_counted d l ts))

loose_body : (at : ℕ) (m : List ℕ) → loose_from none_loose (body at m) ≡ loose_in m
unfolding body inside_of
loose_body at m = loose_counted (suc at) none_loose (tokens_in_front 0 0 m (125 ∷ []))

same_loose : (edition : EditionYear) (q m m' s : List ℕ) (h : StandsAlone m) (h' : StandsAlone m') → loose_in m' ≡ loose_in m → SameLoose (bodies edition q m m' s h h')
same_loose edition q m m' s h h' e =
    of_bodies edition q m m' s h h' (λ old new. loose_from none_loose new ≡ loose_from none_loose old) (loose_body (length q) m' ∙ e ∙ sym (loose_body (length q) m))

-- ---- problems

pub both_told : (edition : EditionYear) (q m m' s : List ℕ) → IsTyped edition q m m' s → loose_in m' ≡ loose_in m
    → AreAlike (ProblemAlike (IsMoved q m m' s)) (found_in edition (with_body q m s)).problems (found_in edition (with_body q m' s)).problems
unfolding found_in
both_told edition q m m' s t e =
    by (file_told (length x) (typed edition q m m' s t) (same_loose edition q m m' s t.alone t.alone_new e) (begin_plain edition q m m' s t.alone t.alone_new t.begins t.begins_new) (tokens_of edition x) (tokens_of edition x')
    (tokens_sound edition x) (tokens_beside edition q m m' s t.opens t.alone t.alone_new))
  where
    x : List ℕ
    x = with_body q m s

    x' : List ℕ
    x' = with_body q m' s

    by : FileTold (typed edition q m m' s t) (tokens_of edition x) (tokens_of edition x') → AreAlike (ProblemAlike (IsMoved q m m' s)) (found_in edition x).problems (found_in edition x').problems
    by (of_none k) = absurd (has_typed edition q m m' s t k)
    by (alike d) =
        let last = of_places edition q m m' s t.alone t.alone_new (λ same. IsAlike same (tokens_of edition x).unended (tokens_of edition x').unended) (unended_alike edition q m m' s t.opens t.alone t.alone_new) in
        are_moved edition q m m' s t.alone t.alone_new
        (λ same. AreAlike (ProblemAlike same) (and_problem_at problem.Unterminated (read_of edition x).1.1.unended (read_of edition x).1.0).problems (and_problem_at problem.Unterminated (read_of edition x').1.1.unended (read_of edition x').1.0).problems)
        (maybe_same (typed edition q m m' s t) (read_of edition x).1.0 (read_of edition x').1.0 d problem.Unterminated (read_of edition x).1.1.unended (read_of edition x').1.1.unended (rw (unended_kept (read_leads edition x), unended_kept (read_leads edition x')) last))

-- ---- the law

problems_are : (q m m' s : List ℕ) {ps qs : List Problem} → AreIn (length (with_body (with_feeds q) (with_feeds m) (with_feeds s))) ps → AreAlike (ProblemAlike (IsMoved (with_feeds q) (with_feeds m) (with_feeds m') (with_feeds s))) ps qs
    → map (moved_problem (place_in (with_body q m' s))) qs ≡ map (moved_problem (shifted_by q m m')) (map (moved_problem (place_in (with_body q m s))) ps)
problems_are q m m' s l no_more = refl
problems_are q m m' s l (one_more {x = p} {y = r} {xs = ps} {ys = rs} h k) =
    ap (λ (z : List Problem). moved_problem (place_in (with_body q m' s)) r ∷ z) (problems_are q m m' s l.1 k)
    ∙ ap (λ (j : ProblemKind). record { kind = j; at = place_in (with_body q m' s) r.at } ∷ map (moved_problem (shifted_by q m m')) (map (moved_problem (place_in (with_body q m s))) ps)) h.kind
    ∙ ap (λ n. record { kind = p.kind; at = n } ∷ map (moved_problem (shifted_by q m m')) (map (moved_problem (place_in (with_body q m s))) ps)) (place_is q m m' s p.at r.at l.0 h.place)

read_moved : (edition : EditionYear) (q m m' s : List ℕ) (file file' : FileView) → IsTyped edition (with_feeds q) (with_feeds m) (with_feeds m') (with_feeds s) → loose_in (with_feeds m') ≡ loose_in (with_feeds m)
    → IsFile edition (with_body (with_feeds q) (with_feeds m) (with_feeds s)) (place_in (with_body q m s)) file → IsFile edition (with_body (with_feeds q) (with_feeds m') (with_feeds s)) (place_in (with_body q m' s)) file'
    → file'.problems ≡ map (moved_problem (shifted_by q m m')) file.problems
read_moved edition q m m' s file file' t e f g =
    g.problems ∙ problems_are q m m' s (problems_in edition (with_body (with_feeds q) (with_feeds m) (with_feeds s))) (both_told edition (with_feeds q) (with_feeds m) (with_feeds m') (with_feeds s) t e)
    ∙ ap (map (moved_problem (shifted_by q m m'))) (sym f.problems)

pub problems_move : ProblemsMove
problems_move edition q m m' s read again t e f g =
    read_moved edition q m m' s read again t e (subst (λ (z : List ℕ). IsFile edition z (place_in (with_body q m s)) read) (feeds_body q m s) f)
    (subst (λ (z : List ℕ). IsFile edition z (place_in (with_body q m' s)) again) (feeds_body q m' s) g)
