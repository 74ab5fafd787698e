-- What edits mean, one more at a time.
use Rattle.std.proofs.Common.{◌≡◌, ℕ, suc, List, [], ◌∷◌, ◌++◌, Ok, Err, length, refl, sym, ap, subst, ◌∙◌}
use Rattle.text_session.proofs.Common.{unwrap_or, EditionYear, EditView, last_some, or_else, EditError, NotChanged, ChangeFault, State, NamesKnown, NamesCrateOf, AllByRecursion, TextEdit, of_table, set_text, change_text, IsFailing, TellsFault, TextChange, FileTexts, left_text, text_after, bytes_kept, changed_text, Means, AreMeant, Fails, FailsAt}

-- ---- over texts that are the same

module _ (edition : EditionYear) (old new : FileTexts) (same : (file : ℕ) → old file ≡ new file) where
  means_over : (l : TextEdit) (e : EditView) (c : TextChange) → Means edition old l e c → Means edition new l e c
  means_over (of_table f) e c h = h
  means_over (set_text file text) e c h = h
  means_over (change_text file range text) e c h = (h.0, subst (λ t. changed_text (bytes_kept t) range text ≡ Ok h.0) (same file) h.1, h.2)

  fails_over : (l : TextEdit) (cause : ChangeFault) → Fails old l cause → Fails new l cause
  fails_over (of_table f) cause h = h
  fails_over (set_text file text) cause h = h
  fails_over (change_text file range text) cause h = subst (λ t. changed_text (bytes_kept t) range text ≡ Err cause) (same file) h

pub meant_over : (edition : EditionYear) (old new : FileTexts) → ((file : ℕ) → old file ≡ new file) → (ls : List TextEdit) (es : List EditView) (cs : List TextChange) → AreMeant edition old ls es cs → AreMeant edition new ls es cs
meant_over edition old new same [] [] [] h = h
meant_over edition old new same (l ∷ ls) (e ∷ es) (c ∷ cs) h = (
  means_over edition old new same l e c h.0,
  meant_over edition (text_after old (c ∷ [])) (text_after new (c ∷ [])) (λ file. ap (unwrap_or (left_text file c)) (same file)) ls es cs h.1,
)
meant_over edition old new same [] (e ∷ es) cs h = absurd h
meant_over edition old new same [] [] (c ∷ cs) h = absurd h
meant_over edition old new same (l ∷ ls) [] cs h = absurd h
meant_over edition old new same (l ∷ ls) (e ∷ es) [] h = absurd h

-- ---- behind others

-- the first change, and those behind it
after_first : (texts : FileTexts) (c : TextChange) (cs : List TextChange) (file : ℕ) → text_after texts (c ∷ cs) file ≡ text_after (text_after texts (c ∷ [])) cs file
after_first texts c cs file = or_else (last_some (left_text file) cs) (left_text file c) (texts file)

pub meant_push : (edition : EditionYear) (texts : FileTexts) (ls : List TextEdit) (es : List EditView) (cs : List TextChange) (l : TextEdit) (e : EditView) (c : TextChange) → AreMeant edition texts ls es cs → Means edition (text_after texts cs) l e c → AreMeant edition texts (ls ++ l ∷ []) (es ++ e ∷ []) (cs ++ c ∷ [])
meant_push edition texts [] [] [] l e c are is = (is, tt)
meant_push edition texts (k ∷ ls) (f ∷ es) (d ∷ cs) l e c are is =
    let next = text_after texts (d ∷ []) in
    (are.0, meant_push edition next ls es cs l e c are.1 (means_over edition (text_after texts (d ∷ cs)) (text_after next cs) (after_first texts d cs) l e c is))
meant_push edition texts ls es cs l e c are is = absurd are

-- the first that means nothing
pub fails_behind : (edition : EditionYear) (texts : FileTexts) (ls : List TextEdit) (es : List EditView) (cs : List TextChange) (l : TextEdit) (rest : List TextEdit) (cause : ChangeFault) → AreMeant edition texts ls es cs → Fails (text_after texts cs) l cause → FailsAt edition texts (ls ++ l ∷ rest) (length ls) cause
fails_behind edition texts [] [] [] l rest cause are fails = fails
fails_behind edition texts (k ∷ ls) (f ∷ es) (d ∷ cs) l rest cause are fails =
    let next = text_after texts (d ∷ []) in
    (f, d, are.0, fails_behind edition next ls es cs l rest cause are.1 (fails_over edition (text_after texts (d ∷ cs)) (text_after next cs) (after_first texts d cs) l cause fails))
fails_behind edition texts ls es cs l rest cause are fails = absurd are

pub meant_length : (edition : EditionYear) (texts : FileTexts) (ls : List TextEdit) (es : List EditView) (cs : List TextChange) → AreMeant edition texts ls es cs → length cs ≡ length ls
meant_length edition texts [] [] [] are = refl
meant_length edition texts (l ∷ ls) (e ∷ es) (c ∷ cs) are = ap suc (meant_length edition (text_after texts (c ∷ [])) ls es cs are.1)
meant_length edition texts ls es cs are = absurd are

-- what is told of an edit behind others is told of all
pub tells_behind : (edition : EditionYear) (texts : FileTexts) (ls : List TextEdit) (es : List EditView) (cs : List TextChange) (l : TextEdit) (rest : List TextEdit) (e : EditError) → AreMeant edition texts ls es cs → TellsFault (IsFailing (text_after texts cs) l (length cs)) e
    → TellsFault (FailsAt edition texts (ls ++ l ∷ rest)) e
tells_behind edition texts ls es cs l rest (NotChanged place cause) are h =
    subst (λ k. FailsAt edition texts (ls ++ l ∷ rest) k cause) (sym (h.0 ∙ meant_length edition texts ls es cs are)) (fails_behind edition texts ls es cs l rest cause are h.1)
tells_behind edition texts ls es cs l rest e are h = h

-- ---- crates

known_one : (s : State) (edition : EditionYear) (texts : FileTexts) (l : TextEdit) (e : EditView) (c : TextChange) → Means edition texts l e c → NamesCrateOf s l → NamesKnown s e
known_one s edition texts (of_table f) e c h known = subst (NamesKnown s) (sym h.0) known
known_one s edition texts (set_text file text) e c h known = subst (NamesKnown s) (sym h.edit_is) tt
known_one s edition texts (change_text file range text) e c h known = subst (NamesKnown s) (sym h.2.edit_is) tt

-- where edits name crates of a table, so do those of the table that they mean
pub known_meant : (s : State) (edition : EditionYear) (texts : FileTexts) (ls : List TextEdit) (es : List EditView) (cs : List TextChange) → AreMeant edition texts ls es cs → AllByRecursion (NamesCrateOf s) ls → AllByRecursion (NamesKnown s) es
known_meant s edition texts [] [] [] are known = tt
known_meant s edition texts (l ∷ ls) (e ∷ es) (c ∷ cs) are known = (known_one s edition texts l e c are.0 known.0, known_meant s edition (text_after texts (c ∷ [])) ls es cs are.1 known.1)
known_meant s edition texts [] (e ∷ es) cs are known = absurd are
known_meant s edition texts [] [] (c ∷ cs) are known = absurd are
known_meant s edition texts (l ∷ ls) [] cs are known = absurd are
known_meant s edition texts (l ∷ ls) (e ∷ es) [] are known = absurd are
