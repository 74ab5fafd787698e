-- The texts of files, one change after another.
use Rattle.std.proofs.Common.{◌≡◌, ℕ, suc, ◌+◌, ◌<◌, ◌==◌, true, false, if◌then◌else◌, List, [], ◌∷◌, ◌++◌, Bor, option_copied, Option, Some, None, IfSome, All, length, take, get_or, refl, sym, ap, subst, ◌∙◌, arith}
use Rattle.text_session.proofs.Common.{take_more, All-push, unwrap_or, last_some, last_append, or_else, SourceText, Place, File, Block, HasSlot, HasSlotFor, IsPlaced, Texts, FileTexts, TextChange, text_of_place, text_in, left_text, text_after}

-- ---- places

-- the text of a place has items with different ids, as that of each file has
pub placed_at : (texts : Texts) → ((file : ℕ) → IsPlaced (text_in texts file)) → (place : Place) → IsPlaced (text_of_place texts place)
placed_at texts placed (File file) = placed file.0
placed_at texts placed (Block block) = tt

-- what holds of a text holds where it is lent
pub if_lent : (P : SourceText → Type 0) (r : Option (Bor SourceText)) → IfSome (option_copied r) P → IfSome r (λ t. P t.now)
if_lent P None h = tt
if_lent P (Some t) h = h

-- ---- room

slot_for_stays : (old new : Texts) → ((f : ℕ) → HasSlot old f → HasSlot new f) → (c : TextChange) → HasSlotFor old c → HasSlotFor new c
slot_for_stays old new stay None h = tt
slot_for_stays old new stay (Some (file, None)) h = tt
slot_for_stays old new stay (Some (file, Some text)) h = stay file h

pub slots_for_stay : (old new : Texts) → ((f : ℕ) → HasSlot old f → HasSlot new f) → (cs : List TextChange) → All (HasSlotFor old) cs → All (HasSlotFor new) cs
slots_for_stay old new stay cs h = λ k d within. slot_for_stays old new stay (get_or cs k d) (h k d within)

pub slot_if : (texts : Texts) (file : ℕ) (text : Option SourceText) → HasSlotFor texts (Some (file, text)) → IfSome text (λ _. HasSlot texts file)
slot_if texts file None h = tt
slot_if texts file (Some t) h = h

-- there is room for one more of the changes
pub room_more : (old new : Texts) (changes : List TextChange) (i : ℕ) (d : TextChange) → i < length changes → ((f : ℕ) → HasSlot old f → HasSlot new f)
    → All (HasSlotFor old) (take i changes) → HasSlotFor new (get_or changes i d) → All (HasSlotFor new) (take (i + 1) changes)
room_more old new changes i d within stay had has =
    subst (All (HasSlotFor new)) (sym (take_more changes i d within)) (All-push (HasSlotFor new) (take i changes) (get_or changes i d) (slots_for_stay old new stay (take i changes) had) has)

-- those behind the first
pub all_rest : {A : Type 0} (P : A → Type 0) (x : A) (xs : List A) → All P (x ∷ xs) → All P xs
all_rest P x xs h = λ k d within. h (suc k) d (omega (arith, within))

-- ---- changes

-- the next change, and those behind it
pub text_step : (old new : Texts) (file : ℕ) (text : Option SourceText) (rest : List TextChange) → ((f : ℕ) → text_in new f ≡ (if file == f then text else text_in old f))
    → (f : ℕ) → text_after (text_in new) rest f ≡ text_after (text_in old) (Some (file, text) ∷ rest) f
text_step old new file text rest put f =
    ap (unwrap_or (last_some (left_text f) rest)) (put f ∙ elim (file == f) as (λ b. (if b then text else text_in old f) ≡ unwrap_or (if b then Some text else None) (text_in old f)) [ true ↦ refl | false ↦ refl ])
    ∙ sym (or_else (last_some (left_text f) rest) (left_text f (Some (file, text))) (text_in old f))

pub text_skip : (texts : Texts) (rest : List TextChange) (f : ℕ) → text_after (text_in texts) rest f ≡ text_after (text_in texts) (None ∷ rest) f
text_skip texts rest f = sym (or_else (last_some (left_text f) rest) None (text_in texts f))

-- the last change, and those before it
pub text_last : (texts : FileTexts) (front : List TextChange) (c : TextChange) (f : ℕ) → text_after texts (front ++ c ∷ []) f ≡ unwrap_or (left_text f c) (text_after texts front f)
text_last texts front c f = ap (λ o. unwrap_or o (texts f)) (last_append (left_text f) front (c ∷ [])) ∙ or_else (left_text f c) (last_some (left_text f) front) (texts f)

-- one that leaves nothing of a file, or else what it leaves
pub skips_last : (texts : FileTexts) (all front : List TextChange) (c : TextChange) (f : ℕ) → all ≡ front ++ c ∷ [] → left_text f c ≡ None → text_after texts all f ≡ text_after texts front f
skips_last texts all front c f is none = ap (λ cs. text_after texts cs f) is ∙ text_last texts front c f ∙ ap (λ o. unwrap_or o (text_after texts front f)) none

pub takes_last : (texts : FileTexts) (all front : List TextChange) (c : TextChange) (f : ℕ) (text : Option SourceText) → all ≡ front ++ c ∷ [] → left_text f c ≡ Some text → text_after texts all f ≡ text
takes_last texts all front c f text is some = ap (λ cs. text_after texts cs f) is ∙ text_last texts front c f ∙ ap (λ o. unwrap_or o (text_after texts front f)) some

-- changes over texts that are the same
pub text_over : (old new : Texts) (cs : List TextChange) → ((file : ℕ) → text_in new file ≡ text_in old file) → (file : ℕ) → text_after (text_in new) cs file ≡ text_after (text_in old) cs file
text_over old new cs same file = ap (unwrap_or (last_some (left_text file) cs)) (same file)
