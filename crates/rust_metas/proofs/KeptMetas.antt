-- The metas that are wanted, step by step.
use Rattle.std.proofs.Common.{◌≡◌, ◌-◌, ℕ, zero, suc, Bool, true, false, List, [], ◌∷◌, ◌++◌, refl, sym, ap, ◌∙◌, arith, if◌then◌else◌}
use Rattle.std.proofs.lemmas.List.Elements.{filter-append}
use Rattle.rust_metas.specs.declared.wanted.WantedMetas.TheVariants as wanted
use Rattle.rust_metas.proofs.Common.{MetaView, DocStyle, Tokens, Reader, bumped, most_tokens, progress_from, turns_from, turns, one, is_doc, is_behind, one_attribute, behind_attribute, attribute, attributes, WantedMetas, is_wanted_meta, kept_metas, kept_by, sees}

pub kept_append : (w : WantedMetas) (ms ns : List MetaView) → kept_metas w (ms ++ ns) ≡ kept_metas w ms ++ kept_metas w ns
unfolding kept_metas
kept_append wanted.All ms ns = refl
kept_append wanted.Undocumented ms ns = filter-append _ ms ns
kept_append wanted.Conditions ms ns = filter-append _ ms ns

pub kept_none : (w : WantedMetas) → kept_metas w [] ≡ []
unfolding kept_metas
kept_none wanted.All = refl
kept_none wanted.Undocumented = refl
kept_none wanted.Conditions = refl

-- a meta that is kept, and one that is not
pub meta_kept : (w : WantedMetas) (m : MetaView) → is_wanted_meta w m ≡ true → kept_metas w (m ∷ []) ≡ m ∷ []
unfolding kept_metas
meta_kept wanted.All m e = refl
meta_kept wanted.Undocumented m e = rw e refl
meta_kept wanted.Conditions m e = rw e refl

pub meta_dropped : (w : WantedMetas) (m : MetaView) → is_wanted_meta w m ≡ false → kept_metas w (m ∷ []) ≡ []
unfolding kept_metas
meta_dropped wanted.All m e = absurd cc
meta_dropped wanted.Undocumented m e = rw e refl
meta_dropped wanted.Conditions m e = rw e refl

-- whether documentation is wanted
abbrev pub keeps_docs : WantedMetas → Bool
keeps_docs wanted.All = true
keeps_docs _ = false

doc_dropped : (w : WantedMetas) (style : DocStyle) (ts : Tokens) → keeps_docs w ≡ false → sees (is_doc style) ts ≡ true → kept_by w (one (attribute style)) ts ≡ ([], behind_attribute style (bumped ts))
unfolding attribute one_attribute kept_metas
doc_dropped wanted.All style ts k e = absurd cc
doc_dropped wanted.Undocumented style ts k e = rw e refl
doc_dropped wanted.Conditions style ts k e = rw e refl

-- a documentation comment is passed over
pub doc_passed : (w : WantedMetas) (style : DocStyle) (told : Bool) (ts us : Tokens) → keeps_docs w ≡ false → told ≡ sees (is_doc style) ts → us ≡ (if told then behind_attribute style (bumped ts) else ts) → told ≡ true
    → kept_by w (one (attribute style)) ts ≡ ([], us)
doc_passed w style told ts us k d n taken =
    let behind : us ≡ behind_attribute style (bumped ts) = n ∙ rw taken refl in
    rw behind (doc_dropped w style ts k (sym d ∙ taken))

-- ---- turns

-- what was read, as far as it is kept
abbrev kept_read : WantedMetas → List MetaView × Tokens → List MetaView × Tokens
kept_read w r = (kept_metas w r.0, r.1)

kept_if : (w : WantedMetas) (b : Bool) (x y : List MetaView × Tokens) → kept_read w (if b then x else y) ≡ (if b then kept_read w x else kept_read w y)
kept_if w true x y = refl
kept_if w false x y = refl

turns_kept : (w : WantedMetas) (ends : Tokens → Bool) (reader : Reader (List MetaView)) (n : ℕ) (done : List MetaView) (ts : Tokens)
    → turns_from ends (kept_by w reader) n (kept_metas w done) ts ≡ kept_by w (turns_from ends reader n done) ts
turns_kept w ends reader zero done ts = refl
turns_kept w ends reader (suc n) done ts =
    let after = progress_from ts.past (reader ts).1 in
    ap (λ r. if ends ts then (kept_metas w done, ts) else r)
    (ap (λ l. turns_from ends (kept_by w reader) n l after) (sym (kept_append w done (reader ts).0)) ∙ turns_kept w ends reader n (done ++ (reader ts).0) after)
    ∙ sym (kept_if w (ends ts) (done, ts) (turns_from ends reader n (done ++ (reader ts).0) after))

-- the attributes that are kept, one after another
pub attributes_kept : (w : WantedMetas) (style : DocStyle) (ts : Tokens) (bound : ℕ) (done : List MetaView) → bound ≡ most_tokens → done ≡ []
    → turns_from (sees (is_behind style)) (kept_by w (one (attribute style))) (bound - 0) done ts ≡ kept_by w (attributes style) ts
unfolding attributes turns
attributes_kept w style ts bound done whole none =
    let turns_left : bound - 0 ≡ bound = omega arith in
    ap (λ n. turns_from (sees (is_behind style)) (kept_by w (one (attribute style))) n done ts) (turns_left ∙ whole)
    ∙ ap (λ l. turns_from (sees (is_behind style)) (kept_by w (one (attribute style))) most_tokens l ts) (none ∙ sym (kept_none w))
    ∙ turns_kept w (sees (is_behind style)) (one (attribute style)) most_tokens [] ts
