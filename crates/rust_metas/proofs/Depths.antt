-- What stands in one another, down to a depth.
use Rattle.std.proofs.Common.{◌≡◌, ◌-◌, ◌<◌, ◌∙◌, ℕ, zero, suc, true, false, Some, None, refl, arith, codes}
use Rattle.rust_metas.proofs.Common.{Tokens, symbol, bumped, behind_closed, elements, one, reads, reads_from, sees, cfg_attr_meta, metas_from, path_meta, conditions, condition, root, is_call, is_named_call, member, meta, meta_with}

pub conditions_deep : (depth : ℕ) (ts : Tokens) → depth ≡ 0 → reads (conditions depth) ts ≡ (None, ts)
unfolding conditions
conditions_deep zero ts e = refl
conditions_deep (suc depth) ts e = cc

pub conditions_at : (depth : ℕ) (ts : Tokens) → 0 < depth → reads (conditions depth) ts ≡ (Some (elements (one (reads (condition (depth - 1)))) ts).0, (elements (one (reads (condition (depth - 1)))) ts).1)
unfolding conditions condition
conditions_at zero ts h = absurd (omega arith)
conditions_at (suc depth) ts h = let less : suc depth - 1 ≡ depth = omega arith in rw less refl

pub meta_deep : (anchor depth : ℕ) (ts : Tokens) → depth ≡ 0 → reads_from anchor (meta depth) ts ≡ (path_meta None root, ts)
unfolding meta
meta_deep anchor zero ts e = refl
meta_deep anchor (suc depth) ts e = cc

pub meta_at : (anchor depth : ℕ) (ts : Tokens) → 0 < depth → reads_from anchor (meta depth) ts ≡ reads_from anchor (meta_with (meta (depth - 1)) (condition (depth - 1))) ts
unfolding meta
meta_at anchor zero ts h = absurd (omega arith)
meta_at anchor (suc depth) ts h = let less : suc depth - 1 ≡ depth = omega arith in rw less refl

-- `cfg_attr(..)`
pub meta_conditional : (anchor depth : ℕ) (ts : Tokens) → 0 < depth → sees (is_call (codes "unsafe")) ts ≡ false → sees (is_named_call (codes "cfg")) ts ≡ false → sees (is_named_call (codes "cfg_attr")) ts ≡ true
    → reads_from anchor (meta depth) ts
    ≡ (let c = reads (condition (depth - 1)) (bumped (bumped ts)) in let m = elements (one (reads_from anchor (member (meta (depth - 1))))) c.1 in (cfg_attr_meta c.0 (metas_from m.0), behind_closed (symbol (bumped ts)) m.1))
meta_conditional anchor depth ts h e f g = meta_at anchor depth ts h ∙ rw (e, f, g) refl
