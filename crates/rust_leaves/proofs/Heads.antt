-- What is left behind the words that begin an item.
use Rattle.std.proofs.Common.{◌≡◌, ℕ, Bool, true, false, List, [], refl, sym, ap, ◌∙◌, codes, if◌then◌else◌, bytes_eq}
use Rattle.rust_leaves.proofs.Common.{Tokens, word, Head, head, union_words}
use Rattle.rust_cursor.specs.Grammar.{reads}
use Rattle.rust_cursor.specs.Looks.{sees}
use Rattle.rust_leaves.specs.Heads.{extern_block_words, extern_crate_words, macro_rules_words}
use Rattle.rust_leaves.specs.Inner.{behind_head}
use Rattle.rust_leaves.specs.declared.head.Head.TheVariants as heads

pick : (P : Head × Tokens → Type 0) (t : Bool) {p q : Head × Tokens} → P p → P q → P (if t then p else q)
pick P true p q = p
pick P false p q = q

module _ (ts : Tokens) where
  abbrev Left : Head × Tokens → Type 0
  Left r = r.1 ≡ behind_head r.0 ts

  abbrev is : List ℕ → Bool
  is w = bytes_eq (word ts) w

  pub head_left : Left (reads head ts)
  unfolding head
  head_left =
      pick Left (is (codes "use")) refl (pick Left (is (codes "fn")) refl (pick Left (is (codes "impl")) refl (pick Left (is (codes "trait")) refl
      (pick Left (is (codes "struct")) refl (pick Left (is (codes "enum")) refl (pick Left (is (codes "const")) refl (pick Left (is (codes "static")) refl
      (pick Left (is (codes "type")) refl (pick Left (is (codes "mod")) refl (pick Left (is (codes "macro")) refl (pick Left (sees union_words ts) refl
      (pick Left (sees macro_rules_words ts) refl (pick Left (sees extern_crate_words ts) refl (pick Left (sees extern_block_words ts) refl refl))))))))))))))

-- the kind and what is left, each by itself
pub head_whole : (ts us : Tokens) (k : Head) → k ≡ (reads head ts).0 → us ≡ behind_head k ts → reads head ts ≡ (k, us)
head_whole ts us k e f = ap (λ t. ((reads head ts).0, t)) (head_left ts) ∙ ap (λ h. (h, behind_head h ts)) (sym e) ∙ ap (λ t. (k, t)) (sym f)

-- without a word nothing is taken
pub no_words : (ts : Tokens) → word ts ≡ [] → reads head ts ≡ (heads.Other, ts)
unfolding head
no_words ts e = rw e refl
