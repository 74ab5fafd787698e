-- The words of kinds, and paths.
use Rattle.std.specs.Prelude.{List, ℕ, Bool, [], codes, Option, Some, None, is_some, unwrap_or}
use Rattle.hir_input.specs.declared.ids.AstIdKind.{AstIdKind}
use Rattle.hir_input.specs.declared.ids.AstIdKind.TheVariants as kind
use Rattle.rust_paths.specs.declared.names.TextRange.{TextRange}
use Rattle.rust_items.specs.declared.member.MemberKind.{MemberKind}
use Rattle.rust_items.specs.declared.member.MemberKind.TheVariants as member
use Rattle.rust_items.specs.MemberLists.{cut_out}

-- what is written of the items of a kind: the word that lists have; the letter in a tags file, as Universal Ctags has it, if they have tags; and what Universal Ctags calls what their members stand in, if they have members
pub record KindTexts : Type 0 where
  pub word : List ℕ
  pub letter : Option (List ℕ)
  pub scope : Option (List ℕ)

-- that of a kind
abbrev pub kind_texts : AstIdKind → KindTexts
kind_texts kind.Const = record { word = codes "const"; letter = Some (codes "C"); scope = None }
kind_texts kind.Enum = record { word = codes "enum"; letter = Some (codes "g"); scope = Some (codes "enum") }
kind_texts kind.ExternBlock = record { word = codes "extern"; letter = None; scope = None }
kind_texts kind.ExternCrate = record { word = codes "extern crate"; letter = None; scope = None }
kind_texts kind.Fn = record { word = codes "fn"; letter = Some (codes "f"); scope = None }
kind_texts kind.Impl = record { word = codes "impl"; letter = None; scope = Some (codes "implementation") }
kind_texts kind.MacroDef = record { word = codes "macro"; letter = Some (codes "M"); scope = None }
kind_texts kind.MacroCall = record { word = codes "macro call"; letter = None; scope = None }
kind_texts kind.MacroRules = record { word = codes "macro_rules"; letter = Some (codes "M"); scope = None }
kind_texts kind.Module = record { word = codes "mod"; letter = Some (codes "n"); scope = None }
kind_texts kind.Static = record { word = codes "static"; letter = Some (codes "v"); scope = None }
kind_texts kind.Struct = record { word = codes "struct"; letter = Some (codes "s"); scope = Some (codes "struct") }
kind_texts kind.Trait = record { word = codes "trait"; letter = Some (codes "i"); scope = Some (codes "interface") }
kind_texts kind.TypeAlias = record { word = codes "type"; letter = Some (codes "t"); scope = None }
kind_texts kind.Union = record { word = codes "union"; letter = Some (codes "s"); scope = Some (codes "struct") }
kind_texts kind.Use = record { word = codes "use"; letter = None; scope = None }

-- the word of an item's kind
abbrev pub item_word : AstIdKind → List ℕ
item_word k = (kind_texts k).word

-- items of some kinds have members
abbrev pub has_members : AstIdKind → Bool
has_members k = is_some (kind_texts k).scope

-- the word of a member's kind
abbrev pub member_word : MemberKind → List ℕ
member_word member.Function = codes "fn"
member_word member.Constant = codes "const"
member_word member.TypeAlias = codes "type"
member_word member.MacroCall = codes "macro call"
member_word member.Variant = codes "variant"
member_word member.Field = codes "field"

-- what stands in a range of a text; nothing, where it cuts a character
abbrev pub text_at : List ℕ → TextRange → List ℕ
text_at text range = unwrap_or (cut_out text range) []

abbrev pub text_at_some : List ℕ → Option TextRange → List ℕ
text_at_some text None = []
text_at_some text (Some range) = text_at text range
