-- What stands behind the address of a tag: fields, as Universal Ctags calls them.
use Rattle.std.specs.Prelude.{ℕ, Bool, true, false, not, ◌+◌, ◌-◌, ◌/◌, ◌%◌, ◌==◌, ◌&&◌, ◌||◌, nat_lt, if◌then◌else◌, List, [], ◌∷◌, ◌++◌, chars, codes, decimal, encode_utf8, flat_map, length, Option, Some, None}
use Rattle.hir_input.specs.Id.{hex_digit}
use Rattle.hir_input.specs.declared.ids.AstIdKind.{AstIdKind}
use Rattle.hir_input.specs.declared.ids.AstIdKind.TheVariants as kind
use Rattle.item_tree.specs.declared.visibility.RawVisibility.{RawVisibility}
use Rattle.item_tree.specs.declared.visibility.RawVisibility.TheVariants.{PubSelf, Public}
use Rattle.item_tree.specs.declared.visibility.VisibilityExplicitness.TheVariants.{Implicit}
use Rattle.rust_lexer.specs.Piece.{Piece}
use Rattle.rust_lexer.specs.Symbol.{symbol_of}
use Rattle.rust_lexer.specs.Tokens.{is_significant, tokens}
use Rattle.rust_items.specs.declared.member.MemberKind.{MemberKind}
use Rattle.rust_items.specs.declared.member.MemberKind.TheVariants as member
use Rattle.source_rows.specs.Comments.{is_documentation}
use Rattle.source_listing.specs.Paths.{bare_segment}
use Rattle.source_tags.specs.declared.tag_fields.TagFields.{TagFields}

-- ---- texts

-- what Universal Ctags writes for a control character or a backslash, behind a backslash
abbrev pub escaped_text : ℕ → List ℕ
escaped_text c =
    if c == 7 then codes "a" else if c == 8 then codes "b" else if c == 9 then codes "t" else if c == 10 then codes "n"
    else if c == 11 then codes "v" else if c == 12 then codes "f" else if c == 13 then codes "r" else if c == 92 then c ∷ []
    else codes "x" ++ hex_digit (c / 16) ∷ hex_digit (c % 16) ∷ []

abbrev pub is_escaped : ℕ → Bool
is_escaped c = nat_lt c 32 || (c == 127 || c == 92)

-- a character of a path or a signature
abbrev pub safe_char : ℕ → List ℕ
safe_char c = if is_escaped c then 92 ∷ escaped_text c else encode_utf8 c

-- a path or a signature, so that it stands on one line and in one field
abbrev pub safe_text : List ℕ → List ℕ
safe_text text = flat_map safe_char (chars text)

-- ---- who sees an item

-- `pub(crate)` and the like stand between the words that Universal Ctags has for other languages
abbrev pub access_word : RawVisibility → List ℕ
access_word Public = codes "public"
access_word (PubSelf e) = codes "private"
access_word v = codes "protected"

-- a member that is no field is seen as its enum or its trait is, where it has no visibility of its own: nothing is told
abbrev pub member_access : MemberKind → RawVisibility → Option (List ℕ)
member_access member.Field v = Some (access_word v)
member_access k (PubSelf Implicit) = None
member_access k v = Some (access_word v)

-- ---- signatures

-- an item or a member with a signature
abbrev pub is_function : AstIdKind → Bool
is_function kind.Fn = true
is_function k = false

abbrev pub is_method : MemberKind → Bool
is_method member.Function = true
is_method k = false

-- white space, and comments, also those that document something
abbrev pub is_gap : Piece → Bool
is_gap t = not (is_significant t) || is_documentation t.kind

-- how many round and square brackets are open behind a symbol
abbrev pub brackets_behind : ℕ → ℕ → ℕ
brackets_behind depth c = if c == 40 || c == 91 then depth + 1 else if c == 41 || c == 93 then depth - 1 else depth

-- a `{` or a `;` that stands in none of them ends the head of a function
abbrev pub ends_head : ℕ → ℕ → Bool
ends_head depth c = depth == 0 && (c == 123 || c == 59)

-- what is written of a signature, whether a blank comes behind it, and how many brackets are open there
pub record HeadText : Type 0 where
  pub text : List ℕ
  pub is_apart : Bool
  pub depth : ℕ

abbrev pub empty_head : HeadText
empty_head = record { text = []; is_apart = false; depth = 0 }

abbrev pub gap_before : Bool → List ℕ
gap_before is_apart = if is_apart then codes " " else []

-- with one more token: of what stands between two others a blank is written
abbrev pub and_token : HeadText → Piece → HeadText
and_token b t =
    if is_gap t then record { text = b.text; is_apart = not (length b.text == 0); depth = b.depth }
    else record { text = b.text ++ (gap_before b.is_apart ++ t.text); is_apart = false; depth = brackets_behind b.depth (symbol_of t) }

-- the signature that begins so, with these tokens behind
abbrev pub signature_behind : HeadText → List Piece → List ℕ
signature_behind b [] = b.text
signature_behind b (t ∷ ts) = if ends_head b.depth (symbol_of t) then b.text else signature_behind (and_token b t) ts

abbrev pub behind_first : List Piece → List Piece
behind_first [] = []
behind_first (t ∷ ts) = ts

-- what stands between the name of a function, with which this text begins, and its body
abbrev pub signature : List ℕ → List ℕ
signature text = signature_behind empty_head (behind_first (tokens text))

-- ---- fields

-- what a tag is of: its name, the letter of its kind, who sees it if that is told, and whether it is a function; where its name begins, and where all of it ends
pub record TagItem : Type 0 where
  pub name : List ℕ
  pub at : ℕ
  pub end : ℕ
  pub letter : List ℕ
  pub access : Option (List ℕ)
  pub is_function : Bool

-- the line of its name, its last line if that is asked for, and the text from its name to its end
pub record TagPlace : Type 0 where
  pub line : ℕ
  pub last : Option ℕ
  pub head : List ℕ

-- a field that is asked for or not
abbrev pub text_field : Bool → List ℕ → List ℕ → List ℕ
text_field is_asked key value = if is_asked then codes "\t" ++ key ++ value else []

-- what a tag stands in: the word for the innermost, and the names from the outermost on
abbrev pub scope_field : List ℕ → List (List ℕ) → List ℕ
scope_field word [] = []
scope_field word (name ∷ names) = codes "\t" ++ word ++ codes ":" ++ name ++ flat_map bare_segment names

abbrev pub scope_if : Bool → List ℕ → List (List ℕ) → List ℕ
scope_if is_asked word scope = if is_asked then scope_field word scope else []

abbrev pub access_field : Bool → Option (List ℕ) → List ℕ
access_field is_asked None = []
access_field is_asked (Some word) = text_field is_asked (codes "access:") word

abbrev pub signature_field : Bool → List ℕ → List ℕ
signature_field is_asked head = text_field is_asked (codes "signature:") (safe_text (signature head))

abbrev pub end_field : Option ℕ → List ℕ
end_field None = []
end_field (Some line) = text_field true (codes "end:") (decimal line)

-- those that are asked for, in the order of Universal Ctags
abbrev pub fields_text : TagFields → TagItem → TagPlace → List ℕ → List (List ℕ) → List ℕ
fields_text k t p word scope =
    text_field k.has_kind [] t.letter ++ text_field k.has_line (codes "line:") (decimal p.line) ++ text_field k.has_language (codes "language:") (codes "Rust")
    ++ scope_if k.has_scope word scope ++ access_field k.has_access t.access ++ signature_field (k.has_signature && t.is_function) p.head ++ end_field p.last

-- fields stand behind a mark, if there are any
abbrev pub behind_address : List ℕ → List ℕ
behind_address [] = []
behind_address (b ∷ bs) = codes ";\"" ++ b ∷ bs
