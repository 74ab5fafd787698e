-- A syntax that is written is read again.
use Rattle.std.proofs.Common.{◌≡◌, List, [], ◌∷◌, map, Bool, true, false, IfSome, Some, codes, refl, ap, subst}
use Rattle.serde_json.specs.Data.{Data}
use Rattle.hir_input.specs.Bodies.{item_without_bodies, items_without_bodies, stmt_without_bodies, tail_without_body}
use Rattle.hir_input_json.proofs.Writing.Common.{ItemView, ItemViews, listed_module, listed_extern_block, items_from, no_items, item_and, StmtView, item_stmt, call_stmt, other_stmt, TailView, no_tail, call_tail, other_tail, SyntaxView, source_file, macro_items, macro_stmts, block_expr, error, right, reading_map, under, field, optional, unless_null, item, Holds, HoldEach, attrs_data, call_data, item_data, items_data, call_kept, item_kept, items_kept, named_kept, node_kept, stmt_kept, tail_kept, each_data, stmt_data, syntax_data, tail_data}
use Rattle.hir_input_json.specs.Syntaxes.{stmt, tail}
use Rattle.hir_input_json.specs.Writing.Laws.{IsReadAs, kept_bodies}
use Rattle.serde_json.specs.Written.{has_float}
use Rattle.hir_input_json.proofs.Writing.WrittenParts.{HoldAll, bind, each_seen, mapped}
use Rattle.hir_input_json.proofs.Writing.ItemLaws.{item_law, items_law}
use Rattle.hir_input_json.proofs.Writing.KindLaws.{CallHolds, call_law}
use Rattle.hir_input_json.proofs.Writing.NodeLaws.{AttrsHold, attrs_law}

stmt_law : (bodies : Bool) (s : StmtView) → IfSome (stmt_data bodies s) (Holds stmt (stmt_kept bodies s))
unfolding field
stmt_law bodies (item_stmt i) =
    mapped (item_data bodies i) _ (Holds item (item_kept bodies i)) (Holds stmt (item_stmt (item_kept bodies i))) (item_law bodies i)
    (λ d h. record { there = refl; reads = rw (h.there, h.reads) refl; exact = rw h.exact refl })
stmt_law bodies (call_stmt c) =
    mapped (call_data bodies c) _ (CallHolds bodies c) (Holds stmt (call_stmt (call_kept bodies c))) (call_law bodies c)
    (λ d h. record { there = refl; reads = rw (h.there, h.object, h.is) (ap (λ r. under (codes "call") (reading_map call_stmt r)) h.reads); exact = rw h.exact refl })
stmt_law bodies other_stmt = record { there = refl; reads = refl; exact = refl }

record TailHolds (t : TailView) (d : Data) : Type 0 where
  pub reads : optional no_tail tail (unless_null d) ≡ right t
  pub exact : has_float d ≡ false

tail_law : (bodies : Bool) (t : TailView) → IfSome (tail_data bodies t) (TailHolds (tail_kept bodies t))
unfolding field
tail_law bodies no_tail = record { reads = refl; exact = refl }
tail_law bodies (call_tail c) =
    mapped (call_data bodies c) _ (CallHolds bodies c) (TailHolds (call_tail (call_kept bodies c))) (call_law bodies c)
    (λ d h. record { reads = rw (h.there, h.object, h.is) (ap (λ r. reading_map call_tail (under (codes "call") r)) h.reads); exact = rw h.exact refl })
tail_law bodies other_tail = record { reads = refl; exact = refl }

abbrev syntax_kept : Bool → SyntaxView → SyntaxView
syntax_kept bodies (source_file attrs is) = source_file attrs (items_kept bodies is)
syntax_kept bodies (macro_items is) = macro_items (items_kept bodies is)
syntax_kept bodies (macro_stmts stmts tail) = macro_stmts (map (stmt_kept bodies) stmts) (tail_kept bodies tail)
syntax_kept bodies (block_expr attrs stmts tail) = block_expr attrs (map (stmt_kept bodies) stmts) (tail_kept bodies tail)
syntax_kept bodies error = error

syntax_law : (bodies : Bool) (s : SyntaxView) → IfSome (syntax_data bodies s) (IsReadAs (syntax_kept bodies s))
unfolding field
syntax_law bodies (source_file attrs is) =
    bind (attrs_data attrs) _ (AttrsHold attrs) (IsReadAs (syntax_kept bodies (source_file attrs is))) (attrs_law attrs) (λ a h.
    bind (items_data bodies is) _ (HoldAll item items_from (items_kept bodies is)) (IsReadAs (syntax_kept bodies (source_file attrs is))) (items_law bodies is) (λ ds hs.
    record { reads = rw (h.reads, hs.each.reads 0) (ap (λ us. right (source_file attrs us)) hs.made); no_float = rw (h.exact, hs.each.exact) refl }))
syntax_law bodies (macro_items is) =
    mapped (items_data bodies is) _ (HoldAll item items_from (items_kept bodies is)) (IsReadAs (macro_items (items_kept bodies is))) (items_law bodies is)
    (λ ds hs. record { reads = rw (hs.each.reads 0) (ap (λ us. right (macro_items us)) hs.made); no_float = rw hs.each.exact refl })
syntax_law bodies (macro_stmts ss t) =
    bind (each_data (stmt_data bodies) ss) _ (HoldEach stmt (map (stmt_kept bodies) ss)) (IsReadAs (syntax_kept bodies (macro_stmts ss t))) (each_seen (stmt_data bodies) stmt (stmt_kept bodies) (stmt_law bodies) ss) (λ ds hs.
    bind (tail_data bodies t) _ (TailHolds (tail_kept bodies t)) (IsReadAs (syntax_kept bodies (macro_stmts ss t))) (tail_law bodies t) (λ d h.
    record { reads = rw (hs.reads 0, h.reads) refl; no_float = rw (hs.exact, h.exact) refl }))
syntax_law bodies (block_expr attrs stmts t) = tt
syntax_law bodies error = record { reads = refl; no_float = refl }

-- ---- what is kept

mutual
  item_all : (i : ItemView) → item_kept true i ≡ i
  item_all (listed_module n semicolon is) = ap (listed_module n semicolon) (items_all is)
  item_all (listed_extern_block n is) = ap (listed_extern_block n) (items_all is)
  item_all i = refl

  items_all : (is : ItemViews) → items_kept true is ≡ is
  items_all no_items = refl
  items_all (item_and i is) = rw (item_all i, items_all is) refl

stmts_all : (ss : List StmtView) → map (stmt_kept true) ss ≡ ss
stmts_all [] = refl
stmts_all (item_stmt i ∷ ss) = rw (item_all i, stmts_all ss) refl
stmts_all (s ∷ ss) = ap (λ rest. s ∷ rest) (stmts_all ss)

tail_all : (t : TailView) → tail_kept true t ≡ t
tail_all no_tail = refl
tail_all t = refl

mutual
  item_bare : (i : ItemView) → item_kept false i ≡ item_without_bodies i
  item_bare (listed_module n semicolon is) = ap (listed_module (named_kept false n) semicolon) (items_bare is)
  item_bare (listed_extern_block n is) = ap (listed_extern_block (node_kept false n)) (items_bare is)
  item_bare i = refl

  items_bare : (is : ItemViews) → items_kept false is ≡ items_without_bodies is
  items_bare no_items = refl
  items_bare (item_and i is) = rw (item_bare i, items_bare is) refl

stmts_bare : (ss : List StmtView) → map (stmt_kept false) ss ≡ map stmt_without_bodies ss
stmts_bare [] = refl
stmts_bare (item_stmt i ∷ ss) = rw (item_bare i, stmts_bare ss) refl
stmts_bare (s ∷ ss) = ap (λ rest. stmt_kept false s ∷ rest) (stmts_bare ss)

tail_bare : (t : TailView) → tail_kept false t ≡ tail_without_body t
tail_bare no_tail = refl
tail_bare t = refl

is_kept : (bodies : Bool) (s : SyntaxView) → syntax_kept bodies s ≡ kept_bodies bodies s
is_kept true (source_file attrs is) = ap (source_file attrs) (items_all is)
is_kept true (macro_items is) = ap macro_items (items_all is)
is_kept true (macro_stmts ss t) = rw (stmts_all ss, tail_all t) refl
is_kept true (block_expr attrs ss t) = rw (stmts_all ss, tail_all t) refl
is_kept true error = refl
is_kept false (source_file attrs is) = ap (source_file attrs) (items_bare is)
is_kept false (macro_items is) = ap macro_items (items_bare is)
is_kept false (macro_stmts ss t) = rw (stmts_bare ss, tail_bare t) refl
is_kept false (block_expr attrs ss t) = rw (stmts_bare ss, tail_bare t) refl
is_kept false error = refl

pub syntax_read : (bodies : Bool) (s : SyntaxView) → IfSome (syntax_data bodies s) (IsReadAs (kept_bodies bodies s))
syntax_read bodies s = subst (λ t. IfSome (syntax_data bodies s) (IsReadAs t)) (is_kept bodies s) (syntax_law bodies s)

-- whatever data it is
pub read_again : (bodies : Bool) (s : SyntaxView) (d : Data) → syntax_data bodies s ≡ Some d → IsReadAs (kept_bodies bodies s) d
read_again bodies s d is = subst (λ o. IfSome o (IsReadAs (kept_bodies bodies s))) is (syntax_read bodies s)
