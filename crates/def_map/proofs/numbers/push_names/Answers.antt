use Rattle.std.proofs.Common.{ℕ, List, [], ◌∷◌, ◌++◌, take, Bor, sym, ap, subst, ◌∙◌}
use Rattle.std.specs.Str.{bytes_eq}
use Rattle.std.proofs.lemmas.List.{take_more}
use Rattle.std.proofs.lemmas.Slice.Eq.{bytes_eq-Decides}
use Rattle.def_map.specs.Numbering.{Interns}
use Rattle.def_map.proofs.Interning.{interns_key, interns_both}
use Rattle.def_map.proofs.numbers.push_names.Goals as goal

pub loop-name-preserved : goal.loop-name-preserved
loop-name-preserved c =
    let of = λ (symbol : Bor (List ℕ)). symbol.now in
    let i = c.loop-name.name-index in let names = c.args.names.now in
    let one = interns_key bytes_eq of _ (λ a b h. (bytes_eq-Decides a.now b.now).0 h) c.loop-name.symbols.keys c.insert.new.self.keys c.text.result c.in_ok-insert.ensures.keys in
    subst (Interns bytes_eq of c.args.symbols.now.keys c.insert.new.self.keys)
    (ap (λ name. take i names ++ name ∷ []) (c.text.ensures.value ∙ c.name-item.is) ∙ sym (take_more names i _ c.loop-name-test.true))
    (interns_both bytes_eq of c.args.symbols.now.keys c.loop-name.symbols.keys c.insert.new.self.keys (take i names) _ c.loop-name.invariant one)
