-- Calls at the items of a list, one part after another.
use Rattle.std.proofs.Common.{List, [], ◌∷◌, ◌++◌, sym, ap, ◌∙◌, subst, append_assoc, Result, Ok, Err, OnErr}
use Rattle.item_tree.proofs.Common.{FoldsTo, MayCallAt, CalledAtAll, CalledAtSome, CallsLeft}

FoldsTo-append : {F A : Type 0} (step : F → A → F → Type 0) (f : F) (xs ys : List A) (g h : F) → FoldsTo step f xs g → FoldsTo step g ys h → FoldsTo step f (xs ++ ys) h
FoldsTo-append step f [] ys g h a b = subst (λ k. FoldsTo step k ys h) (sym a) b
FoldsTo-append step f (x ∷ xs) ys g h a b = (a.0, a.1, FoldsTo-append step a.0 xs ys g h a.2 b)

pub MayCallAt-front : {F A : Type 0} (pre : F → A → Type 0) (step : F → A → F → Type 0) (f : F) (xs ys : List A) → MayCallAt pre step f (xs ++ ys) → MayCallAt pre step f xs
MayCallAt-front pre step f [] ys h = tt
MayCallAt-front pre step f (x ∷ xs) ys h = (h.0, λ g s. MayCallAt-front pre step g xs ys (h.1 g s))

pub MayCallAt-rest : {F A : Type 0} (pre : F → A → Type 0) (step : F → A → F → Type 0) (f : F) (xs ys : List A) (g : F) → MayCallAt pre step f (xs ++ ys) → FoldsTo step f xs g → MayCallAt pre step g ys
MayCallAt-rest pre step f [] ys g h c = subst (λ k. MayCallAt pre step k ys) c h
MayCallAt-rest pre step f (x ∷ xs) ys g h c = MayCallAt-rest pre step c.0 xs ys g (h.1 c.0 c.1) c.2

pub CallsLeft-more : {F A : Type 0} (step : F → A → F → Type 0) (f : F) (all xs ys : List A) (g h : F) → CallsLeft step f all g (xs ++ ys) → CalledAtAll step g xs h → CallsLeft step f all h ys
CallsLeft-more step f all xs ys g h c d = record {
  done = c.done ++ xs;
  is_front = append_assoc c.done xs ys ∙ c.is_front;
  calls = FoldsTo-append step f c.done xs g h c.calls d.calls;
}

pub CallsLeft-some : {F A : Type 0} (step : F → A → F → Type 0) (f : F) (all xs ys : List A) (g h : F) → CallsLeft step f all g (xs ++ ys) → CalledAtSome step g xs h → CalledAtSome step f all h
CallsLeft-some step f all xs ys g h c d = record {
  done = c.done ++ d.done;
  left = d.left ++ ys;
  is_front =
      append_assoc c.done d.done (d.left ++ ys)
      ∙ ap (λ zs. c.done ++ zs) (sym (append_assoc d.done d.left ys) ∙ ap (λ zs. zs ++ ys) d.is_front)
      ∙ c.is_front;
  calls = FoldsTo-append step f c.done d.done g h c.calls d.calls;
}

pub OnErr-any : {T E : Type 0} (r : Result T E) (P : Type 0) → P → OnErr r P
OnErr-any (Ok x) P p = tt
OnErr-any (Err e) P p = p
