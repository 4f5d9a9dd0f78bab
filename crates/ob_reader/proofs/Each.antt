-- What the items of a list say, item by item.
use Rattle.std.proofs.Common.{◌≡◌, ℕ, zero, suc, ◌<◌, ◌≤◌, ◌+◌, List, [], ◌∷◌, ◌++◌, length, take, get_or, Option, Some, None, option_map, refl, sym, ap, ◌∙◌, arith}
use Rattle.std.proofs.lemmas.List.{take_more, take_all}
use Rattle.serde_json.specs.Data.{Data}
use Rattle.serde_json.specs.View.{view, items_view}
use Rattle.serde_json.specs.declared.value.Value.{Value}
use Rattle.ob_reader.specs.Reading.{◌>>=◌, each_in}

parts : {A : Type 0} (o : Option A) (p : Option (List A)) (xs : List A) → (o >>= (λ y. option_map (λ ys. y ∷ ys) p)) ≡ Some xs → (y : A) × (ys : List A) × (o ≡ Some y) × (p ≡ Some ys) × (xs ≡ y ∷ ys)
parts None p xs e = absurd (cc)
parts (Some y) None xs e = absurd (cc)
parts (Some y) (Some ys) xs e = (y, ys, refl, refl, cc)

joined : {A : Type 0} (o : Option A) (p : Option (List A)) (y : A) (ys : List A) → o ≡ Some y → p ≡ Some ys → (o >>= (λ z. option_map (λ zs. z ∷ zs) p)) ≡ Some (y ∷ ys)
joined o p y ys e f = rw (e, f) refl

none_of_rest : {A : Type 0} (o : Option A) (p : Option (List A)) → p ≡ None → (o >>= (λ y. option_map (λ ys. y ∷ ys) p)) ≡ None
none_of_rest None p e = refl
none_of_rest (Some y) p e = rw e

module _ {A : Type 0} (says : Data → Option A) where
  said_behind : (vs : List Value) (xs : List A) (v : Value) (x : A) → each_in says (items_view vs) ≡ Some xs → says (view v) ≡ Some x → each_in says (items_view (vs ++ v ∷ [])) ≡ Some (xs ++ x ∷ [])
  said_behind [] xs v x e h = let none : xs ≡ [] = cc in rw (h, none) refl
  said_behind (w ∷ vs) xs v x e h =
      let p = parts (says (view w)) (each_in says (items_view vs)) xs e in
      joined (says (view w)) (each_in says (items_view (vs ++ v ∷ []))) p.0 (p.1 ++ x ∷ []) p.2 (said_behind vs p.1 v x p.3 h) ∙ ap (λ z. Some (z ++ x ∷ [])) (sym p.4)

  -- one item more says one thing more
  pub said_more : (vs : List Value) (i : ℕ) (v : Value) (xs ys : List A) (x : A) → i < length vs → v ≡ get_or vs i v → each_in says (items_view (take i vs)) ≡ Some xs → Some x ≡ says (view v) → ys ≡ xs ++ x ∷ []
      → each_in says (items_view (take (i + 1) vs)) ≡ Some ys
  said_more vs i v xs ys x l is e h more =
      ap (λ z. each_in says (items_view z)) (take_more vs i v l ∙ ap (λ z. take i vs ++ z ∷ []) (sym is)) ∙ said_behind (take i vs) xs v x e (sym h) ∙ ap Some (sym more)

  -- all items have said something
  pub said_all : (vs : List Value) (i : ℕ) (xs : List A) → length vs ≤ i → each_in says (items_view (take i vs)) ≡ Some xs → Some xs ≡ each_in says (items_view vs)
  said_all vs i xs l e = sym e ∙ ap (λ z. each_in says (items_view z)) (take_all i vs l)

  -- an item says nothing
  pub said_nowhere : (vs : List Value) (i : ℕ) (v : Value) → i < length vs → v ≡ get_or vs i v → None ≡ says (view v) → None ≡ each_in says (items_view vs)
  said_nowhere [] i v l is h = absurd (omega arith)
  said_nowhere (w ∷ vs) zero v l is h = let none : says (view w) ≡ None = ap (λ z. says (view z)) (sym is) ∙ sym h in rw none refl
  said_nowhere (w ∷ vs) (suc i) v l is h = sym (none_of_rest (says (view w)) _ (sym (said_nowhere vs i v (omega arith) is h)))
