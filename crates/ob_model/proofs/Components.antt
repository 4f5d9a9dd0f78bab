-- The components of a text, one after another: what the next one is, and what stands behind it.
use Rattle.std.proofs.Common.{◌≡◌, ◌≢◌, ℕ, ◌≤◌, ◌==◌, Bool, true, false, not, cond, List, [], ◌∷◌, ◌++◌, length, drop, All, refl, sym, ap, ◌∙◌, subst, arith, one-add, length-append, drop_at, append_assoc, take_while, ne_eqb, eqb-true}
use Rattle.std.proofs.lemmas.List.Sums.{take_while-cons}
use Rattle.std.proofs.lemmas.List.Elements.{All-nil, All-cons, All-head, All-tail}
use Rattle.ob_model.specs.Names.{separator, joined, IsComponent, IsRest, IsSplit, next_component, after_component}

-- a byte that is no separator
abbrev pub is_inner : ℕ → Bool
is_inner b = not (b == separator)

pub is_inner_from_other : (b : ℕ) → b ≢ separator → is_inner b ≡ true
is_inner_from_other b h = ap not (ne_eqb b separator h)

pub other_from_is_inner : (b : ℕ) → is_inner b ≡ true → b ≢ separator
other_from_is_inner b h e = let k : is_inner separator ≡ true = subst (λ (x : ℕ). is_inner x ≡ true) e h in cc

-- the bytes up to a separator, where a component is followed by a rest
pub take_while-component : (c rest : List ℕ) → All (λ b. b ≢ separator) c → IsRest rest → take_while is_inner (c ++ rest) ≡ c
take_while-component [] [] each bounded = refl
take_while-component [] (b ∷ rest) each bounded = rw bounded refl
take_while-component (x ∷ c) rest each bounded =
    let first : is_inner x ≡ true = is_inner_from_other x (All-head (λ b. b ≢ separator) x c each) in
    let more : take_while is_inner (c ++ rest) ≡ c = take_while-component c rest (All-tail (λ b. b ≢ separator) x c each) bounded in
    take_while-cons is_inner x (c ++ rest) ∙ rw (first, more) refl

-- the next component of what begins with one
pub next_component-joined : (c rest : List ℕ) → IsComponent c → IsRest rest → next_component ((separator ∷ c) ++ rest) ≡ c
next_component-joined c rest is_component bounded = take_while-component c rest is_component.1 bounded

-- what stands behind it
pub after_component-joined : (c rest : List ℕ) → IsComponent c → IsRest rest → after_component ((separator ∷ c) ++ rest) ≡ rest
after_component-joined c rest is_component bounded =
    rw (next_component-joined c rest is_component bounded, one-add) (drop_at c rest (length c) refl)

-- no byte up to a separator is one
pub take_while-inner : (bytes : List ℕ) → All (λ b. b ≢ separator) (take_while is_inner bytes)
take_while-inner [] = All-nil (λ b. b ≢ separator)
take_while-inner (x ∷ bytes) = rw (take_while-cons is_inner x bytes) (go (is_inner x) refl (take_while-inner bytes))
  where
    go : (t : Bool) → is_inner x ≡ t → All (λ b. b ≢ separator) (take_while is_inner bytes) → All (λ b. b ≢ separator) (cond t (x ∷ take_while is_inner bytes) [])
    go true e more = All-cons (λ b. b ≢ separator) x (take_while is_inner bytes) (other_from_is_inner x e) more
    go false e more = All-nil (λ b. b ≢ separator)

-- the bytes up to a separator, and what stands behind them
pub take_while-drop : (bytes : List ℕ) → take_while is_inner bytes ++ drop (length (take_while is_inner bytes)) bytes ≡ bytes
take_while-drop [] = refl
take_while-drop (x ∷ bytes) = rw (take_while-cons is_inner x bytes) (go (is_inner x) (take_while-drop bytes))
  where
    go : (t : Bool) → take_while is_inner bytes ++ drop (length (take_while is_inner bytes)) bytes ≡ bytes
        → cond t (x ∷ take_while is_inner bytes) [] ++ drop (length (cond t (x ∷ take_while is_inner bytes) [])) (x ∷ bytes) ≡ x ∷ bytes
    go true more = ap (λ (l : List ℕ). x ∷ l) more
    go false more = refl

-- what stands behind the bytes up to a separator begins with one, or is empty
pub drop_while-is_rest : (bytes : List ℕ) → IsRest (drop (length (take_while is_inner bytes)) bytes)
drop_while-is_rest [] = tt
drop_while-is_rest (x ∷ bytes) = rw (take_while-cons is_inner x bytes) (go (is_inner x) refl (drop_while-is_rest bytes))
  where
    not_inner : (t : Bool) → not t ≡ false → t ≡ true
    not_inner true h = refl
    not_inner false h = cc

    go : (t : Bool) → is_inner x ≡ t → IsRest (drop (length (take_while is_inner bytes)) bytes) → IsRest (drop (length (cond t (x ∷ take_while is_inner bytes) [])) (x ∷ bytes))
    go true e more = more
    go false e more = eqb-true x separator (not_inner (x == separator) e)

-- a rest that is not empty is a separator, its next component and what stands behind it
pub rest_in_parts : (b : ℕ) (bytes : List ℕ) → IsRest (b ∷ bytes) → b ∷ bytes ≡ (separator ∷ next_component (b ∷ bytes)) ++ after_component (b ∷ bytes)
rest_in_parts b bytes bounded = rw one-add (ap₂' bounded (sym (take_while-drop bytes)))
  where
    ap₂' : {x y : ℕ} {xs ys : List ℕ} → x ≡ y → xs ≡ ys → x ∷ xs ≡ y ∷ ys
    ap₂' e h = cc

-- what stands behind the next component is a rest
pub after_component-is_rest : (b : ℕ) (bytes : List ℕ) → IsRest (after_component (b ∷ bytes))
after_component-is_rest b bytes = rw one-add (drop_while-is_rest bytes)

-- the next component, where it is not empty, is a component
pub next_component-is_component : (b : ℕ) (bytes : List ℕ) → next_component (b ∷ bytes) ≢ [] → IsComponent (next_component (b ∷ bytes))
next_component-is_component b bytes some = (some, take_while-inner bytes)

-- and what stands behind it is shorter
pub length-after_component : (b : ℕ) (bytes : List ℕ) → length (after_component (b ∷ bytes)) ≤ length bytes
length-after_component b bytes = rw one-add (omega (arith, ap length (take_while-drop bytes), length-append (take_while is_inner bytes) (drop (length (take_while is_inner bytes)) bytes)))

-- a split with one more component in front
pub IsSplit-cons : (c rest : List ℕ) (cs : List (List ℕ)) (text : List ℕ) → IsComponent c → IsSplit text cs rest → IsSplit ((separator ∷ c) ++ text) (c ∷ cs) rest
IsSplit-cons c rest cs text is_component split = record {
  each = All-cons IsComponent c cs is_component split.each;
  whole = rw (append_assoc, split.whole) refl;
  bounded = split.bounded;
}

-- the split of a rest in no components
pub IsSplit-nil : (rest : List ℕ) → IsRest rest → IsSplit rest [] rest
IsSplit-nil rest bounded = record { each = All-nil IsComponent; whole = refl; bounded = bounded }

-- a text that has a split is a rest
pub IsRest-joined : (cs : List (List ℕ)) (rest : List ℕ) → IsRest rest → IsRest (joined cs ++ rest)
IsRest-joined [] rest bounded = bounded
IsRest-joined (c ∷ cs) rest bounded = refl

-- what has a split is a rest
pub IsRest-from_split : (text : List ℕ) (cs : List (List ℕ)) (rest : List ℕ) → IsSplit text cs rest → IsRest text
IsRest-from_split text cs rest split = subst IsRest (sym split.whole) (IsRest-joined cs rest split.bounded)
