-- Lemmas on splits of a text into components.
use Rattle.std.proofs.Common.{◌≡◌, ◌≢◌, ◌∙◌, ℕ, ◌<◌, List, [], ◌∷◌, ◌++◌, length, get_or, take, drop, refl, sym, ap, subst, append_assoc, arith, not, eqb, add-zero, length-drop, length-append, length-append}
use Rattle.std.proofs.lemmas.Grind.{common_steps}
use Rattle.std.proofs.lemmas.List.{append-nil, take-append-drop, get_or-drop}
use Rattle.std.proofs.lemmas.List.Elements.{All-nil, All-push, All-head, All-tail}
use Rattle.std.specs.List.{All, prefix_len}
use Rattle.ob_model.specs.Names.{separator, joined, next_component, after_component, IsComponent, IsRest, IsSplit}
use Rattle.ob_names.specs.Splitting.{SplitsGoOn, SplitsAreUnique, IsFirstSeparator}
use Rattle.ob_names.proofs.Separators.{first_separator, after_component-text}

-- what is joined of two lists of components, one after the other
pub joined-append : (cs ds : List (List ℕ)) → joined (cs ++ ds) ≡ joined cs ++ joined ds
joined-append [] ds = refl
joined-append (c ∷ cs) ds = ap (λ t. (separator ∷ c) ++ t) (joined-append cs ds) ∙ sym (append_assoc (separator ∷ c) (joined cs) (joined ds))

-- a text splits into no components, and itself as the rest
pub IsSplit-none : (text : List ℕ) → IsRest text → IsSplit text [] text
IsSplit-none text h = record { each = All-nil IsComponent; whole = refl; bounded = h }

-- one component more, in front of the rest that stands behind it
joined-more : (cs : List (List ℕ)) (c rest bs : List ℕ) → c ++ rest ≡ bs → joined (cs ++ c ∷ []) ++ rest ≡ joined cs ++ (separator ∷ bs)
joined-more cs c rest bs e =
    ap (λ t. t ++ rest) (joined-append cs (c ∷ [])) ∙ append_assoc (joined cs) ((separator ∷ c) ++ []) rest
    ∙ ap (λ t. joined cs ++ (t ++ rest)) (append-nil (separator ∷ c)) ∙ ap (λ t. joined cs ++ (separator ∷ t)) e

-- a split goes on with the component that begins its rest
pub IsSplit-more : (text : List ℕ) (cs : List (List ℕ)) (c rest : List ℕ) → IsSplit text cs (separator ∷ (c ++ rest)) → IsComponent c → IsRest rest → IsSplit text (cs ++ c ∷ []) rest
IsSplit-more text cs c rest s component bounded = record {
  each = All-push IsComponent cs c s.each component;
  whole = s.whole ∙ sym (joined-more cs c rest (c ++ rest) refl);
  bounded = bounded;
}

IsRest-first : (text : List ℕ) → (0 < length text → get_or text 0 0 ≡ separator) → IsRest text
IsRest-first [] h = tt
IsRest-first (b ∷ bs) h = h (omega arith)

-- what begins at the first separator is a rest
IsRest-drop : (text : List ℕ) (n : ℕ) → IsFirstSeparator text n → IsRest (drop n text)
IsRest-drop text n f =
    IsRest-first (drop n text)
    (λ l. let inside : n < length text = omega (arith, length-drop n text) in
    rw get_or-drop (rw add-zero (f.here inside)))

-- what stands before it has no separator
no_separator-take : (text : List ℕ) (n : ℕ) → IsFirstSeparator text n → All (λ b. b ≢ separator) (take n text)
no_separator-take text n f = λ k d l. grind (arith, common_steps, f.before k)

goes_on : (text bs : List ℕ) (cs : List (List ℕ)) → IsSplit text cs (separator ∷ bs) → next_component (separator ∷ bs) ≢ [] → IsSplit text (cs ++ next_component (separator ∷ bs) ∷ []) (after_component (separator ∷ bs))
goes_on text bs cs s h =
    let n = prefix_len (λ b. not (eqb b separator)) bs in
    let f = first_separator bs in
    let parts : IsSplit text cs (separator ∷ (take n bs ++ drop n bs)) = rw take-append-drop s in
    let P : List ℕ → Type 0 = λ r. IsSplit text (cs ++ next_component (separator ∷ bs) ∷ []) r in
    subst P (sym (after_component-text bs n f))
    (IsSplit-more text cs (take n bs) (drop n bs) parts (h, no_separator-take bs n f) (IsRest-drop bs n f))

-- a split goes on with the next component of its rest
pub IsSplit-next : SplitsGoOn
IsSplit-next text [] cs s h = absurd (h refl)
IsSplit-next text (b ∷ bs) cs s h =
    let P : ℕ → Type 0 = λ x. IsSplit text cs (x ∷ bs) → next_component (x ∷ bs) ≢ [] → IsSplit text (cs ++ next_component (x ∷ bs) ∷ []) (after_component (x ∷ bs)) in
    subst P (sym s.bounded) (goes_on text bs cs) s h

-- two components that begin the same text, each with a rest behind it, are one, and so are the rests
component-unique : (c d x y : List ℕ) → All (λ b. b ≢ separator) c → All (λ b. b ≢ separator) d → IsRest x → IsRest y → c ++ x ≡ d ++ y → (c ≡ d) × (x ≡ y)
component-unique [] [] x y _ _ _ _ e = (refl, e)
component-unique [] (b ∷ d) x y _ q r _ e =
    absurd (All-head (λ b. b ≢ separator) b d q (subst IsRest e r))
component-unique (b ∷ c) [] x y p _ _ s e =
    absurd (All-head (λ b. b ≢ separator) b c p (subst IsRest (sym e) s))
component-unique (a ∷ c) (b ∷ d) x y p q r s e =
    let P : ℕ → Type 0 = λ b. b ≢ separator in
    let heads : a ≡ b = cc in
    let tails : c ++ x ≡ d ++ y = cc in
    let both = component-unique c d x y (All-tail P a c p) (All-tail P b d q) r s tails in
    ((λ i. heads i ∷ both.0 i), both.1)

-- what begins with joined components, or has none and is a rest, is a rest
IsRest-joined : (cs : List (List ℕ)) (rest : List ℕ) → IsRest rest → IsRest (joined cs ++ rest)
IsRest-joined [] rest h = h
IsRest-joined (c ∷ cs) rest h = refl

joined-unique : (cs ds : List (List ℕ)) (rest : List ℕ) → All IsComponent cs → All IsComponent ds → IsRest rest → joined cs ++ rest ≡ joined ds ++ rest → cs ≡ ds
joined-unique [] [] rest _ _ _ e = refl
joined-unique [] (d ∷ ds) rest _ _ _ e =
    absurd (omega (arith, ap length e, length-append (joined (d ∷ ds)) rest))
joined-unique (c ∷ cs) [] rest _ _ _ e =
    absurd (omega (arith, ap length e, length-append (joined (c ∷ cs)) rest))
joined-unique (c ∷ cs) (d ∷ ds) rest p q r e =
    let front : c ++ (joined cs ++ rest) ≡ d ++ (joined ds ++ rest)
    = sym (append_assoc c (joined cs) rest) ∙ ap (drop 1) e ∙ append_assoc d (joined ds) rest in
    let both = component-unique c d (joined cs ++ rest) (joined ds ++ rest) (All-head IsComponent c cs p).1 (All-head IsComponent d ds q).1 (IsRest-joined cs rest r) (IsRest-joined ds rest r) front in
    let others = joined-unique cs ds rest (All-tail IsComponent c cs p) (All-tail IsComponent d ds q) r both.1 in
    λ i. both.0 i ∷ others i

-- a text splits before a rest in one way
pub IsSplit-unique : SplitsAreUnique
IsSplit-unique text rest cs ds s t = joined-unique cs ds rest s.each t.each s.bounded (sym s.whole ∙ t.whole)
