-- How a text is split into components.
use Rattle.std.proofs.Common.{◌≡◌, ◌≢◌, ℕ, true, List, [], ◌∷◌, ◌++◌, length, All, refl, sym, ◌∙◌, append_assoc}
use Rattle.std.proofs.lemmas.List.Elements.{All-head, All-tail}
use Rattle.ob_model.specs.Names.{separator, joined, IsComponent, IsRest, IsSplit, ends_in_separator, substituted}

-- bytes that are no separators and end before a rest are determined by what they make together
pub first_unique : (c d rest others : List ℕ) → All (λ b. b ≢ separator) c → All (λ b. b ≢ separator) d → IsRest rest → IsRest others
    → c ++ rest ≡ d ++ others → (c ≡ d) × (rest ≡ others)
first_unique [] [] rest others inner inner' bounded bounded' e = (refl, e)
first_unique [] (y ∷ d) [] others inner inner' bounded bounded' e = cc
first_unique [] (y ∷ d) (b ∷ rest) others inner inner' bounded bounded' e =
    absurd (All-head (λ z. z ≢ separator) y d inner' (let k : b ≡ y = cc in sym k ∙ bounded))
first_unique (x ∷ c) [] rest [] inner inner' bounded bounded' e = cc
first_unique (x ∷ c) [] rest (b ∷ others) inner inner' bounded bounded' e =
    absurd (All-head (λ z. z ≢ separator) x c inner (let k : x ≡ b = cc in k ∙ bounded'))
first_unique (x ∷ c) (y ∷ d) rest others inner inner' bounded bounded' e =
    let more = first_unique c d rest others (All-tail (λ b. b ≢ separator) x c inner) (All-tail (λ b. b ≢ separator) y d inner') bounded bounded' (cc) in
    let same : c ≡ d = more.0 in
    (cc, more.1)

-- components and a rest make a rest
joined_is_rest : (cs : List (List ℕ)) (rest : List ℕ) → IsRest rest → IsRest (joined cs ++ rest)
joined_is_rest [] rest bounded = bounded
joined_is_rest (c ∷ cs) rest bounded = refl

-- as many components, and their rest, are determined by the text
components_unique : (cs ds : List (List ℕ)) (rest others : List ℕ) → All IsComponent cs → All IsComponent ds → IsRest rest → IsRest others
    → length cs ≡ length ds → joined cs ++ rest ≡ joined ds ++ others → (cs ≡ ds) × (rest ≡ others)
components_unique [] [] rest others each each' bounded bounded' long e = (refl, e)
components_unique [] (d ∷ ds) rest others each each' bounded bounded' long e = cc
components_unique (c ∷ cs) [] rest others each each' bounded bounded' long e = cc
components_unique (c ∷ cs) (d ∷ ds) rest others each each' bounded bounded' long e =
    let first = first_unique c d (joined cs ++ rest) (joined ds ++ others) (All-head IsComponent c cs each).1 (All-head IsComponent d ds each').1
    (joined_is_rest cs rest bounded) (joined_is_rest ds others bounded')
    (let k : c ++ (joined cs ++ rest) ≡ (c ++ joined cs) ++ rest = sym (append_assoc c (joined cs) rest) in
    let k' : d ++ (joined ds ++ others) ≡ (d ++ joined ds) ++ others = sym (append_assoc d (joined ds) others) in
    cc) in
    let more = components_unique cs ds rest others (All-tail IsComponent c cs each) (All-tail IsComponent d ds each') bounded bounded' (cc) first.1 in
    let same : c ≡ d = first.0 in
    let same' : cs ≡ ds = more.0 in
    (cc, more.1)

-- two splits of one text into as many components are the same
pub split_unique : (text : List ℕ) (cs ds : List (List ℕ)) (rest others : List ℕ)
    → IsSplit text cs rest → IsSplit text ds others → length cs ≡ length ds → (cs ≡ ds) × (rest ≡ others)
split_unique text cs ds rest others split split' long =
    components_unique cs ds rest others split.each split'.each split.bounded split'.bounded long (sym split.whole ∙ split'.whole)

-- a text that ends in a separator
ends_in_separator-push : (front : List ℕ) → ends_in_separator (front ++ separator ∷ []) ≡ true
ends_in_separator-push [] = refl
ends_in_separator-push (b ∷ []) = refl
ends_in_separator-push (b ∷ c ∷ bs) = ends_in_separator-push (c ∷ bs)

-- where two separators meet, one is dropped
pub substituted-drops : (front rest : List ℕ) → substituted (front ++ separator ∷ []) (separator ∷ rest) ≡ front ++ separator ∷ rest
substituted-drops front rest = rw (ends_in_separator-push front) (append_assoc front (separator ∷ []) rest)
