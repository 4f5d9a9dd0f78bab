-- Entries whose stamps rise: what a page shows of what is left is a front of it, and the rest lies above the page's
-- context.
use Rattle.std.proofs.Common.{◌≡◌, ◌∙◌, ℕ, zero, suc, ◌+◌, ◌-◌, ◌<◌, ◌≤◌, ◌==◌, nat_lt, nat_le, Bool, true, false, cond, List, [], ◌∷◌, ◌++◌, length, All, refl, ap, arith, eq-eqb}
use Rattle.std.specs.Prelude.{AllPairs, Contains, count_by}
use Rattle.std.proofs.lemmas.Bool.{ne_eqb}
use Rattle.std.proofs.lemmas.List.Elements.{All-nil, All-cons}
use Rattle.std.proofs.lemmas.List.Kept.{AllPairs-cons}
use Rattle.std.proofs.lemmas.List.Sums.{sum_by-cons, sum_by-append}
use Rattle.ob_base.specs.declared.status.Status.TheVariants.{Success, MoreEntries, NoMoreEntries, BufferTooSmall}
use Rattle.ob_model.specs.Enumeration.{Shown, Page, room_of, fitting, last_stamp, page_of}

-- ---- stamps that rise

-- the stamps of these entries rise, the first one from above a context
abbrev pub Climbs : ℕ → List Shown → Type 0
Climbs context [] = Unit {0}
Climbs context (e ∷ es) = (context < e.stamp) × Climbs e.stamp es

-- how many of these entries have a stamp
abbrev pub times : ℕ → List Shown → ℕ
times n es = count_by (λ e. e.stamp == n) es

climbs_lower : (low context : ℕ) (es : List Shown) → low ≤ context → Climbs context es → Climbs low es
climbs_lower low context [] less climbs = tt
climbs_lower low context (e ∷ es) less climbs = (let first = climbs.0 in omega (arith, less, first), climbs.1)

climbs_above : (context : ℕ) (es : List Shown) → Climbs context es → All (λ e. context < e.stamp) es
climbs_above context [] climbs = All-nil (λ e. context < e.stamp)
climbs_above context (e ∷ es) climbs =
    All-cons (λ x. context < x.stamp) e es climbs.0 (climbs_above context es (climbs_lower context e.stamp es (let first = climbs.0 in omega (arith, first)) climbs.1))

pub climbs_rise : (context : ℕ) (es : List Shown) → Climbs context es → AllPairs (λ a b. a.stamp < b.stamp) es
climbs_rise context [] climbs = λ i j d less within. absurd (omega (arith, within))
climbs_rise context (e ∷ es) climbs = AllPairs-cons (λ a b. a.stamp < b.stamp) e es (climbs_above e.stamp es climbs.1) (climbs_rise e.stamp es climbs.1)

-- entries that climb go on from the last stamp
pub climbs_append : (context : ℕ) (xs ys : List Shown) → Climbs context xs → Climbs (last_stamp context xs) ys → Climbs context (xs ++ ys)
climbs_append context [] ys first then = then
climbs_append context (x ∷ xs) ys first then = (first.0, climbs_append x.stamp xs ys first.1 then)

pub climbs_apart : (context : ℕ) (xs ys : List Shown) → Climbs context (xs ++ ys) → Climbs context xs × Climbs (last_stamp context xs) ys
climbs_apart context [] ys climbs = (tt, climbs)
climbs_apart context (x ∷ xs) ys climbs = let rest = climbs_apart x.stamp xs ys climbs.1 in ((climbs.0, rest.0), rest.1)

last_is_above : (context : ℕ) (es : List Shown) → Climbs context es → context ≤ last_stamp context es
last_is_above context [] climbs = omega arith
last_is_above context (e ∷ es) climbs = let first = climbs.0 in let rest = last_is_above e.stamp es climbs.1 in omega (arith, first, rest)

-- ---- how often a stamp is among them

times_cons : (n : ℕ) (e : Shown) (es : List Shown) → times n (e ∷ es) ≡ cond (e.stamp == n) 1 0 + times n es
times_cons n e es = sum_by-cons (λ x. cond (x.stamp == n) 1 0) e es

pub times_append : (n : ℕ) (xs ys : List Shown) → times n (xs ++ ys) ≡ times n xs + times n ys
times_append n xs ys = sum_by-append (λ x. cond (x.stamp == n) 1 0) xs ys

nothing : (n : ℕ) → 0 + n ≡ n
nothing n = omega arith

times_other : (n : ℕ) (e : Shown) (es : List Shown) → (e.stamp ≡ n → ⊥) → times n (e ∷ es) ≡ times n es
times_other n e es other = times_cons n e es ∙ ap (λ b. cond b 1 0 + times n es) (ne_eqb e.stamp n other) ∙ nothing (times n es)

times_same : (n : ℕ) (e : Shown) (es : List Shown) → e.stamp ≡ n → times n (e ∷ es) ≡ 1 + times n es
times_same n e es same = times_cons n e es ∙ ap (λ b. cond b 1 0 + times n es) (eq-eqb e.stamp n same)

-- a stamp that isn't above the context isn't among them, nor is one above the last
pub never_below : (context n : ℕ) (es : List Shown) → n ≤ context → Climbs context es → times n es ≡ 0
never_below context n [] less climbs = refl
never_below context n (e ∷ es) less climbs =
    let first = climbs.0 in
    times_other n e es (λ same. omega (arith, less, first, same)) ∙ never_below e.stamp n es (omega (arith, less, first)) climbs.1

pub never_behind : (context n : ℕ) (es : List Shown) → last_stamp context es < n → Climbs context es → times n es ≡ 0
never_behind context n [] less climbs = refl
never_behind context n (e ∷ es) less climbs =
    let last = last_is_above e.stamp es climbs.1 in
    times_other n e es (λ same. omega (arith, less, last, same)) ∙ never_behind e.stamp n es less climbs.1

-- an element of a list is its first, or one of the others
pub among_cons : {X : Type 0} (A : Type 0) (x y : X) (xs : List X) → Contains (x ∷ xs) y → (x ≡ y → A) → (Contains xs y → A) → A
among_cons A x y xs (zero, within, at) first others = first at
among_cons A x y xs (suc k, within, at) first others = others (k, omega (arith, within), at)

-- the stamp of one of them is among them once
pub once_among : (context : ℕ) (e : Shown) (es : List Shown) → Climbs context es → Contains es e → times e.stamp es ≡ 1
once_among context e [] climbs (k, within, at) = absurd (omega (arith, within))
once_among context e (x ∷ es) climbs among =
    among_cons (times e.stamp (x ∷ es) ≡ 1) x e es among
    (λ same.
    let stamps : x.stamp ≡ e.stamp = ap (λ (y : Shown). y.stamp) same in
    times_same e.stamp x es stamps ∙ ap (λ n. 1 + n) (never_below x.stamp e.stamp es (omega (arith, stamps)) climbs.1))
    (λ other.
    times_other e.stamp x es (λ stamps. let none = never_below x.stamp e.stamp es (omega (arith, stamps)) climbs.1 in let once = once_among x.stamp e es climbs.1 other in omega (arith, none, once))
    ∙ once_among x.stamp e es climbs.1 other)

-- ---- a page of what is left

-- what a page shows is a front of what is left, its context is the last stamp that it shows, and where it tells that
-- no entry is left there is none
pub record IsFront (left : List Shown) (begins : ℕ) (page : Page) : Type 0 where
  pub rest : List Shown
  pub front : left ≡ page.entries ++ rest
  pub last : page.context ≡ last_stamp begins page.entries
  pub none : page.status ≡ NoMoreEntries → left ≡ []

fitting_front : (room : ℕ) (es : List Shown) → (rest : List Shown) × (es ≡ fitting room es ++ rest)
fitting_front room [] = ([], refl)
fitting_front room (e ∷ es) = go (fitting_front (room - room_of e) es) (nat_le (room_of e) room)
  where
    go : (rest : List Shown) × (es ≡ fitting (room - room_of e) es ++ rest) → (fits : Bool) → (rest : List Shown) × (e ∷ es ≡ cond fits (e ∷ fitting (room - room_of e) es) [] ++ rest)
    go more true = (more.0, ap (λ xs. e ∷ xs) more.1)
    go more false = (e ∷ es, refl)

pub page_front : (left : List Shown) (context room : ℕ) (single : Bool) → IsFront left context (page_of left context room single)
page_front [] context room single = record { rest = []; front = refl; last = refl; none = λ e. refl }
page_front (e ∷ es) context room single = go (nat_lt room (room_of e)) single
  where
    shown : List Shown
    shown = fitting room (e ∷ es)

    many : Bool → Page
    many more = record { status = cond more MoreEntries Success; entries = shown; context = last_stamp context shown }

    fitting_status : (more : Bool) → IsFront (e ∷ es) context (many more)
    fitting_status true = record { rest = (fitting_front room (e ∷ es)).0; front = (fitting_front room (e ∷ es)).1; last = refl; none = λ e. cc }
    fitting_status false = record { rest = (fitting_front room (e ∷ es)).0; front = (fitting_front room (e ∷ es)).1; last = refl; none = λ e. cc }

    go : (small one : Bool)
        → IsFront (e ∷ es) context
        (cond small (record { status = BufferTooSmall; entries = []; context = context })
        (cond one (record { status = Success; entries = e ∷ []; context = e.stamp }) (many (nat_lt (length shown) (length (e ∷ es))))))
    go true one = record { rest = e ∷ es; front = refl; last = refl; none = λ e. cc }
    go false true = record { rest = es; front = refl; last = refl; none = λ e. cc }
    go false false = fitting_status (nat_lt (length shown) (length (e ∷ es)))
