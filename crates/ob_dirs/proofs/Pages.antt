-- Pages of a directory: what fits stands at the front of what is left, and what is given of a page is what is
-- told of it.
use Rattle.std.proofs.Common.{◌≡◌, ◌∙◌, ℕ, zero, suc, ◌+◌, ◌-◌, nat_le, nat_lt, Bool, true, false, cond, not, ◌&&◌, List, [], ◌∷◌, length, take, map, None, Some, refl, ap, sym, subst, arith, leb-true, leb-false, le-ltb, lt-ltb}
use Rattle.std.proofs.lemmas.Bool.{ne_eqb}
use Rattle.std.proofs.lemmas.Bool.Decides.{nat_tests}
use Rattle.std.proofs.lemmas.List.Elements.{All-head, All-tail}
use Rattle.ob_base.specs.declared.status.Status.TheVariants.{Success, MoreEntries, NoMoreEntries, BufferTooSmall}
use Rattle.ob_model.specs.Enumeration.{Shown, Page, room_of, fitting, last_stamp, page_of}
use Rattle.ob_dirs.specs.declared.page.Fit.{Fit}
use Rattle.ob_dirs.specs.declared.entry.DirEntry.{DirEntry}
use Rattle.ob_dirs.specs.declared.page.DirPage.{DirPage}
use Rattle.ob_dirs.specs.Page.{IsPage, TellsLengths, entries_behind, fit_of, page_status, page_told, room_behind, shown_entry}

-- ---- what fits

-- what fits is at the front
fitting_is_front : (room : ℕ) (es : List Shown) → take (length (fitting room es)) es ≡ fitting room es
fitting_is_front room [] = refl
fitting_is_front room (e ∷ es) = go (fitting_is_front (room - room_of e) es) (nat_le (room_of e) room)
  where
    go : take (length (fitting (room - room_of e) es)) es ≡ fitting (room - room_of e) es → (b : Bool) → take (length (cond b (e ∷ fitting (room - room_of e) es) [])) (e ∷ es) ≡ cond b (e ∷ fitting (room - room_of e) es) []
    go more true = ap (λ xs. e ∷ xs) more
    go more false = refl

pub map_take : {X Y : Type 0} (f : X → Y) (n : ℕ) (xs : List X) → map f (take n xs) ≡ take n (map f xs)
map_take f zero xs = refl
map_take f (suc n) [] = refl
map_take f (suc n) (x ∷ xs) = ap (λ ys. f x ∷ ys) (map_take f n xs)

-- the first of the first ones are the first ones
take_is_front : {X : Type 0} (n m : ℕ) (xs : List X) → take n (take m xs) ≡ take (length (take n (take m xs))) xs
take_is_front zero m xs = refl
take_is_front (suc n) zero xs = refl
take_is_front (suc n) (suc m) [] = refl
take_is_front (suc n) (suc m) (x ∷ xs) = ap (λ ys. x ∷ ys) (take_is_front n m xs)

-- ---- what is told of objects, one after another

-- the first that is told is the length of a name, and so are those that follow it
pub told_next : {F : Type 0} (Tells : F → ℕ → ℕ → F → Type 0) (f g : F) (id n : ℕ) (type_name : ℕ → List ℕ)
    → TellsLengths Tells f type_name → Tells f id n g → TellsLengths Tells g type_name
told_next {F} Tells f g id n type_name tells step told last runs =
    All-tail (λ x. x.1 ≡ length (type_name x.0)) (id, n) told (tells ((id, n) ∷ told) last (g, step, runs))

pub told_first : {F : Type 0} (Tells : F → ℕ → ℕ → F → Type 0) (f g : F) (id n : ℕ) (type_name : ℕ → List ℕ)
    → TellsLengths Tells f type_name → Tells f id n g → n ≡ length (type_name id)
told_first {F} Tells f g id n type_name tells step =
    All-head (λ x. x.1 ≡ length (type_name x.0)) (id, n) [] (tells ((id, n) ∷ []) g (g, step, refl))

-- ---- one page

-- how many fit, whether one is left behind them, and the stamp of the last
fit_all : (es : List Shown) (count context room : ℕ)
    → fit_of es count context room false
    ≡ record { count = count + length (fitting room es); more = nat_lt (length (fitting room es)) (length es); context = last_stamp context (fitting room es) }
fit_all [] count context room = ap (λ n. record { count = n; more = false; context = context }) (no_more count)
  where
    no_more : (n : ℕ) → n ≡ n + 0
    no_more n = omega arith
fit_all (e ∷ es) count context room = go (nat_le (room_of e) room) (fit_all es (count + 1) e.stamp (room - room_of e))
  where
    fits : List Shown
    fits = fitting (room - room_of e) es

    one_more : (n m : ℕ) → n + 1 + m ≡ n + suc m
    one_more n m = omega arith

    both_more : (n m : ℕ) → nat_lt n m ≡ nat_lt (suc n) (suc m)
    both_more n m = grind (arith, nat_tests)

    one_is_left : (m : ℕ) → true ≡ nat_lt 0 (suc m)
    one_is_left m = grind (arith, nat_tests)

    no_more : (n : ℕ) → n ≡ n + 0
    no_more n = omega arith

    go : (b : Bool)
        → fit_of es (count + 1) e.stamp (room - room_of e) false ≡ record { count = count + 1 + length fits; more = nat_lt (length fits) (length es); context = last_stamp e.stamp fits }
        → cond b (fit_of es (count + 1) e.stamp (room - room_of e) false) (record { count = count; more = true; context = context })
        ≡ record { count = count + length (cond b (e ∷ fits) []); more = nat_lt (length (cond b (e ∷ fits) [])) (suc (length es)); context = last_stamp context (cond b (e ∷ fits) []) }
    go true more = more ∙ (λ i. record { count = one_more count (length fits) i; more = both_more (length fits) (length es) i; context = last_stamp e.stamp fits })
    go false more = λ i. record { count = no_more count i; more = one_is_left (length es) i; context = context }

-- what is told of a page by what fits
abbrev pub Tells : Fit → Bool → Page → Type 0
Tells fit single page = (page_status fit single ≡ page.status) × (fit.count ≡ length page.entries) × (fit.context ≡ page.context)

some_are_shown : (n : ℕ) (more single : Bool) (context : ℕ) → page_status (record { count = suc n; more = more; context = context }) single ≡ cond (not single && more) MoreEntries Success
some_are_shown n more single context = ap (λ b. cond b (cond more BufferTooSmall NoMoreEntries) (cond (not single && more) MoreEntries Success)) (ne_eqb (suc n) 0 (λ e. omega (arith, e)))

pub fit_is_told : (es : List Shown) (context room : ℕ) (single : Bool) → Tells (fit_of es 0 context room single) single (page_of es context room single)
fit_is_told [] context room single = (refl, refl, refl)
fit_is_told (e ∷ es) context room single = go (nat_le (room_of e) room) refl single (fit_all es 1 e.stamp (room - room_of e))
  where
    fits : Bool → List Shown
    fits b = cond b (e ∷ fitting (room - room_of e) es) []

    fit : Bool → Bool → Fit
    fit b one =
        cond b (cond one (record { count = 1; more = false; context = e.stamp }) (fit_of es 1 e.stamp (room - room_of e) one))
        (record { count = 0; more = true; context = context })

    told : Bool → Bool → Bool → Page
    told small b one =
        cond small (record { status = BufferTooSmall; entries = []; context = context })
        (cond one (record { status = Success; entries = e ∷ []; context = e.stamp })
        (record { status = cond (nat_lt (length (fits b)) (suc (length es))) MoreEntries Success; entries = fits b; context = last_stamp context (fits b) }))

    one_more : (n : ℕ) → 1 + n ≡ suc n
    one_more n = omega arith

    both_more : (n m : ℕ) → nat_lt n m ≡ nat_lt (suc n) (suc m)
    both_more n m = grind (arith, nat_tests)

    go : (b : Bool) → nat_le (room_of e) room ≡ b → (one : Bool)
        → fit_of es 1 e.stamp (room - room_of e) false
        ≡ record { count = 1 + length (fitting (room - room_of e) es); more = nat_lt (length (fitting (room - room_of e) es)) (length es); context = last_stamp e.stamp (fitting (room - room_of e) es) }
        → Tells (fit b one) one (told (nat_lt room (room_of e)) b one)
    go true is one all = subst (λ small. Tells (fit true one) one (told small true one)) (sym (le-ltb room (room_of e) (leb-true (room_of e) room is))) (large one)
      where
        shown : List Shown
        shown = fitting (room - room_of e) es

        given : Fit
        given = record { count = suc (length shown); more = nat_lt (suc (length shown)) (suc (length es)); context = last_stamp e.stamp shown }

        large : (one : Bool) → Tells (fit true one) one (told false true one)
        large true = (refl, refl, refl)
        large false =
            subst (λ f. Tells f false (told false true false))
            (sym (all ∙ (λ i. record { count = one_more (length shown) i; more = both_more (length shown) (length es) i; context = last_stamp e.stamp shown })))
            (some_are_shown (length shown) (nat_lt (suc (length shown)) (suc (length es))) false (last_stamp e.stamp shown), refl, refl)
    go false is one all = subst (λ small. Tells (fit false one) one (told small false one)) (sym (lt-ltb room (room_of e) (leb-false (room_of e) room is))) (refl, refl, refl)

-- the entries that are told stand at the front of those that are left
pub told_is_front : (left : List Shown) (context room : ℕ) (single : Bool)
    → (page_of left context room single).entries ≡ take (length (page_of left context room single).entries) left
told_is_front [] context room single = refl
told_is_front (e ∷ es) context room single = go (nat_lt room (room_of e)) single
  where
    page : Bool → Bool → Page
    page small one =
        cond small (record { status = BufferTooSmall; entries = []; context = context })
        (cond one (record { status = Success; entries = e ∷ []; context = e.stamp })
        (record { status = cond (nat_lt (length (fitting room (e ∷ es))) (suc (length es))) MoreEntries Success; entries = fitting room (e ∷ es); context = last_stamp context (fitting room (e ∷ es)) }))

    go : (small one : Bool) → (page small one).entries ≡ take (length (page small one).entries) (e ∷ es)
    go true one = refl
    go false true = refl
    go false false = sym (fitting_is_front room (e ∷ es))

-- ---- one step of the walk

-- an entry doesn't fit, fits alone, or fits and the others are looked at
stops : (taken room : ℕ) → None ≡ room_behind taken room → nat_le taken room ≡ false
stops taken room none = go (nat_le taken room) refl none
  where
    go : (b : Bool) → nat_le taken room ≡ b → None ≡ cond b (Some (room - taken)) None → b ≡ false
    go true e at = cc
    go false e at = refl

fits : (taken room less : ℕ) → Some less ≡ room_behind taken room → (nat_le taken room ≡ true) × (less ≡ room - taken)
fits taken room less some = go (nat_le taken room) refl some
  where
    go : (b : Bool) → nat_le taken room ≡ b → Some less ≡ cond b (Some (room - taken)) None → (b ≡ true) × (less ≡ room - taken)
    go true e at = (refl, cc)
    go false e at = cc

pub stops_here : (e : Shown) (es : List Shown) (count context room : ℕ) (single : Bool) → None ≡ room_behind (room_of e) room
    → fit_of (e ∷ es) count context room single ≡ record { count = count; more = true; context = context }
stops_here e es count context room single none =
    ap (λ b. cond b (cond single (record { count = count + 1; more = false; context = e.stamp }) (fit_of es (count + 1) e.stamp (room - room_of e) single)) (record { count = count; more = true; context = context }))
    (stops (room_of e) room none)

pub fits_alone : (e : Shown) (es : List Shown) (count context room less : ℕ) (single : Bool) → single ≡ true → Some less ≡ room_behind (room_of e) room
    → fit_of (e ∷ es) count context room single ≡ record { count = count + 1; more = false; context = e.stamp }
fits_alone e es count context room less single alone some =
    ap (λ b. cond b (cond single (record { count = count + 1; more = false; context = e.stamp }) (fit_of es (count + 1) e.stamp (room - room_of e) single)) (record { count = count; more = true; context = context }))
    ((fits (room_of e) room less some).0)
    ∙ ap (λ b. cond b (record { count = count + 1; more = false; context = e.stamp }) (fit_of es (count + 1) e.stamp (room - room_of e) single)) alone

pub goes_on : (e : Shown) (es : List Shown) (count context room less : ℕ) (single : Bool) → single ≡ false → Some less ≡ room_behind (room_of e) room
    → fit_of (e ∷ es) count context room single ≡ fit_of es (count + 1) e.stamp less single
goes_on e es count context room less single more some =
    ap (λ b. cond b (cond single (record { count = count + 1; more = false; context = e.stamp }) (fit_of es (count + 1) e.stamp (room - room_of e) single)) (record { count = count; more = true; context = context }))
    ((fits (room_of e) room less some).0)
    ∙ ap (λ b. cond b (record { count = count + 1; more = false; context = e.stamp }) (fit_of es (count + 1) e.stamp (room - room_of e) single)) more
    ∙ ap (λ n. fit_of es (count + 1) e.stamp n single) (sym ((fits (room_of e) room less some).1))

-- ---- what is given

pub is_page : (type_name : ℕ → List ℕ) (entries left : List DirEntry) (context room : ℕ) (single : Bool) (fit : Fit) (page : DirPage)
    → left ≡ entries_behind entries context → fit ≡ fit_of (map (shown_entry type_name) left) 0 context room single
    → page.status ≡ page_status fit single → page.entries ≡ take fit.count left → page.context ≡ fit.context
    → IsPage (page_told type_name entries context room single) (entries_behind entries context) page
is_page type_name entries left context room single fit page same fits status_is entries_are context_is =
    let told = page_of (map (shown_entry type_name) left) context room single in
    let tells : Tells fit single told = subst (λ f. Tells f single told) (sym fits) (fit_is_told (map (shown_entry type_name) left) context room single) in
    let is : IsPage told left page = record {
      status = status_is ∙ tells.0;
      entries = entries_are ∙ ap (λ n. take n left) tells.1;
      context = context_is ∙ tells.2;
    } in
    subst (λ (es : List DirEntry). IsPage (page_of (map (shown_entry type_name) es) context room single) es page) same is
