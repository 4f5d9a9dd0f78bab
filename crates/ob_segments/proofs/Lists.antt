-- Lists of sealed segments: their entries joined, and the parts of a list.
use Rattle.std.proofs.Common.{◌≡◌, ℕ, ◌+◌, ◌-◌, ◌*◌, ◌<◌, ◌≤◌, List, [], ◌∷◌, ◌++◌, length, take, drop, get_or, slice_get, refl, sym, ap, ◌∙◌, map, Option, Some, None, Bor, MatchOption, option_copied, zero, suc, add-one, ◌≢◌, ◌^◌, arith, append-nil, append_assoc, length-append}
use Rattle.std.proofs.Math.Seq.{take-length, drop-length, drop-append_seam}
use Rattle.std.proofs.lemmas.List.{map-append, take-append-drop, get_or-map, length-map}
use Rattle.std.specs.List.{HoldsAt}
use Rattle.std.proofs.lemmas.Option.{slice_get_past, slice_get-get_or}
use Rattle.ob_model.specs.Run.{Entry}
use Rattle.ob_entries.specs.Segments.{Segment, joined, most_entries, most_sealed, AreSealed}
use Rattle.ob_segments.specs.Journal.{Placed, IsKept, whole, seen}

pub joined-append : {K : Type 0} (xs ys : List (Segment K)) → joined (xs ++ ys) ≡ joined xs ++ joined ys
joined-append [] ys = refl
joined-append (x ∷ xs) ys = rw (joined-append xs ys, append_assoc) refl

-- the entries of a beginning, and those of the rest
pub joined-split : {K : Type 0} (n : ℕ) (xs : List (Segment K)) → joined (take n xs) ++ joined (drop n xs) ≡ joined xs
joined-split n xs = sym (joined-append (take n xs) (drop n xs)) ∙ ap joined (take-append-drop n xs)

pub length-joined-split : {K : Type 0} (n : ℕ) (xs : List (Segment K)) → length (joined (take n xs)) + length (joined (drop n xs)) ≡ length (joined xs)
length-joined-split n xs = sym (length-append (joined (take n xs)) (joined (drop n xs))) ∙ ap length (joined-split n xs)

pub AreSealed-take : {K : Type 0} (number first k : ℕ) (xs : List (Segment K)) → AreSealed number first xs → AreSealed number first (take k xs)
AreSealed-take number first zero xs h = tt
AreSealed-take number first (suc k) [] h = tt
AreSealed-take number first (suc k) (x ∷ xs) h = (h.0, h.1, h.2, h.3, AreSealed-take (number + 1) (first + length x.entries) k xs h.4)

pub AreSealed-push : {K : Type 0} (number first : ℕ) (xs : List (Segment K)) (s : Segment K) → AreSealed number first xs → s.number ≡ number + length xs → s.first ≡ first + length (joined xs) → 1 ≤ length s.entries → length s.entries ≤ most_entries → AreSealed number first (xs ++ s ∷ [])
AreSealed-push number first [] s h n f low high = (omega (arith, n), omega (arith, f), low, high, tt)
AreSealed-push number first (x ∷ xs) s h n f low high = (h.0, h.1, h.2, h.3, AreSealed-push (number + 1) (first + length x.entries) xs s h.4 (omega (arith, n)) (omega (arith, f, length-append x.entries (joined xs))) low high)

-- sealed segments have at most 1,048,576 entries each
pub length-joined : {K : Type 0} (number first : ℕ) (xs : List (Segment K)) → AreSealed number first xs → length (joined xs) ≤ length xs * most_entries
length-joined number first [] h = omega arith
length-joined number first (x ∷ xs) h = omega (arith, h.3, length-append x.entries (joined xs), length-joined (number + 1) (first + length x.entries) xs h.4)

-- the number of a sealed segment's first entry, by the entries before it
pub first-at : {K : Type 0} (number first : ℕ) (xs : List (Segment K)) (k : ℕ) (d : Segment K) → AreSealed number first xs → k < length xs → (get_or xs k d).first ≡ first + length (joined (take k xs))
first-at number first [] k d h within = absurd (omega arith)
first-at number first (x ∷ xs) zero d h within = omega (arith, h.1)
first-at number first (x ∷ xs) (suc k) d h within = omega (arith, length-append x.entries (joined (take k xs)), first-at (number + 1) (first + length x.entries) xs k d h.4 (omega arith))

length-joined-suc : {K : Type 0} (xs : List (Segment K)) (k : ℕ) (d : Segment K) → k < length xs → length (joined (take (suc k) xs)) ≡ length (joined (take k xs)) + length (get_or xs k d).entries
length-joined-suc [] k d within = absurd (omega arith)
length-joined-suc (x ∷ xs) zero d within = omega (arith, length-append x.entries [])
length-joined-suc (x ∷ xs) (suc k) d within =
    let e : length (x.entries ++ joined (take (suc k) xs)) ≡ length (x.entries ++ joined (take k xs)) + length (get_or xs k d).entries =
    omega (arith, length-append x.entries (joined (take (suc k) xs)), length-append x.entries (joined (take k xs)), length-joined-suc xs k d (omega arith)) in
    e

-- the entries up to and with those of the segment at a place
pub length-joined-take : {K : Type 0} (xs : List (Segment K)) (k : ℕ) (d : Segment K) → k < length xs → length (joined (take (k + 1) xs)) ≡ length (joined (take k xs)) + length (get_or xs k d).entries
length-joined-take xs k d within = rw add-one (length-joined-suc xs k d within)

-- an entry of a list that two lists make
get-left : {X : Type 0} (xs ys : List X) (i : ℕ) → i < length xs → slice_get (xs ++ ys) i ≡ slice_get xs i
get-left [] ys i h = absurd (omega arith)
get-left (x ∷ xs) ys zero h = refl
get-left (x ∷ xs) ys (suc i) h = get-left xs ys i (omega arith)

pub get-right : {X : Type 0} (xs ys : List X) (i j : ℕ) → i ≡ length xs + j → slice_get (xs ++ ys) i ≡ slice_get ys j
get-right [] ys i j h = ap (slice_get ys) (omega (arith, h))
get-right (x ∷ xs) ys zero j h = absurd (omega (arith, h))
get-right (x ∷ xs) ys (suc i) j h = get-right xs ys i j (omega (arith, h))

-- an entry of a segment, among the entries of all
pub entry-at : {K : Type 0} (xs : List (Segment K)) (rest : List (Entry K)) (k i j : ℕ) (d : Segment K) → k < length xs → i ≡ length (joined (take k xs)) + j → j < length (get_or xs k d).entries → slice_get (joined xs ++ rest) i ≡ slice_get (get_or xs k d).entries j
entry-at [] rest k i j d within at in_it = absurd (omega arith)
entry-at (x ∷ xs) rest zero i j d within at in_it =
    ap (λ l. slice_get l i) (append_assoc x.entries (joined xs) rest) ∙ get-left x.entries (joined xs ++ rest) i (omega (arith, at)) ∙ ap (slice_get x.entries) (omega (arith, at))
entry-at (x ∷ xs) rest (suc k) i j d within at in_it =
    let e = length-append x.entries (joined (take k xs)) in
    ap (λ l. slice_get l i) (append_assoc x.entries (joined xs) rest) ∙ get-right x.entries (joined xs ++ rest) i (length (joined (take k xs)) + j) (omega (arith, at, e)) ∙ entry-at xs rest k (length (joined (take k xs)) + j) j d (omega arith) refl in_it

-- the number of the first entry of the segment at a place, where each is behind something
pub first-of : {X K : Type 0} (f : X → Segment K) (xs : List X) (k : ℕ) (x : X) → AreSealed 1 1 (map f xs) → k < length xs → x ≡ get_or xs k x → (f x).first ≡ 1 + length (joined (take k (map f xs)))
first-of f xs k x h within is =
    let e : get_or (map f xs) k (f x) ≡ f x = get_or-map f xs k x (f x) within ∙ ap f (sym is) in
    ap (λ s. s.first) (sym e) ∙ first-at 1 1 (map f xs) k (f x) h (rw length-map within)

-- all entries of a journal, by its fields
pub whole-seen : {K : Type 0} (ss : List (Segment K)) (shown : ℕ) (tail : List (Entry K)) (places : ℕ) → joined ss ++ tail ≡ whole (seen ss shown tail places).journal
whole-seen ss shown tail places =
    ap (λ l. l ++ tail) (sym (joined-split shown ss)) ∙ append_assoc (joined (take shown ss)) (joined (drop shown ss)) tail

pub length-whole : {K : Type 0} (ss : List (Segment K)) (shown : ℕ) (tail : List (Entry K)) (places : ℕ) → length (joined ss) + length tail ≡ length (whole (seen ss shown tail places).journal)
length-whole ss shown tail places = sym (length-append (joined ss) tail) ∙ ap length (whole-seen ss shown tail places)

pub length-unsealed : {K : Type 0} (ss : List (Segment K)) (shown : ℕ) (tail : List (Entry K)) (places : ℕ) → length (joined (drop shown ss)) + length tail ≡ length (seen ss shown tail places).journal.unsealed
length-unsealed ss shown tail places = sym (length-append (joined (drop shown ss)) tail)

-- the entry of a number, where each segment is behind something: in the segment at a place
pub get-sealed : {X K : Type 0} (f : X → Segment K) (xs ys : List X) (shown : ℕ) (tail : List (Entry K)) (places k n : ℕ) (x : X) → ys ≡ xs → AreSealed 1 1 (map f xs) → k < length ys → x ≡ get_or xs k x → length (joined (take k (map f ys))) < n → n ≤ length (joined (take (k + 1) (map f ys))) → slice_get (whole (seen (map f xs) shown tail places).journal) (n - 1) ≡ slice_get (f x).entries (n - (f x).first)
get-sealed f xs ys shown tail places k n x same h within is after up_to =
    let v : k < length xs = rw (← same) within in
    let after' : length (joined (take k (map f xs))) < n = rw (← same) after in
    let up_to' : n ≤ length (joined (take (k + 1) (map f xs))) = rw (← same) up_to in
    let e : get_or (map f xs) k (f x) ≡ f x = get_or-map f xs k x (f x) v ∙ ap f (sym is) in
    let w : k < length (map f xs) = rw length-map v in
    let first = first-of f xs k x h v is in
    let more : length (joined (take (k + 1) (map f xs))) ≡ length (joined (take k (map f xs))) + length (f x).entries =
    length-joined-take (map f xs) k (f x) w ∙ ap (λ s. length (joined (take k (map f xs))) + length s.entries) e in
    let j : n - (f x).first < length (get_or (map f xs) k (f x)).entries = rw e (omega (arith, first, more)) in
    ap (λ l. slice_get l (n - 1)) (sym (whole-seen (map f xs) shown tail places))
    ∙ entry-at (map f xs) tail k (n - 1) (n - (f x).first) (f x) w (omega (arith, first)) j
    ∙ ap (λ s. slice_get s.entries (n - (f x).first)) e

-- and its first entry isn't after that
pub first-below : {X K : Type 0} (f : X → Segment K) (xs ys : List X) (k n : ℕ) (x : X) → ys ≡ xs → AreSealed 1 1 (map f xs) → k < length ys → x ≡ get_or xs k x → length (joined (take k (map f ys))) < n → (f x).first ≤ n
first-below f xs ys k n x same h within is after =
    let v : k < length xs = rw (← same) within in
    let after' : length (joined (take k (map f xs))) < n = rw (← same) after in
    omega (arith, first-of f xs k x h v is)

-- the entry of a number: after all segments
pub get-tail : {K : Type 0} (ss : List (Segment K)) (shown : ℕ) (tail : List (Entry K)) (places n : ℕ) → length (joined ss) < n → slice_get (whole (seen ss shown tail places).journal) (n - 1) ≡ slice_get tail (n - length (joined ss) - 1)
get-tail ss shown tail places n after =
    ap (λ l. slice_get l (n - 1)) (sym (whole-seen ss shown tail places)) ∙ get-right (joined ss) tail (n - 1) (n - length (joined ss) - 1) (omega arith)

-- the same entry, of what contracts see
pub get-along : {K : Type 0} (p q : Placed K) (i j : ℕ) (e : Option (Entry K)) → p ≡ q → i ≡ j → slice_get (whole p.journal) i ≡ e → e ≡ slice_get (whole q.journal) j
get-along p q i j e same at is = sym is ∙ ap (λ r. slice_get (whole r.journal) i) same ∙ ap (slice_get (whole q.journal)) at

-- what `get` of a slice returns, as its element
pub copied-at : {X : Type 0} (r : Option (Bor X)) (xs : List X) (i : ℕ) → MatchOption r (length xs ≤ i) (λ x. (i < length xs) × HoldsAt (λ y. x.now ≡ y) xs i) → option_copied r ≡ slice_get xs i
copied-at None xs i h = sym (slice_get_past xs i h)
copied-at (Some x) xs i h = ap Some (h.1 x.now) ∙ sym (slice_get-get_or xs i x.now h.0)

-- a segment after others, each behind something
pub map-pushed : {X K : Type 0} (f : X → Segment K) (xs ys zs : List X) (x : X) (s : Segment K) → ys ≡ xs → zs ≡ ys ++ x ∷ [] → f x ≡ s → map f zs ≡ map f xs ++ s ∷ []
map-pushed f xs ys zs x s same pushed is = ap (map f) (pushed ∙ ap (λ l. l ++ x ∷ []) same) ∙ map-append f xs (x ∷ []) ∙ ap (λ e. map f xs ++ e ∷ []) is

-- the segment that a seal makes
abbrev pub sealed_one : {K : Type 0} → (shown before : ℕ) → List (Entry K) → Segment K
sealed_one shown before tail = record { number = shown + 1; first = before + 1; entries = tail }

take-all : {X : Type 0} (n : ℕ) (xs : List X) → n ≡ length xs → take n xs ≡ xs
take-all n xs e = ap (λ k. take k xs) e ∙ take-length xs

drop-all : {X : Type 0} (n : ℕ) (xs : List X) → n ≡ length xs → drop n xs ≡ []
drop-all n xs e = ap (λ k. drop k xs) e ∙ drop-length xs

drop-front : {X : Type 0} (n : ℕ) (xs ys : List X) → n ≡ length xs → drop n (xs ++ ys) ≡ ys
drop-front n xs ys e = ap (λ k. drop k (xs ++ ys)) e ∙ drop-append_seam xs ys

-- the segments after a seal: they are in order, one more, with the entries of the open one
order-sealed : {K : Type 0} (ss ss' : List (Segment K)) (shown before : ℕ) (tail : List (Entry K)) → AreSealed 1 1 ss → shown ≡ length ss → before ≡ length (joined ss) → 0 < length tail → length tail ≤ most_entries → ss' ≡ ss ++ sealed_one shown before tail ∷ [] → AreSealed 1 1 ss'
order-sealed ss ss' shown before tail h all counted any most pushed =
    rw pushed (AreSealed-push 1 1 ss (sealed_one shown before tail) h (omega (arith, all)) (omega (arith, counted)) (omega (arith, any)) most)

length-sealed : {K : Type 0} (ss ss' : List (Segment K)) (s : Segment K) → ss' ≡ ss ++ s ∷ [] → length ss' ≡ length ss + 1
length-sealed ss ss' s pushed = ap length pushed ∙ length-append ss (s ∷ [])

joined-sealed : {K : Type 0} (ss ss' : List (Segment K)) (s : Segment K) → ss' ≡ ss ++ s ∷ [] → length (joined ss') ≡ length (joined ss) + length s.entries
joined-sealed ss ss' s pushed = ap (λ l. length (joined l)) pushed ∙ ap length (joined-append ss (s ∷ [])) ∙ simp (append-nil, length-append) refl

-- the fields after a seal
pub kept-sealed : {K : Type 0} (ss ss' : List (Segment K)) (shown before apart count : ℕ) (tail tail' : List (Entry K)) (places places' capacity capacity' : ℕ) → IsKept ss shown before apart tail places capacity → length ss ≤ shown → shown ≢ most_sealed → 0 < apart + length tail → length tail ≤ most_entries → ss' ≡ ss ++ sealed_one shown before tail ∷ [] → count ≡ length tail → tail' ≡ [] → places' ≤ capacity' → places' < 2 ^ 64 → IsKept ss' (shown + 1) (before + count) apart tail' places' capacity'
kept-sealed ss ss' shown before apart count tail tail' places places' capacity capacity' h up few any most pushed counted emptied room sized =
    let all : shown ≡ length ss = omega (arith, up, h.within) in
    let none : apart ≡ 0 = h.unshown ∙ ap (λ l. length (joined l)) (drop-all shown ss all) in
    let more = length-sealed ss ss' (sealed_one shown before tail) pushed in
    let total = joined-sealed ss ss' (sealed_one shown before tail) pushed in
    let all' : shown + 1 ≡ length ss' = omega (arith, more, all) in
    let empty : length tail' ≡ 0 = ap length emptied in
    record {
      order = order-sealed ss ss' shown before tail h.order all h.counted (omega (arith, any, none)) most pushed;
      few = omega (arith, few, h.few, more, all);
      within = omega arith;
      counted = omega (arith, total, counted, h.counted);
      unshown = none ∙ sym (ap (λ l. length (joined l)) (drop-all (shown + 1) ss' all'));
      fits = omega (arith, none, empty);
      room = omega (arith, room);
      sized = sized;
    }

-- and after one that failed last
pub kept-apart : {K : Type 0} (ss ss' : List (Segment K)) (shown before apart count : ℕ) (tail tail' : List (Entry K)) (places capacity capacity' : ℕ) → IsKept ss shown before apart tail places capacity → length ss ≤ shown → shown ≢ most_sealed → 0 < apart + length tail → length tail ≤ most_entries → ss' ≡ ss ++ sealed_one shown before tail ∷ [] → count ≡ length tail → tail' ≡ [] → places - count ≤ capacity' → IsKept ss' shown (before + count) count tail' places capacity'
kept-apart ss ss' shown before apart count tail tail' places capacity capacity' h up few any most pushed counted emptied room =
    let all : shown ≡ length ss = omega (arith, up, h.within) in
    let none : apart ≡ 0 = h.unshown ∙ ap (λ l. length (joined l)) (drop-all shown ss all) in
    let more = length-sealed ss ss' (sealed_one shown before tail) pushed in
    let total = joined-sealed ss ss' (sealed_one shown before tail) pushed in
    let empty : length tail' ≡ 0 = ap length emptied in
    let rest : length (joined (drop shown ss')) ≡ length tail =
    ap (λ l. length (joined (drop shown l))) pushed ∙ ap (λ l. length (joined l)) (drop-front shown ss (sealed_one shown before tail ∷ []) all) ∙ ap length (append-nil tail) in
    record {
      order = order-sealed ss ss' shown before tail h.order all h.counted (omega (arith, any, none)) most pushed;
      few = omega (arith, few, h.few, more, all);
      within = omega (arith, more, all);
      counted = omega (arith, total, counted, h.counted);
      unshown = counted ∙ sym rest;
      fits = omega (arith, none, empty, counted, h.fits);
      room = omega (arith, room);
      sized = h.sized;
    }
