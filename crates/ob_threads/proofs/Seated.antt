-- What the passes of seats have received, and the entries of their seats in the journal.
use Rattle.std.proofs.Common.{◌≡◌, ◌∙◌, ◌<◌, ◌≤◌, ◌+◌, ◌==◌, ℕ, zero, suc, cond, Bool, true, false, List, [], ◌∷◌, ◌++◌, All, Some, filter, map, length, take, drop, ap, refl, sym, subst, arith, append_assoc, eq-eqb}
use Rattle.std.proofs.lemmas.List.{map-append}
use Rattle.std.proofs.Math.Seq.{take-append_seam, drop-append_seam}
use Rattle.std.proofs.lemmas.List.Elements.{All-head, All-tail, All-nil, All-cons}
use Rattle.std.specs.List.{range_with_len}
use Rattle.ob_standard.specs.Standard.{StandardKind}
use Rattle.ob_locked.specs.Opened.{fresh_pass}
use Rattle.ob_locked.specs.Passed.{Passed}
use Rattle.ob_agreement.specs.Agreement.{Agrees, entries_of, passes_of, only}
use Rattle.ob_seats.specs.Received.{Entries}
use Rattle.ob_threads.specs.Played.{ArePasses, ArePassesOf, AreReceiptsOf, IsInOrder, IsJournalOf, SeatsRelation, entries_from}

abbrev pub P : Type 0
P = Passed StandardKind

-- ---- passes that were just opened

pub all_fresh : (seats : List ℕ) → All (λ (p : P). p.receipts ≡ []) (map fresh_pass seats)
all_fresh [] = All-nil (λ (p : P). p.receipts ≡ [])
all_fresh (s ∷ seats) = All-cons (λ (p : P). p.receipts ≡ []) (fresh_pass s) (map fresh_pass seats) refl (all_fresh seats)

pub fresh_seats : (seats : List ℕ) → map (λ (p : P). p.seat) (map fresh_pass seats) ≡ seats
fresh_seats [] = refl
fresh_seats (s ∷ seats) = λ i. s ∷ fresh_seats seats i

-- ---- the passes that come back

pub come_back : (count : ℕ) (fresh theirs passes : List P) (own : P) → fresh ≡ map fresh_pass (range_with_len 1 count) → map (λ p. p.seat) theirs ≡ map (λ p. p.seat) fresh → own.seat ≡ 0 → passes ≡ theirs ++ own ∷ []
    → ArePasses count passes
come_back count fresh theirs passes own opened stay first all =
    ap (map (λ (p : P). p.seat)) all
    ∙ (map-append (λ (p : P). p.seat) theirs (own ∷ [])
    ∙ (ap (λ ss. ss ++ own.seat ∷ []) (stay ∙ (ap (map (λ (p : P). p.seat)) opened ∙ fresh_seats (range_with_len 1 count)))
    ∙ ap (λ s. range_with_len 1 count ++ s ∷ []) first))

-- ---- settled with the journal

only_is : (xs ys : List P) (p q : P) → only (xs ++ p ∷ ys) ≡ Some q → p ≡ q
only_is [] [] p q e = cc
only_is [] (y ∷ ys) p q e = cc
only_is (x ∷ []) ys p q e = cc
only_is (x ∷ y ∷ xs) ys p q e = cc

parted : (test : P → Bool) (xs ys : List P) (p : P) → test p ≡ true → filter test (xs ++ p ∷ ys) ≡ filter test xs ++ p ∷ filter test ys
parted test [] ys p is = ap (λ b. cond b (p ∷ filter test ys) (filter test ys)) is
parted test (x ∷ xs) ys p is = go (test x) (parted test xs ys p is)
  where
    go : (b : Bool) → filter test (xs ++ p ∷ ys) ≡ filter test xs ++ p ∷ filter test ys
        → cond b (x ∷ filter test (xs ++ p ∷ ys)) (filter test (xs ++ p ∷ ys)) ≡ cond b (x ∷ filter test xs) (filter test xs) ++ p ∷ filter test ys
    go true more = ap (λ l. x ∷ l) more
    go false more = more

module _ (journal : Entries) (seats : ℕ) where
  -- a pass has received the entries of its seat
  pub received : (xs ys : List P) (p : P) → Agrees journal (xs ++ p ∷ ys) seats → p.seat < seats → p.receipts ≡ entries_of p.seat journal
  received xs ys p settled inside =
      let own = (settled p.seat).0 inside in
      ap (λ (q : P). q.receipts) (only_is (passes_of p.seat xs) (passes_of p.seat ys) p (record { seat = p.seat; receipts = entries_of p.seat journal })
      (ap only (sym (parted (λ (q : P). q.seat == p.seat) xs ys p (eq-eqb p.seat p.seat refl))) ∙ own))

  -- and so have several
  pub received_all : (xs ys zs : List P) → Agrees journal (xs ++ (ys ++ zs)) seats → All (λ (p : P). p.seat < seats) ys → map (λ (p : P). p.receipts) ys ≡ map (λ (p : P). entries_of p.seat journal) ys
  received_all xs [] zs settled inside = refl
  received_all xs (y ∷ ys) zs settled inside = λ i.
      received xs (ys ++ zs) y settled (All-head (λ (p : P). p.seat < seats) y ys inside) i
      ∷ received_all (xs ++ y ∷ []) ys zs (subst (λ l. Agrees journal l seats) (sym (append_assoc xs (y ∷ []) (ys ++ zs))) settled) (All-tail (λ (p : P). p.seat < seats) y ys inside) i

mapped_seats : (journal : Entries) (ps : List P) → map (λ (p : P). entries_of p.seat journal) ps ≡ map (λ s. entries_of s journal) (map (λ (p : P). p.seat) ps)
mapped_seats journal [] = refl
mapped_seats journal (p ∷ ps) = λ i. entries_of p.seat journal ∷ mapped_seats journal ps i

last_same : (xs ys : List ℕ) (x y : ℕ) → xs ++ x ∷ [] ≡ ys ++ y ∷ [] → (xs ≡ ys) × (x ≡ y)
last_same [] [] x y e = (refl, cc)
last_same [] (z ∷ []) x y e = cc
last_same [] (z ∷ w ∷ ys) x y e = cc
last_same (z ∷ []) [] x y e = cc
last_same (z ∷ w ∷ xs) [] x y e = cc
last_same (z ∷ xs) (w ∷ ys) x y e =
    let head : z ≡ w = cc in
    let tail : xs ++ x ∷ [] ≡ ys ++ y ∷ [] = cc in
    let more = last_same xs ys x y tail in ((λ i. head i ∷ more.0 i), more.1)

seats_below : (seats from count : ℕ) (ps : List P) → map (λ (p : P). p.seat) ps ≡ range_with_len from count → from + count ≤ seats → All (λ (p : P). p.seat < seats) ps
seats_below seats from zero [] e below = All-nil (λ (p : P). p.seat < seats)
seats_below seats from zero (p ∷ ps) e below = cc
seats_below seats from (suc count) [] e below = cc
seats_below seats from (suc count) (p ∷ ps) e below =
    let head : p.seat ≡ from = cc in
    let tail : map (λ (q : P). q.seat) ps ≡ range_with_len (from + 1) count = cc in
    All-cons (λ (q : P). q.seat < seats) p ps (omega (arith, head, below)) (seats_below seats (from + 1) count ps tail (omega (arith, below)))

-- the receipts of seat 0 in two parts
module _ (count : ℕ) (own begun rest : Entries) (many : length begun ≡ count) (all : own ≡ begun ++ rest) (Is : SeatsRelation) (theirs : List Entries) where
  first_are : take count own ≡ begun
  first_are = ap (λ n. take n own) (sym many) ∙ (ap (take (length begun)) all ∙ take-append_seam begun rest)

  last_are : drop count own ≡ rest
  last_are = ap (λ n. drop n own) (sym many) ∙ (ap (drop (length begun)) all ∙ drop-append_seam begun rest)

  pub cut_receipts : Is begun theirs rest → AreReceiptsOf Is count own theirs
  cut_receipts is = subst (λ es. Is es theirs (drop count own)) (sym first_are) (subst (Is begun theirs) (sym last_are) is)

  pub of_receipts : AreReceiptsOf Is count own theirs → Is begun theirs rest
  of_receipts is = subst (Is begun theirs) last_are (subst (λ es. Is es theirs (drop count own)) first_are is)

-- what is so with the receipts of passes is so with the entries of a journal that is settled with them, and in order
pub settled_of : (Is : SeatsRelation) (journal : Entries) (count seats begun : ℕ) (passes : List P) → seats ≡ count + 1 → ArePasses count passes → Agrees journal passes seats → IsInOrder begun journal → ArePassesOf Is begun passes
    → IsJournalOf Is count journal
settled_of Is journal count seats begun passes all_seats are settled (first, rest, many, ordered) (theirs, own, whole, is) = (
  first,
  rest,
  ordered,
  of_receipts begun own.receipts first rest many (own_is ∙ ordered.own) Is (entries_from journal 1 count) (subst (AreReceiptsOf Is begun own.receipts) theirs_are is),
  λ seat above. ((settled seat).1 (subst (λ n. n ≤ seat) (sym all_seats) above)).1,
)
  where
    parts : (map (λ (p : P). p.seat) theirs ≡ range_with_len 1 count) × (own.seat ≡ 0)
    parts = last_same _ _ _ _ (sym (ap (map (λ (p : P). p.seat)) whole ∙ map-append (λ (p : P). p.seat) theirs (own ∷ [])) ∙ are)

    own_settled : Agrees journal (theirs ++ own ∷ []) seats
    own_settled = subst (λ l. Agrees journal l seats) whole settled

    own_is : own.receipts ≡ entries_of 0 journal
    own_is = received journal seats theirs [] own own_settled (omega (arith, parts.1, all_seats)) ∙ ap (λ s. entries_of s journal) parts.1

    theirs_are : map (λ (p : P). p.receipts) theirs ≡ entries_from journal 1 count
    theirs_are =
        received_all journal seats [] theirs (own ∷ []) own_settled (seats_below seats 1 count theirs parts.0 (omega (arith, all_seats)))
        ∙ (mapped_seats journal theirs ∙ ap (map (λ s. entries_of s journal)) parts.0)
