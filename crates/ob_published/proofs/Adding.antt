-- The exchange that adds a publication keeps the rule.
use Rattle.std.proofs.Common.{◌≡◌, ◌∙◌, MatchBool, ℕ, ◌+◌, ◌<◌, ◌==◌, Bool, true, false, List, [], ◌∷◌, ◌++◌, length, refl, ap, sym, subst, arith, inl, length-append, None}
use Rattle.std.proofs.lemmas.List.{append-nil}
use Rattle.std.proofs.lemmas.Bool.Decides.{nat_tests}
use mathlib.Core.List.{IsPrefix}
use prog.Atomic.{either}
use Rattle.logbook.specs.Pages.{Book, Cell, cell, keeps, no_nib, step, Moves, Goes}
use Rattle.ob_published.specs.declared.publication.Publication.{Publication}
use Rattle.ob_published.specs.Known.{IsKnown}
use Rattle.ob_published.specs.Publications.{total_entries}
use Rattle.ob_published.specs.Rules.{Adds, IsKept}
use Rattle.ob_published.proofs.Follow.{entries_follow}
use Rattle.ob_published.proofs.Prefixes.{prefix_whole}

abbrev pub shows : List Publication → List Publication
shows log = []

abbrev pub moved : List Publication → List Publication → ℕ → Type 0
moved xs ys n = Unit {0}

abbrev pub Steps : List Publication → Publication → ℕ → List Cell → List Publication → Type 0
Steps v e old cells log = Goes IsKept shows moved 0 (v, (no_nib, None)) (λ n. either (n == old) (old + 1) n) (Adds (step 0 old (old + 1) e) (v, (no_nib, None))) cells log

adds_goes : (log v : List Publication) (e : Publication) (old : ℕ) → length v ≡ old → IsPrefix v log
    → (b : Bool) → (length log == old) ≡ b → Steps v e old ((length log, true) ∷ (0, true) ∷ []) log
adds_goes log v e old len pre true is =
    let here : length log ≡ old = grind (arith, nat_tests) in
    let same : v ≡ log = prefix_whole v log pre (omega arith) in
    let n : either (length log == old) (old + 1) (length log) ≡ length (log ++ e ∷ []) = rw is (omega (arith, length-append log (e ∷ []))) in (
      keeps,
      e ∷ [],
      None,
      tt,
      record { words = ap (λ (k : ℕ). (k, true) ∷ (0, true) ∷ []) n },
      inl (refl, refl),
      rw is (ap (λ w. w ++ e ∷ []) (sym same)),
    )
adds_goes log v e old len pre false is =
    let all : log ++ [] ≡ log = append-nil log in
    let n : either (length log == old) (old + 1) (length log) ≡ length (log ++ []) = rw is (ap length (sym all)) in (
      keeps,
      [],
      None,
      tt,
      record { words = ap (λ (k : ℕ). (k, true) ∷ (0, true) ∷ []) n },
      inl (refl, refl),
      rw is tt,
    )

-- whatever the book is, the exchange adds the publication to all that was seen, or finds that the history is longer
pub adds_moves : (v : List Publication) (e : Publication) (old : ℕ) → length v ≡ old
    → Moves IsKept shows moved 0 (v, (no_nib, None)) (λ n. either (n == old) (old + 1) n) (Adds (step 0 old (old + 1) e) (v, (no_nib, None)))
adds_moves v e old len cs log kept pre away =
    let P : List Cell → Type 0 = λ c. (0 < length c) × ((cell c 0).1 ≡ true) × Steps v e old c log in
    subst P (sym kept.words) (omega arith, refl, adds_goes log v e old len pre (length log == old) refl)

-- ---- what is known once it was added

pub where_found : (found old : ℕ) (P : Type 0) → MatchBool (found == old) P (Unit {0}) → (found == old) ≡ true → P
where_found found old P told is = go (found == old) is told
  where
    go : (b : Bool) → b ≡ true → MatchBool b P (Unit {0}) → P
    go true is told = told
    go false is told = cc

pub known_added : (book : Book) (leads : List Publication → Type 0) (count entries : ℕ) (seen : Book) (log : List Publication) → IsKnown book leads count entries seen log
    → (p : Publication) (sum : ℕ) → sum ≡ entries + p.entries → (seen_now : Book) (log_now : List Publication) → seen_now ≡ seen → log_now ≡ log ++ p ∷ [] → leads (log ++ p ∷ [])
    → IsKnown book leads (count + 1) sum seen_now log_now
known_added book leads count entries seen log known p sum added seen_now log_now same longer led = record {
  of_book = same ∙ known.of_book;
  counted = omega (arith, known.counted, ap length longer, length-append log (p ∷ []));
  summed = added ∙ omega (arith, known.summed, ap total_entries longer, entries_follow log (p ∷ []));
  led = subst leads (sym longer) led;
}
