-- The entries that lines report: in version 1 one a line, and in version 2 cut into segments at the headers.
use Rattle.std.proofs.Common.{◌≡◌, ◌∙◌, ℕ, suc, ◌+◌, ◌≤◌, List, [], ◌∷◌, ◌++◌, length, refl, ap, sym, subst, inl, inr, arith, length-append, append_assoc, append-nil}
use Rattle.ob_standard.specs.Standard.{StandardKind}
use Rattle.ob_entries.specs.Segments as journal
use Rattle.ob_entries.specs.Segments.{most_entries, joined, AreSealed}
use Rattle.ob_reader.specs.declared.header.Header.TheVariants.{Whole, Segment}
use Rattle.ob_journal.specs.declared.position.Position.{Position}
use Rattle.ob_journal.specs.Journal.{Entries, segment_of, first_of, after_first, BeginsSegment, Tell, WhatIsToldIsCounted, WhatIsToldIsInSegments, WhatIsToldWholeIsFew}
use Rattle.ob_journal.proofs.Runs.{told_count}

begins_no_segment : {A : Type 0} (seats c : ℕ) (l : List ℕ) → BeginsSegment (record { header = Whole seats; count = c }) l → A
begins_no_segment seats c l begins = let both = begins.said in absurd (cc)

-- the first of these segments has this number and begins with this entry
record Cut (k f : ℕ) (entries : Entries) (end : Position) : Type 0 where
  pub sealed : List (journal.Segment StandardKind)
  pub last : Entries
  pub whole : entries ≡ joined sealed ++ last
  pub are_sealed : AreSealed k f sealed
  pub few : length last ≤ most_entries
  pub segment : segment_of end.header ≡ k + length sealed
  pub first : first_of end.header ≡ f + length (joined sealed)

-- a segment that has an entry, before others
seal : (k f c : ℕ) (had entries : Entries) (end : Position) → f ≤ c → f + length had ≡ c + 1 → length had ≤ most_entries → Cut (k + 1) (c + 1) entries end → Cut k f (had ++ entries) end
seal k f c had entries end some many few later =
    let one : journal.Segment StandardKind = record { number = k; first = f; entries = had } in
    record {
      sealed = one ∷ later.sealed;
      last = later.last;
      whole = ap (λ (es : Entries). had ++ es) later.whole ∙ sym (append_assoc had (joined later.sealed) later.last);
      are_sealed = (refl, refl, omega (arith, some, many), few, subst (λ (n : ℕ). AreSealed (k + 1) n later.sealed) (sym many) later.are_sealed);
      few = later.few;
      segment = omega (arith, later.segment);
      first = omega (arith, later.first, many, length-append had (joined later.sealed));
    }

-- these entries of the open segment come before
cut : (seats k f c : ℕ) (had : Entries) (lines : List (List ℕ)) (entries : Entries) (end : Position) → f + length had ≡ c + 1 → length had ≤ most_entries
    → Tell (record { header = Segment seats k f; count = c }) lines entries end → Cut k f (had ++ entries) end
cut seats k f c had [] [] end many few told = record {
  sealed = [];
  last = had;
  whole = append-nil had;
  are_sealed = tt;
  few = few;
  segment = omega (arith, ap (λ (x : Position). segment_of x.header) told);
  first = omega (arith, ap (λ (x : Position). first_of x.header) told);
}
cut seats k f c had [] (e ∷ es) end many few told = absurd told
cut seats k f c had (l ∷ ls) [] end many few (begins, rest) =
    seal k f c had [] end begins.before many few (cut seats (k + 1) (c + 1) c [] ls [] end (omega arith) (omega arith) rest)
cut seats k f c had (l ∷ ls) (e ∷ es) end many few (inl (begins, rest)) =
    seal k f c had (e ∷ es) end begins.before many few (cut seats (k + 1) (c + 1) c [] ls (e ∷ es) end (omega arith) (omega arith) rest)
cut seats k f c had (l ∷ ls) (e ∷ es) end many few (inr (tells, rest)) =
    subst (λ (xs : Entries). Cut k f xs end) (append_assoc had (e ∷ []) es)
    (cut seats k f (c + 1) (had ++ e ∷ []) ls es end (omega (arith, many, length-append had (e ∷ []))) (omega (arith, many, tells.room, length-append had (e ∷ []))) rest)

pub told_in_segments : WhatIsToldIsInSegments
told_in_segments seats lines entries end told =
    let found = cut seats 1 1 0 [] lines entries end (omega arith) (omega arith) told in
    record {
      sealed = found.sealed;
      last = found.last;
      whole = found.whole;
      are_sealed = found.are_sealed;
      few = found.few;
      segment = omega (arith, found.segment);
      first = omega (arith, found.first);
    }

-- in version 1 no line begins a segment
whole : (seats c : ℕ) (lines : List (List ℕ)) (entries : Entries) (end : Position) → c ≤ most_entries → Tell (record { header = Whole seats; count = c }) lines entries end
    → (length entries ≡ length lines) × (c + length entries ≤ most_entries)
whole seats c [] [] end few told = (refl, omega (arith, few))
whole seats c [] (e ∷ es) end few told = absurd told
whole seats c (l ∷ ls) [] end few (begins, rest) = begins_no_segment seats c l begins
whole seats c (l ∷ ls) (e ∷ es) end few (inl (begins, rest)) = begins_no_segment seats c l begins
whole seats c (l ∷ ls) (e ∷ es) end few (inr (tells, rest)) =
    let later = whole seats (c + 1) ls es end (omega (arith, tells.room)) rest in
    (ap (λ (n : ℕ). suc n) later.0, omega (arith, later.1))

pub told_whole : WhatIsToldWholeIsFew
told_whole seats lines entries end told = let found = whole seats 0 lines entries end (omega arith) told in (found.0, omega (arith, found.1))

pub told_counted : WhatIsToldIsCounted
told_counted header lines entries end told = omega (arith, told_count (after_first header) end lines entries told)
