-- A script whose lines were read up to those behind some workers.
use Rattle.std.proofs.Common.{◌≡◌, ◌≢◌, ℕ, ◌+◌, ◌<◌, ◌≤◌, inl, inr, Bool, true, false, List, [], ◌∷◌, ◌++◌, length, map, not, eqb, eqb-true, eq-eqb, refl, sym, ap, subst, ◌∙◌, append_assoc, append-nil, length-append, arith}
use Rattle.std.proofs.lemmas.Bool.{both_ways}
use Rattle.std.proofs.lemmas.List.{map-append, length-map, nil_from_length}
use Rattle.std.proofs.lemmas.List.Elements.{All-from_recursion}
use Rattle.std.specs.List.{AllByRecursion, All}
use Rattle.ob_lines.specs.Lines.{lines_of}
use Rattle.ob_worker_lines.specs.declared.part.Part.{Part}
use Rattle.ob_worker_lines.specs.declared.part.Taken.{Taken}
use Rattle.ob_worker_lines.specs.Cuts.{Lines, thread_line, join_line, most_workers, AreSeatLines, IsStopped, worker_lines, IsBadLine}
use Rattle.ob_worker_lines.specs.Parts.{lines_in, WorkersAreNumbered, IsBehind, IsMisplaced, IsRunnable}
use Rattle.ob_worker_lines.proofs.Whole.{some_line, length-lines_of}
use Rattle.ob_worker_lines.proofs.Bad.{IsFront, bad_behind_workers, bad_thread, bad_behind_join}

-- a part that was read of a script, where its first line has a number
pub record IsTaken (script : List ℕ) (number : ℕ) (taken : Taken) : Type 0 where
  pub whole : lines_of script ≡ lines_in taken.part ++ lines_of taken.rest.now
  pub own : AreSeatLines (lines_in taken.part)
  pub stopped : IsStopped (lines_of taken.rest.now)
  pub begins : taken.part.first ≡ number
  pub ends : taken.number ≡ number + length (lines_in taken.part)
  pub bound : taken.number + length taken.rest.now ≤ number + length script

-- the lines of seat 0 and of workers
abbrev pub front_lines : Part → List Part → Lines
front_lines before workers = lines_in before ++ worker_lines (map lines_in workers)

-- the script was read up to the rest, whose first line has the number
pub record IsReadTo (script : List ℕ) (before : Part) (workers : List Part) (rest : List ℕ) (number : ℕ) : Type 0 where
  pub whole : lines_of script ≡ front_lines before workers ++ lines_of rest
  pub front : IsFront (lines_in before) (map lines_in workers)
  pub stopped : IsStopped (lines_of rest)
  pub begins : before.first ≡ 1
  pub numbered : WorkersAreNumbered (1 + length (lines_in before)) workers
  pub number_is : number ≡ length (front_lines before workers) + 1
  pub bound : number + length rest ≤ 1 + length script

pub read_before : (script : List ℕ) (taken : Taken) → IsTaken script 1 taken → IsReadTo script taken.part [] taken.rest.now taken.number
read_before script taken t = record {
  whole = t.whole ∙ ap (λ ls. ls ++ lines_of taken.rest.now) (sym (append-nil (lines_in taken.part)));
  front = record { before_lines = t.own; workers_lines = tt; few = omega arith };
  stopped = t.stopped;
  begins = t.begins;
  numbered = tt;
  number_is = omega (arith, t.ends, ap length (append-nil (lines_in taken.part)));
  bound = t.bound;
}

-- one worker more
worker_lines-push : (workers : List Lines) (lines : Lines) → worker_lines (workers ++ lines ∷ []) ≡ worker_lines workers ++ thread_line ∷ lines
worker_lines-push [] lines = append-nil (thread_line ∷ lines)
worker_lines-push (first ∷ workers) lines =
    ap (λ ls. (thread_line ∷ first) ++ ls) (worker_lines-push workers lines) ∙ sym (append_assoc (thread_line ∷ first) (worker_lines workers) (thread_line ∷ lines))

all_push : (workers : List Lines) (lines : Lines) → AllByRecursion AreSeatLines workers → AreSeatLines lines → AllByRecursion AreSeatLines (workers ++ lines ∷ [])
all_push [] lines l own = (own, tt)
all_push (first ∷ workers) lines l own = (l.0, all_push workers lines l.1 own)

numbered_push : (workers : List Part) (part : Part) (number : ℕ) → WorkersAreNumbered number workers
    → part.first ≡ number + length (worker_lines (map lines_in workers)) + 1 → WorkersAreNumbered number (workers ++ part ∷ [])
numbered_push [] part number n e = (omega (arith, e), tt)
numbered_push (first ∷ workers) part number n e = (
  n.0,
  numbered_push workers part (number + 1 + length (lines_in first)) n.1
      (omega (arith, e, length-append (lines_in first) (worker_lines (map lines_in workers)))),
)

-- the lines in front of the rest, with one worker more
front-push : (before : Part) (workers : List Part) (part : Part) → front_lines before (workers ++ part ∷ []) ≡ front_lines before workers ++ thread_line ∷ lines_in part
front-push before workers part =
    ap (λ ws. lines_in before ++ worker_lines ws) (map-append lines_in workers (part ∷ []))
    ∙ (ap (λ ls. lines_in before ++ ls) (worker_lines-push (map lines_in workers) (lines_in part))
    ∙ sym (append_assoc (lines_in before) (worker_lines (map lines_in workers)) (thread_line ∷ lines_in part)))

pub read_worker : (script : List ℕ) (before : Part) (workers : List Part) (rest : List ℕ) (number : ℕ) (behind : List ℕ) (taken : Taken)
    → IsReadTo script before workers rest number → lines_of rest ≡ thread_line ∷ lines_of behind → length behind < length rest → IsTaken behind (number + 1) taken
    → length workers ≢ most_workers → IsReadTo script before (workers ++ taken.part ∷ []) taken.rest.now taken.number
read_worker script before workers rest number behind taken read e shorter t not_full = record {
  whole =
      read.whole ∙ (ap (λ ls. front_lines before workers ++ ls) (e ∙ ap (λ ls. thread_line ∷ ls) t.whole)
      ∙ (sym (append_assoc (front_lines before workers) (thread_line ∷ lines_in taken.part) (lines_of taken.rest.now))
      ∙ ap (λ ls. ls ++ lines_of taken.rest.now) (sym (front-push before workers taken.part))));
  front = record {
    before_lines = read.front.before_lines;
    workers_lines = subst (AllByRecursion AreSeatLines) (sym (map-append lines_in workers (taken.part ∷ []))) (all_push (map lines_in workers) (lines_in taken.part) read.front.workers_lines t.own);
    few = omega (arith, not_full, read.front.few, length-map workers lines_in, length-map (workers ++ taken.part ∷ []) lines_in, length-append workers (taken.part ∷ []));
  };
  stopped = t.stopped;
  begins = read.begins;
  numbered = numbered_push workers taken.part (1 + length (lines_in before)) read.numbered
      (omega (arith, t.begins, read.number_is, length-append (lines_in before) (worker_lines (map lines_in workers))));
  number_is = omega (arith, t.ends, read.number_is, ap length (front-push before workers taken.part), length-append (front_lines before workers) (thread_line ∷ lines_in taken.part));
  bound = omega (arith, t.bound, read.bound, shorter);
}

-- a worker more than there may be
pub full_bad : (script : List ℕ) (before : Part) (workers : List Part) (rest : List ℕ) (number : ℕ) (behind : List ℕ)
    → IsReadTo script before workers rest number → lines_of rest ≡ thread_line ∷ lines_of behind → length workers ≡ most_workers → IsBadLine (lines_of script) number
full_bad script before workers rest number behind read e full =
    bad_thread (lines_in before) (map lines_in workers) (lines_of behind) (lines_of script) number read.front
    (read.whole ∙ ap (λ ls. front_lines before workers ++ ls) e) (length-map workers lines_in ∙ full) read.number_is

-- whether there are workers
pub record Tells (has_workers : Bool) (workers : List Part) : Type 0 where
  pub some : has_workers ≡ true → workers ≢ []
  pub none : has_workers ≡ false → workers ≡ []

pub tells_from : (empty : Bool) (workers : List Part) (count : ℕ) → empty ≡ eqb count 0 → length workers ≡ count → Tells (not empty) workers
tells_from true workers count e l = record { some = λ t. cc; none = λ t. nil_from_length workers (l ∙ eqb-true count 0 (sym e)) }
tells_from false [] count e l = record { some = λ t. absurd (both_ways (eqb count 0) (sym e) (eq-eqb count 0 (sym l))); none = λ t. cc }
tells_from false (first ∷ workers) count e l = record { some = λ t. (λ none. cc); none = λ t. cc }

mapped_some : (workers : List Part) → workers ≢ [] → map lines_in workers ≢ []
mapped_some [] some e = some refl
mapped_some (first ∷ workers) some e = cc

-- a line in a wrong place is bad
pub misplaced_bad : (script : List ℕ) (before : Part) (workers : List Part) (rest : List ℕ) (number : ℕ) (has_workers : Bool) (bad : ℕ)
    → IsReadTo script before workers rest number → ((more : Lines) → lines_of rest ≢ thread_line ∷ more) → Tells has_workers workers
    → IsMisplaced has_workers (lines_of rest) number bad → IsBadLine (lines_of script) bad
misplaced_bad script before workers rest number has_workers bad read no_thread tells (inl (line, more, e, alone, is)) =
    bad_behind_workers (lines_in before) (map lines_in workers) line more (lines_of script) bad read.front
    (read.whole ∙ ap (λ ls. front_lines before workers ++ ls) e) (subst IsStopped e read.stopped)
    (λ t. no_thread more (e ∙ ap (λ (l : List ℕ). l ∷ more) t))
    (λ j. ap (map lines_in) (tells.none (alone j)))
    (is ∙ read.number_is)
misplaced_bad script before workers rest number has_workers bad read no_thread tells (inr (good, line, more, has, e, l, no_seat, is)) =
    bad_behind_join (lines_in before) (map lines_in workers) good line more (lines_of script) bad read.front (mapped_some workers (tells.some has))
    (read.whole ∙ ap (λ ls. front_lines before workers ++ ls) e) l no_seat
    (omega (arith, is, read.number_is))

-- a line behind what follows the workers is misplaced: the first there, and the first that stops what stands behind `join`
pub first_misplaced : (bytes : List ℕ) (number : ℕ) (has_workers : Bool) → (length bytes ≡ 0 → ⊥)
    → ((more : Lines) → lines_of bytes ≡ join_line ∷ more → has_workers ≡ false) → IsMisplaced has_workers (lines_of bytes) number number
first_misplaced bytes number has_workers some alone =
    let first = some_line bytes some in
    inl (first.0, first.1, first.2, (λ j. alone first.1 (first.2 ∙ ap (λ (l : List ℕ). l ∷ first.1) j)), refl)

pub later_misplaced : (bytes behind : List ℕ) (number : ℕ) (taken : Taken) → lines_of bytes ≡ join_line ∷ lines_of behind → IsTaken behind (number + 1) taken
    → (length taken.rest.now ≡ 0 → ⊥) → IsMisplaced true (lines_of bytes) number taken.number
later_misplaced bytes behind number taken e t some =
    let first = some_line taken.rest.now some in
    inr (
      lines_in taken.part,
      first.0,
      first.1,
      refl,
      e ∙ ap (λ ls. join_line ∷ ls) (t.whole ∙ ap (λ ls. lines_in taken.part ++ ls) first.2),
      t.own,
      subst IsStopped first.2 t.stopped,
      t.ends,
    )

-- where what follows the workers is a part, its lines end with the script
behind_numbered : (script : List ℕ) (before : Part) (workers : List Part) (rest : List ℕ) (number : ℕ) (has_workers : Bool) (part : Part)
    → IsReadTo script before workers rest number → IsBehind has_workers (lines_of rest) number part → part.first + length (lines_in part) ≡ length (lines_of script) + 1
behind_numbered script before workers rest number has_workers part read (inl (e, none, is)) =
    omega (arith, is, read.number_is, ap length none, ap length e, ap length read.whole, length-append (front_lines before workers) (lines_of rest))
behind_numbered script before workers rest number has_workers part read (inr (has, e, l, is)) =
    omega (arith, is, read.number_is, ap length e, ap length read.whole, length-append (front_lines before workers) (lines_of rest))

behind_own : (has_workers : Bool) (lines : Lines) (number : ℕ) (part : Part) → IsBehind has_workers lines number part → AreSeatLines (lines_in part)
behind_own has_workers lines number part (inl (e, none, is)) = subst AreSeatLines (sym none) tt
behind_own has_workers lines number part (inr (has, e, l, is)) = l

-- each part can be run
workers_runnable : (size number : ℕ) (workers : List Part) → AllByRecursion AreSeatLines (map lines_in workers) → WorkersAreNumbered number workers
    → number + length (worker_lines (map lines_in workers)) ≤ size + 1 → AllByRecursion (IsRunnable size) workers
workers_runnable size number [] l n bound = tt
workers_runnable size number (first ∷ workers) l n bound =
    let long = length-append (lines_in first) (worker_lines (map lines_in workers)) in
    ((l.0, omega (arith, n.0, bound, long)), workers_runnable size (number + 1 + length (lines_in first)) workers l.1 n.1 (omega (arith, bound, long)))

pub behind_runnable : (script : List ℕ) (before : Part) (workers : List Part) (rest : List ℕ) (number : ℕ) (has_workers : Bool) (part : Part)
    → IsReadTo script before workers rest number → IsBehind has_workers (lines_of rest) number part
    → IsRunnable (length script) before × All (IsRunnable (length script)) workers × IsRunnable (length script) part
behind_runnable script before workers rest number has_workers part read is =
    let few = length-lines_of script in
    let long = ap length read.whole in
    let parts = length-append (front_lines before workers) (lines_of rest) in
    let front = length-append (lines_in before) (worker_lines (map lines_in workers)) in (
      (read.front.before_lines, omega (arith, read.begins, few, long, parts, front)),
      All-from_recursion (IsRunnable (length script)) workers
          (workers_runnable (length script) (1 + length (lines_in before)) workers read.front.workers_lines read.numbered (omega (arith, few, long, parts, front))),
      (behind_own has_workers (lines_of rest) number part is, omega (arith, few, behind_numbered script before workers rest number has_workers part read is)),
    )
