-- Lines that are all right are those of a script that can be cut.
use Rattle.std.proofs.Common.{◌≡◌, ◌≢◌, ◌⊎◌, ℕ, ◌+◌, ◌<◌, ◌≤◌, inl, inr, List, [], ◌∷◌, ◌++◌, length, refl, ap, sym, subst, ◌∙◌, append_assoc, arith}
use Rattle.std.specs.List.{AllByRecursion}
use Rattle.ob_worker_lines.specs.declared.phase.Phase.{Phase}
use Rattle.ob_worker_lines.specs.declared.phase.Phase.TheVariants.{Before, Worker, After}
use Rattle.ob_worker_lines.specs.Cuts.{AreSeatLines, CanBeCut, IsCut, IsEnd, IsSeatLine, Lines, join_line, most_workers, thread_line, worker_lines}
use Rattle.ob_worker_lines.specs.Phases.{AreRight, BeginsWorker, RightScriptsAreCut}

cons_same : (a b : List ℕ) (xs ys : Lines) → a ≡ b → xs ≡ ys → a ∷ xs ≡ b ∷ ys
cons_same a b xs ys e f = cc

moved_on : (p q : Phase) (lines : Lines) → p ≡ q → AreRight p lines → AreRight q lines
moved_on p q lines e r = subst (λ x. AreRight x lines) e r

-- the lines after `join` are lines of a seat
after_right : (lines : Lines) → AreRight After lines → AreSeatLines lines
after_right [] r = tt
after_right (l ∷ ls) (next, inl (seat, e), more) = (seat, after_right ls (moved_on next After ls e more))
after_right (l ∷ ls) (next, inr (inl (e, none)), more) = absurd none
after_right (l ∷ ls) (next, inr (inr (e, none)), more) = absurd none

-- the end of a script: nothing, or `join` and what follows it
abbrev IsTail : Lines → Lines → Type 0
IsTail behind end = ((end ≡ []) × (behind ≡ [])) ⊎ (end ≡ join_line ∷ behind)

-- lines from among those of the worker of this number on: the rest of its own, those of the workers after it, and the end
record WorkerRun (number : ℕ) (lines : Lines) : Type 0 where
  own : Lines
  workers : List Lines
  behind : Lines
  end : Lines
  whole : lines ≡ own ++ (worker_lines workers ++ end)
  tail : IsTail behind end
  own_lines : AreSeatLines own
  workers_lines : AllByRecursion AreSeatLines workers
  behind_lines : AreSeatLines behind
  few : number + length workers ≤ most_workers

worker_right : (number : ℕ) (lines : Lines) → number ≤ most_workers → AreRight (Worker number) lines → WorkerRun number lines
worker_right n [] few r = record {
  own = [];
  workers = [];
  behind = [];
  end = [];
  whole = refl;
  tail = inl (refl, refl);
  own_lines = tt;
  workers_lines = tt;
  behind_lines = tt;
  few = omega (arith, few);
}
worker_right n (l ∷ ls) few (next, inl (seat, e), more) =
    let r = worker_right n ls few (moved_on next (Worker n) ls e more) in
    record {
      own = l ∷ r.own;
      workers = r.workers;
      behind = r.behind;
      end = r.end;
      whole = ap (λ (z : Lines). l ∷ z) r.whole;
      tail = r.tail;
      own_lines = (seat, r.own_lines);
      workers_lines = r.workers_lines;
      behind_lines = r.behind_lines;
      few = r.few;
    }
worker_right n (l ∷ ls) few (next, inr (inl (t, (less, e))), more) =
    let r = worker_right (n + 1) ls (omega (arith, less)) (moved_on next (Worker (n + 1)) ls e more) in
    record {
      own = [];
      workers = r.own ∷ r.workers;
      behind = r.behind;
      end = r.end;
      whole = cons_same l thread_line ls ((r.own ++ worker_lines r.workers) ++ r.end) t (r.whole ∙ sym (append_assoc r.own (worker_lines r.workers) r.end));
      tail = r.tail;
      own_lines = tt;
      workers_lines = (r.own_lines, r.workers_lines);
      behind_lines = r.behind_lines;
      few = omega (arith, r.few);
    }
worker_right n (l ∷ ls) few (next, inr (inr (j, e)), more) = record {
  own = [];
  workers = [];
  behind = ls;
  end = join_line ∷ ls;
  whole = cons_same l join_line ls ls j refl;
  tail = inr refl;
  own_lines = tt;
  workers_lines = tt;
  behind_lines = after_right ls (moved_on next After ls e more);
  few = omega (arith, few);
}

some_workers : (w : Lines) (ws : List Lines) → w ∷ ws ≢ []
some_workers w ws e = cc

tail_end : (w : Lines) (ws : List Lines) (behind end : Lines) → IsTail behind end → IsEnd (w ∷ ws) behind end
tail_end w ws behind end (inl e) = inl e
tail_end w ws behind end (inr e) = inr (some_workers w ws, e)

right_cut : (lines : Lines) → AreRight Before lines → CanBeCut lines
right_cut [] r = (
  [],
  [],
  [],
  record {
    end = [];
    joined = inl (refl, refl);
    whole = refl;
    before_lines = tt;
    workers_lines = tt;
    behind_lines = tt;
    few = omega arith;
  },
)
right_cut (l ∷ ls) (next, inl (seat, e), more) =
    let r = right_cut ls (moved_on next Before ls e more) in (
      l ∷ r.0,
      r.1,
      r.2,
      record {
        end = r.3.end;
        joined = r.3.joined;
        whole = ap (λ (z : Lines). l ∷ z) r.3.whole;
        before_lines = (seat, r.3.before_lines);
        workers_lines = r.3.workers_lines;
        behind_lines = r.3.behind_lines;
        few = r.3.few;
      },
    )
right_cut (l ∷ ls) (next, inr (inl (t, e)), more) =
    let r = worker_right 1 ls (omega arith) (moved_on next (Worker 1) ls e more) in (
      [],
      r.behind,
      r.own ∷ r.workers,
      record {
        end = r.end;
        joined = tail_end r.own r.workers r.behind r.end r.tail;
        whole = cons_same l thread_line ls ((r.own ++ worker_lines r.workers) ++ r.end) t (r.whole ∙ sym (append_assoc r.own (worker_lines r.workers) r.end));
        before_lines = tt;
        workers_lines = (r.own_lines, r.workers_lines);
        behind_lines = r.behind_lines;
        few = omega (arith, r.few);
      },
    )
right_cut (l ∷ ls) (next, inr (inr (j, none)), more) = absurd none

-- lines of a seat are right in each phase, which they leave as it is
seats_right : (phase : Phase) (lines rest : Lines) → AreSeatLines lines → AreRight phase rest → AreRight phase (lines ++ rest)
seats_right phase [] rest seats r = r
seats_right phase (l ∷ ls) rest (seat, seats) r = (phase, inl (seat, refl), seats_right phase ls rest seats r)

all_right : (lines : Lines) → AreSeatLines lines → AreRight After lines
all_right [] seats = tt
all_right (l ∷ ls) (seat, seats) = (After, inl (seat, refl), all_right ls seats)

-- so is the end after the lines of a worker
end_right : (number : ℕ) (workers : List Lines) (behind end : Lines) → AreSeatLines behind → IsEnd workers behind end → AreRight (Worker number) end
end_right n ws behind end seats (inl (e, f)) = subst (AreRight (Worker n)) (sym e) tt
end_right n ws behind end seats (inr (some, e)) = subst (AreRight (Worker n)) (sym e) (After, inr (inr (refl, refl)), all_right behind seats)

-- and are the lines of workers, where there are no more than there may be
begun_right : (phase : Phase) (number : ℕ) (own : Lines) (workers : List Lines) (end : Lines) → BeginsWorker phase (Worker number) → AreSeatLines own
    → AreRight (Worker number) (worker_lines workers ++ end) → AreRight phase (worker_lines (own ∷ workers) ++ end)
begun_right phase n own ws end begins seats r =
    let assoc : (own ++ worker_lines ws) ++ end ≡ own ++ (worker_lines ws ++ end) = append_assoc own (worker_lines ws) end in
    (Worker n, inr (inl (refl, begins)), subst (AreRight (Worker n)) (sym assoc) (seats_right (Worker n) own (worker_lines ws ++ end) seats r))

workers_right : (number : ℕ) (workers : List Lines) (end : Lines) → number + length workers ≤ most_workers → AllByRecursion AreSeatLines workers
    → ((m : ℕ) → AreRight (Worker m) end) → AreRight (Worker number) (worker_lines workers ++ end)
workers_right n [] end few seats r = r n
workers_right n (w ∷ ws) end few (own, seats) r =
    begun_right (Worker n) (n + 1) w ws end (omega (arith, few), refl) own (workers_right (n + 1) ws end (omega (arith, few)) seats r)

first_right : (workers : List Lines) (behind end : Lines) → length workers ≤ most_workers → AllByRecursion AreSeatLines workers → AreSeatLines behind
    → IsEnd workers behind end → AreRight Before (worker_lines workers ++ end)
first_right [] behind end few seats last (inl (e, f)) = subst (AreRight Before) (sym e) tt
first_right [] behind end few seats last (inr (some, e)) = absurd (some refl)
first_right (w ∷ ws) behind end few (own, seats) last is =
    begun_right Before 1 w ws end refl own (workers_right 1 ws end (omega (arith, few)) seats (λ m. end_right m (w ∷ ws) behind end last is))

cut_right : (lines : Lines) → CanBeCut lines → AreRight Before lines
cut_right lines (before, behind, workers, cut) =
    let whole : lines ≡ before ++ (worker_lines workers ++ cut.end) = cut.whole ∙ append_assoc before (worker_lines workers) cut.end in
    subst (AreRight Before) (sym whole)
    (seats_right Before before (worker_lines workers ++ cut.end) cut.before_lines
    (first_right workers behind cut.end cut.few cut.workers_lines cut.behind_lines cut.joined))

pub rights_cut : RightScriptsAreCut
rights_cut lines = (right_cut lines, cut_right lines)
