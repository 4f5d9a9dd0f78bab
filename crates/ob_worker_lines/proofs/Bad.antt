-- Lines that stand in a wrong place: behind the lines of workers, and behind `join`.
use Rattle.std.proofs.Common.{◌≡◌, ◌≢◌, ℕ, ◌+◌, ◌<◌, ◌≤◌, inl, inr, List, [], ◌∷◌, ◌++◌, length, drop, refl, sym, ap, subst, ◌∙◌, append_assoc, append-nil, length-append, arith}
use Rattle.std.specs.List.{AllByRecursion}
use Rattle.ob_worker_lines.specs.Cuts.{Lines, thread_line, join_line, most_workers, IsSeatLine, AreSeatLines, worker_lines, IsEnd, IsCut, CanBeCut, IsBadLine, ScriptsHaveOneBadLine}
use Rattle.ob_worker_lines.proofs.Apart.{thread_no_seat_line, join_no_seat_line, join_no_thread}
use Rattle.ob_worker_lines.proofs.Alike.{GoesOn, cut_goes_on, none_more}

-- the lines of seat 0 and of workers, with what follows them
pub record IsFront (before : Lines) (workers : List Lines) : Type 0 where
  pub before_lines : AreSeatLines before
  pub workers_lines : AllByRecursion AreSeatLines workers
  pub few : length workers ≤ most_workers

-- they are cut, alone and with `join` and lines behind it
pub front_cut : (before : Lines) (workers : List Lines) → IsFront before workers → IsCut (before ++ worker_lines workers) before workers []
front_cut before workers f = record {
  end = [];
  joined = inl (refl, refl);
  whole = sym (append-nil (before ++ worker_lines workers));
  before_lines = f.before_lines;
  workers_lines = f.workers_lines;
  behind_lines = tt;
  few = f.few;
}

pub joined_cut : (before : Lines) (workers : List Lines) (behind : Lines) → IsFront before workers → workers ≢ [] → AreSeatLines behind
    → IsCut (before ++ worker_lines workers ++ join_line ∷ behind) before workers behind
joined_cut before workers behind f some l = record {
  end = join_line ∷ behind;
  joined = inr (some, refl);
  whole = refl;
  before_lines = f.before_lines;
  workers_lines = f.workers_lines;
  behind_lines = l;
  few = f.few;
}

-- what follows the workers begins with `join`, where it begins with no `thread`
pub follows_join : (before : Lines) (workers : List Lines) (line : List ℕ) (rest before' : Lines) (workers' : List Lines) (behind' : Lines)
    → ¬ (line ≡ thread_line) → GoesOn before workers (line ∷ rest) before' workers' behind' → (workers' ≡ workers) × (workers' ≢ []) × (line ∷ rest ≡ join_line ∷ behind')
follows_join before workers line rest before' workers' behind' no_thread on = go on.joined
  where
    none : (on.more ≡ []) × (line ∷ rest ≡ on.end)
    none = none_more on.more (line ∷ rest) on.end no_thread on.rest_is

    go : IsEnd workers' behind' on.end → (workers' ≡ workers) × (workers' ≢ []) × (line ∷ rest ≡ join_line ∷ behind')
    go (inl (e, b)) = let nothing : line ∷ rest ≡ [] = none.1 ∙ e in cc
    go (inr (some, e)) = (on.workers_are ∙ (ap (λ m. workers ++ m) none.0 ∙ append-nil workers), some, none.1 ∙ e)

-- a line behind the workers that is no line of any script, or a `join` with no worker before it
pub bad_behind_workers : (before : Lines) (workers : List Lines) (line : List ℕ) (rest lines : Lines) (number : ℕ) → IsFront before workers → lines ≡ before ++ worker_lines workers ++ line ∷ rest
    → ¬ IsSeatLine line → ¬ (line ≡ thread_line) → (line ≡ join_line → workers ≡ []) → number ≡ length (before ++ worker_lines workers) + 1 → IsBadLine lines number
bad_behind_workers before workers line rest lines number f e no_seat no_thread alone is = record {
  good = before ++ worker_lines workers;
  line = line;
  rest = rest;
  whole = e;
  number_is = is;
  cut = (before, [], workers, front_cut before workers f);
  wrong = wrong;
}
  where
    wrong : (more : Lines) → ¬ CanBeCut (before ++ worker_lines workers ++ line ∷ more)
    wrong more (before', behind', workers', cut) =
        let on = cut_goes_on before workers (line ∷ more) (before ++ worker_lines workers ++ line ∷ more) before' workers' behind' f.before_lines f.workers_lines no_seat refl cut in
        let joined = follows_join before workers line more before' workers' behind' no_thread on in
        let here : line ≡ join_line = cc in joined.1 (joined.0 ∙ alone here)

-- a `thread` more than there may be
pub bad_thread : (before : Lines) (workers : List Lines) (rest lines : Lines) (number : ℕ) → IsFront before workers → lines ≡ before ++ worker_lines workers ++ thread_line ∷ rest
    → length workers ≡ most_workers → number ≡ length (before ++ worker_lines workers) + 1 → IsBadLine lines number
bad_thread before workers rest lines number f e full is = record {
  good = before ++ worker_lines workers;
  line = thread_line;
  rest = rest;
  whole = e;
  number_is = is;
  cut = (before, [], workers, front_cut before workers f);
  wrong = wrong;
}
  where
    too_many : (more end behind' : Lines) (workers' more' : List Lines) → length workers' ≤ most_workers → workers' ≡ workers ++ more' → IsEnd workers' behind' end
        → thread_line ∷ more ≡ worker_lines more' ++ end → ⊥
    too_many more end behind' workers' [] few are (inl (e, b)) s = let nothing : thread_line ∷ more ≡ [] = s ∙ e in cc
    too_many more end behind' workers' [] few are (inr (some, e)) s =
        let both : thread_line ∷ more ≡ join_line ∷ behind' = s ∙ e in let here : join_line ≡ thread_line = cc in join_no_thread here
    too_many more end behind' workers' (lines ∷ more') few are joined s =
        omega (arith, full, few, ap length are ∙ length-append workers (lines ∷ more'))

    wrong : (more : Lines) → ¬ CanBeCut (before ++ worker_lines workers ++ thread_line ∷ more)
    wrong more (before', behind', workers', cut) =
        let on = cut_goes_on before workers (thread_line ∷ more) (before ++ worker_lines workers ++ thread_line ∷ more) before' workers' behind' f.before_lines f.workers_lines thread_no_seat_line refl cut in
        too_many more on.end behind' workers' on.more cut.few on.workers_are on.joined on.rest_is

-- a line behind `join` that is no line of a seat
seat_line_among : (good : Lines) (line : List ℕ) (more : Lines) → AreSeatLines (good ++ line ∷ more) → IsSeatLine line
seat_line_among [] line more l = l.0
seat_line_among (first ∷ good) line more l = seat_line_among good line more l.1

pub bad_behind_join : (before : Lines) (workers : List Lines) (good : Lines) (line : List ℕ) (rest lines : Lines) (number : ℕ) → IsFront before workers → workers ≢ []
    → lines ≡ before ++ worker_lines workers ++ (join_line ∷ good ++ line ∷ rest) → AreSeatLines good → ¬ IsSeatLine line
    → number ≡ length (before ++ worker_lines workers) + 1 + 1 + length good → IsBadLine lines number
bad_behind_join before workers good line rest lines number f some e l no_seat is = record {
  good = before ++ worker_lines workers ++ join_line ∷ good;
  line = line;
  rest = rest;
  whole = e ∙ sym (append_assoc front (join_line ∷ good) (line ∷ rest));
  number_is = omega (arith, is, length-append front (join_line ∷ good));
  cut = (before, good, workers, joined_cut before workers good f some l);
  wrong = wrong;
}
  where
    front : Lines
    front = before ++ worker_lines workers

    wrong : (more : Lines) → ¬ CanBeCut (before ++ worker_lines workers ++ join_line ∷ good ++ line ∷ more)
    wrong more (before', behind', workers', cut) =
        let s : Lines = join_line ∷ good ++ line ∷ more in
        let on = cut_goes_on before workers s (before ++ worker_lines workers ++ join_line ∷ good ++ line ∷ more) before' workers' behind' f.before_lines f.workers_lines join_no_seat_line
        (append_assoc (before ++ worker_lines workers) (join_line ∷ good) (line ∷ more)) cut in
        let joined = follows_join before workers join_line (good ++ line ∷ more) before' workers' behind' join_no_thread on in
        let behind : good ++ line ∷ more ≡ behind' = ap (drop 1) joined.2 in
        no_seat (seat_line_among good line more (subst AreSeatLines (sym behind) cut.behind_lines))

-- of two places in a list the later one stands behind the earlier one and its element
placed_behind : (a b : Lines) (x y : List ℕ) (s t : Lines) → a ++ x ∷ s ≡ b ++ y ∷ t → length a < length b → (more : Lines) × (b ≡ a ++ x ∷ more)
placed_behind [] [] x y s t e l = absurd (omega (arith, l))
placed_behind [] (z ∷ b) x y s t e l = let here : z ≡ x = cc in (b, ap (λ (h : List ℕ). h ∷ b) here)
placed_behind (z ∷ a) [] x y s t e l = absurd (omega (arith, l))
placed_behind (z ∷ a) (w ∷ b) x y s t e l =
    let here : w ≡ z = cc in
    let more = placed_behind a b x y s t (ap (drop 1) e) (omega (arith, l)) in
    let later : b ≡ a ++ x ∷ more.0 = more.1 in
    (more.0, cc)

-- no bad line stands behind another
none_later : (lines : Lines) (number number' : ℕ) (bad : IsBadLine lines number) (other : IsBadLine lines number') → length bad.good < length other.good → ⊥
none_later lines number number' bad other l =
    let more = placed_behind bad.good other.good bad.line other.line bad.rest other.rest (sym bad.whole ∙ other.whole) l in
    bad.wrong more.0 (subst CanBeCut more.1 other.cut)

pub bad_alike : ScriptsHaveOneBadLine
bad_alike lines number number' bad other =
    let not_before : length bad.good < length other.good → ⊥ = none_later lines number number' bad other in
    let not_behind : length other.good < length bad.good → ⊥ = none_later lines number' number other bad in
    omega (arith, not_before, not_behind, bad.number_is, other.number_is)
