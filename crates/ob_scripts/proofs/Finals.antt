-- Opens that wait when a script ends can all be given up, one after another, and that is a run.
use Rattle.std.proofs.Common.{◌≡◌, ◌∙◌, ℕ, suc, ◌+◌, ◌<◌, List, [], ◌∷◌, ◌++◌, map, All, None, Some, inl, inr, ◌⊎◌, refl, ap, sym, subst, arith}
use Rattle.std.specs.Prelude.{MatchOption}
use Rattle.std.specs.List.{AllPairs}
use Rattle.std.proofs.lemmas.List.Elements.{All-head, All-tail, All-weaker}
use Rattle.ob_base.specs.declared.status.Status.TheVariants.{Success}
use Rattle.ob_model.specs.declared.reply.Answer.{Answer}
use Rattle.ob_model.specs.declared.reply.Event.TheVariants.{Start, Resume, Abandon}
use Rattle.ob_model.specs.declared.reply.ParseRun.TheVariants as run
use Rattle.ob_model.specs.Parses.{Abandons, IsParsed, parsed_state}
use Rattle.ob_model.specs.Procedures.{ParseEnds}
use Rattle.ob_model.specs.Refusals.{answers}
use Rattle.ob_model.specs.Run.{RunFrom}
use Rattle.ob_model.specs.Settle.{settle}
use Rattle.ob_model.specs.Sound.{IsSound}
use Rattle.ob_model.specs.Step.{Step}
use Rattle.ob_model.proofs.ParseRuns.{parse_total}
use Rattle.ob_model.proofs.Steps.{step_sound}
use Rattle.ob_model.proofs.Total.{step_total}
use Rattle.ob_effects.specs.Begun.{GivesAllUp}
use Rattle.ob_runner.specs.Completes.{step_of}
use Rattle.ob_runner.proofs.Chains.{entered, behind as count_behind, falters_run, gives_up_run}
use Rattle.ob_standard.specs.Standard.{standard}
use Rattle.ob_standard.proofs.Fronts.{standard_front}
use Rattle.ob_lines.specs.declared.pending.PendingForm.{PendingForm}
use Rattle.ob_lines.specs.declared.pending.PendingForm.TheVariants as pending
use Rattle.ob_lines.specs.declared.request.Request.{Request}
use Rattle.ob_requests.specs.Variables.{Variables}
use Rattle.ob_effects.specs.Machine.{Space}
use Rattle.ob_effects.specs.Kept.{WaitsUnder, AreWaiting}
use Rattle.ob_effects.specs.Effects.{WantsMemory}
use Rattle.ob_effects.specs.Waiting.{Steps, IsUnderVariable, FindsNone, GiveAllUp, given_up}
use Rattle.ob_effects.proofs.Awaiting.{goes_on_waiting}
use Rattle.ob_scripts.specs.Shown.{Entries, AreOfSeat0}

-- what waits can be given up
pub abandon_total : (s : Space) (n p : ℕ) → WaitsUnder s n p → (t : Space) × Step standard s (Abandon n run.Unrun) (answers Success) t
abandon_total s n p (x, face, found, has, theirs, parses) = (
  settle standard (parsed_state s x.ticket None),
  (
    None,
    subst (λ o. MatchOption o ⊥ (λ y. IsParsed standard s y run.Unrun None)) (sym found) refl,
    subst (λ o. MatchOption o ⊥ (λ y. Abandons standard s y None (answers Success) (settle standard (parsed_state s x.ticket None)))) (sym found) (refl, refl),
  ),
)

-- and its parse has an end, with which it can be resumed
pub resume_total : (s : Space) (n p : ℕ) → IsSound s → WaitsUnder s n p → (a : Answer) × (t : Space) × Step standard s (Resume n run.Ran) a t
resume_total s n p sound (x, face, found, has, theirs, parses) =
    let ends = parse_total standard standard_front face x.rest in
    step_total standard s (Resume n run.Ran) (Some ends.0) sound
    (subst (λ o. MatchOption o ⊥ (λ y. IsParsed standard s y run.Ran (Some ends.0))) (sym found)
    (subst (λ o. MatchOption o ⊥ (λ f. ParseEnds standard f x.rest ends.0)) (sym has) ends.1))

-- an open of some process waits
abbrev pub WaitsSomewhere : Space → ℕ → Type 0
WaitsSomewhere s n = (p : ℕ) × WaitsUnder s n p

-- so all that wait can be given up, by rising tickets
pub give_all_total : (tickets : List ℕ) (s : Space) → IsSound s → All (WaitsSomewhere s) tickets → AllPairs (λ a b. a < b) tickets → (t : Space) × GivesAllUp standard tickets s t
give_all_total [] s sound waits rising = (s, refl)
give_all_total (n ∷ tickets) s sound waits rising =
    let first = All-head (WaitsSomewhere s) n tickets waits in
    let step = abandon_total s n first.0 first.1 in
    let u = step.0 in
    let later : All (WaitsSomewhere u) tickets =
    λ i d inside.
    (let one = All-tail (WaitsSomewhere s) n tickets waits i d inside in (
      one.0,
      goes_on_waiting s u (Abandon n run.Unrun) (answers Success) _ one.0 sound (λ same. omega (arith, same, rising 0 (suc i) d (omega arith) (omega (arith, inside)))) step.1 one.1,
    )) in
    let rest = give_all_total tickets u (step_sound standard s u (Abandon n run.Unrun) (answers Success) sound step.1) later (λ i j d before inside. rising (suc i) (suc j) d (omega (arith, before)) (omega (arith, inside))) in
    (rest.0, (u, step.1, rest.1))

-- that is a run
pub given_up_run : (tickets : List ℕ) (s t : Space) (count : ℕ) → GivesAllUp standard tickets s t → RunFrom standard s count (entered count (map given_up tickets)) t
given_up_run [] s t count same = same
given_up_run (n ∷ tickets) s t count (u, step, more) = (u, refl, step, given_up_run tickets u t (count + 1) more)

entered_seats : (count : ℕ) (steps : Steps) → AreOfSeat0 (entered count steps)
entered_seats count [] = tt
entered_seats count (step ∷ steps) = (refl, entered_seats (count + 1) steps)

steps_entered : (count : ℕ) (steps : Steps) → map step_of (entered count steps) ≡ steps
steps_entered count [] = refl
steps_entered count (step ∷ steps) = ap (λ xs. step ∷ xs) (steps_entered (count + 1) steps)

-- the end of a script
pub finals_total : (s : Space) (variables : Variables) (tickets : List ℕ) (count : ℕ) → IsSound s → AreWaiting s variables tickets
    → (entries : Entries) × (t : Space) × RunFrom standard s count entries t × AreOfSeat0 entries × GiveAllUp variables s (map step_of entries)
finals_total s variables tickets count sound waiting =
    let given = give_all_total tickets s sound waits waiting.listed.rising in (
      entered count (map given_up tickets),
      given.0,
      given_up_run tickets s given.0 count given.1,
      entered_seats count (map given_up tickets),
      (tickets, given.0, waiting.listed, given.1, steps_entered count (map given_up tickets)),
    )
  where
    one : (n : ℕ) → IsUnderVariable variables.tickets n → WaitsSomewhere s n
    one n (some, (p, w, e)) = go (waiting.theirs p w)
      where
        go : (variables.tickets p w ≡ 0) ⊎ WaitsUnder s (variables.tickets p w) p → WaitsSomewhere s n
        go (inl none) = absurd (some (sym e ∙ none))
        go (inr waits) = (p, subst (λ k. WaitsUnder s k p) e waits)

    waits : All (WaitsSomewhere s) tickets
    waits = All-weaker (IsUnderVariable variables.tickets) (WaitsSomewhere s) one tickets waiting.listed.held

-- ---- the run goes on after the steps of a line that found no memory

pub wanting_run : (s s' : Space) (variables : Variables) (p : ℕ) (request : Request (List ℕ)) (steps : Steps) (count : ℕ) → WantsMemory request p variables steps s s'
    → (entries : Entries) (t : Space) → RunFrom standard s' (count_behind count steps) entries t → RunFrom standard s count (entered count steps ++ entries) t
wanting_run s s' variables p request steps count (inl (none, same, grows)) entries t run =
    subst (λ x. RunFrom standard s count (entered count x ++ entries) t) (sym none)
    (subst (λ x. RunFrom standard x count entries t) same (subst (λ x. RunFrom standard s' (count_behind count x) entries t) none run))
wanting_run s s' variables p request steps count (inr (c, command, falters)) entries t run = falters_run standard (Start p c) steps s s' count entries t falters run

pub stopped_run : (s s' : Space) (variables variables' : Variables) (p : ℕ) (line : PendingForm (List ℕ)) (steps : Steps) (count : ℕ) → FindsNone line variables p steps s s' variables'
    → (entries : Entries) (t : Space) → RunFrom standard s' (count_behind count steps) entries t → RunFrom standard s count (entered count steps ++ entries) t
stopped_run s s' variables variables' p (pending.Begin want name attrs variable) steps count (inl (none, same), left) entries t run =
    subst (λ x. RunFrom standard s count (entered count x ++ entries) t) (sym none)
    (subst (λ x. RunFrom standard x count entries t) same (subst (λ x. RunFrom standard s' (count_behind count x) entries t) none run))
stopped_run s s' variables variables' p (pending.Begin want name attrs variable) steps count (inr (c, command, falters), left) entries t run =
    falters_run standard (Start p c) steps s s' count entries t falters run
stopped_run s s' variables variables' p (pending.End variable) steps count (inl (none, same, left)) entries t run =
    subst (λ x. RunFrom standard s count (entered count x ++ entries) t) (sym none)
    (subst (λ x. RunFrom standard x count entries t) same (subst (λ x. RunFrom standard s' (count_behind count x) entries t) none run))
stopped_run s s' variables variables' p (pending.End variable) steps count (inr (gives_up, left)) entries t run =
    gives_up_run standard (variables.tickets p variable) steps s s' count entries t gives_up run
stopped_run s s' variables variables' p (pending.Drop variable) steps count h entries t run = absurd h
