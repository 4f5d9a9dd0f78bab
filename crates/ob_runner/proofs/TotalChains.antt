-- In a sound state, with a lawful set of types, each command comes to a reply by parses that find memory: the object of
-- each open that waits parses, and the open has fewer reparses left each time that it is resumed.
use Rattle.std.proofs.Common.{◌≡◌, ℕ, zero, suc, ◌<◌, true, List, [], ◌∷◌, refl, sym, subst, arith}
use Rattle.std.specs.Prelude.{Option, None, Some, MatchOption}
use Rattle.ob_model.specs.declared.command.Command.{Command}
use Rattle.ob_model.specs.declared.reply.Answer.{Answer}
use Rattle.ob_model.specs.declared.reply.Answer.TheVariants.{Done, Ticket}
use Rattle.ob_model.specs.declared.reply.Event.{Event}
use Rattle.ob_model.specs.declared.reply.Event.TheVariants.{Start, Resume}
use Rattle.ob_model.specs.declared.reply.ParseRun.TheVariants as run
use Rattle.ob_model.specs.declared.reply.Reply.{Reply}
use Rattle.ob_model.specs.declared.state.PendingOpen.{PendingOpen}
use Rattle.ob_model.specs.Parses.{IsParsed, IsBrought}
use Rattle.ob_model.specs.PendingOpens.{face_of, pending_of}
use Rattle.ob_model.specs.Procedures.{Procedures, ParseOutcome, ParseEnds, FrontIsUsed}
use Rattle.ob_model.specs.Sound.{IsSound}
use Rattle.ob_model.specs.State.{State}
use Rattle.ob_model.specs.Step.{Step}
use Rattle.ob_model.proofs.ParseRuns.{parse_total}
use Rattle.ob_model.proofs.Steps.{step_sound}
use Rattle.ob_model.proofs.Total.{start_total, step_total}
use Rattle.ob_model.proofs.Vacant.{IsParsing}
use Rattle.ob_runner.specs.Completes.{Made, Completes, FindsMemory, FindMemory}
use Rattle.ob_runner.proofs.Fewer.{left_to, BeginsFor, waits_for, start_begins, step_begins, step_leaves_fewer}

module _ {K T F I : Type 0} (g : Procedures K T F I) where
  -- an event comes to a reply, by parses that find memory
  abbrev pub Comes : Event K → State K T F I → Type 0
  Comes event s = (steps : List (Made K)) × (reply : Reply) × (t : State K T F I) × Completes g event steps s reply t × FindMemory steps

  -- so it does where it is answered at once, or what it leads to does
  comes : (s t : State K T F I) (event : Event K) (answer : Answer) → FindsMemory event → Step g s event answer t
      → ((m : ℕ) → Step g s event (Ticket m) t → Comes (Resume m run.Ran) t) → Comes event s
  comes s t event (Done reply) finds made on = ((event, Done reply) ∷ [], reply, t, (t, refl, made, (refl, refl, refl)), (finds, tt))
  comes s t event (Ticket m) finds made on =
      let more = on m made in
      ((event, Ticket m) ∷ more.0, more.1, more.2, (t, refl, made, (run.Ran, tt, more.3)), (finds, more.4))

  module _ (law : FrontIsUsed g) where
    -- the parse of an object that parses has an end, over every rest
    brought : (s : State K T F I) (n : ℕ) (y : PendingOpen K) → pending_of s n ≡ Some y → IsParsing g s y.object
        → (outcome : ParseOutcome F I) × IsBrought g s (Resume n run.Ran) (Some outcome)
    brought s n y found parsing =
        let ends = go (face_of s y.object) parsing in
        (ends.0, subst (λ o. MatchOption o ⊥ (λ x. IsParsed g s x run.Ran (Some ends.0))) (sym found) ends.1)
      where
        go : (face : Option F) → MatchOption face ⊥ (λ face. g.parses (g.kind_of face) ≡ true)
            → (outcome : ParseOutcome F I) × MatchOption face ⊥ (λ face. ParseEnds g face y.rest outcome)
        go None parsing = absurd parsing
        go (Some face) parsing = parse_total g law face y.rest

    -- an open that waits, at an object that parses, comes to a reply
    resumed_total : (fuel : ℕ) (s : State K T F I) (n p : ℕ) (before : State K T F I) → IsSound s → BeginsFor g before s n p → left_to s n < fuel → Comes (Resume n run.Ran) s
    resumed_total zero s n p before sound waits below = absurd (omega (arith, below))
    resumed_total (suc k) s n p before sound waits below =
        let parse = brought s n waits.0 waits.1.0 waits.1.1 in
        let next = step_total g s (Resume n run.Ran) (Some parse.0) sound parse.1 in
        comes s next.1 (Resume n run.Ran) next.0 tt next.2
        (λ m made.
        let fewer = step_leaves_fewer g s next.1 m sound n run.Ran made in
        resumed_total k next.1 m p s (step_sound g s next.1 (Resume n run.Ran) (Ticket m) sound made)
        (step_begins g s next.1 m sound n run.Ran p (waits_for g before s n p waits) made) (omega (arith, below, fewer)))

  -- each command comes to a reply
  pub completes_total : FrontIsUsed g → (s : State K T F I) (p : ℕ) (c : Command K) → IsSound s
      → (steps : List (Made K)) × (reply : Reply) × (t : State K T F I) × Completes g (Start p c) steps s reply t × FindMemory steps
  completes_total law s p c sound =
      let first = start_total g s p c sound in
      comes s first.1 (Start p c) first.0 tt first.2
      (λ m made.
      resumed_total law (suc (left_to first.1 m)) first.1 m p s (step_sound g s first.1 (Start p c) (Ticket m) sound made) (start_begins g s first.1 m sound p c made).0 (omega arith))
