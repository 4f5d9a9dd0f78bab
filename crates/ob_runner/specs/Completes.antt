-- Commands that are run to their replies: an open that waits for a parse is resumed with it, until it is answered; or
-- memory runs out on the way, and what waits is given up.
--
-- Source: Windows Internals, Object Manager (parse methods); that a parse is run between two steps is this profile.
use Rattle.std.specs.Prelude.{◌≡◌, ℕ, true, List, [], ◌∷◌, ◌⊎◌}
use Rattle.ob_base.specs.declared.status.Status.TheVariants.{Success}
use Rattle.ob_model.specs.declared.reply.Answer.{Answer}
use Rattle.ob_model.specs.declared.reply.Answer.TheVariants.{Done, Ticket}
use Rattle.ob_model.specs.declared.reply.Event.{Event}
use Rattle.ob_model.specs.declared.reply.Event.TheVariants.{Start, Resume, Abandon}
use Rattle.ob_model.specs.declared.reply.ParseRun.{ParseRun}
use Rattle.ob_model.specs.declared.reply.ParseRun.TheVariants as run
use Rattle.ob_model.specs.declared.reply.Reply.{Reply}
use Rattle.ob_model.specs.Procedures.{Procedures}
use Rattle.ob_model.specs.Refusals.{answers}
use Rattle.ob_model.specs.Run.{Entry}
use Rattle.ob_model.specs.State.{State}
use Rattle.ob_model.specs.Step.{Step}
use Rattle.ob_space.specs.Early.{TakesNoMemory, is_refused_early}
use Rattle.ob_space.specs.Found.{IsRefusedAtFound}

-- a step that was made: its event, and what it was answered
abbrev pub Made : Type 0 → Type 0
Made K = Event K × Answer

-- the step of an entry
abbrev pub step_of : {K : Type 0} → Entry K → Made K
step_of entry = (entry.event, entry.answer)

-- a reply ends a command, and a ticket is that of an open which waits for its parse
abbrev pub Leads : Answer → (Reply → Type 0) → (ℕ → Type 0) → Type 0
Leads (Done reply) ended waits = ended reply
Leads (Ticket n) ended waits = waits n

-- a parse that was run: to its end, or as far as it found memory
abbrev pub HasRun : ParseRun → Type 0
HasRun run.Unrun = ⊥
HasRun run.Ran = Unit {0}
HasRun run.NoMemory = Unit {0}

module _ {K T F I : Type 0} (g : Procedures K T F I) where
  -- From the state s the event has this answer, and where an open waits for a parse, that is run and the open
  -- resumed with it, and so on, until these steps come to the reply, in the state t.
  abbrev pub Completes : Event K → List (Made K) → State K T F I → Reply → State K T F I → Type 0
  Completes event [] s reply t = ⊥
  Completes event (step ∷ steps) s reply t =
      (u : State K T F I) × (step.0 ≡ event) × Step g s event step.1 u
      × Leads step.1 (λ given. (given ≡ reply) × (steps ≡ []) × (t ≡ u)) (λ n. (parse : ParseRun) × HasRun parse × Completes (Resume n parse) steps u reply t)

  -- The open of a ticket is given up, at once or after more parses, whose last ticket is then the one that is given up;
  -- these are the steps, and they come to the state t.
  abbrev pub GivesUp : ℕ → List (Made K) → State K T F I → State K T F I → Type 0
  GivesUp n [] s t = ⊥
  GivesUp n (step ∷ steps) s t =
      ((parse : ParseRun) × (step.0 ≡ Abandon n parse) × (step.1 ≡ answers Success) × Step g s step.0 step.1 t × (steps ≡ []))
      ⊎ ((parse : ParseRun) × (m : ℕ) × (u : State K T F I) × HasRun parse × (step.0 ≡ Resume n parse) × (step.1 ≡ Ticket m)
      × Step g s step.0 step.1 u × GivesUp m steps u t)

  -- The step of an event may need memory: a command that takes some, and isn't refused before anything grows; and the
  -- end of a parse, but not an abandon.
  abbrev pub MayFalter : State K T F I → Event K → Type 0
  MayFalter s (Start p command) = (TakesNoMemory command → ⊥) × (is_refused_early s p command ≡ true → ⊥) × (IsRefusedAtFound g s p command → ⊥)
  MayFalter s (Resume n parse) = Unit {0}
  MayFalter s (Abandon n parse) = ⊥

  -- Memory ran out while an event was run to its reply: at once, and then no step was made, or after a ticket,
  -- and then the open that waits is given up.
  abbrev pub Falters : Event K → List (Made K) → State K T F I → State K T F I → Type 0
  Falters event [] s t = (t ≡ s) × MayFalter s event
  Falters event (step ∷ steps) s t =
      (n : ℕ) × (u : State K T F I) × (step.0 ≡ event) × (step.1 ≡ Ticket n) × Step g s step.0 step.1 u × GivesUp n steps u t

-- the parse that a step brings, where it brings one, found memory
abbrev pub FindsMemory : {K : Type 0} → Event K → Type 0
FindsMemory (Start p command) = Unit {0}
FindsMemory (Resume n run.Unrun) = Unit {0}
FindsMemory (Resume n run.Ran) = Unit {0}
FindsMemory (Resume n run.NoMemory) = ⊥
FindsMemory (Abandon n parse) = Unit {0}

-- each parse that these steps bring found memory
abbrev pub FindMemory : {K : Type 0} → List (Made K) → Type 0
FindMemory [] = Unit {0}
FindMemory (step ∷ steps) = FindsMemory step.0 × FindMemory steps
