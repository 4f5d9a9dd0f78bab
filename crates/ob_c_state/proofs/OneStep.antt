-- A command that is no open never waits for a parse: so it is one step, and changes nothing where it finds no memory.
use Rattle.std.proofs.Common.{◌≡◌, ◌∙◌, ℕ, Bool, true, false, List, [], ◌∷◌, Ok, Err, refl, sym, subst, inl}
use Rattle.ob_base.specs.declared.status.Status.TheVariants.{NoMemory}
use Rattle.ob_model.specs.declared.command.Command.{Command}
use Rattle.ob_model.specs.declared.command.Command.TheVariants.{CreateDirectory, CreateShadowed, CreateLink, CreateObject, OpenDirectory, OpenLink, OpenObject, Close, QueryLink, QueryName, QueryDirectory, Duplicate, MakeTemporary, MakePermanent, SetDeviceMap, NewProcess, ExitProcess}
use Rattle.ob_model.specs.declared.reply.Answer.{Answer}
use Rattle.ob_model.specs.declared.reply.Answer.TheVariants.{Done, Ticket}
use Rattle.ob_model.specs.declared.reply.Event.{Event}
use Rattle.ob_model.specs.declared.reply.Event.TheVariants.{Start}
use Rattle.ob_model.specs.declared.reply.Reply.{Reply}
use Rattle.ob_model.specs.Step.{Step}
use Rattle.ob_runner.specs.Completes.{Made, Leads, Completes, MayFalter, Falters}
use Rattle.ob_runner.proofs.Replies.{IsReply, start_replies}
use Rattle.ob_runner.specs.Opens.{is_open}
use Rattle.ob_host.specs.declared.kind.Kind.{Kind}
use Rattle.ob_c_state.specs.Machine.{Space, host}
use Rattle.ob_c_state.specs.Calls.{Ends, Runs, Wants}

-- no step of another is answered with a ticket
no_ticket : (n p : ℕ) (command : Command Kind) (s t : Space) → is_open command ≡ false → Step host s (Start p command) (Ticket n) t → ⊥
no_ticket n p command s t one made = go (start_replies host s t (Ticket n) p command one made)
  where
    go : IsReply (Ticket n) → ⊥
    go (reply, is) = let apart : Ticket n ≡ Done reply = is in cc

module _ (p : ℕ) (command : Command Kind) (one : is_open command ≡ false) where
  -- what completes it is one step
  one_step : (steps : List (Made Kind)) (s t : Space) (reply : Reply) → Completes host (Start p command) steps s reply t → Step host s (Start p command) (Done reply) t
  one_step [] s t reply h = absurd h
  one_step (step ∷ steps) s t reply h = go _ step.1 h.2 h.3
    where
      go : (Waits : ℕ → Type 0) (answer : Answer) → Step host s (Start p command) answer h.0
          → Leads answer (λ given. (given ≡ reply) × (steps ≡ []) × (t ≡ h.0)) Waits → Step host s (Start p command) (Done reply) t
      go Waits (Done given) made leads = subst (λ (r : Reply). Step host s (Start p command) (Done r) t) leads.0 (subst (λ (u : Space). Step host s (Start p command) (Done given) u) (sym leads.2) made)
      go Waits (Ticket n) made leads = absurd (no_ticket n p command s h.0 one made)

  -- and where it finds no memory, nothing has changed
  no_step : (steps : List (Made Kind)) (s t : Space) → Falters host (Start p command) steps s t → (t ≡ s) × MayFalter host s (Start p command)
  no_step [] s t h = h
  no_step (step ∷ steps) s t h =
      let made = subst (λ (event : Event Kind). Step host s event step.1 h.1) h.2 h.4 in
      absurd (no_ticket h.0 p command s h.1 one (subst (λ (answer : Answer). Step host s (Start p command) answer h.1) h.3 made))

-- a command is run as its kind says
runs_as : (b : Bool) (p : ℕ) (command : Command Kind) → is_open command ≡ b → (steps : List (Made Kind)) (s t : Space) (reply : Reply) → Completes host (Start p command) steps s reply t
    → Runs p command b s reply t
runs_as true p command e steps s t reply h = (steps, h)
runs_as false p command e steps s t reply h = one_step p command e steps s t reply h

wants_as : (b : Bool) (p : ℕ) (command : Command Kind) → is_open command ≡ b → (steps : List (Made Kind)) (s t : Space) → Falters host (Start p command) steps s t → Wants p command b s t
wants_as true p command e steps s t h = (steps, h)
wants_as false p command e steps s t h = no_step p command e steps s t h

-- a command was run to its reply, from the state that the struct had
pub ends_in_reply : (p : ℕ) (command : Command Kind) (s was t : Space) (reply : Reply) → s ≡ was → (steps : List (Made Kind)) × Completes host (Start p command) steps s reply t
    → Ends p command was (Ok reply) t
ends_in_reply p command s was t reply e h = subst (λ (u : Space). Ends p command u (Ok reply) t) e (runs_as (is_open command) p command refl h.0 s t reply h.1)

-- or it found no memory
pub ends_in_want : (p : ℕ) (command : Command Kind) (s was t : Space) → s ≡ was → (steps : List (Made Kind)) × Falters host (Start p command) steps s t → Ends p command was (Err NoMemory) t
ends_in_want p command s was t e h = subst (λ (u : Space). Ends p command u (Err NoMemory) t) e (refl, inl (wants_as (is_open command) p command refl h.0 s t h.1))
