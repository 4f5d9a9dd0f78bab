-- The facts about a start of the core, by how it ended.
use Rattle.std.proofs.Common.{◌≡◌, ℕ, ◌≤◌, true, length, Result, Ok, Err, OnErr, subst, arith}
use Rattle.ob_model.specs.declared.command.Command.{Command}
use Rattle.ob_model.specs.declared.reply.Event.TheVariants.{Start, Resume}
use Rattle.ob_model.specs.declared.reply.ParseRun.{ParseRun}
use Rattle.ob_model.specs.declared.reply.Reply.{Reply}
use Rattle.ob_model.specs.Procedures.{Procedures}
use Rattle.ob_model.specs.Sound.{IsSound}
use Rattle.ob_model.specs.State.{State, table_size}
use Rattle.ob_model.specs.Step.{Step}
use Rattle.ob_opens.specs.declared.started.Started.{Started}
use Rattle.ob_opens.specs.declared.started.Started.TheVariants as started
use Rattle.ob_opens.specs.Waiting.{answer_of}
use Rattle.ob_locked.specs.Entered.{HasFew, PendingAfter, EndedAfter}
use Rattle.ob_locked.specs.Rooms.{wants_memory, values_given, values_wanted, is_plain}
use Rattle.ob_locked.proofs.Pendings.{Fits, IsPlain, started as led, resumed}

-- what holds holds where a call failed
pub on_err : {A E : Type 0} (result : Result A E) (P : Type 0) → P → OnErr result P
on_err (Ok x) P h = tt
on_err (Err e) P h = h

-- a resume that ended so
module _ {K T F I : Type 0} (g : Procedures K T F I) (s t : State K T F I) (sound : IsSound s) (ticket : ℕ) (parse : ParseRun) (end : Started T K F I)
    (step : Step g s (Resume ticket parse) (answer_of end) t) where
  pub ended_then : (is : Started T K F I) → end ≡ is → EndedAfter s.pending ticket (answer_of is) t.pending
  ended_then is same = subst (λ e. EndedAfter s.pending ticket (answer_of e) t.pending) same (resumed g s sound t ticket parse (answer_of end) step).0

  pub plain_then : (reply : Reply) → end ≡ started.Done reply → is_plain reply.given ≡ true
  plain_then reply same = subst (λ e. IsPlain (answer_of e)) same (resumed g s sound t ticket parse (answer_of end) step).1

module _ {K T F I : Type 0} (g : Procedures K T F I) (s t : State K T F I) (sound : IsSound s) (p : ℕ) (command : Command K) where
  -- a start that ended so
  module _ (end : Started T K F I) (step : Step g s (Start p command) (answer_of end) t) where
    -- the opens that wait then
    pub pending_then : (is : Started T K F I) → end ≡ is → PendingAfter HasFew s.pending (answer_of is) t.pending
    pending_then is same = subst (λ e. PendingAfter HasFew s.pending (answer_of e) t.pending) same (led g s sound t p command (answer_of end) step).0

    fits_then : (is : Started T K F I) → end ≡ is → Fits s (values_wanted (table_size s p) command) (answer_of is) t
    fits_then is same = subst (λ e. Fits s (values_wanted (table_size s p) command) (answer_of e) t) same (led g s sound t p command (answer_of end) step).1

    -- the values of a reply fit the room that was made for them
    pub values_fit : (reply : Reply) → end ≡ started.Done reply → (asked room : ℕ) → asked ≡ values_wanted (table_size s p) command → asked ≤ room → length (values_given reply.given) ≤ room
    values_fit reply same asked room is enough = omega (arith, (fits_then (started.Done reply) same).0, is, enough)

    -- where a copy of the reply wants memory nothing has changed
    pub nothing_changed : (reply : Reply) → end ≡ started.Done reply → wants_memory reply.given ≡ true → t ≡ s
    nothing_changed reply same wants = (fits_then (started.Done reply) same).1 wants
