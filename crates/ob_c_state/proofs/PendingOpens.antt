-- The opens that are pending after the steps of a command: those of before, so that the parses that are kept are still theirs.
use Rattle.std.proofs.Common.{◌≡◌, ◌∙◌, ℕ, ◌<◌, ◌==◌, not, List, [], ◌∷◌, ◌++◌, All, Option, None, Some, filter, find, map, inl, inr, refl, ap, sym, subst, arith, eq-eqb}
use Rattle.std.specs.Prelude.{IfNone, IfSome, IsSome}
use Rattle.std.proofs.lemmas.Bool.{ne_eqb}
use Rattle.std.proofs.lemmas.List.Elements.{All-filter, All-head, All-nil, All-tail}
use Rattle.ob_base.specs.declared.status.Status.TheVariants.{Success}
use Rattle.ob_model.specs.Waiting.{others}
use Rattle.ob_types.specs.Unnoticed.{with_change}
use Rattle.ob_model.proofs.Waits.{opens_wait}
use Rattle.ob_host.specs.Deletions.{behind_next, unused}
use Rattle.ob_host.specs.Kept.{Kept}
use Rattle.ob_host.specs.declared.deletion.HostDeletion.{HostDeletion}
use Rattle.ob_host.specs.declared.kind.Kind.{Kind}
use Rattle.ob_host.specs.declared.object.HostObject.{HostObject}
use Rattle.ob_model.specs.Opening.{opening}
use Rattle.ob_model.specs.PendingOpens.{pending_of}
use Rattle.ob_model.specs.Procedures.{Procedures}
use Rattle.ob_model.specs.Refusals.{answers}
use Rattle.ob_model.specs.Sound.{IsSound}
use Rattle.ob_model.specs.State.{State}
use Rattle.ob_model.specs.Step.{Step}
use Rattle.ob_model.specs.declared.command.Command.{Command}
use Rattle.ob_model.specs.declared.reply.Answer.{Answer}
use Rattle.ob_model.specs.declared.reply.Answer.TheVariants.{Done, Ticket}
use Rattle.ob_model.specs.declared.reply.Event.{Event}
use Rattle.ob_model.specs.declared.reply.Event.TheVariants.{Start, Resume, Abandon}
use Rattle.ob_model.specs.declared.reply.ParseRun.{ParseRun}
use Rattle.ob_model.specs.declared.reply.ParseRun.TheVariants.{Unrun}
use Rattle.ob_model.specs.declared.reply.Reply.{Reply}
use Rattle.ob_model.specs.declared.state.PendingOpen.{PendingOpen}
use Rattle.ob_model.proofs.Steps.{step_sound}
use Rattle.ob_opens.specs.Waiting.{IsParseOf}
use Rattle.ob_opens.proofs.BegunAgain.{last_found}
use Rattle.ob_runner.specs.Begun.{answer_in, AreAwaited, IfWaits, tickets_of, with_begun, without}
use Rattle.ob_runner.specs.Completes.{Made, HasRun, Leads, Completes, GivesUp, Falters}
use Rattle.ob_runner.specs.Repeated.{AreAllKept}
use Rattle.ob_runner.specs.declared.begun.Begun.{Begun}
use Rattle.ob_runner.specs.declared.begun.Begun.TheVariants.{Replied, Waits}
use Rattle.ob_runner.proofs.Awaited.{completes_all_await, falters_all_await}
use Rattle.ob_runner.proofs.Numbers.{ticket_is_next}
use Rattle.ob_runner.proofs.Repeated.{all_behind_start, all_behind_resume, all_behind_abandon}
use Rattle.ob_types.specs.Parse.{ToRun}
use Rattle.ob_c_state.specs.Machine.{Space, host, KeepsParses}

-- without the last, whose ticket is above those of the others
without_last : {K : Type 0} (n : ℕ) (x : PendingOpen K) (xs : List (PendingOpen K)) → All (λ y. y.ticket < n) xs → x.ticket ≡ n → filter (λ y. not (y.ticket == n)) (xs ++ x ∷ []) ≡ xs
without_last n x [] below is = rw (eq-eqb x.ticket n is) refl
without_last n x (y ∷ xs) below is =
    let less : y.ticket < n = All-head (λ z. z.ticket < n) y xs below in
    rw (ne_eqb y.ticket n (λ same. omega (arith, less, same))) (ap (λ ys. y ∷ ys) (without_last n x xs (All-tail (λ z. z.ticket < n) y xs below) is))

module _ {K T F I : Type 0} (g : Procedures K T F I) where
  -- the opens that an event doesn't end have tickets that were drawn
  others_drawn : (s : State K T F I) (event : Event K) → IsSound s → All (λ x. x.ticket < s.next_id) (others event s.pending)
  others_drawn s (Start p command) sound = sound.pending.ticketed
  others_drawn s (Resume n parse) sound = All-filter (λ x. not (x.ticket == n)) (λ x. x.ticket < s.next_id) s.pending sound.pending.ticketed
  others_drawn s (Abandon n parse) sound = All-filter (λ x. not (x.ticket == n)) (λ x. x.ticket < s.next_id) s.pending sound.pending.ticketed

  -- what a ticket says is above them
  others_below : (s u : State K T F I) (event : Event K) (n : ℕ) → IsSound s → Step g s event (Ticket n) u → All (λ x. x.ticket < n) (others event s.pending)
  others_below s u event n sound made =
      subst (λ k. All (λ (x : PendingOpen K). x.ticket < k) (others event s.pending)) (sym (ticket_is_next g n s u event made)) (others_drawn s event sound)

  -- an open that began to wait and is then ended leaves the others
  ended_again : (s u : State K T F I) (event : Event K) (n : ℕ) → IsSound s → Step g s event (Ticket n) u → filter (λ x. not (x.ticket == n)) u.pending ≡ others event s.pending
  ended_again s u event n sound made =
      let waits = opens_wait g s u event (Ticket n) made in
      ap (filter (λ (x : PendingOpen K). not (x.ticket == n))) waits.1 ∙ without_last n waits.0 (others event s.pending) (others_below s u event n sound made) waits.2

  completes_pending : (event : Event K) (steps : List (Made K)) (s t : State K T F I) (reply : Reply) → IsSound s → Completes g event steps s reply t → t.pending ≡ others event s.pending
  completes_pending event [] s t reply sound does = absurd does
  completes_pending event (step ∷ steps) s t reply sound (u, asked, made, does) =
      go step.1 made (λ n run more. completes_pending (Resume n run) steps u t reply (step_sound g s u event step.1 sound made) more) does
    where
      go : (answer : Answer) → Step g s event answer u
          → ((n : ℕ) (run : ParseRun) → Completes g (Resume n run) steps u reply t → t.pending ≡ others (Resume n run) u.pending)
          → Leads answer (λ given. (given ≡ reply) × (steps ≡ []) × (t ≡ u)) (λ n. (run : ParseRun) × HasRun run × Completes g (Resume n run) steps u reply t)
          → t.pending ≡ others event s.pending
      go (Done given) made on (same, none, is) = ap (λ (w : State K T F I). w.pending) is ∙ opens_wait g s u event (Done given) made
      go (Ticket n) made on (run, ran, does) = on n run does ∙ ended_again s u event n sound made

  gives_up_pending : (n : ℕ) (steps : List (Made K)) (s t : State K T F I) → IsSound s → GivesUp g n steps s t → t.pending ≡ filter (λ x. not (x.ticket == n)) s.pending
  gives_up_pending n [] s t sound does = absurd does
  gives_up_pending n (step ∷ steps) s t sound (inl (run, asked, answered, made, none)) =
      let abandoned : Step g s (Abandon n run) step.1 t = subst (λ e. Step g s e step.1 t) asked made in
      opens_wait g s t (Abandon n run) (answers Success) (subst (λ a. Step g s (Abandon n run) a t) answered abandoned)
  gives_up_pending n (step ∷ steps) s t sound (inr (run, m, u, ran, asked, answered, made, does)) =
      let resumed : Step g s (Resume n run) step.1 u = subst (λ e. Step g s e step.1 u) asked made in
      let ticketed : Step g s (Resume n run) (Ticket m) u = subst (λ a. Step g s (Resume n run) a u) answered resumed in
      gives_up_pending m steps u t (step_sound g s u (Resume n run) step.1 sound resumed) does ∙ ended_again s u (Resume n run) m sound ticketed

  falters_pending : (p : ℕ) (c : Command K) (steps : List (Made K)) (s t : State K T F I) → IsSound s → Falters g (Start p c) steps s t → t.pending ≡ s.pending
  falters_pending p c [] s t sound (same, may) = ap (λ (w : State K T F I). w.pending) same
  falters_pending p c (step ∷ steps) s t sound (n, u, asked, answered, made, does) =
      let first : Step g s (Start p c) step.1 u = subst (λ e. Step g s e step.1 u) asked made in
      let ticketed : Step g s (Start p c) (Ticket n) u = subst (λ a. Step g s (Start p c) a u) answered first in
      gives_up_pending n steps u t (step_sound g s u (Start p c) step.1 sound first) does ∙ ended_again s u (Start p c) n sound ticketed

  -- an open that was begun is pending under its ticket
  pub begun_pending : (s t : State K T F I) (event : Event K) (begun : Begun) → IsSound s → Step g s event (answer_in begun) t → IfWaits begun (λ n. IsSome (pending_of t n))
  begun_pending s t event (Replied reply) sound made = tt
  begun_pending s t event (Waits n) sound made =
      let waits = opens_wait g s t event (Ticket n) made in
      let found : find (λ x. x.ticket == n) t.pending ≡ Some waits.0 =
      ap (find (λ (x : PendingOpen K). x.ticket == n)) waits.1 ∙ last_found n waits.0 (others event s.pending) (others_below s t event n sound made) waits.2 in
      subst (λ (o : Option (PendingOpen K)). IsSome o) (sym found) refl

-- no open is pending at first
pub first_keeps : (s : Space) (parses : List (ToRun HostObject)) → s ≡ opening unused → parses ≡ [] → KeepsParses s parses
first_keeps s parses is none =
    subst (λ (w : Space). KeepsParses w parses) (sym is) (subst (λ (ps : List (ToRun HostObject)). KeepsParses (opening unused) ps) (sym none) (All-nil (IsParseOf {K = Kind} {I = Kept} (opening unused)), refl))

-- a deletion that is taken leaves what is pending
pub taken_keeps : (s t : Space) (parses : List (ToRun HostObject)) (taken : Option HostDeletion) → IfSome taken (λ _. t ≡ with_change behind_next s) → IfNone taken (t ≡ s) → KeepsParses s parses
    → KeepsParses t parses
taken_keeps s t parses None some none keeps = subst (λ (w : Space). KeepsParses w parses) (sym none) keeps
taken_keeps s t parses (Some deletion) some none keeps = subst (λ (w : Space). KeepsParses w parses) (sym some) keeps

module _ (s : Space) (sound : IsSound s) (before : List (ToRun HostObject)) (keeps : KeepsParses s before) (t : Space) where
  tickets_stay : t.pending ≡ s.pending → AreAllKept t before
  tickets_stay same = ap (map (λ (x : PendingOpen Kind). x.ticket)) same ∙ keeps.1

  module _ (p : ℕ) (command : Command Kind) where
    -- a command that is run to its reply
    pub run_keeps : (reply : Reply) → (steps : List (Made Kind)) × Completes host (Start p command) steps s reply t → KeepsParses t before
    run_keeps reply (steps, does) = (completes_all_await host p command steps s t reply before sound does keeps.0, tickets_stay (completes_pending host (Start p command) steps s t reply sound does))

    -- or that was out of memory
    pub falter_keeps : (steps : List (Made Kind)) × Falters host (Start p command) steps s t → KeepsParses t before
    falter_keeps (steps, does) = (falters_all_await host p command steps s t before sound does keeps.0, tickets_stay (falters_pending host p command steps s t sound does))

  module _ (after : List (ToRun HostObject)) (awaited : AreAwaited t after) where
    module _ (p : ℕ) (command : Command Kind) where
      -- a command that was begun
      pub begin_keeps : (begun : Begun) → Step host s (Start p command) (answer_in begun) t → tickets_of after ≡ with_begun begun (tickets_of before) → KeepsParses t after
      begin_keeps begun made same =
          (awaited, all_behind_start s before keeps.1 t after p command begun (opens_wait host s t (Start p command) (answer_in begun) made) same)

      pub begin_falters : (steps : List (Made Kind)) × Falters host (Start p command) steps s t → tickets_of after ≡ tickets_of before → KeepsParses t after
      begin_falters (steps, does) same = (awaited, tickets_stay (falters_pending host p command steps s t sound does) ∙ sym same)

    module _ (ticket : ℕ) where
      -- an open that was resumed
      pub end_keeps : (parse : ParseRun) (begun : Begun) → Step host s (Resume ticket parse) (answer_in begun) t → tickets_of after ≡ with_begun begun (without ticket (tickets_of before)) → KeepsParses t after
      end_keeps parse begun made same =
          (awaited, all_behind_resume s before keeps.1 t after ticket parse begun (opens_wait host s t (Resume ticket parse) (answer_in begun) made) same)

      pub end_falters : (steps : List (Made Kind)) × GivesUp host ticket steps s t → tickets_of after ≡ without ticket (tickets_of before) → KeepsParses t after
      end_falters (steps, does) same = (awaited, all_behind_abandon s before keeps.1 t after ticket Unrun (gives_up_pending host ticket steps s t sound does) same)

      -- an open that was abandoned
      pub cancel_keeps : Step host s (Abandon ticket Unrun) (answers Success) t → tickets_of after ≡ without ticket (tickets_of before) → KeepsParses t after
      cancel_keeps made same =
          (awaited, all_behind_abandon s before keeps.1 t after ticket Unrun (opens_wait host s t (Abandon ticket Unrun) (answers Success) made) same)
