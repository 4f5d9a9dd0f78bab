-- Parses that opens wait for stay so in each step that doesn't end their opens, and in the steps of a command that is run to its
-- reply; and a ticket that is given is a new one.
use Rattle.std.proofs.Common.{◌≡◌, ◌≢◌, ◌∙◌, ℕ, ◌<◌, ◌==◌, ◌||◌, false, List, [], ◌∷◌, All, get_or, Option, None, Some, inl, inr, refl, ap, sym, subst, arith, eqb-true}
use Rattle.std.specs.Prelude.{MatchOption}
use Rattle.std.specs.List.{list_any}
use Rattle.std.proofs.lemmas.Bool.{ne_eqb}
use Rattle.std.proofs.lemmas.List.Elements.{All-head, All-tail, All-weaker, All-map}
use Rattle.ob_model.specs.declared.command.Command.{Command}
use Rattle.ob_model.specs.declared.reply.Answer.{Answer}
use Rattle.ob_model.specs.declared.reply.Answer.TheVariants.{Done, Ticket}
use Rattle.ob_model.specs.declared.reply.Event.{Event}
use Rattle.ob_model.specs.declared.reply.Event.TheVariants.{Start, Resume, Abandon}
use Rattle.ob_model.specs.declared.reply.ParseRun.{ParseRun}
use Rattle.ob_model.specs.declared.reply.Reply.{Reply}
use Rattle.ob_model.specs.declared.state.PendingOpen.{PendingOpen}
use Rattle.ob_model.specs.PendingOpens.{face_of, pending_of}
use Rattle.ob_model.specs.Procedures.{Procedures}
use Rattle.ob_model.specs.Sound.{IsSound}
use Rattle.ob_model.specs.State.{State, root_id}
use Rattle.ob_model.specs.Step.{Step}
use Rattle.ob_model.proofs.SoundPaths.{find_of, of_some}
use Rattle.ob_model.proofs.Soundness.{stands_drawn, stands_from_is_directory}
use Rattle.ob_model.proofs.Steps.{step_sound}
use Rattle.ob_types.specs.Parse.{ToRun}
use Rattle.ob_opens.specs.Waiting.{IsParseOf}
use Rattle.ob_runner.specs.Completes.{Made, Leads, HasRun, Completes, GivesUp, Falters}
use Rattle.ob_runner.specs.Begun.{AreAwaited, IsNoEnd, StayAwaited, tickets_of}
use Rattle.ob_runner.proofs.Numbers.{ticket_is_next}
use Rattle.ob_runner.proofs.Pending.{found_passes, step_pending}

module _ {K T F I : Type 0} (g : Procedures K T F I) where
  -- a parse that an open waits for is one in each step that doesn't end that open
  pub step_awaits : (s t : State K T F I) (event : Event K) (answer : Answer) (parse : ToRun F)
      → IsSound s → IsNoEnd parse.ticket event → Step g s event answer t → IsParseOf s parse → IsParseOf t parse
  step_awaits s t event answer parse sound other does h = go (pending_of s parse.ticket) refl h
    where
      go : (found : Option (PendingOpen K)) → pending_of s parse.ticket ≡ found → MatchOption found ⊥ (λ x. (x.rest ≡ parse.rest) × (face_of s x.object ≡ Some parse.face)) → IsParseOf t parse
      go None e h = absurd h
      go (Some x) e h =
          let still = step_pending g parse.ticket x parse.face s t event answer sound other (e, h.1) does in
          subst (λ (found : Option (PendingOpen K)). MatchOption found ⊥ (λ y. (y.rest ≡ parse.rest) × (face_of t y.object ≡ Some parse.face))) (sym still.0) (h.0, still.1)

module _ {K T F I : Type 0} where
  -- its ticket was drawn
  pub awaited_drawn : (s : State K T F I) (parse : ToRun F) → IsSound s → IsParseOf s parse → parse.ticket < s.next_id
  awaited_drawn s parse sound h = go (pending_of s parse.ticket) refl h
    where
      go : (found : Option (PendingOpen K)) → pending_of s parse.ticket ≡ found → MatchOption found ⊥ (λ x. (x.rest ≡ parse.rest) × (face_of s x.object ≡ Some parse.face)) → parse.ticket < s.next_id
      go None e h = absurd h
      go (Some x) e h =
          let same : x.ticket ≡ parse.ticket = eqb-true x.ticket parse.ticket (found_passes (λ y. y.ticket == parse.ticket) s.pending x e) in
          subst (λ k. k < s.next_id) same (of_some (λ y. y.ticket < s.next_id) (pending_of s parse.ticket) x e (find_of (λ y. y.ticket < s.next_id) (λ y. y.ticket == parse.ticket) s.pending sound.pending.ticketed))

  pub all_drawn : (s : State K T F I) (parses : List (ToRun F)) → IsSound s → AreAwaited s parses → All (λ k. k < s.next_id) (tickets_of parses)
  all_drawn s parses sound h =
      All-map (λ k. k < s.next_id) (λ (parse : ToRun F). parse.ticket) parses (All-weaker (IsParseOf s) (λ parse. parse.ticket < s.next_id) (λ parse is. awaited_drawn s parse sound is) parses h)

  -- some numbers were drawn
  some_drawn : (s : State K T F I) → IsSound s → s.next_id ≢ 0
  some_drawn s sound none =
      let below : root_id < s.next_id = stands_drawn s.next_id s.objects root_id sound.objects.drawn (stands_from_is_directory s root_id sound.objects.root) in
      omega (arith, below, none)

-- what is above all isn't among them
none_is : (n : ℕ) (ks : List ℕ) → All (λ k. k < n) ks → list_any (λ k. k == n) ks ≡ false
none_is n [] below = refl
none_is n (k ∷ ks) below =
    let less : k < n = All-head (λ j. j < n) k ks below in
    ap (λ b. b || list_any (λ j. j == n) ks) (ne_eqb k n (λ same. omega (arith, less, same))) ∙ none_is n ks (All-tail (λ j. j < n) k ks below)

module _ {K T F I : Type 0} (g : Procedures K T F I) where
  -- the ticket that a step gives is above those of all parses that opens wait for
  pub newest_ticket : (s t : State K T F I) (event : Event K) (m : ℕ) (parses : List (ToRun F)) → IsSound s → AreAwaited s parses → Step g s event (Ticket m) t → All (λ k. k < m) (tickets_of parses)
  newest_ticket s t event m parses sound h does = subst (λ n. All (λ k. k < n) (tickets_of parses)) (sym (ticket_is_next g m s t event does)) (all_drawn s parses sound h)

  -- so it is a new one
  pub ticket_is_new : (s t : State K T F I) (event : Event K) (m : ℕ) (parses : List (ToRun F)) → IsSound s → AreAwaited s parses → Step g s event (Ticket m) t
      → (m ≢ 0) × (list_any (λ k. k == m) (tickets_of parses) ≡ false)
  ticket_is_new s t event m parses sound h does = (
    λ zero. some_drawn s sound (sym (ticket_is_next g m s t event does) ∙ zero),
    none_is m (tickets_of parses) (newest_ticket s t event m parses sound h does),
  )

  -- parses that opens wait for stay so
  pub all_await : (s t : State K T F I) (event : Event K) (answer : Answer) (parses : List (ToRun F))
      → IsSound s → All (λ parse. IsNoEnd parse.ticket event) parses → Step g s event answer t → AreAwaited s parses → AreAwaited t parses
  all_await s t event answer parses sound others does h =
      λ k d within. step_awaits g s t event answer (get_or parses k d) sound (others k d within) does (h k d within)

  pub stay_awaited : StayAwaited g
  stay_awaited = all_await

  pub start_all_await : (s t : State K T F I) (p : ℕ) (c : Command K) (answer : Answer) (parses : List (ToRun F)) → IsSound s → Step g s (Start p c) answer t → AreAwaited s parses → AreAwaited t parses
  start_all_await s t p c answer parses sound does h = all_await s t (Start p c) answer parses sound (λ k d within. tt) does h

  -- ---- the steps of a command that is run to its reply

  -- a ticket that is given on the way isn't that of the parse
  other_ticket : (s t : State K T F I) (event : Event K) (m : ℕ) (parse : ToRun F) → IsSound s → IsParseOf s parse → Step g s event (Ticket m) t → m ≢ parse.ticket
  other_ticket s t event m parse sound h does same =
      let drawn : parse.ticket < s.next_id = awaited_drawn s parse sound h in
      let next : m ≡ s.next_id = ticket_is_next g m s t event does in
      omega (arith, drawn, next, same)

  pub completes_awaits : (event : Event K) (steps : List (Made K)) (s t : State K T F I) (reply : Reply) (parse : ToRun F)
      → IsSound s → IsNoEnd parse.ticket event → IsParseOf s parse → Completes g event steps s reply t → IsParseOf t parse
  completes_awaits event [] s t reply parse sound other h does = absurd does
  completes_awaits event (step ∷ steps) s t reply parse sound other h (u, asked, made, does) =
      go step.1 made (λ n run apart more. completes_awaits (Resume n run) steps u t reply parse (step_sound g s u event step.1 sound made) apart (step_awaits g s u event step.1 parse sound other made h) more) does
    where
      go : (answer : Answer) → Step g s event answer u
          → ((n : ℕ) (run : ParseRun) → n ≢ parse.ticket → Completes g (Resume n run) steps u reply t → IsParseOf t parse)
          → Leads answer (λ given. (given ≡ reply) × (steps ≡ []) × (t ≡ u)) (λ n. (run : ParseRun) × HasRun run × Completes g (Resume n run) steps u reply t) → IsParseOf t parse
      go (Done given) made on (same, none, is) = subst (λ (w : State K T F I). IsParseOf w parse) (sym is) (step_awaits g s u event (Done given) parse sound other made h)
      go (Ticket n) made on (run, ran, does) = on n run (other_ticket s u event n parse sound h made) does

  pub gives_up_awaits : (n : ℕ) (steps : List (Made K)) (s t : State K T F I) (parse : ToRun F) → IsSound s → n ≢ parse.ticket → IsParseOf s parse → GivesUp g n steps s t → IsParseOf t parse
  gives_up_awaits n [] s t parse sound other h does = absurd does
  gives_up_awaits n (step ∷ steps) s t parse sound other h (inl (run, asked, answered, made, none)) =
      step_awaits g s t (Abandon n run) step.1 parse sound other (subst (λ e. Step g s e step.1 t) asked made) h
  gives_up_awaits n (step ∷ steps) s t parse sound other h (inr (run, m, u, ran, asked, answered, made, does)) =
      let resumed : Step g s (Resume n run) step.1 u = subst (λ e. Step g s e step.1 u) asked made in
      let ticketed : Step g s (Resume n run) (Ticket m) u = subst (λ a. Step g s (Resume n run) a u) answered resumed in
      gives_up_awaits m steps u t parse (step_sound g s u step.0 step.1 sound made) (other_ticket s u (Resume n run) m parse sound h ticketed)
      (step_awaits g s u (Resume n run) step.1 parse sound other resumed h) does

  pub falters_awaits : (event : Event K) (steps : List (Made K)) (s t : State K T F I) (parse : ToRun F)
      → IsSound s → IsNoEnd parse.ticket event → IsParseOf s parse → Falters g event steps s t → IsParseOf t parse
  falters_awaits event [] s t parse sound other h (same, may) = subst (λ (w : State K T F I). IsParseOf w parse) (sym same) h
  falters_awaits event (step ∷ steps) s t parse sound other h (n, u, asked, answered, made, does) =
      let first : Step g s event step.1 u = subst (λ e. Step g s e step.1 u) asked made in
      let ticketed : Step g s event (Ticket n) u = subst (λ a. Step g s event a u) answered first in
      gives_up_awaits n steps u t parse (step_sound g s u step.0 step.1 sound made) (other_ticket s u event n parse sound h ticketed) (step_awaits g s u event step.1 parse sound other first h) does

  -- so the parses that opens wait for stay so while another command is run to its reply, or falters
  pub completes_all_await : (p : ℕ) (c : Command K) (steps : List (Made K)) (s t : State K T F I) (reply : Reply) (parses : List (ToRun F))
      → IsSound s → Completes g (Start p c) steps s reply t → AreAwaited s parses → AreAwaited t parses
  completes_all_await p c steps s t reply parses sound does h = λ k d within. completes_awaits (Start p c) steps s t reply (get_or parses k d) sound tt (h k d within) does

  pub falters_all_await : (p : ℕ) (c : Command K) (steps : List (Made K)) (s t : State K T F I) (parses : List (ToRun F))
      → IsSound s → Falters g (Start p c) steps s t → AreAwaited s parses → AreAwaited t parses
  falters_all_await p c steps s t parses sound does h = λ k d within. falters_awaits (Start p c) steps s t (get_or parses k d) sound tt (h k d within) does
