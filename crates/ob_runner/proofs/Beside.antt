-- What is begun, ended and given up, beside other parses that opens wait for.
use Rattle.std.proofs.Common.{◌≡◌, ◌≢◌, ◌∙◌, ℕ, ◌<◌, ◌==◌, not, List, [], ◌∷◌, ◌++◌, All, false, Some, Result, Ok, Err, IfOk, OnOk, filter, find, inl, refl, ap, sym, subst, arith}
use Rattle.std.proofs.lemmas.List.{map-append}
use Rattle.std.proofs.lemmas.List.Elements.{All-filter, All-map, All-tail, All-weaker}
use Rattle.std.specs.List.{list_any}
use Rattle.ob_base.specs.declared.status.Status.TheVariants.{Success}
use Rattle.ob_model.specs.declared.reply.Answer.{Answer}
use Rattle.ob_model.specs.declared.reply.Event.{Event}
use Rattle.ob_model.specs.declared.reply.Event.TheVariants.{Resume, Abandon}
use Rattle.ob_model.specs.declared.reply.ParseRun.{ParseRun}
use Rattle.ob_model.specs.declared.reply.ParseRun.TheVariants as run
use Rattle.ob_model.specs.Procedures.{Procedures}
use Rattle.ob_model.specs.Refusals.{answers}
use Rattle.ob_model.specs.Sound.{IsSound}
use Rattle.ob_model.specs.State.{State}
use Rattle.ob_model.specs.Step.{Step}
use Rattle.ob_model.proofs.SoundPaths.{find_of, of_some}
use Rattle.ob_types.specs.Pending.{run_of, run_of_end, brought as end_of}
use Rattle.ob_types.specs.declared.pending.Pending.{Pending}
use Rattle.ob_types.specs.declared.pending.Pending.TheVariants.{Unrun, Run}
use Rattle.ob_types.specs.Parse.{ToRun, HasRun as HasRunOf, asked_of}
use Rattle.ob_opens.specs.Waiting.{IsParseOf}
use Rattle.ob_runner.specs.Completes.{Made, GivesUp, HasRun}
use Rattle.ob_runner.specs.declared.begun.Begun.{Begun}
use Rattle.ob_runner.specs.declared.begun.Begun.TheVariants.{Replied, Waits}
use Rattle.ob_runner.specs.Begun.{answer_in, AreAwaited, GivesAllUp, IfWaits, tickets_of, with_begun}
use Rattle.ob_runner.proofs.Awaited.{all_await, ticket_is_new}
use Rattle.ob_runner.proofs.Kept.{of_tickets, others_left}

-- the results of a parse that is kept
module _ {E : Type 0} (result : Result Begun E) (m : ℕ) (waiting : IfOk result (λ it. it ≡ Waits m)) where
  -- what holds of an open that waits under its ticket
  pub of_waiting : (P : Begun → Type 0) → P (Waits m) → IfOk result P
  of_waiting P h = go result waiting
    where
      go : (r : Result Begun E) → IfOk r (λ it. it ≡ Waits m) → IfOk r P
      go (Ok x) is = subst P (sym is) h
      go (Err e) is = tt

  pub of_waiting_with : (A : Type 0) (P : Begun → Type 0) → OnOk result A → (A → P (Waits m)) → IfOk result P
  of_waiting_with A P on h = go result waiting on
    where
      go : (r : Result Begun E) → IfOk r (λ it. it ≡ Waits m) → OnOk r A → IfOk r P
      go (Ok x) is on = subst P (sym is) (h on)
      go (Err e) is on = tt

-- the parses that are left have other tickets
pub left_have_others : {F : Type 0} (m n : ℕ) (parses left : List (ToRun F)) → m ≡ n → left ≡ filter (λ parse. not (parse.ticket == n)) parses → All (λ k. m ≢ k) (tickets_of left)
left_have_others {F} m n parses left same is =
    subst (λ j. All (λ k. j ≢ k) (tickets_of left)) (sym same)
    (subst (λ (xs : List (ToRun F)). All (λ k. n ≢ k) (tickets_of xs)) (sym is)
    (All-map (λ k. n ≢ k) (λ (x : ToRun F). x.ticket) (filter (λ (x : ToRun F). not (x.ticket == n)) parses) (others_left n parses)))

-- what became of a parse that was brought, and that was run or found no memory
pub run_brought : {K T F I : Type 0} (brought : Pending T K F I) (parse : ParseRun) → run_of brought ≡ parse → HasRun parse → run_of_end (end_of brought).outcome ≡ parse
run_brought (Unrun asked) parse is ran = absurd (subst HasRun (sym is) ran)
run_brought (Run parsed) parse is ran = is

-- one more ticket
pub one_more_ticket : {F : Type 0} (n : ℕ) (old : List ℕ) (before after : List (ToRun F)) (parse : ToRun F) → parse.ticket ≡ n → tickets_of before ≡ old → after ≡ before ++ parse ∷ []
    → tickets_of after ≡ with_begun (Waits n) old
one_more_ticket n old before after parse own same last =
    ap tickets_of last ∙ map-append (λ x. x.ticket) before (parse ∷ []) ∙ ap (λ k. tickets_of before ++ k ∷ []) own ∙ ap (λ ks. ks ++ n ∷ []) same

module _ {K T F I : Type 0} (g : Procedures K T F I) where
  -- other parses are awaited once an open above them is given up
  pub given_up_await : (s t : State K T F I) (n : ℕ) (parses : List (ToRun F)) → IsSound s → All (λ k. k < n) (tickets_of parses)
      → Step g s (Abandon n run.Unrun) (answers Success) t → AreAwaited s parses → AreAwaited t parses
  given_up_await s t n parses sound newest does h =
      all_await g s t (Abandon n run.Unrun) (answers Success) parses sound
      (of_tickets (λ k. n ≢ k) parses (All-weaker (λ k. k < n) (λ k. n ≢ k) (λ k less same. omega (arith, less, same)) (tickets_of parses) newest)) does h

  -- so it is where the parse was handed back
  pub handed_back_await : (s t : State K T F I) (back asked : ToRun F) (parses after : List (ToRun F)) → IsSound s → All (λ k. k < asked.ticket) (tickets_of parses) → back ≡ asked → after ≡ parses
      → Step g s (Abandon back.ticket run.Unrun) (answers Success) t → AreAwaited s parses → AreAwaited t after
  handed_back_await s t back asked parses after sound newest same is does h =
      subst (AreAwaited t) (sym is)
      (given_up_await s t asked.ticket parses sound newest (subst (λ (x : ToRun F). Step g s (Abandon x.ticket run.Unrun) (answers Success) t) same does) h)

  -- other parses are awaited once the open of a ticket that none of them has is resumed or given up
  module _ (s t : State K T F I) (n : ℕ) (run : ParseRun) (answer : Answer) (parses : List (ToRun F)) (sound : IsSound s) (others : All (λ k. n ≢ k) (tickets_of parses)) where
    pub others_resumed : Step g s (Resume n run) answer t → AreAwaited s parses → AreAwaited t parses
    others_resumed does h = all_await g s t (Resume n run) answer parses sound (of_tickets (λ k. n ≢ k) parses others) does h

    pub others_abandoned : Step g s (Abandon n run) answer t → AreAwaited s parses → AreAwaited t parses
    others_abandoned does h = all_await g s t (Abandon n run) answer parses sound (of_tickets (λ k. n ≢ k) parses others) does h

  -- a ticket that a step gives is a new one
  pub told_fresh : {E : Type 0} (result : Result Begun E) (s t : State K T F I) (event : Event K) (parses : List (ToRun F)) → IsSound s → AreAwaited s parses
      → IfOk result (λ begun. Step g s event (answer_in begun) t) → IfOk result (λ begun. IfWaits begun (λ n. (n ≢ 0) × (list_any (λ k. k == n) (tickets_of parses) ≡ false)))
  told_fresh (Ok (Replied reply)) s t event parses sound h does = tt
  told_fresh (Ok (Waits n)) s t event parses sound h does = ticket_is_new g s t event n parses sound h does
  told_fresh (Err e) s t event parses sound h does = tt

  -- a parse that was run is the one that its open waits for
  pub run_awaits : (s u : State K T F I) (asked : ToRun F) (ran parsed : HasRunOf F I) → ran.ticket ≡ asked.ticket → ran.face ≡ asked.face → ran.rest ≡ asked.rest → parsed ≡ ran → u ≡ s
      → IsParseOf s asked → IsParseOf u (asked_of parsed)
  run_awaits s u asked ran parsed ticket face rest is same h =
      let one : asked_of parsed ≡ asked = ap asked_of is ∙ (λ i. record { ticket = ticket i; face = face i; rest = rest i }) in
      subst (λ x. IsParseOf x (asked_of parsed)) (sym same) (subst (IsParseOf s) (sym one) h)

  -- a parse that is brought as one that was run is the one that its open waits for, where it is asked what that one is
  pub brought_awaits : (s : State K T F I) (asked : ToRun F) (parsed : HasRunOf F I) → asked_of parsed ≡ asked → IsParseOf s asked → IsParseOf s (asked_of parsed)
  brought_awaits s asked parsed is h = subst (IsParseOf s) (sym is) h

  -- the open of a ticket is given up, at once or behind a parse
  pub one_given_up : (s t : State K T F I) (n : ℕ) (parse : ParseRun) → Step g s (Abandon n parse) (answers Success) t → (steps : List (Made K)) × GivesUp g n steps s t
  one_given_up s t n parse does = ((Abandon n parse, answers Success) ∷ [], inl (parse, refl, refl, does, refl))

  -- the parses that are left
  module _ (s : State K T F I) (n : ℕ) (parses : List (ToRun F)) (h : AreAwaited s parses) where
    pub left_await : AreAwaited s (filter (λ parse. not (parse.ticket == n)) parses)
    left_await = All-filter (λ parse. not (parse.ticket == n)) (IsParseOf s) parses h

    pub found_awaits : (parse : ToRun F) → find (λ parse. parse.ticket == n) parses ≡ Some parse → IsParseOf s parse
    found_awaits parse e = of_some (IsParseOf s) (find (λ x. x.ticket == n) parses) parse e (find_of (IsParseOf s) (λ x. x.ticket == n) parses h)

    pub left_is_awaited : (left : List (ToRun F)) → left ≡ filter (λ parse. not (parse.ticket == n)) parses → AreAwaited s left
    left_is_awaited left is = subst (AreAwaited s) (sym is) left_await

    -- they are awaited once the open of the ticket is given up
    pub abandoned_await : (t : State K T F I) (m : ℕ) (parse : ParseRun) (answer : Answer) (left : List (ToRun F)) → IsSound s → m ≡ n → left ≡ filter (λ parse. not (parse.ticket == n)) parses
        → Step g s (Abandon m parse) answer t → AreAwaited t left
    abandoned_await t m parse answer left sound same is does =
        subst (AreAwaited t) (sym is)
        (all_await g s t (Abandon n parse) answer (filter (λ x. not (x.ticket == n)) parses) sound (others_left n parses) (subst (λ k. Step g s (Abandon k parse) answer t) same does) left_await)

  -- ---- all are given up

  -- what is left is given up behind what was
  abbrev pub GivesTheRest : List ℕ → State K T F I → List ℕ → State K T F I → Type 0
  GivesTheRest all s left u = (t : State K T F I) → GivesAllUp g left u t → GivesAllUp g all s t

  pub one_less : (all left : List ℕ) (s u v : State K T F I) (n : ℕ) → GivesTheRest all s (n ∷ left) u → Step g u (Abandon n run.Unrun) (answers Success) v → GivesTheRest all s left v
  one_less all left s u v n behind does = λ t more. behind t (v, does, more)

  -- the others are awaited once the first is given up
  pub rest_await : (s t : State K T F I) (first : ToRun F) (left : List (ToRun F)) → IsSound s → All (λ k. first.ticket < k) (tickets_of left) → AreAwaited s (first ∷ left)
      → Step g s (Abandon first.ticket run.Unrun) (answers Success) t → AreAwaited t left
  rest_await s t first left sound least h does =
      all_await g s t (Abandon first.ticket run.Unrun) (answers Success) left sound
      (of_tickets (λ k. first.ticket ≢ k) left (All-weaker (λ k. first.ticket < k) (λ k. first.ticket ≢ k) (λ k less same. omega (arith, less, same)) (tickets_of left) least)) does
      (All-tail (IsParseOf s) first left h)
