-- Entries by which a command is run to its reply, while it is on its way.
use Rattle.std.proofs.Common.{◌≡◌, ◌∙◌, ◌⊎◌, inl, inr, ℕ, [], ◌∷◌, ◌++◌, ap, refl, sym, subst}
use Rattle.std.proofs.lemmas.List.{append_assoc}
use Rattle.ob_base.specs.declared.fault.Fault.{Fault}
use Rattle.ob_base.specs.declared.status.Status.TheVariants.{Success}
use Rattle.ob_model.specs.declared.reply.Answer.{Answer}
use Rattle.ob_model.specs.declared.reply.Answer.TheVariants.{Done, Ticket}
use Rattle.ob_model.specs.declared.reply.Event.{Event}
use Rattle.ob_model.specs.declared.reply.Event.TheVariants.{Resume, Abandon}
use Rattle.ob_model.specs.declared.reply.ParseRun.{ParseRun}
use Rattle.ob_model.specs.declared.reply.Reply.{Reply}
use Rattle.ob_model.specs.Refusals.{answers}
use Rattle.ob_runner.specs.Completes.{HasRun, Leads}
use Rattle.ob_seats.specs.Received.{Entries, IsReceived}
use Rattle.ob_standard.specs.Standard.{StandardKind}
use Rattle.ob_seats.specs.Played.{IsRunBy}
use Rattle.ob_seats.specs.Stopped.{IsAbandoned, IsBrokenOff, IsEventBrokenOff, IsNotKept, IsStepNotKept, IsStopAt}
use Rattle.ob_requests.specs.Variables.{Variables}
use Rattle.ob_seats.specs.declared.stop.Stop.{Stop}
use Rattle.ob_seats.proofs.Told.{adds_none}

-- the open of a ticket is brought to a reply
abbrev pub IsBroughtBy : ℕ → Entries → Reply → Type 0
IsBroughtBy n entries reply = (parse : ParseRun) × HasRun parse × IsRunBy (Resume n parse) entries reply

-- between these receipts are entries by which an open that waits under one ticket comes to wait under another
abbrev pub GoesOn : Entries → ℕ → Entries → ℕ → Type 0
GoesOn from n to m =
    (entries : Entries) × (to ≡ from ++ entries) × ((more : Entries) (reply : Reply) → IsBroughtBy m more reply → IsBroughtBy n (entries ++ more) reply)
    × ((more : Entries) → IsBrokenOff m more → IsBrokenOff n (entries ++ more))

-- an entry was brought
abbrev pub IsBrought : Entries → ℕ → Answer → Entries → Type 0
IsBrought from n answer to = (parse : ParseRun) × HasRun parse × IsReceived from (Resume n parse) answer to

-- an open waits still
pub stays : (from : Entries) (n : ℕ) → GoesOn from n from n
stays from n = ([], adds_none from, (λ more reply by. by), (λ more off. off))

leads : (answer answer' : Answer) → answer ≡ answer' → (A : Reply → Type 0) (B : ℕ → Type 0) → Leads answer' A B → Leads answer A B
leads answer answer' same A B = subst (λ a. Leads a A B) (sym same)

-- it goes on to another ticket
pub goes_on : (from at to : Entries) (n m k : ℕ) → GoesOn from n at m → IsBrought at m (Ticket k) to → GoesOn from n to k
goes_on from at to n m k (entries, is, on, off) (parse, ran, (e, told, event, answer)) = (
  entries ++ e ∷ [],
  told ∙ (ap (λ xs. xs ++ e ∷ []) is ∙ append_assoc from entries (e ∷ [])),
  (λ more reply by. subst (λ xs. IsBroughtBy n xs reply) (sym (append_assoc entries (e ∷ []) more))
      (on (e ∷ more) reply (parse, ran, (event, leads e.answer (Ticket k) answer (λ given. (given ≡ reply) × (more ≡ [])) (λ j. (p : ParseRun) × HasRun p × IsRunBy (Resume j p) more reply) by)))),
  (λ more broken. subst (IsBrokenOff n) (sym (append_assoc entries (e ∷ []) more)) (off (e ∷ more) (inr (parse, k, ran, event, answer, broken)))),
)

-- it comes to its reply
pub comes_to_reply : (from at to : Entries) (n m : ℕ) (reply : Reply) → GoesOn from n at m → IsBrought at m (Done reply) to → (entries : Entries) × (to ≡ from ++ entries) × IsBroughtBy n entries reply
comes_to_reply from at to n m reply (entries, is, on, off) (parse, ran, (e, told, event, answer)) = (
  entries ++ e ∷ [],
  told ∙ (ap (λ xs. xs ++ e ∷ []) is ∙ append_assoc from entries (e ∷ [])),
  on (e ∷ []) reply (parse, ran, (event, leads e.answer (Done reply) answer (λ given. (given ≡ reply) × ([] ≡ [])) (λ j. (p : ParseRun) × HasRun p × IsRunBy (Resume j p) [] reply) (refl, refl))),
)

pub answered_so : (from : Entries) (n : ℕ) (answer answer' : Answer) (to : Entries) → answer ≡ answer' → IsBrought from n answer to → IsBrought from n answer' to
answered_so from n answer answer' to same (parse, ran, (e, told, event, is)) = (parse, ran, (e, told, event, is ∙ same))

-- the open doesn't wait any longer: by a step, or by none
abbrev pub IsLet : Entries → ℕ → Entries → Type 0
IsLet from n to = (to ≡ from) ⊎ ((parse : ParseRun) × IsReceived from (Abandon n parse) (answers Success) to)

-- so it comes to no reply
pub comes_to_none : (from at to : Entries) (n m : ℕ) → GoesOn from n at m → IsLet at m to → (entries : Entries) × (to ≡ from ++ entries) × IsBrokenOff n entries
comes_to_none from at to n m (entries, is, on, off) (inl same) = (entries, same ∙ is, subst (IsBrokenOff n) (sym (adds_none entries)) (off [] tt))
comes_to_none from at to n m (entries, is, on, off) (inr (parse, (e, told, event, answer))) = (
  entries ++ e ∷ [],
  told ∙ (ap (λ xs. xs ++ e ∷ []) is ∙ append_assoc from entries (e ∷ [])),
  off (e ∷ []) (inl (parse, event, answer, refl)),
)

-- nor does the event that led to it
pub breaks_off : (known : Fault → Type 0) (why : Stop) (from at to : Entries) (event : Event StandardKind) (n : ℕ) → IsReceived from event (Ticket n) at
    → (entries : Entries) × (to ≡ at ++ entries) × IsBrokenOff n entries × IsStopAt known why
    → (entries : Entries) × (to ≡ from ++ entries) × IsEventBrokenOff event entries × IsStopAt known why
breaks_off known why from at to event n (e, told, is, answer) (es, more, broken, stop) =
    (e ∷ es, more ∙ (ap (λ xs. xs ++ es) told ∙ append_assoc from (e ∷ []) es), (n, is, answer, broken), stop)

-- an event leads to a ticket whose open isn't kept, and so doesn't wait
pub step_not_kept : (from at to : Entries) (event : Event StandardKind) (n : ℕ) (why : Stop) (variables : Variables) → IsReceived from event (Ticket n) at → IsNotKept variables n why
    → (entries : Entries) × (to ≡ at ++ entries) × IsAbandoned n entries → (entries : Entries) × (to ≡ from ++ entries) × IsStepNotKept event entries why variables
step_not_kept from at to event n why variables (e, told, is, answer) not (es, more, abandoned) =
    (e ∷ es, more ∙ (ap (λ xs. xs ++ es) told ∙ append_assoc from (e ∷ []) es), (e, n, es, refl, is, answer, abandoned, not))

-- an open that doesn't wait any longer is abandoned, or was a stranger's
pub let_go : (from to : Entries) (n m : ℕ) → n ≡ m → IsLet from n to → (entries : Entries) × (to ≡ from ++ entries) × IsAbandoned m entries
let_go from to n m same (inl none) = ([], none ∙ adds_none from, inl refl)
let_go from to n m same (inr (parse, (e, told, event, answer))) = (e ∷ [], told, inr (e, parse, refl, event ∙ ap (λ k. Abandon k parse) same, answer))
