-- A parse that was handed out is awaited, and what is brought has run.
use Rattle.std.proofs.Common.{◌≡◌, ◌∙◌, ◌↔◌, ℕ, Bool, true, IsTrue, List, [], ◌∷◌, inl, ap, Option, None, Some, Result, Ok, Err, IfOk, OnErr, refl, sym, subst}
use Rattle.std.specs.Prelude.{MatchOption}
use Rattle.ob_base.specs.declared.status.Status.TheVariants.{Success}
use Rattle.ob_model.specs.declared.reply.Event.TheVariants.{Resume, Abandon}
use Rattle.ob_model.specs.declared.reply.ParseRun.{ParseRun}
use Rattle.ob_model.specs.declared.state.PendingOpen.{PendingOpen}
use Rattle.ob_model.specs.PendingOpens.{pending_of, face_of}
use Rattle.ob_model.specs.Procedures.{Procedures, ParseOutcome, OwnFaceIsSame}
use Rattle.ob_model.specs.Refusals.{answers}
use Rattle.ob_model.specs.State.{State}
use Rattle.ob_model.specs.Step.{Step}
use Rattle.ob_opens.proofs.Endings.{its_ticket}
use Rattle.ob_types.specs.Pending.{run_of_end}
use Rattle.ob_types.specs.Parse.{ToRun, HasRun as HasRunOf, asked_of, IsFor}
use Rattle.ob_opens.specs.Waiting.{answer_of, IsParseOf, IsAwaited}
use Rattle.ob_opens.specs.declared.started.Started.{Started}
use Rattle.ob_runner.specs.Completes.{Made, HasRun, GivesUp}

-- what was run has run to its end, or as far as it found memory
pub brought_has_run : {F I : Type 0} (outcome : Option (ParseOutcome F I)) → HasRun (run_of_end outcome)
brought_has_run None = tt
brought_has_run (Some end) = tt

-- the step of a resume, told of the parse that was handed out and of how it ended
pub its_step : {K T F I : Type 0} (g : Procedures K T F I) (s u : State K T F I) (parse : ParseRun) (started : Started T K F I) {end : Started T K F I} {n m : ℕ} → started ≡ end → m ≡ n
    → Step g s (Resume m parse) (answer_of started) u → Step g s (Resume n parse) (answer_of end) u
its_step g s u parse started {end} {n} {m} is same step = subst (λ e. Step g s (Resume n parse) (answer_of e) u) is (subst (λ k. Step g s (Resume k parse) (answer_of started) u) same step)

-- where it is Ok, or isn't
pub ok_more : {X E : Type 0} (P Q : X → Type 0) (r : Result X E) → ((x : X) → P x → Q x) → IfOk r P → IfOk r Q
ok_more P Q (Ok x) more h = more x h
ok_more P Q (Err e) more h = tt

pub err_more : {X E : Type 0} (P Q : Type 0) (r : Result X E) → (P → Q) → OnErr r P → OnErr r Q
err_more P Q (Ok x) more h = tt
err_more P Q (Err e) more h = more h

-- the open of a parse that was handed out waits for it
pub is_awaited : {K T F I : Type 0} (g : Procedures K T F I) → OwnFaceIsSame g → (s : State K T F I) (asked : ToRun F) → IsParseOf s asked → IsAwaited g s asked
is_awaited {K} {T} {F} {I} g own s asked h = go (pending_of s asked.ticket) refl h
  where
    at_face : (x : PendingOpen K) (face : Option F) → x.rest ≡ asked.rest → face ≡ Some asked.face → asked.ticket ≡ x.ticket → MatchOption face ⊥ (λ pinned. IsFor g asked x pinned)
    at_face x None rest is ticket = cc
    at_face x (Some pinned) rest is ticket =
        let same : pinned ≡ asked.face = cc in
        record { ticket = ticket; rest = sym rest; face = subst (λ f. g.same_face asked.face f ≡ true) (sym same) (own asked.face) }

    go : (found : Option (PendingOpen K)) → pending_of s asked.ticket ≡ found → MatchOption found ⊥ (λ x. (x.rest ≡ asked.rest) × (face_of s x.object ≡ Some asked.face))
        → MatchOption found ⊥ (λ x. MatchOption (face_of s x.object) ⊥ (λ pinned. IsFor g asked x pinned))
    go None e h = absurd h
    go (Some x) e h = at_face x (face_of s x.object) h.0 h.1 (sym (its_ticket g s asked.ticket x e))

-- a parse that wasn't taken is given up with its open, which waits for it
pub gives_up_at_once : {K T F I : Type 0} (g : Procedures K T F I) (s u t : State K T F I) (asked : ToRun F) (ran parsed : HasRunOf F I) (result : Bool)
    → ran.ticket ≡ asked.ticket → ran.face ≡ asked.face → ran.rest ≡ asked.rest → parsed ≡ ran → u ≡ s → IsAwaited g s asked
    → (IsTrue result ↔ IsAwaited g u (asked_of parsed)) → (IsTrue result → Step g u (Abandon parsed.ticket (run_of_end parsed.outcome)) (answers Success) t)
    → (steps : List (Made K)) × GivesUp g asked.ticket steps s t
gives_up_at_once {K} {T} {F} {I} g s u t asked ran parsed result ticket face rest is same waits exact step =
    let parse = run_of_end parsed.outcome in
    let one : asked_of parsed ≡ asked = ap asked_of is ∙ (λ i. record { ticket = ticket i; face = face i; rest = rest i }) in
    let number : parsed.ticket ≡ asked.ticket = ap (λ (x : ToRun F). x.ticket) one in
    let there : IsAwaited g u (asked_of parsed) = subst (λ x. IsAwaited g x (asked_of parsed)) (sym same) (subst (IsAwaited g s) (sym one) waits) in
    let made : Step g s (Abandon asked.ticket parse) (answers Success) t =
    subst (λ k. Step g s (Abandon k parse) (answers Success) t) number (subst (λ x. Step g x (Abandon parsed.ticket parse) (answers Success) t) same (step (exact.1 there))) in
    ((Abandon asked.ticket parse, answers Success) ∷ [], inl (parse, refl, refl, made, refl))
