-- How a pending open is resumed and cancelled, from what is found of it and the step that is made.
use Rattle.std.proofs.Common.{◌≡◌, ℕ, List, None, Some, Ok, Err, option_map, refl, subst}
use Rattle.ob_base.specs.declared.status.Status.TheVariants.{Success, InvalidParameter, NoMemory}
use Rattle.ob_host.specs.declared.kind.Kind.{Kind}
use Rattle.ob_model.specs.PendingOpens.{pending_of}
use Rattle.ob_model.specs.Refusals.{answers}
use Rattle.ob_model.specs.Step.{Step}
use Rattle.ob_model.specs.declared.reply.Answer.TheVariants.{Done}
use Rattle.ob_model.specs.declared.reply.Event.TheVariants.{Resume, Abandon}
use Rattle.ob_model.specs.declared.reply.ParseRun.{ParseRun}
use Rattle.ob_model.specs.declared.reply.ParseRun.TheVariants.{Unrun}
use Rattle.ob_model.specs.declared.reply.Reply.{Reply}
use Rattle.ob_runner.specs.Begun.{answer_in}
use Rattle.ob_runner.specs.Completes.{Made, HasRun, GivesUp}
use Rattle.ob_runner.specs.declared.begun.Begun.{Begun}
use Rattle.ob_runner.specs.declared.begun.Begun.TheVariants.{Replied, Waits}
use Rattle.ob_c_state.specs.Machine.{Space, host}
use Rattle.ob_c_state.specs.Pending.{Cancels, EndsPending}
use Rattle.ob_c_state.proofs.OneParse.{gives_up_once, waits_once}
use Rattle.ob_c_state.proofs.Rests.{where_none, where_there}

module _ (s : Space) (n : ℕ) (t : Space) where
  -- what an open is resumed with leads to no other parse
  pub never_waits : (begun : Begun) (m : ℕ) → begun ≡ Waits m → (parse : ParseRun) × HasRun parse × Step host s (Resume n parse) (answer_in begun) t → ⊥
  never_waits begun m is (parse, ran, made) = waits_once s m n t parse (subst (λ (b : Begun). Step host s (Resume n parse) (answer_in b) t) is made)

  module _ (was : Space) (is : s ≡ was) where
    -- no open is pending under the ticket
    pub ends_none : None ≡ option_map (λ x. x.object) (pending_of s n) → t ≡ was → EndsPending n was (Err InvalidParameter) t
    ends_none none same = where_none (pending_of was n) _ _ (subst (λ (w : Space). None ≡ option_map (λ x. x.object) (pending_of w n)) is none) (refl, same)

    pub cancels_none : None ≡ option_map (λ x. x.object) (pending_of s n) → t ≡ was → Cancels n was InvalidParameter t
    cancels_none none same = where_none (pending_of was n) _ _ (subst (λ (w : Space). None ≡ option_map (λ x. x.object) (pending_of w n)) is none) (refl, same)

    module _ (o : ℕ) (found : Some o ≡ option_map (λ x. x.object) (pending_of s n)) where
      -- it was resumed, to its reply
      pub ends_in_reply : (begun : Begun) (reply : Reply) → begun ≡ Replied reply → (parse : ParseRun) × HasRun parse × Step host s (Resume n parse) (answer_in begun) t → EndsPending n was (Ok reply) t
      ends_in_reply begun reply reported (parse, ran, made) =
          let step : Step host s (Resume n parse) (Done reply) t = subst (λ (b : Begun). Step host s (Resume n parse) (answer_in b) t) reported made in
          subst (λ (w : Space). EndsPending n w (Ok reply) t) is (where_there (pending_of s n) _ _ o found (parse, ran, step))

      -- or it was out of memory
      pub ends_in_want : (steps : List (Made Kind)) × GivesUp host n steps s t → EndsPending n was (Err NoMemory) t
      ends_in_want up = subst (λ (w : Space). EndsPending n w (Err NoMemory) t) is (where_there (pending_of s n) _ _ o found (refl, gives_up_once s n t up))

      -- or it was abandoned
      pub cancels_it : Step host s (Abandon n Unrun) (answers Success) t → Cancels n was Success t
      cancels_it made = subst (λ (w : Space). Cancels n w Success t) is (where_there (pending_of s n) _ _ o found (refl, made))
