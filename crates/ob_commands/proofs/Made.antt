-- A new object, put together of what the parts of its making ensure.
use Rattle.std.proofs.Common.{◌≡◌, ℕ, Bool, ◌&&◌, refl, ap, ◌∙◌, sym, subst}
use Rattle.std.specs.Prelude.{Option, None, Some, MatchOption}
use Rattle.std.specs.Option.{is_some}
use Rattle.ob_base.specs.declared.status.Status.TheVariants.{Success, TypeRefused}
use Rattle.ob_base.specs.Attrs.{has_flag, inherit_flag, permanent_flag, exclusive_flag}
use Rattle.ob_model.specs.declared.reply.Answer.{Answer}
use Rattle.ob_model.specs.declared.reply.Given.TheVariants.{Handle}
use Rattle.ob_model.specs.declared.state.Body.{Body}
use Rattle.ob_model.specs.State.{State}
use Rattle.ob_model.specs.declared.terms.Reason.TheVariants.{Created}
use Rattle.ob_model.specs.Procedures.{Procedures}
use Rattle.ob_model.specs.Settle.{IsSettled, settle}
use Rattle.ob_model.specs.Grants.{IsFreeValue, open_refusal_of}
use Rattle.ob_model.specs.Refusals.{gives, answers, IsRefused}
use Rattle.ob_model.specs.Creates as machine
use Rattle.ob_model.specs.Creates.{created, make_refusal, body_made, dropped, MakesInRoom}
use Rattle.ob_model.proofs.Staying.{created_settled, settled_itself}
use Rattle.ob_objects.specs.declared.object.StoredObject.{StoredObject}
use Rattle.ob_objects.specs.Store.{body_of_stored}
use Rattle.ob_space.specs.declared.placing.Spot.{Spot}
use Rattle.ob_space.specs.Placing.{spot_of, placed}

-- a spot is given, or none is
spot_given : (spot : Option Spot) → is_some spot ≡ is_some (spot_of spot)
spot_given None = refl
spot_given (Some at) = refl

module _ {K T F I : Type 0} (g : Procedures K T F I) (s after : State K T F I) (p attrs value : ℕ) (inherit : Bool) (inherit_is : inherit ≡ has_flag inherit_flag attrs)
    (spot : Option Spot) (x : StoredObject F I) (named : Bool) (named_is : named ≡ is_some spot)
    (permanent_is : x.permanent ≡ (named && has_flag permanent_flag attrs)) (exclusive_is : x.exclusive ≡ has_flag exclusive_flag attrs)
    (placed_is : after ≡ placed g s p (spot_of spot) x value inherit) (free : IsFreeValue s p value) where
  permanent_as : x.permanent ≡ (is_some (spot_of spot) && has_flag permanent_flag attrs)
  permanent_as = permanent_is ∙ ap (λ b. b && has_flag permanent_flag attrs) (named_is ∙ spot_given spot)

  is_created : after ≡ created g s p (spot_of spot) (body_of_stored x.body) attrs value
  is_created =
      placed_is
      ∙ (λ i. placed g s p (spot_of spot) (record x { permanent = permanent_as i; exclusive = exclusive_is i }) value (inherit_is i))

  -- where all stays, all stays when it is made
  made_stays : IsSettled s → after ≡ settle g after
  made_stays settled = sym (settled_itself g after (subst IsSettled (sym is_created) (created_settled g s p (spot_of spot) (body_of_stored x.body) attrs value settled)))

  pub makes_given : (making : machine.Making K) (answer : Answer) → body_of_stored x.body ≡ body_made g making → make_refusal g making ≡ None
      → open_refusal_of g s.set (body_of_stored x.body) Created ≡ None
      → answer ≡ gives Success (Handle value) → IsSettled s → MakesInRoom g s p attrs making (spot_of spot) answer after
  makes_given making answer is not_refused not_denied told settled =
      subst (λ (refusal : Option ℕ). MatchOption refusal (MatchOption (open_refusal_of g s.set (body_made g making) Created) Given DroppedFor) (λ k. IsRefused s (TypeRefused k) answer after)) (sym not_refused)
      (subst (λ (refusal : Option ℕ). MatchOption refusal Given DroppedFor)
      (sym (sym (ap (λ (b : Body F I). open_refusal_of g s.set b Created) is) ∙ not_denied))
      (value, free, told, made_stays settled ∙ ap (settle g) (is_created ∙ ap (λ (b : Body F I). created g s p (spot_of spot) b attrs value) is)))
    where
      Given : Type 0
      Given = (value : ℕ) × IsFreeValue s p value × (answer ≡ gives Success (Handle value)) × (after ≡ settle g (created g s p (spot_of spot) (body_made g making) attrs value))

      DroppedFor : ℕ → Type 0
      DroppedFor k = (answer ≡ answers (TypeRefused k)) × (after ≡ dropped g s (body_made g making))
