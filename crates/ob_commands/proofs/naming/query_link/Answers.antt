-- The target of what is stored is told, where it is a link.
use Rattle.std.proofs.Common.{not, ℕ, List, ap, sym, refl, ◌∙◌}
use Rattle.std.specs.Prelude.{None, Some}
use Rattle.std.specs.Option.{option_copied}
use Rattle.ob_base.specs.declared.status.Status.TheVariants.{Success}
use Rattle.ob_model.specs.declared.reply.Answer.TheVariants.{Done}
use Rattle.ob_model.specs.declared.reply.Given.TheVariants.{Text}
use Rattle.ob_model.specs.Naming.{target_of}
use Rattle.ob_model.specs.Refusals.{gives}
use Rattle.ob_model.specs.Types.{is_wanted_at}
use Rattle.ob_model.specs.declared.state.Wanted.TheVariants as wanted
use Rattle.ob_space.proofs.InPlace.{never}
use Rattle.ob_commands.proofs.Passed.{passes_handle, link_wanted}
use Rattle.ob_objects.specs.Store.{body_of_stored}
use Rattle.ob_commands.proofs.Queries.{queries_link, tells_target}
use Rattle.ob_space.proofs.Stored.{target_is, no_target}
use Rattle.ob_commands.proofs.naming.query_link.Goals as goal
use Rattle.ob_space.proofs.Shown.{shown}

pub returns-in_default-get-clause-step : goal.returns-in_default-get-clause-step
returns-in_default-get-clause-step g c =
    let s = c.args.space.now in
    let answer = Done c.status_alone-in_default-get.result in
    queries_link s c.args.process c.args.handle answer c.in-Some.held (sym c.is_live.ensures ∙ c.if-not-is_live.false) c.in-Some.ensures
    (tells_target s c.in-Some.held.object answer None
    (target_is s c.space.inside.store (shown c.space.inside.store (sym c.space.view_is) refl refl) c.in-Some.held.object None (sym (ap option_copied c.in_default-get.is) ∙ c.get.ensures.stored)) (ap Done c.status_alone-in_default-get.ensures))

pub returns-in_default-body-clause-step : goal.returns-in_default-body-clause-step
returns-in_default-body-clause-step g c =
    let s = c.args.space.now in
    let answer = Done c.status_alone-in_default-body.result in
    let stored = c.in-Some-get.stored.now in
    queries_link s c.args.process c.args.handle answer c.in-Some.held (sym c.is_live.ensures ∙ c.if-not-is_live.false) c.in-Some.ensures
    (tells_target s c.in-Some.held.object answer None
    (target_is s c.space.inside.store (shown c.space.inside.store (sym c.space.view_is) refl refl) c.in-Some.held.object (Some stored) (sym (ap option_copied c.in-Some-get.is) ∙ c.get.ensures.stored)
    ∙ no_target stored.body c.in_default-body.not-Link) (ap Done c.status_alone-in_default-body.ensures))

pub returns-clause-step : goal.returns-clause-step
returns-clause-step g c =
    let s = c.args.space.now in
    let answer = Done c.with_text.result in
    let stored = c.in-Some-get.stored.now in
    queries_link s c.args.process c.args.handle answer c.in-Some.held (sym c.is_live.ensures ∙ c.if-not-is_live.false) c.in-Some.ensures
    (tells_target s c.in-Some.held.object answer (Some c.in-Link.target)
    (target_is s c.space.inside.store (shown c.space.inside.store (sym c.space.view_is) refl refl) c.in-Some.held.object (Some stored) (sym (ap option_copied c.in-Some-get.is) ∙ c.get.ensures.stored)
    ∙ ap (λ body. target_of (body_of_stored body)) c.in-Link.is)
    (ap Done c.with_text.ensures ∙ ap (λ (text : List ℕ). gives Success (Text text)) (c.in_ok-target.ensures.copy ∙ c.as_slice.ensures.bytes)))

pub returns-in_err-target-clause-found : goal.returns-in_err-target-clause-found
returns-in_err-target-clause-found g c =
    let s = c.args.space.now in
    let stored = c.in-Some-get.stored.now in
    never (passes_handle s c.args.process c.args.handle c.in-Some.held c.in-Some.ensures (λ h. not (is_wanted_at g.T.TypeSet.procedures s h.object wanted.Link))
    (link_wanted g.T.TypeSet.procedures s c.in-Some.held.object c.in-Link.target
    (target_is s c.space.inside.store (shown c.space.inside.store (sym c.space.view_is) refl refl) c.in-Some.held.object (Some stored) (sym (ap option_copied c.in-Some-get.is) ∙ c.get.ensures.stored)
    ∙ ap (λ body. target_of (body_of_stored body)) c.in-Link.is)))
