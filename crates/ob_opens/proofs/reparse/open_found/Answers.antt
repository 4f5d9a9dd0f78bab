-- Each ending of an open of the object that was found.
use Rattle.std.proofs.Common.{◌≡◌, ◌∙◌, true, Option, ap, sym, subst}
use Rattle.std.specs.Prelude.{Result, Err, MatchOption}
use Rattle.ob_model.specs.declared.reply.Answer.TheVariants.{Done}
use Rattle.ob_model.specs.Grants.{Grants}
use Rattle.ob_model.specs.PendingOpens.{without_pending}
use Rattle.ob_model.specs.declared.terms.Reason.TheVariants.{Opened}
use Rattle.ob_model.specs.Settle.{settle}
use Rattle.ob_space.proofs.InPlace.{isnt, never}
use Rattle.ob_opens.proofs.FoundOpen.{found_open}
use Rattle.ob_opens.proofs.OpensAgain.{found_other_type, found_refused, found_given, granted_is_settled, granted_is_fit, live_there}
use Rattle.ob_opens.proofs.Refusing.{passes_at}
use Rattle.ob_space.specs.Found.{is_grant_refused, is_refused_at}
use Rattle.ob_model.specs.Opens.{options_by}
use Rattle.ob_model.specs.declared.state.PendingOpen.{PendingOpen}
use Rattle.ob_model.specs.declared.terms.GrantOptions.{GrantOptions}
use Rattle.ob_opens.proofs.reparse.open_found.Goals as goal

pub returns-then-not-is_wanted_at-clause-opened : goal.returns-then-not-is_wanted_at-clause-opened
returns-then-not-is_wanted_at-clause-opened g c =
    let s = c.args.space.now in
    found_other_type g.T.TypeSet.procedures s c.args.ticket c.in-Some.pending.now (found_open c.space.view_is c.args.ticket _ c.in-Some.ensures) (Done c.refuse.result) c.refuse.new.space c.args.object
    (sym c.is_wanted_at.ensures ∙ c.if-not-is_wanted_at.true) c.refuse.ensures.answer c.refuse.ensures.ended

pub grant-requires-clause-live : goal.grant-requires-clause-live
grant-requires-clause-live g c κs within =
    live_there c.args.space.now c.args.ticket c.in-Some.pending.now (found_open c.space.view_is c.args.ticket _ c.in-Some.ensures) c.requires.live

pub end_parse-requires-clause-shadows : goal.end_parse-requires-clause-shadows
end_parse-requires-clause-shadows g c κs within =
    let s = c.args.space.now in
    let u = c.grant.new.space in
    let x = c.in-Some.pending.now in
    granted_is_fit g.T.TypeSet.procedures s u x.process c.args.object c.in-Ok.value c.options_by-options.result c.requires.sound
    (subst (λ (r : Result _ _). Grants g.T.TypeSet.procedures s x.process c.args.object c.options_by-options.result Opened r u) c.in-Ok.is c.in_ok-value.ensures.granted)

pub end_parse-requires-clause-settled : goal.end_parse-requires-clause-settled
end_parse-requires-clause-settled g c κs within =
    let s = c.args.space.now in
    let u = c.grant.new.space in
    let x = c.in-Some.pending.now in
    granted_is_settled g.T.TypeSet.procedures s u x.process c.args.object c.in-Ok.value c.options_by-options.result c.requires.settled
    (subst (λ (r : Result _ _). Grants g.T.TypeSet.procedures s x.process c.args.object c.options_by-options.result Opened r u) c.in-Ok.is c.in_ok-value.ensures.granted)

pub returns-in-Ok-clause-opened : goal.returns-in-Ok-clause-opened
returns-in-Ok-clause-opened g c =
    let s = c.args.space.now in
    let u = c.grant.new.space in
    let x = c.in-Some.pending.now in
    found_given g.T.TypeSet.procedures s c.args.ticket x (found_open c.space.view_is c.args.ticket _ c.in-Some.ensures) (Done c.with_handle.result) c.end_parse.new.space c.args.object
    (sym c.is_wanted_at.ensures ∙ c.if-not-is_wanted_at.false) c.options_by-options.result c.options_by-options.ensures u c.in-Ok.value
    (subst (λ (r : Result _ _). Grants g.T.TypeSet.procedures s x.process c.args.object c.options_by-options.result Opened r u) c.in-Ok.is c.in_ok-value.ensures.granted) (ap Done c.with_handle.ensures)
    c.end_parse.ensures.ended

pub returns-in-Err-clause-opened : goal.returns-in-Err-clause-opened
returns-in-Err-clause-opened g c =
    let s = c.args.space.now in
    let u = c.grant.new.space in
    let x = c.in-Some.pending.now in
    let refused : Grants g.T.TypeSet.procedures s x.process c.args.object c.options_by-options.result Opened (Err c.in-Err.status) u =
    subst (λ (r : Result _ _). Grants g.T.TypeSet.procedures s x.process c.args.object c.options_by-options.result Opened r u) c.in-Err.is c.in_ok-value.ensures.granted in
    found_refused g.T.TypeSet.procedures s c.args.ticket x (found_open c.space.view_is c.args.ticket _ c.in-Some.ensures) (Done c.refuse-in-Err.result) c.refuse-in-Err.new.space c.args.object
    (sym c.is_wanted_at.ensures ∙ c.if-not-is_wanted_at.false) c.options_by-options.result c.options_by-options.ensures u c.in-Err.status
    refused c.refuse-in-Err.ensures.answer
    (c.refuse-in-Err.ensures.ended ∙ ap (λ v. settle g.T.TypeSet.procedures (without_pending v c.args.ticket)) refused.1)

pub returns-in_err-value-clause-early : goal.returns-in_err-value-clause-early
returns-in_err-value-clause-early g c = λ refused.
    let s = c.args.space.now in
    let x = c.in-Some.pending.now in
    never (passes_at g.T.TypeSet.procedures s x.process c.args.object (options_by x.attrs) x.wanted (sym c.is_wanted_at.ensures ∙ c.if-not-is_wanted_at.false)
    (subst (λ (q : GrantOptions). is_grant_refused s x.process c.args.object q ≡ true → ⊥) c.options_by-options.ensures (isnt c.in_err-value.ensures.early)))
    (subst (λ (o : Option (PendingOpen _)). MatchOption o ⊥ (λ y. is_refused_at g.T.TypeSet.procedures s y.process (options_by y.attrs) y.wanted c.args.object ≡ true))
    (found_open c.space.view_is c.args.ticket _ c.in-Some.ensures) refused)
