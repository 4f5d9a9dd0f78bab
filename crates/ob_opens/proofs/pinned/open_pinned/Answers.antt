-- Each ending of an open of the pinned object.
use Rattle.std.proofs.Common.{◌≡◌, ◌∙◌, ◌<◌, true, Some, ap, sym, subst}
use Rattle.std.specs.List.{AllPairs}
use Rattle.std.specs.Prelude.{Result, Err}
use Rattle.ob_model.specs.declared.reply.Answer.TheVariants.{Done}
use Rattle.ob_model.specs.Grants.{Grants}
use Rattle.ob_model.specs.PendingOpens.{pending_of, without_pending}
use Rattle.ob_model.specs.declared.terms.Reason.TheVariants.{Opened}
use Rattle.ob_model.specs.Settle.{settle}
use Rattle.ob_model.specs.State.{State}
use Rattle.ob_space.specs.Namespace.{parts, state_of}
use Rattle.ob_space.proofs.InPlace.{isnt, never}
use Rattle.ob_opens.proofs.Endings.{asker_gone, other_type, grant_refused, grant_given}
use Rattle.ob_opens.proofs.Pinning.{opens_orderly}
use Rattle.ob_opens.proofs.Refusing.{passes_at, passes_brought}
use Rattle.ob_space.specs.Found.{is_grant_refused}
use Rattle.ob_model.specs.Procedures.{EndsItself}
use Rattle.ob_model.specs.Opens.{options_by}
use Rattle.ob_model.specs.declared.terms.GrantOptions.{GrantOptions}
use Rattle.ob_opens.proofs.pinned.open_pinned.Goals as goal

pub returns-then-not-is_live-clause-resumed : goal.returns-then-not-is_live-clause-resumed
returns-then-not-is_live-clause-resumed g c =
    let s = c.args.space.now in
    let found = ap (λ (v : State _ _ _ _). pending_of v c.args.ticket) (sym c.space.view_is) ∙ sym c.in-Some.ensures in
    asker_gone g.T.TypeSet.procedures s c.args.ticket c.in-Some.pending.now found (Done c.refuse.result) c.refuse.new.space
    (sym c.is_live.ensures ∙ c.if-not-is_live.true) c.refuse.ensures.answer c.refuse.ensures.ended

pub returns-then-not-is_wanted_at-clause-resumed : goal.returns-then-not-is_wanted_at-clause-resumed
returns-then-not-is_wanted_at-clause-resumed g c =
    let s = c.args.space.now in
    let found = ap (λ (v : State _ _ _ _). pending_of v c.args.ticket) (sym c.space.view_is) ∙ sym c.in-Some.ensures in
    other_type g.T.TypeSet.procedures s c.args.ticket c.in-Some.pending.now found (Done c.refuse-then-not-is_wanted_at.result)
    c.refuse-then-not-is_wanted_at.new.space (sym c.is_live.ensures ∙ c.if-not-is_live.false) (sym c.is_wanted_at.ensures ∙ c.if-not-is_wanted_at.true)
    c.refuse-then-not-is_wanted_at.ensures.answer c.refuse-then-not-is_wanted_at.ensures.ended

pub returns-in-Ok-clause-orderly : goal.returns-in-Ok-clause-orderly
returns-in-Ok-clause-orderly g c =
    opens_orderly g.T.TypeSet.idle (state_of g.row.T-Kind.Denot (parts c.space-in-Ok.inside)) c.take.new.self (rw (← c.space-in-Ok.view_is) at c.grant.ensures.orderly)

pub returns-in-Ok-clause-resumed : goal.returns-in-Ok-clause-resumed
returns-in-Ok-clause-resumed g c =
    let s = c.args.space.now in
    let found = ap (λ (v : State _ _ _ _). pending_of v c.args.ticket) (sym c.space.view_is) ∙ sym c.in-Some.ensures in
    let u = c.grant.new.space in
    let granted = state_of g.row.T-Kind.Denot (parts c.space-in-Ok.inside) in
    let x = c.in-Some.pending.now in
    grant_given g.T.TypeSet.procedures s c.args.ticket x found (Done c.with_handle.result) (record granted { pending = c.take.new.self }) (sym c.is_live.ensures ∙ c.if-not-is_live.false)
    (sym c.is_wanted_at.ensures ∙ c.if-not-is_wanted_at.false) c.options_by-options.result c.options_by-options.ensures u c.in-Ok.value
    (subst (λ (r : Result _ _). Grants g.T.TypeSet.procedures s x.process x.object c.options_by-options.result Opened r u) c.in-Ok.is c.in_ok-value.ensures.granted)
    (subst (λ (v : State _ _ _ _). AllPairs (λ a b. a.ticket < b.ticket) v.pending) c.space.view_is c.len.ensures.rising)
    c.requires.settled (ap Done c.with_handle.ensures) ((λ i. record granted { pending = c.take.ensures.others i }) ∙ ap (λ (v : State _ _ _ _). without_pending v c.args.ticket) c.space-in-Ok.view_is)

pub returns-in-Err-clause-resumed : goal.returns-in-Err-clause-resumed
returns-in-Err-clause-resumed g c =
    let s = c.args.space.now in
    let found = ap (λ (v : State _ _ _ _). pending_of v c.args.ticket) (sym c.space.view_is) ∙ sym c.in-Some.ensures in
    let u = c.grant.new.space in
    let x = c.in-Some.pending.now in
    let refused : Grants g.T.TypeSet.procedures s x.process x.object c.options_by-options.result Opened (Err c.in-Err.status) u =
    subst (λ (r : Result _ _). Grants g.T.TypeSet.procedures s x.process x.object c.options_by-options.result Opened r u) c.in-Err.is c.in_ok-value.ensures.granted in
    grant_refused g.T.TypeSet.procedures s c.args.ticket x found (Done c.refuse-in-Err.result) c.refuse-in-Err.new.space
    (sym c.is_live.ensures ∙ c.if-not-is_live.false) (sym c.is_wanted_at.ensures ∙ c.if-not-is_wanted_at.false) c.options_by-options.result c.options_by-options.ensures u c.in-Err.status
    refused c.refuse-in-Err.ensures.answer
    (c.refuse-in-Err.ensures.ended ∙ ap (λ v. settle g.T.TypeSet.procedures (without_pending v c.args.ticket)) refused.1)

pub returns-in_err-value-clause-early : goal.returns-in_err-value-clause-early
returns-in_err-value-clause-early g c =
    let s = c.args.space.now in
    let found = ap (λ (v : State _ _ _ _). pending_of v c.args.ticket) (sym c.space.view_is) ∙ sym c.in-Some.ensures in
    let x = c.in-Some.pending.now in
    never (passes_brought g.T.TypeSet.procedures s c.args.ticket x (Some EndsItself) found (sym c.is_live.ensures ∙ c.if-not-is_live.false)
    (passes_at g.T.TypeSet.procedures s x.process x.object (options_by x.attrs) x.wanted (sym c.is_wanted_at.ensures ∙ c.if-not-is_wanted_at.false)
    (subst (λ (q : GrantOptions). is_grant_refused s x.process x.object q ≡ true → ⊥) c.options_by-options.ensures (isnt c.in_err-value.ensures.early))))
