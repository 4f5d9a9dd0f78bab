-- Each ending of an open whose parse made an instance.
use Rattle.std.proofs.Common.{◌≡◌, ◌∙◌, ◌||◌, not, true, Some, ap, sym, subst, refl}
use Rattle.std.specs.Arc.{arc_value}
use Rattle.std.specs.Prelude.{Ok}
use Rattle.ob_model.specs.declared.reply.Answer.TheVariants.{Done}
use Rattle.ob_model.specs.declared.state.Body.TheVariants.{Other}
use Rattle.ob_model.specs.Grants.{Grants, is_table_full}
use Rattle.ob_model.specs.Opens.{options_by}
use Rattle.ob_model.specs.PendingOpens.{without_pending, with_instance}
use Rattle.ob_model.specs.declared.terms.Reason.TheVariants.{Opened}
use Rattle.ob_model.specs.Settle.{IsSettled, settle}
use Rattle.ob_model.specs.State.{State}
use Rattle.ob_model.specs.Types.{is_wanted}
use Rattle.ob_space.proofs.Results.{of_ok, of_err}
use Rattle.ob_space.proofs.InPlace.{isnt, never}
use Rattle.ob_life.specs.Settling.{AreShadowsFit}
use Rattle.ob_opens.proofs.FoundOpen.{found_open}
use Rattle.ob_opens.proofs.MadeGoes.{ticket_free}
use Rattle.ob_opens.proofs.MadeOpens.{made_asker_gone, made_other_type, made_refused, made_given, made_settled, made_fit}
use Rattle.ob_opens.proofs.MadePut.{ticket_drawn, of_on_err}
use Rattle.ob_opens.proofs.Refusing.{passes_brought}
use Rattle.ob_model.specs.Procedures.{EndsMade}
use Rattle.ob_model.specs.declared.terms.GrantOptions.{GrantOptions}
use Rattle.ob_opens.proofs.made.open_made.Goals as goal

pub returns-then-not-is_live-clause-resumed : goal.returns-then-not-is_live-clause-resumed
returns-then-not-is_live-clause-resumed g c =
    let s = c.args.space.now in
    let face = arc_value c.args.face in
    let found = found_open c.space.view_is c.args.ticket _ c.in-Some.ensures in
    made_asker_gone g.T.TypeSet.procedures s c.args.ticket c.in-Some.pending.now found
    (ticket_free g.T.TypeSet.procedures s c.args.ticket c.in-Some.pending.now found c.requires.between.sound c.requires.between.settled c.requires.between.orderly.rising) face c.args.inner
    (Done c.refuse_made.result) c.refuse_made.new.space (sym c.is_live.ensures ∙ c.if-not-is_live.true) c.refuse_made.ensures.answer (c.refuse_made.ensures.ended face)

pub returns-then-not-is_made_wanted-clause-resumed : goal.returns-then-not-is_made_wanted-clause-resumed
returns-then-not-is_made_wanted-clause-resumed g c =
    let s = c.args.space.now in
    let face = arc_value c.args.face in
    let found = found_open c.space.view_is c.args.ticket _ c.in-Some.ensures in
    let free = ticket_free g.T.TypeSet.procedures s c.args.ticket c.in-Some.pending.now found c.requires.between.sound c.requires.between.settled c.requires.between.orderly.rising in
    made_other_type g.T.TypeSet.procedures s c.args.ticket c.in-Some.pending.now found free face c.args.inner
    (Done c.refuse_made-then-not-is_made_wanted.result) c.refuse_made-then-not-is_made_wanted.new.space (sym c.is_live.ensures ∙ c.if-not-is_live.false)
    (sym (c.is_made_wanted.ensures c.args.inner ∙ ap (λ f. is_wanted g.T.TypeSet.procedures c.in-Some.pending.now.wanted (Other f c.args.inner)) c.deref.ensures) ∙ c.if-not-is_made_wanted.true) c.refuse_made-then-not-is_made_wanted.ensures.answer
    (c.refuse_made-then-not-is_made_wanted.ensures.ended face)

pub grant_made-requires-clause-free : goal.grant_made-requires-clause-free
grant_made-requires-clause-free g c κs within =
    ticket_free g.T.TypeSet.procedures c.args.space.now c.args.ticket c.in-Some.pending.now (found_open c.space.view_is c.args.ticket _ c.in-Some.ensures) c.requires.between.sound c.requires.between.settled
    c.requires.between.orderly.rising

pub grant_made-requires-clause-drawn : goal.grant_made-requires-clause-drawn
grant_made-requires-clause-drawn g c κs within =
    ticket_drawn g.T.TypeSet.procedures c.args.space.now c.args.ticket c.in-Some.pending.now (found_open c.space.view_is c.args.ticket _ c.in-Some.ensures) c.requires.between.sound

pub end_parse-requires-clause-shadows : goal.end_parse-requires-clause-shadows
end_parse-requires-clause-shadows g c κs within =
    let s = c.args.space.now in
    let u = c.grant_made.new.space in
    let x = c.in-Some.pending.now in
    let found = found_open c.space.view_is c.args.ticket _ c.in-Some.ensures in
    let free = ticket_free g.T.TypeSet.procedures s c.args.ticket x found c.requires.between.sound c.requires.between.settled c.requires.between.orderly.rising in
    let granted : Grants g.T.TypeSet.procedures (with_instance s c.args.ticket (arc_value c.args.face) c.args.inner) x.process c.args.ticket c.options_by-options.result Opened
    (Ok c.in-Ok-Ok.value) u =
    of_ok _ _ c.in-Ok-Ok.value c.in-Ok-Ok.field-0-is c.in-Ok-Ok.ensures.granted in
    subst (λ (v : State _ _ _ _). AreShadowsFit v) (sym granted.2)
    (made_fit s c.args.ticket free (arc_value c.args.face) c.args.inner g.T.TypeSet.procedures x.process c.in-Ok-Ok.value c.options_by-options.result.inherit c.requires.between.sound
    (ticket_drawn g.T.TypeSet.procedures s c.args.ticket x found c.requires.between.sound))

pub end_parse-requires-clause-settled : goal.end_parse-requires-clause-settled
end_parse-requires-clause-settled g c κs within =
    let s = c.args.space.now in
    let u = c.grant_made.new.space in
    let x = c.in-Some.pending.now in
    let found = found_open c.space.view_is c.args.ticket _ c.in-Some.ensures in
    let free = ticket_free g.T.TypeSet.procedures s c.args.ticket x found c.requires.between.sound c.requires.between.settled c.requires.between.orderly.rising in
    let granted : Grants g.T.TypeSet.procedures (with_instance s c.args.ticket (arc_value c.args.face) c.args.inner) x.process c.args.ticket c.options_by-options.result Opened
    (Ok c.in-Ok-Ok.value) u =
    of_ok _ _ c.in-Ok-Ok.value c.in-Ok-Ok.field-0-is c.in-Ok-Ok.ensures.granted in
    subst (λ (v : State _ _ _ _). IsSettled v) (sym granted.2)
    (made_settled s c.args.ticket free (arc_value c.args.face) c.args.inner g.T.TypeSet.procedures x.process c.in-Ok-Ok.value c.options_by-options.result.inherit c.requires.between.settled)

pub returns-in-Ok-Ok-clause-resumed : goal.returns-in-Ok-Ok-clause-resumed
returns-in-Ok-Ok-clause-resumed g c =
    let s = c.args.space.now in
    let u = c.grant_made.new.space in
    let x = c.in-Some.pending.now in
    let face = arc_value c.args.face in
    let found = found_open c.space.view_is c.args.ticket _ c.in-Some.ensures in
    let free = ticket_free g.T.TypeSet.procedures s c.args.ticket x found c.requires.between.sound c.requires.between.settled c.requires.between.orderly.rising in
    made_given g.T.TypeSet.procedures s c.args.ticket x found free face c.args.inner (Done c.with_handle.result) c.end_parse.new.space
    (sym c.is_live.ensures ∙ c.if-not-is_live.false) (sym (c.is_made_wanted.ensures c.args.inner ∙ ap (λ f. is_wanted g.T.TypeSet.procedures c.in-Some.pending.now.wanted (Other f c.args.inner)) c.deref.ensures) ∙ c.if-not-is_made_wanted.false) c.options_by-options.result
    c.options_by-options.ensures u c.in-Ok-Ok.value (of_ok _ _ c.in-Ok-Ok.value c.in-Ok-Ok.field-0-is c.in-Ok-Ok.ensures.granted) (ap Done c.with_handle.ensures) c.end_parse.ensures.ended

pub returns-in-Ok-Err-clause-resumed : goal.returns-in-Ok-Err-clause-resumed
returns-in-Ok-Err-clause-resumed g c =
    let s = c.args.space.now in
    let x = c.in-Some.pending.now in
    let face = arc_value c.args.face in
    let found = found_open c.space.view_is c.args.ticket _ c.in-Some.ensures in
    let free = ticket_free g.T.TypeSet.procedures s c.args.ticket x found c.requires.between.sound c.requires.between.settled c.requires.between.orderly.rising in
    let same : c.grant_made.new.space ≡ s = of_on_err _ c.in-Ok-Err.field-0 c.in-Ok-Err.refused c.in-Ok-Err.field-0-is c.in-Ok-Err.ensures.same in
    let given : c.in-Ok-Err.refused.inner ≡ c.args.inner = of_err _ c.in-Ok-Err.field-0 c.in-Ok-Err.refused c.in-Ok-Err.field-0-is c.in-Ok-Err.ensures.given in
    made_refused g.T.TypeSet.procedures s c.args.ticket x found free face c.args.inner (Done c.refuse_made-in-Ok-Err.result) c.refuse_made-in-Ok-Err.new.space
    (sym c.is_live.ensures ∙ c.if-not-is_live.false) (sym (c.is_made_wanted.ensures c.args.inner ∙ ap (λ f. is_wanted g.T.TypeSet.procedures c.in-Some.pending.now.wanted (Other f c.args.inner)) c.deref.ensures) ∙ c.if-not-is_made_wanted.false) c.options_by-options.result
    c.options_by-options.ensures (with_instance s c.args.ticket face c.args.inner) c.in-Ok-Err.refused.status
    (of_err _ c.in-Ok-Err.field-0 c.in-Ok-Err.refused c.in-Ok-Err.field-0-is c.in-Ok-Err.ensures.refused, refl) c.refuse_made-in-Ok-Err.ensures.answer
    (c.refuse_made-in-Ok-Err.ensures.ended face ∙ (λ i. settle g.T.TypeSet.procedures (with_instance (without_pending (same i) c.args.ticket) c.args.ticket face (given i))))

pub returns-in-Err-clause-early : goal.returns-in-Err-clause-early
returns-in-Err-clause-early g c =
    let s = c.args.space.now in
    let x = c.in-Some.pending.now in
    let face = arc_value c.args.face in
    let wanted : is_wanted g.T.TypeSet.procedures x.wanted (Other face c.args.inner) ≡ true =
    sym (c.is_made_wanted.ensures c.args.inner ∙ ap (λ f. is_wanted g.T.TypeSet.procedures x.wanted (Other f c.args.inner)) c.deref.ensures) ∙ c.if-not-is_made_wanted.false in
    never (passes_brought g.T.TypeSet.procedures s c.args.ticket x (Some (EndsMade face c.args.inner)) (found_open c.space.view_is c.args.ticket _ c.in-Some.ensures) (sym c.is_live.ensures ∙ c.if-not-is_live.false)
    (λ refused. subst (λ (q : GrantOptions). (q.exclusive || is_table_full s x.process) ≡ true → ⊥) c.options_by-options.ensures (isnt c.in-Err.ensures.early)
    (ap (λ b. not b || ((options_by x.attrs).exclusive || is_table_full s x.process)) (sym wanted) ∙ refused)))
