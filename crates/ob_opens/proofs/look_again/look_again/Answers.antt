-- The asker is gone, or what the lookup of the text leads to is done.
use Rattle.std.proofs.Common.{◌≡◌, ◌∙◌, ℕ, true, Option, None, Some, ap, sym, subst}
use Rattle.std.specs.Prelude.{MatchOption}
use Rattle.ob_lookup.specs.Look.{look_of}
use Rattle.ob_model.specs.declared.reply.Answer.TheVariants.{Done}
use Rattle.ob_model.specs.Looks as machine
use Rattle.ob_model.specs.Parses.{LooksAgain}
use Rattle.ob_model.specs.PendingOpens.{without_pending}
use Rattle.ob_model.specs.State.{is_store_full}
use Rattle.ob_space.proofs.InPlace.{isnt, never, open_ignores}
use Rattle.ob_opens.proofs.Endings.{its_ticket}
use Rattle.ob_opens.proofs.FoundOpen.{found_open}
use Rattle.ob_opens.proofs.OpensAgain.{gone_again}
use Rattle.ob_opens.specs.Waiting.{answer_of}
use Rattle.ob_opens.proofs.Resumed.{looked}
use Rattle.ob_opens.proofs.Refusing.{no_refusal_at, no_refusal_parse, passes_again, passes_brought, wants_again}
use Rattle.ob_space.specs.Found.{is_open_refused_at, is_refused_at}
use Rattle.ob_lookup.specs.Look.{MayWantMemory}
use Rattle.ob_model.specs.Procedures.{EndsReparse}
use Rattle.ob_model.specs.Opens.{open_mode, options_by}
use Rattle.ob_model.specs.declared.terms.Mode.{Mode}
use Rattle.ob_model.specs.declared.state.PendingOpen.{PendingOpen}
use Rattle.ob_opens.proofs.look_again.look_again.Goals as goal

pub returns-then-not-is_live-clause-resumed : goal.returns-then-not-is_live-clause-resumed
returns-then-not-is_live-clause-resumed g c =
    let s = c.args.space.now in
    gone_again g.T.TypeSet.procedures s c.args.ticket c.in-Some.pending.now (found_open c.space.view_is c.args.ticket _ c.in-Some.ensures) (Done c.status_alone.result) c.end_parse.new.space c.args.text
    (sym c.is_live.ensures ∙ c.if-not-is_live.true) (ap Done c.status_alone.ensures) c.end_parse.ensures.ended

pub returns-in-Refused-clause-resumed : goal.returns-in-Refused-clause-resumed
returns-in-Refused-clause-resumed g c =
    let s = c.args.space.now in
    let t = c.refuse_open.new.space in
    let x = c.in-Some.pending.now in
    let mode = c.mode_of_open-mode.result in
    looked g.T.TypeSet.procedures s t c.args.ticket x c.args.text (machine.Refused c.in-Refused.status) mode (Done c.refuse_open.result) (found_open c.space.view_is c.args.ticket _ c.in-Some.ensures)
    (sym c.is_live.ensures ∙ c.if-not-is_live.false) c.mode_of_open-mode.ensures
    (subst (λ look. LooksAgain g.T.TypeSet.procedures (without_pending s c.args.ticket) x.process mode x.left c.args.text (look_of look)) c.in-Refused.is (c.in_ok-status.ensures.end c.args.ticket))
    (rw (← c.look_up_again.ensures.unchanged) c.refuse_open.ensures.opened)

pub returns-in_ok-open_found-in-At-clause-resumed : goal.returns-in_ok-open_found-in-At-clause-resumed
returns-in_ok-open_found-in-At-clause-resumed g c =
    let s = c.args.space.now in
    let t = c.open_found.new.space in
    let x = c.in-Some.pending.now in
    let mode = c.mode_of_open-mode.result in
    looked g.T.TypeSet.procedures s t c.args.ticket x c.args.text (machine.At c.in-At.object) mode (Done c.in_ok-open_found-in-At.field-0) (found_open c.space.view_is c.args.ticket _ c.in-Some.ensures)
    (sym c.is_live.ensures ∙ c.if-not-is_live.false) c.mode_of_open-mode.ensures
    (subst (λ look. LooksAgain g.T.TypeSet.procedures (without_pending s c.args.ticket) x.process mode x.left c.args.text (look_of look)) c.in-At.is (c.in_ok-status.ensures.end c.args.ticket))
    (rw (← c.look_up_again.ensures.unchanged) c.in_ok-open_found-in-At.ensures.opened)

pub returns-in_ok-begun-in-Parse-clause-resumed : goal.returns-in_ok-begun-in-Parse-clause-resumed
returns-in_ok-begun-in-Parse-clause-resumed g c =
    let s = c.args.space.now in
    let t = c.begin_anew.new.space in
    let x = c.in-Some.pending.now in
    let mode = c.mode_of_open-mode.result in
    looked g.T.TypeSet.procedures s t c.args.ticket x c.args.text (machine.Parse c.in-Parse.object c.in-Parse.rest c.in-Parse.left) mode (answer_of c.in_ok-begun-in-Parse.begun) (found_open c.space.view_is c.args.ticket _ c.in-Some.ensures)
    (sym c.is_live.ensures ∙ c.if-not-is_live.false) c.mode_of_open-mode.ensures
    (subst (λ look. LooksAgain g.T.TypeSet.procedures (without_pending s c.args.ticket) x.process mode x.left c.args.text (look_of look)) c.in-Parse.is (c.in_ok-status.ensures.end c.args.ticket))
    (rw (← c.look_up_again.ensures.unchanged) c.in_ok-begun-in-Parse.ensures.begun)

pub returns-in_err-status-clause-early : goal.returns-in_err-status-clause-early
returns-in_err-status-clause-early g c =
    let s = c.args.space.now in
    let x = c.in-Some.pending.now in
    let u = without_pending s x.ticket in
    never (passes_brought g.T.TypeSet.procedures s c.args.ticket x (Some (EndsReparse c.args.text)) (found_open c.space.view_is c.args.ticket _ c.in-Some.ensures) (sym c.is_live.ensures ∙ c.if-not-is_live.false)
    (wants_again g.T.TypeSet.procedures u x.process (open_mode x.wanted x.attrs) c.args.text (is_open_refused_at g.T.TypeSet.procedures u x.process x.attrs x.wanted) x.left c.in_err-status.ensures.left
    (subst (λ (m : Mode). (end : machine.Look) → machine.LooksUp g.T.TypeSet.procedures u x.process m 0 None c.args.text end → MayWantMemory end) c.mode_of_open-mode.ensures (c.in_err-status.ensures.wants x.ticket))))

pub returns-in_err-open_found-in-At-clause-early : goal.returns-in_err-open_found-in-At-clause-early
returns-in_err-open_found-in-At-clause-early g c =
    let s = c.args.space.now in
    let x = c.in-Some.pending.now in
    let u = without_pending s x.ticket in
    let found = found_open c.space.view_is c.args.ticket _ c.in-Some.ensures in
    let look = machine.At c.in-At.object in
    never (passes_brought g.T.TypeSet.procedures s c.args.ticket x (Some (EndsReparse c.args.text)) found (sym c.is_live.ensures ∙ c.if-not-is_live.false)
    (passes_again g.T.TypeSet.procedures u x.process (open_mode x.wanted x.attrs) c.args.text (is_open_refused_at g.T.TypeSet.procedures u x.process x.attrs x.wanted) (open_ignores g.T.TypeSet.procedures u x.process x.attrs x.wanted) look
    (isnt (λ refused. c.in_err-open_found-in-At.ensures.early
    (rw c.look_up_again.ensures.unchanged (subst (λ (o : Option (PendingOpen _)). MatchOption o ⊥ (λ y. is_refused_at g.T.TypeSet.procedures s y.process (options_by y.attrs) y.wanted c.in-At.object ≡ true)) (sym found) refused))))
    (no_refusal_at c.in-At.object) x.left
    (subst (λ (m : Mode). LooksAgain g.T.TypeSet.procedures u x.process m x.left c.args.text look) c.mode_of_open-mode.ensures
    (subst (λ look. LooksAgain g.T.TypeSet.procedures u x.process c.mode_of_open-mode.result x.left c.args.text (look_of look)) c.in-At.is (c.in_ok-status.ensures.end x.ticket)))))

pub returns-in_err-begun-in-Parse-clause-early : goal.returns-in_err-begun-in-Parse-clause-early
returns-in_err-begun-in-Parse-clause-early g c =
    let s = c.args.space.now in
    let x = c.in-Some.pending.now in
    let u = without_pending s x.ticket in
    let found = found_open c.space.view_is c.args.ticket _ c.in-Some.ensures in
    let look = machine.Parse c.in-Parse.object c.in-Parse.rest c.in-Parse.left in
    never (passes_brought g.T.TypeSet.procedures s c.args.ticket x (Some (EndsReparse c.args.text)) found (sym c.is_live.ensures ∙ c.if-not-is_live.false)
    (passes_again g.T.TypeSet.procedures u x.process (open_mode x.wanted x.attrs) c.args.text (is_open_refused_at g.T.TypeSet.procedures u x.process x.attrs x.wanted) (open_ignores g.T.TypeSet.procedures u x.process x.attrs x.wanted) look
    (subst (λ (n : ℕ). is_store_full (without_pending s n) ≡ true → ⊥) (sym (its_ticket g.T.TypeSet.procedures s c.args.ticket x found)) (rw (← c.look_up_again.ensures.unchanged) (isnt c.in_err-begun-in-Parse.ensures.full)))
    (no_refusal_parse c.in-Parse.object c.in-Parse.rest c.in-Parse.left) x.left
    (subst (λ (m : Mode). LooksAgain g.T.TypeSet.procedures u x.process m x.left c.args.text look) c.mode_of_open-mode.ensures
    (subst (λ look. LooksAgain g.T.TypeSet.procedures u x.process c.mode_of_open-mode.result x.left c.args.text (look_of look)) c.in-Parse.is (c.in_ok-status.ensures.end x.ticket)))))
