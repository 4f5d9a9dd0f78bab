-- The open that was pending is refused; or none was pending, and nothing changes.
use Rattle.std.proofs.Common.{◌∙◌, ℕ, ap, sym}
use Rattle.ob_model.specs.PendingOpens.{without_pending}
use Rattle.ob_model.specs.Refusals.{answers}
use Rattle.ob_model.specs.Settle.{settle}
use Rattle.ob_model.specs.State.{is_live}
use Rattle.ob_opens.specs.Refused.{refusal_of}
use Rattle.ob_opens.proofs.Ended.{nothing_pending, nothing_ends}
use Rattle.ob_opens.proofs.Refused.{has_ticket, refuses, of_pending}
use Rattle.ob_opens.proofs.unpin.refuse_parse.Goals as goal

pub returns-in_err-pending-clause-stranger : goal.returns-in_err-pending-clause-stranger
returns-in_err-pending-clause-stranger g c = λ none.
    let s = c.args.space.now in
    let nothing = sym c.end_parse.ensures.there ∙ c.in_err-pending.was in
    c.end_parse.ensures.ended ∙ sym (nothing_ends g.T.TypeSet.procedures s c.args.ticket nothing c.requires.settled) ∙ nothing_pending g.T.TypeSet.procedures s c.args.ticket nothing c.requires.settled

pub returns-clause-refused : goal.returns-clause-refused
returns-clause-refused g c =
    let s = c.args.space.now in
    let x = c.in_ok-pending.pending in
    let found = sym c.end_parse.ensures.there ∙ c.in_ok-pending.was in
    of_pending g.T.TypeSet.procedures s c.end_parse.new.space x _ c.args.ticket (refusal_of c.args.code) found
    (refuses g.T.TypeSet.procedures s c.end_parse.new.space x _ c.args.code c.is_live.result
    (c.is_live.ensures ∙ ap (λ v. is_live v x.process) c.end_parse.ensures.ended) (ap answers c.refusal-status.ensures)
    (c.end_parse.ensures.ended ∙ ap (λ (n : ℕ). settle g.T.TypeSet.procedures (without_pending s n)) (sym (has_ticket c.args.ticket x s.pending found))))
