-- The line makes its step where an open waits under its variable, or where none does, as its form asks; else there is a notice in place of a step.
use Rattle.std.proofs.Common.{◌≡◌, ◌++◌, ◌∙◌, IfErr, OnOk, Some, None, ap, refl, inl, inr, if◌then◌else◌, sym, subst, [], ◌∷◌}
use Rattle.std.specs.Prelude.{codes}
use Rattle.ob_lines.specs.Grammar.{pending_seen}
use Rattle.ob_requests.specs.Tables.{variables_in}
use Rattle.ob_seats.specs.Received.{Entries}
use Rattle.ob_seats.specs.Played.{IsWaitPlayed}
use Rattle.ob_seats.specs.Stopped.{IsWaitBegun}
use Rattle.ob_seats.proofs.Told.{adds_none, if_err, then_ok, waits, waits_not}
use Rattle.ob_seats.proofs.waiting.carry_on.Goals as goal

pub returns-else-ticket_of-ne0-clause-played : goal.returns-else-ticket_of-ne0-clause-played
returns-else-ticket_of-ne0-clause-played g c =
    let was = variables_in c.args.variables.now in
    subst (λ p. OnOk c.begin.result.1 ((entries : Entries) × (g.C.Callers.receipts c.begin.result.0 ≡ g.C.Callers.receipts c.args.pass ++ entries)
    × IsWaitPlayed (pending_seen p) c.args.process was entries (variables_in c.begin.new.variables))) (sym c.in-Begin.is)
    (then_ok _ _ c.begin.result.1
    (λ t. (
      t.0 ∷ [],
      t.1,
      inr (ap (λ b. if b then Some (codes "BUSY") else None) (waits_not was c.args.process c.in-Begin.variable.now (sym c.ticket_of.ensures ∙ c.if-ticket_of-ne0.false)), t.0, refl, t.2),
    ))
    c.begin.ensures.played)

pub returns-else-ticket_of-ne0-clause-begun : goal.returns-else-ticket_of-ne0-clause-begun
returns-else-ticket_of-ne0-clause-begun g c =
    let was = variables_in c.args.variables.now in
    subst (λ p. IfErr c.begin.result.1 (λ why. (entries : Entries) × (g.C.Callers.receipts c.begin.result.0 ≡ g.C.Callers.receipts c.args.pass ++ entries)
    × IsWaitBegun (g.C.Callers.gives_fault c.begin.result.0) (pending_seen p) c.args.process was entries why (variables_in c.begin.new.variables))) (sym c.in-Begin.is)
    (if_err _ _ c.begin.result.1
    (λ why t. (t.0, t.1, (ap (λ b. if b then Some (codes "BUSY") else None) (waits_not was c.args.process c.in-Begin.variable.now (sym c.ticket_of.ensures ∙ c.if-ticket_of-ne0.false)), t.2)))
    c.begin.ensures.begun)

pub returns-then-ticket_of-ne0-clause-played : goal.returns-then-ticket_of-ne0-clause-played
returns-then-ticket_of-ne0-clause-played g c =
    let was = variables_in c.args.variables.now in (
      [],
      adds_none _,
      subst (λ p. IsWaitPlayed (pending_seen p) c.args.process was [] was) (sym c.in-Begin.is)
          (inl (codes "BUSY", ap (λ b. if b then Some (codes "BUSY") else None) (waits was c.args.process c.in-Begin.variable.now (λ none. c.if-ticket_of-ne0.true (c.ticket_of.ensures ∙ none))), refl, refl)),
    )

pub returns-then-ticket-eq0-clause-played : goal.returns-then-ticket-eq0-clause-played
returns-then-ticket-eq0-clause-played g c =
    let was = variables_in c.args.variables.now in (
      [],
      adds_none _,
      subst (λ p. IsWaitPlayed (pending_seen p) c.args.process was [] was) (sym c.in-End.is)
          (inl (codes "NO PENDING", ap (λ b. if b then None else Some (codes "NO PENDING")) (waits_not was c.args.process c.in-End.variable.now (sym c.ticket_of-ticket.ensures ∙ c.if-ticket-eq0.true)), refl, refl)),
    )

pub returns-else-ticket-eq0-clause-played : goal.returns-else-ticket-eq0-clause-played
returns-else-ticket-eq0-clause-played g c =
    let was = variables_in c.args.variables.now in
    subst (λ p. OnOk c.end.result.1 ((entries : Entries) × (g.C.Callers.receipts c.end.result.0 ≡ g.C.Callers.receipts c.args.pass ++ entries)
    × IsWaitPlayed (pending_seen p) c.args.process was entries (variables_in c.end.new.variables))) (sym c.in-End.is)
    (then_ok _ _ c.end.result.1
    (λ t. (
      t.0 ∷ [],
      t.1,
      inr (
        ap (λ b. if b then None else Some (codes "NO PENDING")) (waits was c.args.process c.in-End.variable.now (λ none. c.if-ticket-eq0.false (c.ticket_of-ticket.ensures ∙ none))),
        t.0,
        refl,
        t.2,
      ),
    ))
    c.end.ensures.played)

pub returns-then-ticket-eq0-2-clause-played : goal.returns-then-ticket-eq0-2-clause-played
returns-then-ticket-eq0-2-clause-played g c =
    let was = variables_in c.args.variables.now in (
      [],
      adds_none _,
      subst (λ p. IsWaitPlayed (pending_seen p) c.args.process was [] was) (sym c.in-Drop.is)
          (inl (codes "NO PENDING", ap (λ b. if b then None else Some (codes "NO PENDING")) (waits_not was c.args.process c.in-Drop.variable.now (sym c.ticket_of-ticket-in-Drop.ensures ∙ c.if-ticket-eq0-2.true)), refl, refl)),
    )
