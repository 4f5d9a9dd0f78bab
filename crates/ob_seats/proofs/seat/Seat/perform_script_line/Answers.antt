-- The line that stops is what its form says.
use Rattle.std.proofs.Common.{◌≡◌, ◌++◌, IfErr, sym, subst}
use Rattle.ob_lines.specs.Grammar.{form_seen}
use Rattle.ob_requests.specs.Tables.{variables_in}
use Rattle.ob_seats.specs.Received.{Entries}
use Rattle.ob_seats.specs.Stopped.{IsRequestBegun, IsScriptLineBegun}
use Rattle.ob_lines.specs.Grammar.{request_seen}
use Rattle.ob_seats.proofs.seat.Seat.perform_script_line.Goals as goal

pub returns-in-Asks-clause-begun : goal.returns-in-Asks-clause-begun
returns-in-Asks-clause-begun g c =
    subst (λ f. IfErr c.answer.result.1 (λ why. (entries : Entries) × (g.C.Callers.receipts c.answer.result.0 ≡ g.C.Callers.receipts c.args.pass ++ entries)
    × IsScriptLineBegun (g.C.Callers.gives_fault c.answer.result.0) (form_seen f) (variables_in c.args.self.now.variables) entries why (variables_in c.answer.new.variables))) (sym c.in-Asks.is)
    (subst (λ p. IfErr c.answer.result.1 (λ why. (entries : Entries) × (g.C.Callers.receipts c.answer.result.0 ≡ g.C.Callers.receipts c.args.pass ++ entries)
    × IsRequestBegun (g.C.Callers.gives_fault c.answer.result.0) (request_seen c.in-Asks.request) p (variables_in c.args.self.now.variables) entries why (variables_in c.answer.new.variables))) c.process_of-process.ensures
    c.answer.ensures.begun)
