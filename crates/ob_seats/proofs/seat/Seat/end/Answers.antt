-- One open more was given up.
use Rattle.std.proofs.Common.{◌∙◌, refl}
use Rattle.ob_requests.specs.Tables.{variables_in}
use Rattle.ob_seats.proofs.Playing.{all_gone, all_let_go, leaves, none_gone, none_left, one_gone}
use Rattle.ob_seats.proofs.seat.Seat.end.Goals as goal

pub loop-parsing-init : goal.loop-parsing-init
loop-parsing-init g c = (λ whole. none_gone c.args.self.waits (g.C.Callers.receipts c.args.pass), none_left c.args.self.waits (g.C.Callers.receipts c.args.pass), refl)

pub loop-parsing-preserved-then-is_whole : goal.loop-parsing-preserved-then-is_whole
loop-parsing-preserved-then-is_whole g c = (
  λ made.
      let told = c.abandon-back.ensures.made made in
      one_gone c.args.self.waits c.loop-parsing.waits c.take_first.new.self (g.C.Callers.receipts c.args.pass) (g.C.Callers.receipts c.loop-parsing.pass) (g.C.Callers.receipts c.abandon-back.result.0)
      (g.C.Callers.ticket_of c.in-Some.parsing) told.0 c.in-Some.ensures.first told.1 (λ i. (told.2 i, told.3 i)) (c.loop-parsing.invariant.0 c.if-is_whole.true),
  leaves c.args.self.waits c.loop-parsing.waits c.take_first.new.self (g.C.Callers.receipts c.args.pass) (g.C.Callers.receipts c.loop-parsing.pass) (g.C.Callers.receipts c.abandon-back.result.0)
      (g.C.Callers.ticket_of c.in-Some.parsing) c.abandon-back.result.1 c.in-Some.ensures.first c.abandon-back.ensures.made c.abandon-back.ensures.unmade c.loop-parsing.invariant.1,
  c.abandon-back.ensures.seat ∙ c.loop-parsing.invariant.2,
)

pub loop-parsing-preserved : goal.loop-parsing-preserved
loop-parsing-preserved g c = (
  (λ whole. cc),
  leaves c.args.self.waits c.loop-parsing.waits c.take_first.new.self (g.C.Callers.receipts c.args.pass) (g.C.Callers.receipts c.loop-parsing.pass) (g.C.Callers.receipts c.abandon-back.result.0)
      (g.C.Callers.ticket_of c.in-Some.parsing) c.abandon-back.result.1 c.in-Some.ensures.first c.abandon-back.ensures.made c.abandon-back.ensures.unmade c.loop-parsing.invariant.1,
  c.abandon-back.ensures.seat ∙ c.loop-parsing.invariant.2,
)

pub returns-clause-given_up : goal.returns-clause-given_up
returns-clause-given_up g c = λ whole.
    all_gone (variables_in c.args.self.variables) c.args.self.waits c.loop-parsing.waits (g.C.Callers.receipts c.args.pass) (g.C.Callers.receipts c.loop-parsing.pass) c.in_default.ensures.none c.requires.held.listed
    (c.loop-parsing.invariant.0 whole)

pub returns-clause-let_go : goal.returns-clause-let_go
returns-clause-let_go g c =
    all_let_go (variables_in c.args.self.variables) c.args.self.waits c.loop-parsing.waits (g.C.Callers.receipts c.args.pass) (g.C.Callers.receipts c.loop-parsing.pass) c.in_default.ensures.none c.requires.held.listed c.loop-parsing.invariant.1
