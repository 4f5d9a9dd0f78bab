-- One open less is left, and is given up behind those before it.
use Rattle.std.proofs.Common.{subst}
use Rattle.ob_runner.specs.Begun.{AreAwaited, tickets_of}
use Rattle.ob_runner.proofs.Beside.{GivesTheRest, one_less, rest_await}
use Rattle.ob_runner.proofs.opens.give_all_up.Goals as goal

pub loop-parsing-preserved : goal.loop-parsing-preserved
loop-parsing-preserved g c =
    let p = g.T.TypeSet.procedures in
    let s = c.loop-parsing.core in
    let t = c.abandon_open.new.core in
    let first = c.in-Some.parsing in
    let left = c.take_first.new.self in (
      rest_await p s t first left c.state_is_sound.ensures c.in-Some.ensures.least (subst (AreAwaited s) c.in-Some.ensures.first c.loop-parsing.invariant.0) c.abandon_open.ensures,
      one_less p (tickets_of c.args.waits) (tickets_of left) c.args.core.now s t first.ticket
          (subst (λ xs. GivesTheRest p (tickets_of c.args.waits) c.args.core.now (tickets_of xs) s) c.in-Some.ensures.first c.loop-parsing.invariant.1) c.abandon_open.ensures,
    )
