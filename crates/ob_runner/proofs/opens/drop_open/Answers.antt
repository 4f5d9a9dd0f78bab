-- The open of the ticket waits for its parse, and the others stay.
use Rattle.ob_model.specs.declared.reply.ParseRun.TheVariants.{Unrun}
use Rattle.ob_runner.proofs.Beside.{found_awaits, abandoned_await}
use Rattle.ob_runner.proofs.opens.drop_open.Goals as goal

pub abandon_open-requires-after_bounds : goal.abandon_open-requires-after_bounds
abandon_open-requires-after_bounds g c lifetimes bounds =
    found_awaits g.T.TypeSet.procedures c.args.core.now c.args.ticket c.args.waits.now c.requires.awaited c.take-dropped.result c.take-dropped.ensures.found

pub returns-clause-awaited : goal.returns-clause-awaited
returns-clause-awaited g c =
    abandoned_await g.T.TypeSet.procedures c.args.core.now c.args.ticket c.args.waits.now c.requires.awaited c.abandon_open.new.core c.take-dropped.result.ticket Unrun _
    c.take-dropped.new.self c.state_is_sound.ensures c.take-dropped.ensures.own c.take-dropped.ensures.others c.abandon_open.ensures
