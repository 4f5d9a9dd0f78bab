-- A parse that no memory is left to keep is given up, and the others stay.
use Rattle.ob_runner.proofs.Beside.{handed_back_await}
use Rattle.ob_runner.proofs.opens.keep_parse.Goals as goal

pub returns-in-Err-clause-awaited : goal.returns-in-Err-clause-awaited
returns-in-Err-clause-awaited g c =
    handed_back_await g.T.TypeSet.procedures c.args.core.now c.abandon_open.new.core c.in-Err.back c.args.parsing c.args.waits.now c.keep.new.self c.state_is_sound.ensures
    c.requires.newest c.in-Err.ensures.back c.in-Err.ensures.unchanged c.abandon_open.ensures c.requires.awaited
