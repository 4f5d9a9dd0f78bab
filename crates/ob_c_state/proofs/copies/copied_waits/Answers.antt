-- The tickets of the parses rise, so the next one is above those that were copied.
use Rattle.ob_c_state.proofs.Rising.{comes_next}
use Rattle.ob_c_state.proofs.copies.copied_waits.Goals as goal

pub keep_copied-requires : goal.keep_copied-requires
keep_copied-requires c = record { newest = comes_next c.args.waits.now c.loop-parse.copy c.loop-parse.parse-iterator c.next.new.self c.in-Some.parse.now c.tickets_rise.ensures c.loop-parse.invariant c.in-Some.ensures.steps }
