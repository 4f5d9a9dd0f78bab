-- What is left and what was passed are the room, at each entry.
use Rattle.std.proofs.Common.{◌∙◌, sym, arith}
use Rattle.ob_c.proofs.PagesLemmas.{page_grows, page_within, none_left, left_of, less_than}
use Rattle.ob_c.proofs.pages.room_behind.Goals as goal

pub returns-in_err-left : goal.returns-in_err-left
returns-in_err-left c =
    let within = page_within c.args.entries.now c.loop-entry.entry-index c.entry-item.result c.loop-entry-test.true c.entry-item.is in
    c.from_residual.ensures ∙ sym (none_left _ _ (omega (arith, c.loop-entry.invariant, within, less_than _ _ c.in_err-left.ensures)))

pub loop-entry-preserved : goal.loop-entry-preserved
loop-entry-preserved c =
    let grows = page_grows c.args.entries.now c.loop-entry.entry-index c.entry-item.result c.loop-entry-test.true c.entry-item.is in
    omega (arith, c.loop-entry.invariant, grows, left_of _ _ _ c.in_ok-left.ensures)
