-- The open that waits is brought, answered, or given up.
use Rattle.ob_shared.proofs.Chained.{brought_on, brought_to_an_end, brought_to_reply}
use Rattle.ob_shared.proofs.shared.Shared.run_on.Goals as goal

pub returns-in-Ok-Done-clause-reply : goal.returns-in-Ok-Done-clause-reply
returns-in-Ok-Done-clause-reply g c =
    λ before event way. brought_to_reply g.T.TypeSet.procedures before c.loop.pass c.bring-back.result.0 event c.loop.parsing.ticket c.run.result.ticket _ c.run.ensures.ticket (c.loop.invariant before event way)
    c.bring-back.result.1 c.in-Ok-Done.field-0 c.in-Ok-Done.is c.bring-back.ensures.told c.in-Ok-Done.reply c.in-Ok-Done.field-0-is

pub loop-preserved : goal.loop-preserved
loop-preserved g c =
    λ before event way. brought_on g.T.TypeSet.procedures before c.loop.pass c.bring-back.result.0 event c.loop.parsing.ticket c.run.result.ticket _ c.run.ensures.ticket (c.loop.invariant before event way)
    c.bring-back.result.1 c.in-Ok-Parsing.field-0 c.in-Ok-Parsing.is c.bring-back.ensures.told c.in-Ok-Parsing.next c.in-Ok-Parsing.field-0-is

pub returns-in-Err-clause-fault : goal.returns-in-Err-clause-fault
returns-in-Err-clause-fault g c =
    λ before event way. brought_to_an_end g.T.TypeSet.procedures before c.loop.pass c.bring-back.result.0 event c.loop.parsing.ticket c.bring-back.result.1 c.in-Err.fault c.run.result
    c.in-Err.is c.bring-back.ensures.cut_off c.run.ensures.ticket (c.loop.invariant before event way)
