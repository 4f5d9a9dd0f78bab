-- The open is given up, and what its parse made goes.
use Rattle.std.proofs.Common.{ap}
use Rattle.ob_model.specs.declared.reply.Answer.TheVariants.{Done}
use Rattle.ob_opens.proofs.MadeGoes.{given_up}
use Rattle.ob_opens.proofs.give_up.give_up_made.Goals as goal

pub returns-clause-abandoned : goal.returns-clause-abandoned
returns-clause-abandoned g c = λ face.
    given_up g.T.TypeSet.procedures c.args.space.now c.args.ticket c.requires.pending face c.args.inner (Done c.status_alone.result)
    c.end_made.new.space (ap Done c.status_alone.ensures) (c.end_made.ensures.ended face)
