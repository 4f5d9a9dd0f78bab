-- The open that is pending under the ticket ends with the refusal.
use Rattle.ob_model.specs.declared.reply.Answer.TheVariants.{Done}
use Rattle.ob_opens.proofs.OpensAgain.{refused_there}
use Rattle.ob_opens.proofs.reparse.refuse_open.Goals as goal

pub returns-clause-opened : goal.returns-clause-opened
returns-clause-opened g c =
    refused_there g.T.TypeSet.procedures c.args.space.now c.args.ticket (Done c.refuse.result) c.refuse.new.space c.args.status
    c.requires.pending c.refuse.ensures.answer c.refuse.ensures.ended
