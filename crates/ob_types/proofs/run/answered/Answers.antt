-- Each answer ends the run, or leads it on.
use Rattle.ob_types.proofs.Runs.{itself_ends, reparse_ends, refused_ends, front_goes_on, front_ends}
use Rattle.ob_types.proofs.run.answered.Goals as goal

pub returns-in-Itself-clause-leads : goal.returns-in-Itself-clause-leads
returns-in-Itself-clause-leads g c = itself_ends g.T.TypeSet.procedures c.args.face.now c.args.rest.now c.in-Ok.answer c.in-Ok.ensures c.in-Itself.is

pub returns-then-used-rest-clause-leads : goal.returns-then-used-rest-clause-leads
returns-then-used-rest-clause-leads g c =
    front_goes_on g.T.TypeSet.procedures c.args.face.now c.args.rest.now c.in-Ok.answer c.in-Front.used c.in-Front.next c.in-Front.inner c.front_is_used.ensures
    c.in-Ok.ensures c.in-Front.is c.if-used-rest.true

pub returns-else-used-rest-clause-leads : goal.returns-else-used-rest-clause-leads
returns-else-used-rest-clause-leads g c =
    front_ends g.T.TypeSet.procedures c.args.face.now c.args.rest.now c.in-Ok.answer c.in-Front.used c.in-Front.next c.in-Front.inner c.made.result c.front_is_used.ensures
    c.in-Ok.ensures c.in-Front.is c.if-used-rest.false c.made.ensures

pub returns-in-Reparse-clause-leads : goal.returns-in-Reparse-clause-leads
returns-in-Reparse-clause-leads g c =
    reparse_ends g.T.TypeSet.procedures c.args.face.now c.args.rest.now c.in-Ok.answer c.in-Reparse.text c.in-Ok.ensures c.in-Reparse.is

pub returns-in-Refused-clause-leads : goal.returns-in-Refused-clause-leads
returns-in-Refused-clause-leads g c =
    refused_ends g.T.TypeSet.procedures c.args.face.now c.args.rest.now c.in-Ok.answer c.in-Refused.code c.in-Ok.ensures c.in-Refused.is
