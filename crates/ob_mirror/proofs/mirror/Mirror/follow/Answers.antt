-- The rows that were listed lead from the old state to the new one, for both halves of the pass.
use Rattle.ob_mirror.proofs.Leading.{leads_on}
use Rattle.ob_mirror.proofs.mirror.Mirror.follow.Goals as goal

pub returns-then-has_all-clause-all : goal.returns-then-has_all-clause-all
returns-then-has_all-clause-all g c = c.has_all.ensures c.if-has_all.true

pub returns-clause-listed : goal.returns-clause-listed
returns-clause-listed g c = leads_on c.args.self.now c.add_new.new.self c.take_gone.new.self c.add_new.ensures.listed c.take_gone.ensures.listed
