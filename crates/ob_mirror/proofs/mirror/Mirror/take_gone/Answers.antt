-- The next id is the same after the hint was followed.
use Rattle.std.proofs.Common.{◌<◌, All, subst, sym}
use Rattle.ob_model.specs.declared.state.Row.{Row}
use Rattle.ob_mirror.proofs.Leading.{leads_on}
use Rattle.ob_mirror.proofs.mirror.Mirror.take_gone.Goals as goal

pub has_all-requires-clause-all : goal.has_all-requires-clause-all
has_all-requires-clause-all g c κs within = subst (λ n. All (λ (row : Row). row.object < n) c.args.core.now.rows) (sym c.take_hinted.ensures.next) c.requires.all

pub returns-then-has_all-clause-all : goal.returns-then-has_all-clause-all
returns-then-has_all-clause-all g c = c.has_all.ensures c.if-has_all.true

pub take_lost-requires-clause-all : goal.take_lost-requires-clause-all
take_lost-requires-clause-all g c κs within = subst (λ n. All (λ (row : Row). row.object < n) c.args.core.now.rows) (sym c.take_hinted.ensures.next) c.requires.all

pub returns-clause-listed : goal.returns-clause-listed
returns-clause-listed g c = leads_on c.args.self.now c.take_hinted.new.self c.take_lost.new.self c.take_hinted.ensures.listed c.take_lost.ensures.listed
