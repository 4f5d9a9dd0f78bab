-- Slots that are clones show the same.
use Rattle.ob_objects.proofs.Copied.{objects_cloned, places_cloned, filled_cloned}
use Rattle.ob_objects.proofs.slots.Slots.copy.Goals as goal

pub returns-clause-objects : goal.returns-clause-objects
returns-clause-objects g c = objects_cloned c.args.self.now (record { map = c.in_ok-clone.field-0; guesses = c.args.self.now.guesses }) c.in_ok-clone.ensures.cases

pub returns-clause-places : goal.returns-clause-places
returns-clause-places g c = places_cloned c.args.self.now (record { map = c.in_ok-clone.field-0; guesses = c.args.self.now.guesses }) c.in_ok-clone.ensures.cases

pub returns-clause-filled : goal.returns-clause-filled
returns-clause-filled g c = filled_cloned c.args.self.now (record { map = c.in_ok-clone.field-0; guesses = c.args.self.now.guesses }) c.in_ok-clone.ensures.cases
