-- Those that wait are the tickets of the parses that are kept.
use Rattle.std.proofs.Common.{refl, map}
use Rattle.ob_runner.specs.Begun.{tickets_of}
use Rattle.ob_effects.specs.Waiting.{given_up}
use Rattle.ob_effects.proofs.session.Session.end.Goals as goal

pub returns : goal.returns
returns c =
    (map given_up (tickets_of c.args.self.waits), (tickets_of c.args.self.waits, c.give_all_up.new.core, c.requires.waiting.listed, c.give_all_up.ensures, refl))
