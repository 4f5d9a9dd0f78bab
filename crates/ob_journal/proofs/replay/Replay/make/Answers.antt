-- The step of the line is made from the state that the journal led to, and the line's number counts its entries.
use Rattle.std.proofs.Common.{ap, subst}
use Rattle.ob_model.specs.Step.{Step}
use Rattle.ob_standard.specs.Standard.{standard}
use Rattle.ob_standard_core.specs.Machine.{Space}
use Rattle.ob_journal.specs.Played.{Played}
use Rattle.ob_journal.proofs.replay.Replay.make.Goals as goal

pub returns-clause-made : goal.returns-clause-made
returns-clause-made c =
    let made = c.in_ok-core.ensures.made in
    let number = c.args.line.now.number in (
      made.0,
      subst (λ (s : Space). Step standard s c.args.line.now.step made.0 c.in_ok-core.core) (ap (λ (p : Played). p.state) c.self.view_is) made.1,
      made.2,
      ap (λ (p : Played). record { header = p.position.header; count = number }) c.self.view_is,
    )
