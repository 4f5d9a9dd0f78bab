-- What the end leaves is sound.
use Rattle.std.proofs.Common.{sym, subst}
use Rattle.ob_model.specs.Sound.{IsSound}
use Rattle.ob_model.proofs.Ended.{ended_sound}
use Rattle.ob_commands.proofs.lives.exit_process.Goals as goal

pub settle_after_end-requires-clause-sound : goal.settle_after_end-requires-clause-sound
settle_after_end-requires-clause-sound g c κs within =
    subst (λ t. IsSound t) (sym c.end_process.ensures.ended) (ended_sound g.T.TypeSet.procedures c.args.space.now c.args.process c.requires.between.sound)
