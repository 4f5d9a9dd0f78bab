-- The line is the next entry, and its step was made.
use Rattle.std.proofs.Common.{◌∙◌, sym}
use Rattle.ob_journal.specs.Played.{PlaysEntry}
use Rattle.ob_journal.proofs.Turns.{ok_weaker, entry_is_played}
use Rattle.ob_journal.proofs.replay.Replay.play_entry.Goals as goal

pub returns-in-None-clause-played : goal.returns-in-None-clause-played
returns-in-None-clause-played c =
    ok_weaker c.make.result _ (PlaysEntry c.args.self c.args.line.now) (entry_is_played c.args.self c.args.line.now (sym c.judge.ensures ∙ c.in-None.is)) c.make.ensures.made
