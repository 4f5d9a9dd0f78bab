-- The last entry is the one that was read.
use Rattle.std.proofs.Common.{◌∙◌, ap, sym}
use Rattle.std.specs.Option.{option_copied}
use Rattle.ob_dirs.proofs.Found.{last-read}
use Rattle.ob_dirs.proofs.runs.last_is_below.Goals as goal

pub returns-in-Some : goal.returns-in-Some
returns-in-Some c =
    last-read c.args.stamp c.args.run.now c.in-Some.entry.now (sym (ap option_copied c.in-Some.is) ∙ c.last.ensures.value)
