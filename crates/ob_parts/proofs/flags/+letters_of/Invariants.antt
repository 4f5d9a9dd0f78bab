use Rattle.std.proofs.Common.{length}
use Rattle.ob_parts.proofs.flags.+letters_of.Given as goal

abbrev pub decreases-letters_of : goal.decreases-letters_of
decreases-letters_of l = length l.letters.now
