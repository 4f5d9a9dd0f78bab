-- Of runs that aren't empty those that follow aren't either.
use Rattle.std.proofs.Common.{◌<◌, length}
use Rattle.std.specs.Slice.Iter.{iter_rest}
use Rattle.std.proofs.lemmas.List.Elements.{All-rest}
use Rattle.ob_dirs.proofs.Joined.{Run}
use Rattle.ob_dirs.proofs.runs.EntriesBehindIterator.next.Goals as goal

pub invariant_of-self-2 : goal.invariant_of-self-2
invariant_of-self-2 c =
    All-rest (λ (run : Run). 0 < length run.items) c.in_ok-run.run'.now (iter_rest c.next-2.new.self) (iter_rest c.self.inside.runs) c.in_ok-run.ensures.steps c.self.invariant
