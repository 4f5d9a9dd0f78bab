-- Each entry comes after those that were copied before it, in the directory.
use Rattle.std.proofs.Common.{◌∙◌, sym, subst, ap, ◌++◌}
use Rattle.ob_dirs.specs.Dir.{IsDir}
use Rattle.ob_dirs.proofs.Kept.{comes_before}
use Rattle.ob_dirs.proofs.dir.Dir.copy.Goals as goal

pub insert-requires-clause-free : goal.insert-requires-clause-free
insert-requires-clause-free c = λ k d below same.
    (comes_before c.loop-entry.copy c.in-Some.entry.now c.next.new.self c.args.self.now c.loop-entry.entry-iterator c.loop-entry.invariant.1 c.in-Some.ensures.steps c.loop-entry.invariant.0 k d below).1
    (same ∙ c.in_ok-name.ensures.copied)

pub insert-requires-clause-newest : goal.insert-requires-clause-newest
insert-requires-clause-newest c = λ k d below.
    (comes_before c.loop-entry.copy c.in-Some.entry.now c.next.new.self c.args.self.now c.loop-entry.entry-iterator c.loop-entry.invariant.1 c.in-Some.ensures.steps c.loop-entry.invariant.0 k d below).0
