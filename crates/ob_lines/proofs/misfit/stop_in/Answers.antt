-- A word with no sorts follows the process variable; or the line has all parts of its word's sorts, and is a script line.
use Rattle.ob_lines.proofs.Misfitted.{has_form, no_sorts_alone, no_sorts_cut}
use Rattle.ob_lines.proofs.misfit.stop_in.Goals as goal

pub returns-in-None-clause-stop : goal.returns-in-None-clause-stop
returns-in-None-clause-stop c =
    (c.in-Some._process.now, c.in-Some.ensures.found, no_sorts_alone _ c.in_default-split_at.ensures.none c.in-None.ensures.none)

pub returns-in_default-sorts_after-clause-stop : goal.returns-in_default-sorts_after-clause-stop
returns-in_default-sorts_after-clause-stop c = (
  c.in-Some._process.now,
  c.in-Some.ensures.found,
  no_sorts_cut _ _ _ c.in-Some-split_at.ensures.found.0 c.in-Some-split_at.ensures.found.1 c.in_default-sorts_after.ensures.none,
)

pub unreachable-requires : goal.unreachable-requires
unreachable-requires c =
    let form = has_form c.args.line.now c.in-Some._process.now c.in-Some.request.now c.in-Some-split_at.word.now c.in-Some-split_at.operands.now
    (c.in-Some-sorts_after-2.parts.now, c.in-Some-sorts_after-2.last) c.requires.short c.in-Some.ensures.found c.in-Some-split_at.ensures.found.0
    c.in-Some-sorts_after-2.ensures.found c.in-None-stop_of.ensures.none in
    c.requires.no_form form.0 form.1
