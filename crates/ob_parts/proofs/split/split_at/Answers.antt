-- The bytes are cut at the place of the first byte of the value.
use Rattle.std.proofs.lemmas.List.{take_rest}
use Rattle.ob_parts.proofs.Cuts.{cut_at_first, lacks_from_none}
use Rattle.ob_parts.proofs.split.split_at.Goals as goal

pub returns-in_err-place-clause-none : goal.returns-in_err-place-clause-none
returns-in_err-place-clause-none c = rw c.from_residual.ensures (lacks_from_none c.args.mark c.args.bytes.now c.in_err-place.ensures)

pub returns-clause-found : goal.returns-clause-found
returns-clause-found c = rw take_rest (cut_at_first c.args.mark c.args.bytes.now c.in_ok-place.place c.in_ok-place.ensures)
