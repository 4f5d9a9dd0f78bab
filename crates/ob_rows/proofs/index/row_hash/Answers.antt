-- One byte more, and then all bytes are in the hash.
use Rattle.std.proofs.Common.{◌∙◌, ap, map}
use Rattle.std.proofs.lemmas.List.{take_all}
use Rattle.ob_model.specs.Names.{upper}
use Rattle.ob_rows.specs.Hashes.{folded_hash, row_hash}
use Rattle.ob_rows.proofs.index.row_hash.Goals as goal

pub returns : goal.returns
unfolding row_hash
returns c = c.loop-byte.invariant ∙ ap (λ bytes. folded_hash c.args.directory (map upper bytes)) (take_all c.loop-byte.byte-index c.args.name.now c.loop-byte-test.false)
