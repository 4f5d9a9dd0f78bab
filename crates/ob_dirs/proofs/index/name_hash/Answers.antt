-- One byte more, and then all bytes are in the hash.
use Rattle.std.proofs.Common.{◌∙◌, ap, map}
use Rattle.std.proofs.lemmas.List.{take_all}
use Rattle.ob_model.specs.Names.{upper}
use Rattle.ob_dirs.specs.Hashes.{folded_hash, name_hash}
use Rattle.ob_dirs.proofs.index.name_hash.Goals as goal

pub returns : goal.returns
unfolding name_hash
returns c = c.loop-byte.invariant ∙ ap (λ bytes. folded_hash (map upper bytes)) (take_all c.loop-byte.byte-index c.args.name.now c.loop-byte-test.false)
