-- Both parts of a name are names.
use Rattle.std.proofs.Common.{◌-◌, ◌+◌, length}
use Rattle.ob_lookup.proofs.Separators.{name_front, name_within}
use Rattle.ob_lookup.proofs.onward.split_last.Goals as goal

pub new-requires : goal.new-requires
new-requires c = name_front c.in-Some.at c.as_slice-bytes.result.now c.as_slice-bytes.ensures.name

pub new-requires-2 : goal.new-requires-2
new-requires-2 c =
    name_within (length c.as_slice-bytes.result.now - (c.in-Some.at + 1)) (c.in-Some.at + 1) c.as_slice-bytes.result.now c.as_slice-bytes.ensures.name
