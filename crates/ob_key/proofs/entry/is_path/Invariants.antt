use Rattle.std.proofs.Common.{◌≡◌, ◌+◌, ◌==◌, not, [], length}
use Rattle.std.specs.List.{list_all, slice_split}
use Rattle.std.specs.Option.{option_map_or}
use Rattle.ob_model.specs.Names.{separator}
use Rattle.ob_key.specs.Entries as entries
use Rattle.ob_key.proofs.entry.is_path.Given as goal

-- the text is a path exactly where no component of what is left is empty
abbrev pub invariant-loop-left : goal.invariant-loop-left
invariant-loop-left l =
    list_all (λ component. not (length component == 0)) (option_map_or (λ text. slice_split (λ b. b == separator) text.now) l.left []) ≡ entries.is_path l.path

abbrev pub decreases-loop-left : goal.decreases-loop-left
decreases-loop-left l = option_map_or (λ text. 1 + length text.now) l.left 0
