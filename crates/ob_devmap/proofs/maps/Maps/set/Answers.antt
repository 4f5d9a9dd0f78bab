-- The map is counted, and the one that it takes the place of no longer is.
use Rattle.std.proofs.Common.{◌∙◌, ap, sym, subst, arith}
use Rattle.std.specs.BTreeMap.{insert_entry}
use Rattle.std.specs.Ordering.{nat_cmp}
use Rattle.ob_handles.specs.Counts.{CountsOneLess}
use Rattle.ob_devmap.proofs.Counted.{room, map_more, map_replaced}
use Rattle.ob_devmap.proofs.maps.Maps.set.Goals as goal

pub add-requires : goal.add-requires
add-requires c = record { room = room c.self.inside.directories.entries c.self.inside.counts c.args.directory c.self.invariant }

pub invariant_of-self-in-Ok-Some : goal.invariant_of-self-in-Ok-Some
invariant_of-self-in-Ok-Some c =
    map_replaced c.self.inside.directories.entries c.self.inside.counts c.self.invariant c.process.inside.0 c.insert.new.self.entries c.insert.ensures.ordered c.lower.new.self c.args.directory
    (omega arith) (c.in-Ok-Some.ensures.entries ∙ ap (insert_entry nat_cmp c.self.inside.directories.entries c.process.inside.0) c.directory.view_is) c.in-Ok-Some.before c.add.new.self (sym c.in-Ok-Some.ensures.old ∙ c.in-Ok-Some.field-0-is) c.in_ok-add.ensures.counted (subst (λ n. CountsOneLess n c.add.new.self c.lower.new.self) c.in-Ok-Some.before-is c.lower.ensures.counted)

pub invariant_of-self-in-Ok-None : goal.invariant_of-self-in-Ok-None
invariant_of-self-in-Ok-None c =
    map_more c.self.inside.directories.entries c.self.inside.counts c.self.invariant c.process.inside.0 c.insert.new.self.entries c.insert.ensures.ordered c.add.new.self c.args.directory
    (omega arith) (c.in-Ok-None.ensures.entries ∙ ap (insert_entry nat_cmp c.self.inside.directories.entries c.process.inside.0) c.directory.view_is) (sym c.in-Ok-None.ensures.old ∙ c.in-Ok-None.field-0-is) c.in_ok-add.ensures.counted
