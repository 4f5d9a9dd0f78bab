-- A directory is counted exactly where it is the one of a map.
use Rattle.std.proofs.Common.{sym, subst}
use Rattle.ob_devmap.specs.Maps.{Directories, IsMapped}
use Rattle.ob_devmap.proofs.Counted.{counted_tells, mapped_counts}
use Rattle.ob_devmap.proofs.maps.Maps.is_mapped.Goals as goal

pub returns : goal.returns
returns c = (
  λ some. subst (λ (es : Directories). IsMapped es c.args.directory) c.self.view_is
      (counted_tells c.self.inside.directories.entries c.self.inside.counts c.self.invariant c.args.directory c.get.result c.get.ensures some),
  λ mapped. mapped_counts c.self.inside.directories.entries c.self.inside.counts c.self.invariant c.args.directory c.get.result c.get.ensures
      (subst (λ (es : Directories). IsMapped es c.args.directory) (sym c.self.view_is) mapped),
)
