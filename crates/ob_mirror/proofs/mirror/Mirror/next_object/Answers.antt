-- The next id is that of the mirror.
use Rattle.std.proofs.Common.{ap, subst}
use Rattle.ob_objects.specs.Named.{IsFirstFrom}
use Rattle.ob_mirror.specs.Mirrored.{Mirrored}
use Rattle.ob_mirror.proofs.mirror.Mirror.next_object.Goals as goal

pub returns : goal.returns
returns g c = subst (λ n. IsFirstFrom n c.args.core.now.objects c.first_from.result) (ap (λ (m : Mirrored). m.next) c.self.view_is) c.first_from.ensures
