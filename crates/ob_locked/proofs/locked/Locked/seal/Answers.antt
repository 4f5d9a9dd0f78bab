-- Behind a seal the journal is the same run, and the open segment has room for all reserved places.
use Rattle.ob_locked.proofs.Keeps.{kept_by_seal}
use Rattle.ob_locked.proofs.locked.Locked.seal.Goals as goal

pub invariant_of-self : goal.invariant_of-self
invariant_of-self g c =
    kept_by_seal g.T.TypeSet.procedures c.self.inside.first.value c.self.inside.core c.self.inside.journal c.seal.new.self c.self.inside.reserved c.self.inside.book.total c.self.invariant
    c.seal.result c.seal.ensures.sealed c.seal.ensures.room c.seal.ensures.unsealed
