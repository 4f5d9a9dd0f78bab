-- What is kept was kept before.
use Rattle.std.proofs.Common.{subst}
use Rattle.std.specs.Prelude.{Contains}
use Rattle.lru.proofs.CallerLemmas.{Contains-promoted}
use Rattle.ob_prefixes.specs.Prefix.{same_prefix}
use Rattle.ob_prefixes.proofs.cache.Cache.find.Goals as goal

pub invariant_of-self : goal.invariant_of-self
invariant_of-self c = λ off e among. c.self.invariant off e (Contains-promoted (same_prefix c.args.prefix.now) c.self.inside.prefixes.entries e (subst (λ l. Contains l.entries e) c.get.follows.holds-at-none among))

pub invariant_of-self-else-is_some : goal.invariant_of-self-else-is_some
invariant_of-self-else-is_some c = λ off e among. c.self.invariant off e (Contains-promoted (same_prefix c.args.prefix.now) c.self.inside.prefixes.entries e (subst (λ l. Contains l.entries e) c.get.follows.holds-at-none among))
