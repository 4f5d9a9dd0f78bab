-- That the same prefixes are hashed alike.
use Rattle.std.proofs.Common.{◌≡◌, true, [], ◌∷◌, ◌++◌}
use Rattle.std.specs.Hash as fed
use Rattle.ob_prefixes.specs.declared.prefix.Prefix.{Prefix}
use Rattle.ob_prefixes.specs.Prefix.{same_prefix}
use Rattle.ob_prefixes.specs.PrefixLaws.{same_prefix-parts}

pub same_prefix-alike : (x y : Prefix) → same_prefix x y ≡ true
    → fed.u64 x.place ++ x.bytes.items ∷ [] ≡ fed.u64 y.place ++ y.bytes.items ∷ []
same_prefix-alike x y e = λ i. fed.u64 ((same_prefix-parts x y e).place i) ++ (same_prefix-parts x y e).bytes i ∷ []
