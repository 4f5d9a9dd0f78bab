-- Which of two prefixes that are the same are of a local view.
use Rattle.std.proofs.Common.{◌≡◌, Bool, true, false, not, ◌||◌, ◌&&◌, ◌==◌, refl, sym}
use Rattle.ob_model.specs.State.{global_id}
use Rattle.ob_prefixes.specs.declared.prefix.Prefix.{Prefix}
use Rattle.ob_prefixes.specs.Prefix.{is_local}
use Rattle.ob_prefixes.specs.PrefixLaws.{AreSame}

pub left_false : (a b : Bool) → (a || b) ≡ false → a ≡ false
left_false true b e = cc
left_false false b e = refl

pub right_false : (a b : Bool) → (a || b) ≡ false → b ≡ false
right_false true b e = cc
right_false false b e = e

-- prefixes that are the same are of the same view
pub local_same : (a b : Prefix) → AreSame a b → is_local b ≡ is_local a
local_same a b same = λ i. (sym same.in_view) i && not ((sym same.place) i == global_id)
