-- The object along the rest of the path, from the directory that was reached, is the object along the whole path.
use Rattle.std.proofs.Common.{ℕ, Option, length}
use Rattle.ob_model.specs.State.{root_id}
use Rattle.ob_view.specs.Viewed.{IsWalked}
use Rattle.ob_view.proofs.path.walked.Given as goal

abbrev pub invariant-loop-byte : goal.invariant-loop-byte
invariant-loop-byte l = (object : Option ℕ) → IsWalked l.rows l.directory l.left l.fold object → IsWalked l.rows root_id l.fn.path l.fold object

abbrev pub decreases-loop-byte : goal.decreases-loop-byte
decreases-loop-byte l = length l.left
