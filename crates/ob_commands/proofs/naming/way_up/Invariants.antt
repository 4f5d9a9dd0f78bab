-- The names so far, and then those of a way up from the directory that was reached, are a way up from
-- the object; and where the object has a way up, that directory has one.
use Rattle.std.proofs.Common.{ℕ, List, ◌++◌, map}
use Rattle.ob_model.specs.Naming.{IsWayUp}
use Rattle.ob_objects.specs.Store.{rows_of}
use Rattle.ob_space.specs.Namespace.{rows_alone}
use Rattle.ob_commands.proofs.naming.way_up.Given as goal

abbrev pub invariant-loop-current : goal.invariant-loop-current
invariant-loop-current g l =
    let s = rows_alone (rows_of l.store) in
    record {
      behind : (cs : List (List ℕ)) → IsWayUp s l.current cs → IsWayUp s l.fn.object (map (λ name. name.now) l.way.items ++ cs);
      onward : (cs : List (List ℕ)) → IsWayUp s l.fn.object cs → (ds : List (List ℕ)) × IsWayUp s l.current ds;
    }

abbrev pub decreases-loop-current : goal.decreases-loop-current
decreases-loop-current g l = l.current
