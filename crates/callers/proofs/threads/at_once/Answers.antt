-- What the callers share may be lent to threads: the runtime, the allocator, the namespace, and what is to be done.
use mathlib.Core.List.{[], ◌∷◌}
use mir.Syntax.{static}
use denote.Param.{param}
use denote.Param.Send.{shr_sync}
use denote.Ref.{ShrRef}
use Rattle.std.proofs.alloc.Global.TheSendSync as heap
use Rattle.std.specs.contracts.alloc.Global as heap_row
use Rattle.ob_shared.proofs.Lent.{captures_sync}
use Rattle.callers.specs.contracts.threads.Play as plays
use Rattle.callers.proofs.threads.Play.TheSendSync as plays_lent
use Rattle.callers.proofs.Lent.{space, space_sync}
use Rattle.callers.proofs.threads.at_once.Goals as goal

pub map_vec-requires-sync-F : goal.map_vec-requires-sync-F
map_vec-requires-sync-F g c κs within =
    let L = param 1 g.row.L in
    let l = g.L.Ledger in
    let s = captures_sync (ShrRef static _ (param 0 g.row.R) ∷ ShrRef static [] heap_row.the_row ∷ ShrRef static _ (space L l) ∷ ShrRef static _ plays.the_row ∷ [])
    (shr_sync _ _ _ c.type_bounds.sync-R, (shr_sync _ _ _ heap.the_sync, (shr_sync _ _ _ (space_sync L l), (shr_sync _ _ _ plays_lent.the_sync, tt)))) in
    record { shared = s.shared }
