-- The lent namespace may be shared with the threads, and the passes come back as the lines play them. The lifetime of the loan
-- plays no part.
use Rattle.std.proofs.Common.{◌≡◌, ◌∙◌, [], All, length, ap, sym, subst}
use mir.Syntax.{static}
use denote.Param.{param}
use Rattle.ob_threads.proofs.LentSync.{lent_sync}
use Rattle.ob_threads.proofs.Seated.{P, all_fresh, come_back}
use Rattle.ob_threads.proofs.run.run_lent.Goals as goal

pub run_seats-requires-sync-C : goal.run_seats-requires-sync-C
run_seats-requires-sync-C g c κs within =
    record { shared = (lent_sync (record { mir = static; lft = _ }) (param 0 g.row.H) (param 1 g.row.L) g.L.Ledger c.type_bounds.sync-H).shared }

pub run_seats-requires-clause-theirs : goal.run_seats-requires-clause-theirs
run_seats-requires-clause-theirs g c κs within = subst (All (λ (p : P). p.receipts ≡ [])) (sym c.requires.theirs) (all_fresh _)

pub returns-in-Ok-push-clause-passes : goal.returns-in-Ok-push-clause-passes
returns-in-Ok-push-clause-passes g c =
    come_back (length c.args.parts.now.workers.items) c.args.theirs.items c.in-Ok.field-0.theirs.items c.push.new.self.items c.in-Ok.field-0.own c.requires.theirs c.in-Ok.ensures.seats
    (c.in-Ok.ensures.seat ∙ ap (λ (p : P). p.seat) c.requires.own) c.in-Ok-push.ensures.items
