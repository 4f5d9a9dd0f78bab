-- A process of the greatest number comes last, and has no handle and no map.
use Rattle.std.proofs.Common.{◌∙◌, ◌++◌, ◌==◌, [], ◌∷◌, None, ap}
use Rattle.std.specs.BTreeMap.{insert_entry}
use Rattle.std.specs.List.{find}
use Rattle.std.specs.Ordering.{nat_cmp}
use Rattle.ob_processes.specs.Running.{handles_of}
use Rattle.ob_processes.proofs.Changes.{processes_begun, handles_begun}
use Rattle.ob_processes.proofs.Seen.{newest_key, none_mapped, none_held, processes_now, handles_now}
use Rattle.ob_processes.proofs.Kept.{counted_begun}
use Rattle.ob_processes.proofs.processes.Processes.begin.Goals as goal

pub invariant_of-self-2 : goal.invariant_of-self-2
invariant_of-self-2 g c =
    counted_begun c.self.inside.maps c.self.inside.live.entries c.self.inside.total c.self.inside.counts c.self.invariant c.args.self.now c.self.view_is c.process.inside.0 c.insert.new.self.entries
    (newest_key c.self.inside.maps c.self.inside.live.entries c.self.inside.total c.self.invariant.running c.args.self.now c.self.view_is c.process.inside.0 c.args.process c.process.view_is c.requires.newest)
    (c.in_ok-insert.ensures.entries ∙ ap (insert_entry nat_cmp c.self.inside.live.entries c.process.inside.0) c.new-live.ensures)
    c.insert.ensures.ordered

pub returns-clause-last : goal.returns-clause-last
returns-clause-last g c =
    processes_begun c.process.inside.0 c.self.inside.total c.self.inside.live.entries c.self.invariant.running c.insert.new.self.entries
    (newest_key c.self.inside.maps c.self.inside.live.entries c.self.inside.total c.self.invariant.running c.args.self.now c.self.view_is c.process.inside.0 c.args.process c.process.view_is c.requires.newest)
    (c.in_ok-insert.ensures.entries ∙ ap (insert_entry nat_cmp c.self.inside.live.entries c.process.inside.0) c.new-live.ensures)
    c.self.inside.maps (none_mapped c.self.inside.maps c.self.inside.live.entries c.self.inside.total c.self.invariant.running c.args.self.now c.self.view_is c.process.inside.0 c.args.process c.process.view_is c.self.invariant.mapped c.requires.newest)
    ∙ ap (λ ps. ps ++ record { number = c.process.inside.0; map = None } ∷ []) (processes_now c.self.inside.maps c.self.inside.live.entries c.self.inside.total c.self.invariant.running c.args.self.now c.self.view_is)
    ∙ ap (λ n. c.args.self.now.processes ++ record { number = n; map = None } ∷ []) c.process.view_is

pub returns-clause-handles : goal.returns-clause-handles
returns-clause-handles g c =
    handles_begun c.process.inside.0 c.self.inside.total c.self.inside.live.entries c.self.invariant.running c.insert.new.self.entries
    (newest_key c.self.inside.maps c.self.inside.live.entries c.self.inside.total c.self.invariant.running c.args.self.now c.self.view_is c.process.inside.0 c.args.process c.process.view_is c.requires.newest)
    (c.in_ok-insert.ensures.entries ∙ ap (insert_entry nat_cmp c.self.inside.live.entries c.process.inside.0) c.new-live.ensures)
    ∙ handles_now c.self.inside.maps c.self.inside.live.entries c.self.inside.total c.self.invariant.running c.args.self.now c.self.view_is

pub returns-clause-empty : goal.returns-clause-empty
returns-clause-empty g c =
    ap (find (λ h. h.process == c.args.process))
    (handles_begun c.process.inside.0 c.self.inside.total c.self.inside.live.entries c.self.invariant.running c.insert.new.self.entries
    (newest_key c.self.inside.maps c.self.inside.live.entries c.self.inside.total c.self.invariant.running c.args.self.now c.self.view_is c.process.inside.0 c.args.process c.process.view_is c.requires.newest)
    (c.in_ok-insert.ensures.entries ∙ ap (insert_entry nat_cmp c.self.inside.live.entries c.process.inside.0) c.new-live.ensures)
    ∙ handles_now c.self.inside.maps c.self.inside.live.entries c.self.inside.total c.self.invariant.running c.args.self.now c.self.view_is)
    ∙ none_held c.self.inside.maps c.self.inside.live.entries c.self.inside.total c.self.invariant.running c.args.self.now c.self.view_is c.process.inside.0 c.args.process c.process.view_is c.requires.newest

pub returns-in_err-insert-clause-empty : goal.returns-in_err-insert-clause-empty
returns-in_err-insert-clause-empty g c =
    ap (λ es. find (λ h. h.process == c.args.process) (handles_of es)) c.in_err-insert.ensures.err
    ∙ ap (find (λ h. h.process == c.args.process)) (handles_now c.self.inside.maps c.self.inside.live.entries c.self.inside.total c.self.invariant.running c.args.self.now c.self.view_is)
    ∙ none_held c.self.inside.maps c.self.inside.live.entries c.self.inside.total c.self.invariant.running c.args.self.now c.self.view_is c.process.inside.0 c.args.process c.process.view_is c.requires.newest
