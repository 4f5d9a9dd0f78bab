-- A process begins without a map and gets it, or is taken away again.
use Rattle.std.proofs.Common.{◌∙◌, ◌==◌, ◌++◌, ◌∷◌, [], None, Some, not, filter, map, ap, sym}
use Rattle.ob_processes.specs.Running.{with_map}
use Rattle.ob_processes.proofs.Handing.{none_goes, begun_back, begun_mapped, alike}
use Rattle.ob_processes.proofs.processes.Processes.start.Goals as goal

pub returns-in-Err-clause-unchanged : goal.returns-in-Err-clause-unchanged
returns-in-Err-clause-unchanged g c =
    alike c.end.new.self c.args.self.now
    (c.end.ensures.others
    ∙ ap (λ r. filter (λ x. not (x.number == c.args.process)) r.processes) c.in-Err.ensures.unchanged
    ∙ ap (filter (λ x. not (x.number == c.args.process))) c.in_ok-begin.ensures.last
    ∙ begun_back c.args.process None c.args.self.now.processes c.requires.newest)
    (c.end.ensures.handles
    ∙ ap (filter (λ h. not (h.process == c.args.process))) c.set_map.ensures.handles
    ∙ none_goes c.args.process c.begin.new.self.handles c.in_ok-begin.ensures.empty
    ∙ c.begin.ensures.handles)

pub returns-clause-last : goal.returns-clause-last
returns-clause-last g c =
    c.in_default-set_map.ensures.processes
    ∙ ap (map (with_map c.args.process (Some c.in-Some.directory))) c.in_ok-begin.ensures.last
    ∙ begun_mapped c.args.process (Some c.in-Some.directory) c.args.self.now.processes c.requires.newest
    ∙ ap (λ m. c.args.self.now.processes ++ record { number = c.args.process; map = m } ∷ []) (sym c.in-Some.is)

pub returns-in-Err-clause-handles : goal.returns-in-Err-clause-handles
returns-in-Err-clause-handles g c =
    c.end.ensures.handles
    ∙ ap (filter (λ h. not (h.process == c.args.process))) c.set_map.ensures.handles
    ∙ none_goes c.args.process c.begin.new.self.handles c.in_ok-begin.ensures.empty
    ∙ c.begin.ensures.handles
