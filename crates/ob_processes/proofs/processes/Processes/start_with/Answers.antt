-- A process that has begun is live; where a handle finds no memory all is as it was.
use Rattle.std.proofs.Common.{◌≡◌, ◌==◌, ◌∙◌, true, not, ap, sym, subst, refl}
use Rattle.std.specs.List.{find, filter}
use Rattle.std.specs.Option.{is_some}
use Rattle.ob_processes.proofs.Handing.{begun_live, begun_back, alike}
use Rattle.ob_processes.proofs.processes.Processes.start_with.Goals as goal

pub put_all-requires-clause-live : goal.put_all-requires-clause-live
put_all-requires-clause-live g c κs within =
    subst (λ xs. is_some (find (λ x. x.number == c.args.process) xs) ≡ true) (sym c.in_ok-start.ensures.last)
    (begun_live c.args.process (record { number = c.args.process; map = c.args.map }) c.args.self.now.processes refl)

pub returns-in-Err-clause-unchanged : goal.returns-in-Err-clause-unchanged
returns-in-Err-clause-unchanged g c =
    alike c.end.new.self c.args.self.now
    (c.end.ensures.others
    ∙ ap (filter (λ x. not (x.number == c.args.process))) (c.put_all.ensures.processes ∙ c.in_ok-start.ensures.last)
    ∙ begun_back c.args.process c.args.map c.args.self.now.processes c.requires.number)
    (c.end.ensures.handles ∙ c.put_all.ensures.others ∙ c.in_ok-start.ensures.handles)
