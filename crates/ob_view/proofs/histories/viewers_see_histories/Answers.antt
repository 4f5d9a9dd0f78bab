-- Publications that lead through a run are those of the history of that run.
use Rattle.std.proofs.Common.{[], ◌∙◌, ap, sym}
use Rattle.ob_published.specs.Publications.{published_rows}
use Rattle.ob_published.proofs.Leading.{leads_is_run}
use Rattle.ob_view.proofs.histories.viewers_see_histories.Goals as goal

pub returns : goal.returns
returns g c = λ publications led.
    let (first, entries, state, through) = c.requires.named.says publications led in
    let run = leads_is_run g.T.TypeSet.procedures _ 0 publications entries state through in (
      record { first = first; journal = record { sealed = []; unsealed = entries }; state = state },
      through,
      record { run = run.0; rows = run.2 ∙ ap (λ rows. published_rows rows publications) (sym (c.requires.named.rows first)); number = run.1 },
    )
