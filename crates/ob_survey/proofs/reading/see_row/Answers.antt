-- The row that was found, put together anew.
use Rattle.std.proofs.Common.{◌∙◌}
use Rattle.ob_objects.specs.Named.{row_of_named}
use Rattle.ob_survey.proofs.Gathering.{row_anew}
use Rattle.ob_survey.proofs.reading.see_row.Goals as goal

pub returns : goal.returns
returns g c =
    row_anew c.args.core.now.rows c.args.id c.stamp.result c.in_ok-name.name (row_of_named c.in-Some.named) c.in-Some.ensures c.stamp.ensures (c.in_ok-name.ensures.copy ∙ c.name.ensures)
