-- The value of a survey has no float, so its text is known.
use Rattle.ob_tree_json.proofs.Values.{line_known, survey_whole}
use Rattle.ob_tree_json.proofs.tree.tree_json.Goals as goal

pub returns : goal.returns
returns c = line_known c.write_value.result (λ line. line.items) _ _ c.in_ok-value.ensures (survey_whole c.args.survey.now) c.write_value.ensures
