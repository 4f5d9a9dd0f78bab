-- The runs go side by side through states that are alike except for the values of handles.
use Rattle.ob_scripts.proofs.AlikeShown.{forms_alike, scripts_alike}
use Rattle.ob_scripts.proofs.laws.shown_law.Goals as goal

pub returns-clause-forms : goal.returns-clause-forms
returns-clause-forms c = forms_alike

pub returns-clause-scripts : goal.returns-clause-scripts
returns-clause-scripts c = scripts_alike
