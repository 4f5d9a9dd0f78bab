use Rattle.ob_model.proofs.ParseRuns.{parse_total, parse_unique}
use Rattle.ob_model.proofs.laws.parse_has_one_end.Goals as goal

pub returns-clause-total : goal.returns-clause-total
returns-clause-total c start = λ g law face rest. parse_total g law face rest

pub returns-clause-unique : goal.returns-clause-unique
returns-clause-unique c start = λ g face rest a b h k. parse_unique g h k
