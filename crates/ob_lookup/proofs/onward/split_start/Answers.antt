-- A text with no separator is cut nowhere.
use Rattle.std.proofs.Common.{ℕ, List}
use Rattle.ob_lookup.specs.Onward.{IsCutAt}
use Rattle.ob_lookup.proofs.Separators.{not_cut, IfNone-map}
use Rattle.ob_lookup.proofs.onward.split_start.Goals as goal

pub returns-clause-none : goal.returns-clause-none
returns-clause-none c =
    IfNone-map _ ((front last : List ℕ) → IsCutAt c.args.start.now.behind front last → ⊥) c.split_last.result
    (not_cut c.args.start.now.behind c.in-Some.behind c.in-Some.is) c.split_last.ensures.none
