-- What is collected passed the test, of all handles by their orders.
use Rattle.std.proofs.Common.{◌∙◌, rules, tests}
use Rattle.std.proofs.lemmas.Iterator.{items_from_collect}
use Rattle.std.proofs.lemmas.Iterator.Consumers.{YieldsList-at, YieldsList-from_rest, YieldsList-from_copied, YieldsList-from_filter}
use Rattle.ob_handles.proofs.open_table.OpenTableHandleTable.inheritable.Goals as goal

pub returns : goal.returns
returns c =
    items_from_collect _ c.collect.ensures.ran
    (YieldsList-from_filter _ (λ h. h.inherit)
    (YieldsList-at c.filter.ensures.source (YieldsList-from_copied (YieldsList-at c.copied-handles.ensures.source (YieldsList-from_rest c.args.self.now (c.values.ensures.rest ∙ c.self.view_is)))))
    c.filter.ensures.closure (λ x b q k. search (rules, tests)))
