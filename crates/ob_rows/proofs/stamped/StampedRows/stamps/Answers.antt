-- The stamp of each row is collected, in the order in which the map has the rows.
use Rattle.std.proofs.Common.{◌≡◌, ◌∙◌, ℕ, List, map, All, Contains, sym, subst, rules}
use Rattle.std.proofs.lemmas.Iterator.{items_from_collect, YieldsList-from_map}
use Rattle.std.proofs.lemmas.Iterator.Consumers.{YieldsList-at, YieldsList-from_rest}
use Rattle.std.proofs.lemmas.List.Elements.{All-contains_itself, All-map, All-weaker}
use Rattle.std.proofs.lemmas.Result.{IfOk-weaker}
use Rattle.std.specs.Map.{values_of}
use Rattle.ob_model.specs.declared.state.Row.{Row}
use Rattle.ob_model.proofs.Sorted.{All-sorted_by}
use Rattle.ob_rows.specs.Stamped.{stamp_of}
use Rattle.ob_rows.proofs.Listed.{stamps_listed}
use Rattle.ob_rows.proofs.stamped.StampedRows.stamps.Goals as goal

pub returns : goal.returns
returns c =
    IfOk-weaker c.collect.result _ _
    (λ stamps are. subst (All (λ (row : Row). Contains stamps.items row.stamp)) c.self.view_is
    (All-sorted_by stamp_of (λ (row : Row). Contains stamps.items row.stamp) (values_of c.self.inside.map.entries)
    (subst (λ (ns : List ℕ). All (λ (row : Row). Contains ns row.stamp) (values_of c.self.inside.map.entries)) (sym are) (stamps_listed (values_of c.self.inside.map.entries)))))
    (items_from_collect _ c.collect.ensures.ran
    (YieldsList-from_map _ stamp_of (YieldsList-at c.map.ensures.source (YieldsList-from_rest (values_of c.self.inside.map.entries) c.values.ensures.rest)) c.map.ensures.closure (λ x r q k. search rules)))
