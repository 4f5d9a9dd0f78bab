-- What is cloned is the same, so that the parts say the same.
use Rattle.std.proofs.Common.{rules}
use Rattle.std.proofs.lemmas.List.Elements.{same_from_all_zip}
use Rattle.std.proofs.lemmas.Map.Entries.{entries_from_clone}
use Rattle.slab.specs.Slab.{get, slab_len}
use Rattle.ob_handles.proofs.Cloned.{rows_cloned, count_cloned}
use Rattle.ob_handles.proofs.Inside.{inside_stays, handles_stay}
use Rattle.ob_handles.proofs.slab_table.SlabTableHandleTable.copy.Goals as goal

pub invariant_of-result : goal.invariant_of-result
invariant_of-result c =
    inside_stays (get c.self.inside.rows) (get c.in_ok-clone.field-0) c.self.inside.foreign.entries c.in_ok-clone-2.field-0.entries c.self.inside.opened.items c.in_ok-clone-3.field-0.items
    (slab_len c.self.inside.rows) (slab_len c.in_ok-clone.field-0)
    (rows_cloned _ (λ x y is. search rules) _ _ c.in_ok-clone.ensures.cases)
    (entries_from_clone _ _ (λ x y is. is) (λ x y is. is) _ _ c.in_ok-clone-2.ensures.cases)
    (same_from_all_zip _ _ _ c.in_ok-clone-3.ensures.cases.0 (λ x y is. search rules))
    (count_cloned _ (λ x y is. search rules) _ _ c.in_ok-clone.ensures.cases)
    c.self.invariant

pub returns : goal.returns
returns c =
    handles_stay (get c.self.inside.rows) (get c.in_ok-clone.field-0) c.self.inside.opened.items c.in_ok-clone-3.field-0.items c.args.self.now
    (rows_cloned _ (λ x y is. search rules) _ _ c.in_ok-clone.ensures.cases)
    (same_from_all_zip _ _ _ c.in_ok-clone-3.ensures.cases.0 (λ x y is. search rules))
    c.self.view_is
