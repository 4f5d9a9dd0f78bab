-- What shows the same has the same objects and rows, and keeps the same beside them.
use Rattle.std.proofs.Common.{◌∙◌, ap, sym, subst}
use Rattle.std.proofs.lemmas.Map.Entries.{entries_from_clone}
use Rattle.ob_objects.specs.Kept.{Keeps}
use Rattle.ob_objects.specs.Shadows.{CountsShadows}
use Rattle.ob_objects.specs.Slots.{objects_in}
use Rattle.ob_objects.specs.Store.{objects_of, rows_of}
use Rattle.ob_objects.proofs.Copied.{keeps_copied, objects_copied, rows_copied}
use Rattle.ob_objects.proofs.store.Store.copy.Goals as goal

pub invariant_of-result : goal.invariant_of-result
invariant_of-result g c =
    let types = entries_from_clone _ _ (λ x y is. is) (λ x y is. is) c.self.inside.types.entries c.in_ok-clone.field-0.entries c.in_ok-clone.ensures.cases in (
      subst (λ kept. Keeps g.T.TypeSet.procedures c.in_ok-copy.field-0 kept) (sym types)
          (keeps_copied g.T.TypeSet.procedures c.self.inside.slots c.in_ok-copy.field-0 c.self.inside.types.entries c.self.invariant.0 c.in_ok-copy.ensures.objects c.in_ok-copy.ensures.places
          c.in_ok-copy.ensures.filled),
      subst (λ kept. CountsShadows kept c.in_ok-copy-2.field-0) (sym types) (subst (CountsShadows c.self.inside.types.entries) (sym c.in_ok-copy-2.ensures) c.self.invariant.1),
    )

pub returns-clause-objects : goal.returns-clause-objects
returns-clause-objects g c = objects_copied (objects_in c.self.inside.slots) (objects_in c.in_ok-copy.field-0) c.in_ok-copy.ensures.objects ∙ ap objects_of c.self.view_is

pub returns-clause-rows : goal.returns-clause-rows
returns-clause-rows g c = rows_copied (objects_in c.self.inside.slots) (objects_in c.in_ok-copy.field-0) c.in_ok-copy.ensures.objects ∙ ap rows_of c.self.view_is
