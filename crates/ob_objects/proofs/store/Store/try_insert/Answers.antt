-- An id that no object has comes in its order, and its object's type and shadow with it.
use Rattle.std.proofs.Common.{◌∙◌, ap, cond, refl, sym, subst, nat_cmp, Some, None}
use Rattle.std.specs.BTreeMap.{is_at}
use Rattle.std.specs.Map.{lookup}
use Rattle.ob_model.specs.State.{shadow_in}
use Rattle.ob_objects.specs.declared.object.StoredObject.{StoredObject}
use Rattle.ob_objects.specs.Kept.{Keeps}
use Rattle.ob_objects.specs.Shadows.{CountsShadows, CountsLess}
use Rattle.ob_objects.specs.Slots.{objects_in}
use Rattle.ob_objects.specs.Store.{body_of_stored}
use Rattle.ob_objects.specs.Types.{type_of_body}
use Rattle.ob_objects.proofs.KeptShadows.{few_of_shadow, free_type, came_counted, counted_back, taken_back}
use Rattle.ob_objects.proofs.KeptSlots.{object_stored, came_keep, same_slots_keep}
use Rattle.ob_objects.proofs.Written.{inserted_put}
use Rattle.ob_objects.proofs.store.Store.try_insert.Goals as goal

pub count-requires : goal.count-requires
count-requires g c = few_of_shadow c.self.inside.types.entries c.self.inside.shadows _ c.len.result c.self.invariant.1 c.len.ensures.len c.len.ensures.small

pub put_object-requires : goal.put_object-requires
put_object-requires g c = record { free = object_stored c.self.inside.slots c.args.self.now c.args.id c.self.view_is ∙ c.requires.free }

pub invariant_of-self-in_default-put_object : goal.invariant_of-self-in_default-put_object
invariant_of-self-in_default-put_object g c = (
  came_keep g.T.TypeSet.procedures c.self.inside.slots c.put_object.new.self c.args.self.now c.self.inside.types.entries c.insert.new.self.entries c.args.id c.args.object c.self.invariant.0 c.self.view_is c.requires.free
      c.in_default-put_object.ensures.put c.put_object.ensures.places c.put_object.ensures.filled c.requires.empty
      (λ q. c.in-Ok-insert.ensures.updates.0 q
      ∙ ap (λ t. cond (is_at (nat_cmp c.id.inside.0) q) (Some t) (lookup (is_at (nat_cmp q)) c.self.inside.types.entries)) c.type_of-of.ensures
      ∙ ap (λ k. cond (is_at (nat_cmp k) q) (Some (type_of_body g.T.TypeSet.procedures c.args.object.body)) (lookup (is_at (nat_cmp q)) c.self.inside.types.entries)) c.id.view_is),
  came_counted g.T.TypeSet.procedures c.self.inside.types.entries c.insert.new.self.entries c.id.inside.0 c.args.object.body c.type_of-of.result c.self.inside.shadows c.count.new.shadows
      c.self.invariant.1 c.in-Ok.ensures.counted c.len.ensures.ordered
      (free_type g.T.TypeSet.procedures (objects_in c.self.inside.slots) c.args.self.now c.self.inside.types.entries c.args.id c.id.inside.0 c.self.invariant.0.types c.self.view_is c.requires.free c.id.view_is)
      c.in-Ok-insert.ensures.entries c.type_of-of.ensures,
)

pub returns-in_default-put_object-clause-put : goal.returns-in_default-put_object-clause-put
returns-in_default-put_object-clause-put g c =
    inserted_put (objects_in c.put_object.new.self) (objects_in c.self.inside.slots) c.args.self.now c.args.id c.args.id c.args.object c.in_default-put_object.ensures.put c.self.view_is refl c.requires.free

pub invariant_of-self-2 : goal.invariant_of-self-2
invariant_of-self-2 g c =
    let left =
    taken_back c.self.inside.types.entries c.insert.new.self.entries c.remove.new.self.entries c.args.id c.type_of-of.result c.len.ensures.ordered c.remove.ensures.ordered
    (free_type g.T.TypeSet.procedures (objects_in c.self.inside.slots) c.args.self.now c.self.inside.types.entries c.args.id c.args.id c.self.invariant.0.types c.self.view_is c.requires.free refl)
    (λ q. c.in-Ok-insert.ensures.updates.0 q
    ∙ ap (λ k. cond (is_at (nat_cmp k) q) (Some c.type_of-of.result) (lookup (is_at (nat_cmp q)) c.self.inside.types.entries)) c.id.view_is)
    (λ q. c.remove.ensures.updates.0 q ∙ ap (λ k. cond (is_at (nat_cmp k) q) None (lookup (is_at (nat_cmp q)) c.insert.new.self.entries)) c.id-2.view_is) in (
      subst (Keeps g.T.TypeSet.procedures c.put_object.new.self) (sym left)
          (same_slots_keep g.T.TypeSet.procedures c.self.inside.slots c.put_object.new.self c.self.inside.types.entries c.self.invariant.0
          (record { objects = c.in-Err.ensures.unchanged; places = c.put_object.ensures.places; filled = c.put_object.ensures.filled })),
      subst (λ types. CountsShadows types c.discount-2.new.shadows) (sym left)
          (counted_back c.self.inside.types.entries _ c.self.inside.shadows c.count.new.shadows c.discount-2.new.shadows c.self.invariant.1 c.in-Ok.ensures.counted
          (subst (λ (x : StoredObject _ _). CountsLess (shadow_in (body_of_stored x.body)) c.count.new.shadows c.discount-2.new.shadows) c.in-Err.ensures.returned c.discount-2.ensures)),
    )
