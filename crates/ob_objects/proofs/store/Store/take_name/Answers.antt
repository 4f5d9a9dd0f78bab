-- The change is written under the id, or nothing is there; with the entry goes its object's place.
use Rattle.std.proofs.Common.{◌∙◌, ◌==◌, ap, sym, refl, find, Some, None}
use Rattle.std.specs.Option.{option_copied_mut, option_map}
use Rattle.ob_dirs.specs.declared.entry.DirEntry.{DirEntry}
use Rattle.ob_objects.specs.Changes.{body_without_name}
use Rattle.ob_objects.specs.Slots.{objects_in, place_in}
use Rattle.ob_objects.proofs.KeptSlots.{object_found, slots_left, slots_changed, same_slots_keep, unnamed_slots_keep, no_entry_keep}
use Rattle.ob_objects.proofs.Written.{on_some, entries_found}
use Rattle.ob_objects.proofs.store.Store.take_name.Goals as goal

pub invariant_of-self : goal.invariant_of-self
invariant_of-self g c = (
  same_slots_keep g.T.TypeSet.procedures c.self.inside.slots _ c.self.inside.types.entries c.self.invariant.0 c.object_mut.follows.holds-at-none,
  c.self.invariant.1,
)

pub returns-in_err-stored-clause-there : goal.returns-in_err-stored-clause-there
returns-in_err-stored-clause-there g c =
    c.from_residual.ensures
    ∙ ap (λ es. option_map (λ (e : DirEntry). e.object) (find (λ (e : DirEntry). e.stamp == c.args.stamp) es))
    (entries_found (objects_in c.self.inside.slots) c.args.self.now c.args.directory c.args.directory None
    (object_found c.self.inside.slots c.args.directory None (sym c.object_mut.ensures.value ∙ ap option_copied_mut c.in_err-stored.was)) c.self.view_is refl)

pub returns-in_err-stored-clause-others : goal.returns-in_err-stored-clause-others
returns-in_err-stored-clause-others g c =
    slots_left c.self.inside.slots _ c.args.self.now c.args.directory _ (sym c.object_mut.ensures.value ∙ ap option_copied_mut c.in_err-stored.was) c.object_mut.follows.holds-at-none c.self.view_is

pub invariant_of-self-in_err-entry : goal.invariant_of-self-in_err-entry
invariant_of-self-in_err-entry g c = (
  no_entry_keep g.T.TypeSet.procedures c.self.inside.slots _ c.self.inside.types.entries c.args.directory c.args.stamp c.in_ok-stored.stored.now c.remove_name.new.stored c.self.invariant.0
      (sym c.object_mut.ensures.value ∙ ap option_copied_mut c.in_ok-stored.was) (on_some c.object_mut.result c.in_ok-stored.stored c.in_ok-stored.was (c.object_mut.follows.holds _)) c.remove_name.ensures.others
      (sym c.in_err-entry.was ∙ c.remove_name.ensures.there),
  c.self.invariant.1,
)

pub returns-in_err-entry-clause-there : goal.returns-in_err-entry-clause-there
returns-in_err-entry-clause-there g c =
    c.from_residual-in_err-entry.ensures
    ∙ ap (option_map (λ (e : DirEntry). e.object)) (sym c.in_err-entry.was ∙ c.remove_name.ensures.there)
    ∙ ap (λ es. option_map (λ (e : DirEntry). e.object) (find (λ (e : DirEntry). e.stamp == c.args.stamp) es))
    (entries_found (objects_in c.self.inside.slots) c.args.self.now c.args.directory c.args.directory (Some c.in_ok-stored.stored.now)
    (object_found c.self.inside.slots c.args.directory _ (sym c.object_mut.ensures.value ∙ ap option_copied_mut c.in_ok-stored.was)) c.self.view_is refl)

pub returns-in_err-entry-clause-others : goal.returns-in_err-entry-clause-others
returns-in_err-entry-clause-others g c =
    slots_changed c.self.inside.slots _ c.args.self.now c.args.directory (λ x. record x { body = body_without_name c.args.stamp x.body }) (place_in c.self.inside.slots) c.in_ok-stored.stored.now c.remove_name.new.stored
    c.self.invariant.0.places (sym c.object_mut.ensures.value ∙ ap option_copied_mut c.in_ok-stored.was) (on_some c.object_mut.result c.in_ok-stored.stored c.in_ok-stored.was (c.object_mut.follows.holds _)) c.remove_name.ensures.others c.self.view_is

pub invariant_of-self-2 : goal.invariant_of-self-2
invariant_of-self-2 g c = (
  unnamed_slots_keep g.T.TypeSet.procedures c.self.inside.slots _ c.forget_place.new.self c.self.inside.types.entries c.args.directory c.args.stamp c.in_ok-entry.entry c.in_ok-stored.stored.now c.remove_name.new.stored c.self.invariant.0
      (sym c.object_mut.ensures.value ∙ ap option_copied_mut c.in_ok-stored.was) (on_some c.object_mut.result c.in_ok-stored.stored c.in_ok-stored.was (c.object_mut.follows.holds _)) c.remove_name.ensures.others
      (sym c.in_ok-entry.was ∙ c.remove_name.ensures.there) c.forget_place.ensures.objects c.forget_place.ensures.forgotten c.forget_place.ensures.filled,
  c.self.invariant.1,
)

pub returns-clause-there : goal.returns-clause-there
returns-clause-there g c =
    ap (option_map (λ (e : DirEntry). e.object)) (sym c.in_ok-entry.was ∙ c.remove_name.ensures.there)
    ∙ ap (λ es. option_map (λ (e : DirEntry). e.object) (find (λ (e : DirEntry). e.stamp == c.args.stamp) es))
    (entries_found (objects_in c.self.inside.slots) c.args.self.now c.args.directory c.args.directory (Some c.in_ok-stored.stored.now)
    (object_found c.self.inside.slots c.args.directory _ (sym c.object_mut.ensures.value ∙ ap option_copied_mut c.in_ok-stored.was)) c.self.view_is refl)

pub returns-clause-others : goal.returns-clause-others
returns-clause-others g c =
    c.forget_place.ensures.objects
    ∙ slots_changed c.self.inside.slots _ c.args.self.now c.args.directory (λ x. record x { body = body_without_name c.args.stamp x.body }) (place_in c.self.inside.slots) c.in_ok-stored.stored.now c.remove_name.new.stored
    c.self.invariant.0.places (sym c.object_mut.ensures.value ∙ ap option_copied_mut c.in_ok-stored.was) (on_some c.object_mut.result c.in_ok-stored.stored c.in_ok-stored.was (c.object_mut.follows.holds _)) c.remove_name.ensures.others c.self.view_is
