-- The place is kept, and the entry is written into the directory, which is there; or the place is taken
-- back.
use Rattle.std.proofs.Common.{◌≢◌, ◌∙◌, ◌<◌, ap, refl, sym, subst, Some, None, All, IsSome}
use Rattle.std.proofs.lemmas.Bool.{false≢true}
use Rattle.std.specs.Option.{option_copied_mut}
use Rattle.ob_model.specs.declared.state.Row.{Row}
use Rattle.ob_objects.specs.Changes.{body_with_name}
use Rattle.ob_objects.specs.Slots.{objects_in, place_in}
use Rattle.ob_objects.specs.Store.{directory_at, rows_of}
use Rattle.ob_objects.proofs.KeptSlots.{object_found, slots_same, slots_changed_too, named_slots_keep, back_slots_keep}
use Rattle.ob_objects.proofs.Written.{on_some, directory_found, entries_found}
use Rattle.ob_objects.proofs.store.Store.insert_name.Goals as goal

pub unreachable-requires : goal.unreachable-requires
unreachable-requires g c =
    let none = directory_found (objects_in c.keep_place.new.self) c.args.self.now c.args.directory c.args.directory None
    (object_found c.keep_place.new.self c.args.directory None (sym c.object_mut.ensures.value ∙ ap option_copied_mut c.in_default.is)) (c.keep_place.ensures.objects ∙ c.self.view_is) refl in
    false≢true (subst IsSome (sym none) c.requires.there)

pub insert_name-requires-clause-there : goal.insert_name-requires-clause-there
insert_name-requires-clause-there g c =
    subst IsSome (sym (directory_found (objects_in c.keep_place.new.self) c.args.self.now c.args.directory c.args.directory (Some c.in-Some.stored.now)
    (object_found c.keep_place.new.self c.args.directory _ (sym c.object_mut.ensures.value ∙ ap option_copied_mut c.in-Some.is)) (c.keep_place.ensures.objects ∙ c.self.view_is) refl)) c.requires.there

pub insert_name-requires-clause-free : goal.insert_name-requires-clause-free
insert_name-requires-clause-free g c =
    subst (All (λ e. e.name ≢ c.args.name)) (sym (entries_found (objects_in c.keep_place.new.self) c.args.self.now c.args.directory c.args.directory (Some c.in-Some.stored.now)
    (object_found c.keep_place.new.self c.args.directory _ (sym c.object_mut.ensures.value ∙ ap option_copied_mut c.in-Some.is)) (c.keep_place.ensures.objects ∙ c.self.view_is) refl)) c.requires.free

pub insert_name-requires-clause-newest : goal.insert_name-requires-clause-newest
insert_name-requires-clause-newest g c =
    subst (All (λ e. e.stamp < c.args.stamp)) (sym (entries_found (objects_in c.keep_place.new.self) c.args.self.now c.args.directory c.args.directory (Some c.in-Some.stored.now)
    (object_found c.keep_place.new.self c.args.directory _ (sym c.object_mut.ensures.value ∙ ap option_copied_mut c.in-Some.is)) (c.keep_place.ensures.objects ∙ c.self.view_is) refl)) c.requires.newest

pub invariant_of-self-in-Err : goal.invariant_of-self-in-Err
invariant_of-self-in-Err g c = (
  back_slots_keep g.T.TypeSet.procedures c.self.inside.slots c.keep_place.new.self _ c.forget_place.new.self c.self.inside.types.entries c.args.directory c.args.object
      (record { directory = c.args.directory; stamp = c.args.stamp }) c.in-Some.stored.now c.insert_name.new.stored c.self.invariant.0
      c.keep_place.ensures.objects c.in_ok-keep_place.ensures.kept c.keep_place.ensures.filled
      (sym c.object_mut.ensures.value ∙ ap option_copied_mut c.in-Some.is) (on_some c.object_mut.result c.in-Some.stored c.in-Some.is (c.object_mut.follows.holds _)) c.in-Err.ensures.unchanged
      (subst (λ es. All (λ (r : Row). r.object ≢ c.args.object) (rows_of es)) (sym c.self.view_is) c.requires.unnamed)
      c.forget_place.ensures.objects c.forget_place.ensures.forgotten c.forget_place.ensures.filled,
  c.self.invariant.1,
)

pub returns-in-Err-clause-unchanged : goal.returns-in-Err-clause-unchanged
returns-in-Err-clause-unchanged g c =
    c.forget_place.ensures.objects
    ∙ slots_same c.keep_place.new.self _ c.args.self.now c.args.directory c.in-Some.stored.now c.insert_name.new.stored
    (sym c.object_mut.ensures.value ∙ ap option_copied_mut c.in-Some.is) (on_some c.object_mut.result c.in-Some.stored c.in-Some.is (c.object_mut.follows.holds _)) c.in-Err.ensures.unchanged (c.keep_place.ensures.objects ∙ c.self.view_is)

pub invariant_of-self-in_default-insert_name : goal.invariant_of-self-in_default-insert_name
invariant_of-self-in_default-insert_name g c = (
  let same = sym (entries_found (objects_in c.keep_place.new.self) c.args.self.now c.args.directory c.args.directory (Some c.in-Some.stored.now)
      (object_found c.keep_place.new.self c.args.directory _ (sym c.object_mut.ensures.value ∙ ap option_copied_mut c.in-Some.is)) (c.keep_place.ensures.objects ∙ c.self.view_is) refl) in
      named_slots_keep g.T.TypeSet.procedures c.self.inside.slots c.keep_place.new.self _ c.self.inside.types.entries c.args.directory
      (record { stamp = c.args.stamp; name = c.args.name; object = c.args.object }) c.in-Some.stored.now c.insert_name.new.stored c.self.invariant.0
      c.keep_place.ensures.objects c.in_ok-keep_place.ensures.kept c.keep_place.ensures.filled
      (sym c.object_mut.ensures.value ∙ ap option_copied_mut c.in-Some.is) (on_some c.object_mut.result c.in-Some.stored c.in-Some.is (c.object_mut.follows.holds _)) c.in_default-insert_name.ensures.last
      (subst (All (λ e. e.name ≢ c.args.name)) same c.requires.free) (subst (All (λ e. e.stamp < c.args.stamp)) same c.requires.newest)
      (subst (λ es. IsSome (directory_at es c.args.directory)) (sym c.self.view_is) c.requires.there)
      (subst (λ es. All (λ (r : Row). r.object ≢ c.args.object) (rows_of es)) (sym c.self.view_is) c.requires.unnamed),
  c.self.invariant.1,
)

pub returns-clause-last : goal.returns-clause-last
returns-clause-last g c =
    slots_changed_too c.self.inside.slots c.keep_place.new.self _ c.args.self.now c.args.directory
    (λ x. record x { body = body_with_name (record { stamp = c.args.stamp; name = c.args.name; object = c.args.object }) x.body }) (place_in c.self.inside.slots) c.in-Some.stored.now c.insert_name.new.stored
    c.self.invariant.0.places c.keep_place.ensures.objects
    (sym c.object_mut.ensures.value ∙ ap option_copied_mut c.in-Some.is) (on_some c.object_mut.result c.in-Some.stored c.in-Some.is (c.object_mut.follows.holds _)) c.in_default-insert_name.ensures.last c.self.view_is
