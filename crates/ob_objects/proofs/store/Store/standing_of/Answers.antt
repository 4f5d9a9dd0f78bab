-- What is told of the stored object is told of the object in the state, and of the rows.
use Rattle.std.proofs.Common.{◌≡◌, ◌∙◌, ◌==◌, ap, subst, false, not, length, rules}
use Rattle.std.specs.Option.{option_copied, option_map_or}
use Rattle.ob_objects.specs.declared.object.StoredObject.{StoredObject}
use Rattle.ob_objects.specs.Store.{IsStore, entries_in, place_at}
use Rattle.ob_objects.proofs.KeptSlots.{object_stored}
use Rattle.ob_objects.proofs.Told.{standing_told}
use Rattle.ob_objects.proofs.store.Store.standing_of.Goals as goal

pub returns-clause-standing : goal.returns-clause-standing
returns-clause-standing g c =
    let permanent : c.is_some_and.result ≡ option_map_or (λ (x : StoredObject _ _). x.permanent) (option_copied c.both-place.result.0) false = search rules in
    let holds : c.is_some_and-2.result ≡ option_map_or (λ (x : StoredObject _ _). not (length (entries_in x.body) == 0)) (option_copied c.both-place.result.0) false = search rules in
    standing_told c.args.self.now (subst IsStore c.self.view_is c.self.invariant.0.places.is_store) c.args.id (option_copied c.both-place.result.0)
    (c.both-place.ensures.object ∙ object_stored c.self.inside.slots c.args.self.now c.args.id c.self.view_is)
    c.is_some_and.result c.is_some_and-2.result c.both-place.result.1 permanent holds
    (c.both-place.ensures.place ∙ c.self.invariant.0.places.places c.args.id ∙ ap (λ store. place_at store c.args.id) c.self.view_is)
