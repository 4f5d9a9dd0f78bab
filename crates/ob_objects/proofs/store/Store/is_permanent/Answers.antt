-- What is told of the stored object is told of the object in the state.
use Rattle.std.proofs.Common.{◌≡◌, ◌∙◌, false, rules}
use Rattle.std.specs.Option.{option_copied, option_map_or}
use Rattle.ob_objects.specs.declared.object.StoredObject.{StoredObject}
use Rattle.ob_objects.proofs.Follow.{told_of_object}
use Rattle.ob_objects.proofs.store.Store.is_permanent.Goals as goal

pub returns : goal.returns
returns g c =
    let told : c.is_some_and.result ≡ option_map_or (λ (x : StoredObject _ _). x.permanent) (option_copied c.get.result) false = search rules in
    told ∙ told_of_object (λ o. o.permanent) c.args.self.now c.args.id (option_copied c.get.result) c.get.ensures.stored
