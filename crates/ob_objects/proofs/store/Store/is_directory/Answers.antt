-- What is told of the stored object is told of the object in the state.
use Rattle.std.proofs.Common.{◌∙◌, ap, sym, Some, None}
use Rattle.std.specs.Option.{option_copied}
use Rattle.ob_model.specs.State.{is_directory_body}
use Rattle.ob_objects.proofs.Follow.{told_of_object}
use Rattle.ob_objects.proofs.store.Store.is_directory.Goals as goal

pub returns-in-Some : goal.returns-in-Some
returns-in-Some g c =
    c.is_directory.ensures
    ∙ told_of_object (λ o. is_directory_body o.body) c.args.self.now c.args.id (Some c.in-Some.stored.now) (sym (ap option_copied c.in-Some.is) ∙ c.get.ensures.stored)

pub returns-in-None : goal.returns-in-None
returns-in-None g c =
    told_of_object (λ o. is_directory_body o.body) c.args.self.now c.args.id None (sym (ap option_copied c.in-None.is) ∙ c.get.ensures.stored)
