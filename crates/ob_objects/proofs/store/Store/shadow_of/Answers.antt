-- The shadow of the stored object is that of the object in the state.
use Rattle.std.proofs.Common.{◌∙◌, ap, sym, Some, None}
use Rattle.std.specs.Option.{option_copied}
use Rattle.ob_objects.proofs.Follow.{shadow_of_object}
use Rattle.ob_objects.proofs.store.Store.shadow_of.Goals as goal

pub returns-in-Some : goal.returns-in-Some
returns-in-Some g c = c.shadow.ensures ∙ shadow_of_object c.args.self.now c.args.id (Some c.in-Some.stored.now) (sym (ap option_copied c.in-Some.is) ∙ c.get.ensures.stored)

pub returns-in-None : goal.returns-in-None
returns-in-None g c = shadow_of_object c.args.self.now c.args.id None (sym (ap option_copied c.in-None.is) ∙ c.get.ensures.stored)
