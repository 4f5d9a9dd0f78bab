-- What stands at the place of the name is the name.
use Rattle.std.proofs.Common.{◌∙◌, ap, sym, [], None, Some, refl}
use Rattle.std.specs.Option.{option_copied, option_map, option_and_then, unwrap_or}
use Rattle.ob_objects.specs.declared.object.StoredObject.{StoredObject}
use Rattle.ob_objects.specs.Named.{row_of_named}
use Rattle.ob_objects.specs.Store.{directory_of, entries_in}
use Rattle.ob_objects.proofs.Stands.{named_in}
use Rattle.ob_objects.proofs.store.Store.name_of.Goals as goal

pub returns-in_err-stored : goal.returns-in_err-stored
returns-in_err-stored g c =
    ap (option_map row_of_named) c.from_residual-in_err-stored.ensures
    ∙ named_in c.args.self.now c.get.ensures.store c.args.id c.in_ok-place.place [] None (sym c.place_of.ensures ∙ c.in_ok-place.was)
    (ap (λ o. unwrap_or (option_and_then (λ (x : StoredObject _ _). directory_of x.body) o) []) (sym (ap option_copied c.in_err-stored.was) ∙ c.get.ensures.stored)) refl

pub returns-in_err-entry : goal.returns-in_err-entry
returns-in_err-entry g c =
    ap (option_map row_of_named) c.from_residual-in_err-entry.ensures
    ∙ named_in c.args.self.now c.get.ensures.store c.args.id c.in_ok-place.place (entries_in c.in_ok-stored.stored.now.body) None (sym c.place_of.ensures ∙ c.in_ok-place.was)
    (ap (λ o. unwrap_or (option_and_then (λ (x : StoredObject _ _). directory_of x.body) o) []) (sym (ap option_copied c.in_ok-stored.was) ∙ c.get.ensures.stored))
    (sym (ap option_copied c.in_err-entry.was) ∙ c.entry_of.ensures)

pub returns : goal.returns
returns g c =
    named_in c.args.self.now c.get.ensures.store c.args.id c.in_ok-place.place (entries_in c.in_ok-stored.stored.now.body) (Some c.in_ok-entry.entry.now) (sym c.place_of.ensures ∙ c.in_ok-place.was)
    (ap (λ o. unwrap_or (option_and_then (λ (x : StoredObject _ _). directory_of x.body) o) []) (sym (ap option_copied c.in_ok-stored.was) ∙ c.get.ensures.stored))
    (sym (ap option_copied c.in_ok-entry.was) ∙ c.entry_of.ensures)
