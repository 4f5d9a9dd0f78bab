-- The last names are put into a root of three and of four others, and then all are there.
use Rattle.ob_space.proofs.FirstStore.{all_named, fourth_free, fourth_newest, fourth_unnamed, root_there, last_free, last_newest, last_unnamed}
use Rattle.ob_space.proofs.Results.{IfOk-map}
use Rattle.ob_space.proofs.first_store.put_opening.Goals as goal

pub name_in_root-requires-4-clause-free : goal.name_in_root-requires-4-clause-free
name_in_root-requires-4-clause-free g c κs within =
    fourth_free c.put_objects.new.store c.name_in_root.new.store c.name_in_root-2.new.store c.name_in_root-3.new.store c.in_ok-put_objects.ensures c.in_ok-name_in_root.ensures.put
    c.in_ok-name_in_root-2.ensures.put c.in_ok-name_in_root-3.ensures.put

pub name_in_root-requires-4-clause-newest : goal.name_in_root-requires-4-clause-newest
name_in_root-requires-4-clause-newest g c κs within =
    fourth_newest c.put_objects.new.store c.name_in_root.new.store c.name_in_root-2.new.store c.name_in_root-3.new.store c.in_ok-put_objects.ensures c.in_ok-name_in_root.ensures.put
    c.in_ok-name_in_root-2.ensures.put c.in_ok-name_in_root-3.ensures.put

pub name_in_root-requires-4-clause-unnamed : goal.name_in_root-requires-4-clause-unnamed
name_in_root-requires-4-clause-unnamed g c κs within =
    fourth_unnamed c.put_objects.new.store c.name_in_root.new.store c.name_in_root-2.new.store c.name_in_root-3.new.store c.in_ok-put_objects.ensures c.in_ok-name_in_root.ensures.put
    c.in_ok-name_in_root-2.ensures.put c.in_ok-name_in_root-3.ensures.put

pub name_in_root-requires-5-clause-there : goal.name_in_root-requires-5-clause-there
name_in_root-requires-5-clause-there g c κs within =
    root_there c.put_objects.new.store c.name_in_root.new.store c.name_in_root-2.new.store c.name_in_root-3.new.store c.name_in_root-4.new.store
    c.in_ok-put_objects.ensures c.in_ok-name_in_root.ensures.put c.in_ok-name_in_root-2.ensures.put c.in_ok-name_in_root-3.ensures.put c.in_ok-name_in_root-4.ensures.put

pub name_in_root-requires-5-clause-free : goal.name_in_root-requires-5-clause-free
name_in_root-requires-5-clause-free g c κs within =
    last_free c.put_objects.new.store c.name_in_root.new.store c.name_in_root-2.new.store c.name_in_root-3.new.store c.name_in_root-4.new.store
    c.in_ok-put_objects.ensures c.in_ok-name_in_root.ensures.put c.in_ok-name_in_root-2.ensures.put c.in_ok-name_in_root-3.ensures.put c.in_ok-name_in_root-4.ensures.put

pub name_in_root-requires-5-clause-newest : goal.name_in_root-requires-5-clause-newest
name_in_root-requires-5-clause-newest g c κs within =
    last_newest c.put_objects.new.store c.name_in_root.new.store c.name_in_root-2.new.store c.name_in_root-3.new.store c.name_in_root-4.new.store
    c.in_ok-put_objects.ensures c.in_ok-name_in_root.ensures.put c.in_ok-name_in_root-2.ensures.put c.in_ok-name_in_root-3.ensures.put c.in_ok-name_in_root-4.ensures.put

pub name_in_root-requires-5-clause-unnamed : goal.name_in_root-requires-5-clause-unnamed
name_in_root-requires-5-clause-unnamed g c κs within =
    last_unnamed c.put_objects.new.store c.name_in_root.new.store c.name_in_root-2.new.store c.name_in_root-3.new.store c.name_in_root-4.new.store
    c.in_ok-put_objects.ensures c.in_ok-name_in_root.ensures.put c.in_ok-name_in_root-2.ensures.put c.in_ok-name_in_root-3.ensures.put c.in_ok-name_in_root-4.ensures.put

pub returns : goal.returns
returns g c =
    IfOk-map _ _ c.name_in_root-5.result
    (λ told put. all_named c.put_objects.new.store c.name_in_root.new.store c.name_in_root-2.new.store c.name_in_root-3.new.store c.name_in_root-4.new.store
    c.in_ok-put_objects.ensures c.in_ok-name_in_root.ensures.put c.in_ok-name_in_root-2.ensures.put c.in_ok-name_in_root-3.ensures.put c.in_ok-name_in_root-4.ensures.put
    c.name_in_root-5.new.store put)
    c.name_in_root-5.ensures.put
