-- The object comes, and then its name.
use Rattle.std.proofs.Common.{◌+◌, subst, sym}
use Rattle.ob_lookup_tests.specs.Space.{IsSpace}
use Rattle.ob_lookup_tests.proofs.Spaces.{next_is_free, space_unchanged, space_with_object, directory_there, entries_free, entries_newest, rows_unnamed, space_with_name}
use Rattle.ob_lookup_tests.proofs.space.put.Goals as goal

pub insert-requires-clause-free : goal.insert-requires-clause-free
insert-requires-clause-free g c = λ κs _. next_is_free c.args.store.now c.args.id c.requires.space

pub insert_name-requires-clause-there : goal.insert_name-requires-clause-there
insert_name-requires-clause-there g c = λ κs _. directory_there c.insert.new.self c.args.store.now c.args.id c.args.directory c.args.object c.in_ok-insert.ensures.put (next_is_free c.args.store.now c.args.id c.requires.space) c.requires.there

pub insert_name-requires-clause-free : goal.insert_name-requires-clause-free
insert_name-requires-clause-free g c = λ κs _.
    entries_free c.insert.new.self c.args.store.now c.args.id c.args.directory c.args.object c.args.name c.in_ok-insert.ensures.put (next_is_free c.args.store.now c.args.id c.requires.space) c.requires.there c.requires.free

pub insert_name-requires-clause-newest : goal.insert_name-requires-clause-newest
insert_name-requires-clause-newest g c = λ κs _.
    entries_newest c.insert.new.self c.args.store.now c.args.id c.args.directory c.args.object c.in_ok-insert.ensures.put c.requires.empty c.len.ensures.store c.requires.space.stamps

pub insert_name-requires-clause-unnamed : goal.insert_name-requires-clause-unnamed
insert_name-requires-clause-unnamed g c = λ κs _. rows_unnamed c.insert.new.self c.args.store.now c.args.id c.args.object c.in_ok-insert.ensures.put c.requires.space c.requires.empty

pub returns-in_err-insert : goal.returns-in_err-insert
returns-in_err-insert g c = space_unchanged c.insert.new.self c.args.store.now c.args.id c.in_err-insert.ensures.unchanged c.requires.space

pub returns-in_err-insert_name : goal.returns-in_err-insert_name
returns-in_err-insert_name g c =
    subst (λ s. IsSpace s (c.args.id + 1)) (sym c.in_err-insert_name.ensures.unchanged)
    (space_with_object c.insert.new.self c.args.store.now c.args.id c.args.object c.in_ok-insert.ensures.put c.requires.space c.requires.empty)

pub returns : goal.returns
returns g c =
    space_with_name c.insert_name.new.self c.insert.new.self c.args.store.now c.args.id c.args.directory c.args.object c.args.name
    c.in_ok-insert.ensures.put c.in_ok-insert_name.ensures.last c.requires.space c.requires.empty c.len.ensures.store c.requires.there
