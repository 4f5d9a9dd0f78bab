-- The name's directory is an old one; and what came is taken back.
use Rattle.ob_space.proofs.Placed.{free_behind, unnamed_behind, object_back}
use Rattle.ob_space.proofs.placing.put_in.Goals as goal

pub insert_name-requires-clause-there : goal.insert_name-requires-clause-there
insert_name-requires-clause-there g c κs within =
    (free_behind c.args.store.now c.insert.new.self c.args.id c.args.object c.args.stamp c.args.spot c.in-Some.spot c.in-Some.is c.requires.id c.in_ok-insert.ensures.put c.requires.free).0

pub insert_name-requires-clause-free : goal.insert_name-requires-clause-free
insert_name-requires-clause-free g c κs within =
    (free_behind c.args.store.now c.insert.new.self c.args.id c.args.object c.args.stamp c.args.spot c.in-Some.spot c.in-Some.is c.requires.id c.in_ok-insert.ensures.put c.requires.free).1

pub insert_name-requires-clause-newest : goal.insert_name-requires-clause-newest
insert_name-requires-clause-newest g c κs within =
    (free_behind c.args.store.now c.insert.new.self c.args.id c.args.object c.args.stamp c.args.spot c.in-Some.spot c.in-Some.is c.requires.id c.in_ok-insert.ensures.put c.requires.free).2

pub insert_name-requires-clause-unnamed : goal.insert_name-requires-clause-unnamed
insert_name-requires-clause-unnamed g c κs within =
    unnamed_behind c.args.store.now c.insert.new.self c.args.id c.args.object c.in_ok-insert.ensures.put c.requires.empty c.requires.unnamed

pub returns-in-Err-clause-err : goal.returns-in-Err-clause-err
returns-in-Err-clause-err g c =
    object_back c.args.store.now c.insert.new.self c.insert_name.new.self c.remove.new.self c.args.id c.args.object
    c.requires.id c.in_ok-insert.ensures.put c.in-Err.ensures.unchanged c.remove.ensures.others
