-- The object was put in, and is taken back.
use Rattle.std.proofs.Common.{ap}
use Rattle.ob_objects.specs.Store.{entries_in}
use Rattle.ob_space.proofs.Placed.{room_back}
use Rattle.ob_space.proofs.room.try_place.Goals as goal

pub returns : goal.returns
returns g c =
    room_back c.args.store.now c.put_in.new.store c.take_back.new.store c.args.id c.args.stamp c.args.spot c.directory_of-directory.result _
    (ap entries_in c.directory.ensures) c.requires.newest c.requires.id c.in_ok-put_in.ensures.put c.directory_of-directory.ensures c.take_back.ensures.others
