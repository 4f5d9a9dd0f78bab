-- An entry that is added has the number that the variable had.
use Rattle.std.proofs.Common.{◌≡◌, rules}
use Rattle.ob_requests.proofs.Tables.{added_room, added_values, found_in}
use Rattle.ob_requests.proofs.table.room_for.Goals as goal

pub returns-in-Some-clause-room : goal.returns-in-Some-clause-room
returns-in-Some-clause-room g c =
    let at = c.in-Some.ensures in
    found_in c.args.table.now.entries c.in-Some.slot c.args.variable.now at.0 at.1 at.2

pub returns-clause-same : goal.returns-clause-same
returns-clause-same g c =
    let same : c.in_ok-own.own.items ≡ c.args.variable.now = search rules in
    added_values c.args.none c.args.table.now c.insert.new.self c.in_ok-own.own c.args.variable.now c.in_ok-insert.ensures.entries same c.in_default.ensures

pub returns-clause-stays : goal.returns-clause-stays
returns-clause-stays g c = added_room c.args.table.now c.insert.new.self c.in_ok-own.own c.args.none c.in_ok-insert.ensures.entries
