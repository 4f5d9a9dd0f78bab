-- A variable is found in its slot, or there is no room for it.
use Rattle.ob_requests.proofs.Tables.{slot_found}
use Rattle.ob_requests.proofs.table.searched_slot.Goals as goal

pub returns : goal.returns
returns g c = slot_found c.args.table.now c.args.variable.now c.get_index_of.result c.get_index_of.ensures.index c.get_index_of.ensures.found
