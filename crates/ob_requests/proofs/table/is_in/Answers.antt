-- The variable's own entry is the one that stands there.
use Rattle.std.proofs.Common.{◌≡◌, sym, rules}
use Rattle.ob_requests.proofs.Tables.{own_bytes}
use Rattle.ob_requests.proofs.table.is_in.Goals as goal

pub returns-in-Some : goal.returns-in-Some
returns-in-Some g c =
    λ is. let same : c.in-Some.own.now.items ≡ c.args.variable.now = search rules in
    ((c.in-Some.own.now, c.in-Some.field-0-1.now), sym c.in-Some.ensures.entry, own_bytes c.args.variable.now c.in-Some.own.now.items (sym same))
