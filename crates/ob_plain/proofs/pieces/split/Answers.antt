use Rattle.std.proofs.Common.{◌≡◌, map, rules}
use Rattle.ob_plain.specs.Arguments as arguments
use Rattle.ob_plain.proofs.Profile.{each_is_profile}
use Rattle.ob_plain.proofs.pieces.split.Goals as goal

pub returns-clause-profile : goal.returns-clause-profile
returns-clause-profile c = λ e.
    let are : map (λ piece. piece.now) c.loop-left.pieces.items ≡ arguments.pieces c.args.args.now = search rules in
    each_is_profile c.args.args.now c.loop-left.pieces.items are e
