-- The text is looked up as a name is, and whatever opens are pending.
use Rattle.std.proofs.Common.{ℕ, List, ◌≤◌, length, subst, arith}
use Rattle.ob_model.specs.Names.{longest_name}
use Rattle.ob_model.specs.PendingOpens.{without_pending}
use Rattle.ob_lookup.specs.Look.{look_of}
use Rattle.ob_names.proofs.Parts.{is_name-length}
use Rattle.ob_space.proofs.Looked.{looks_again}
use Rattle.ob_space.proofs.Results.{IfOk-map, OnErr-map}
use Rattle.ob_space.proofs.looking.look_up_again.Goals as goal

pub returns-clause-end : goal.returns-clause-end
returns-clause-end g c =
    let s = c.args.space.now in
    let short : length c.args.text ≤ longest_name = subst (λ (text : List ℕ). length text ≤ longest_name) c.as_slice.ensures.bytes (is_name-length c.as_slice.result.now c.as_slice.ensures.name) in
    IfOk-map _ _ c.look_with.result (λ look told (ticket : ℕ).
    looks_again g.T.TypeSet.procedures (without_pending s ticket) c.args.process c.args.mode c.args.text (look_of look) c.args.left _ (omega arith) short (told (without_pending s ticket).pending)) c.look_with.ensures.end

pub returns-clause-wants : goal.returns-clause-wants
returns-clause-wants g c =
    let s = c.args.space.now in
    OnErr-map _ _ c.look_with.result (λ told (ticket : ℕ) end. told (without_pending s ticket).pending end) c.look_with.ensures.wants
