use Rattle.std.proofs.Common.{inl}
use Rattle.ob_c_state.proofs.CallsLemmas.{does_made}
use Rattle.ob_c.proofs.naming.ntns_create_object_raw.Goals as goal

pub returns : goal.returns
returns c =
    let does = does_made _ _ _ tt c.create_object-made.ensures _ _ c.call.result _ c.call.ensures c.report_handle.ensures in
    inl (c.in-Some.kind, c.in-Some.ensures.found, does)
