use Rattle.ob_c_state.proofs.CallsLemmas.{does_made}
use Rattle.ob_c.proofs.naming.ntns_create_shadowed_raw.Goals as goal

pub returns : goal.returns
returns c = does_made _ _ _ tt c.create_shadowed-made.ensures _ _ c.call.result _ c.call.ensures c.report_handle.ensures
