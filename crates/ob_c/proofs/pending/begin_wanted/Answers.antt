-- An open that is begun of bytes of the caller's is reported.
use Rattle.ob_host.specs.declared.kind.Kind.{Kind}
use Rattle.ob_model.specs.declared.command.Command.{Command}
use Rattle.ob_model.specs.declared.command.Command.TheVariants.{OpenObject}
use Rattle.ob_c_state.specs.Calls.{root_of}
use Rattle.ob_c_state.proofs.CallsLemmas.{begins_made}
use Rattle.ob_c.proofs.PendingLemmas.{begins_open}
use Rattle.ob_c.proofs.pending.begin_wanted.Goals as goal

pub returns : goal.returns
returns c =
    let command : Command Kind = OpenObject (root_of c.args.root) c.args.name.now c.args.attributes c.args.want in
    begins_open c.args.process command _ _ _ _ _ _ _ c.begin-begun.result _ _ _ _ _ _ c.in-Some.ensures.taken c.put.ensures c.deref_mut.ensures.value
    (begins_made c.args.process _ command tt c.open_object-made.ensures _ _ c.begin-begun.result c.begin-begun.ensures.begun) c.deref_mut-2.ensures.value c.report_begun-status.ensures
