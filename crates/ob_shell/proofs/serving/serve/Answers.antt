use Rattle.ob_shell.proofs.Served.{serves_fault}
use Rattle.ob_shell.proofs.serving.serve.Goals as goal

pub returns-in-Err : goal.returns-in-Err
returns-in-Err g c =
    serves_fault _ _ c.in-Err.fault _ _ _ _ _ _ _ c.in-Err.ensures.kinds c.in-Err.ensures.memory
    (record { want = c.refuse.ensures.want; help = c.refuse.ensures.help; mistake = c.refuse.ensures.mistake })
