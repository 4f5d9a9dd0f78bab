-- What takes no memory is never refused for lack of it.
use Rattle.std.proofs.Common.{ℕ, List, sym, subst, inl, inr}
use Rattle.ob_lines.specs.declared.request.Request.{Request}
use Rattle.ob_lines.specs.declared.request.Request.TheVariants.{CreateDirectory, CreateShadowed, CreateLink, CreateObject, OpenDirectory, OpenLink, OpenObject, Close, QueryLink, QueryName, QueryDirectory, Duplicate, MakeTemporary, MakePermanent, SetDeviceMap, NewProcess, ExitProcess}
use Rattle.ob_model.specs.declared.command.Command.{Command}
use Rattle.ob_requests.specs.Commands.{IsCommand}
use Rattle.ob_requests.specs.Room.{Grows}
use Rattle.ob_requests.specs.Variables.{Variables}
use Rattle.ob_runner.proofs.Memory.{falters_never}
use Rattle.ob_space.specs.Early.{TakesNoMemory}
use Rattle.ob_standard.specs.Standard.{StandardKind, standard}
use Rattle.ob_standard_core.specs.Machine.{Space}
use Rattle.ob_effects.specs.Effects.{IsUnanswered, TakesNone}

grows_not : (request : Request (List ℕ)) → TakesNone request → Grows request → ⊥
grows_not (CreateDirectory place attrs variable) takes grows = takes
grows_not (CreateShadowed shadow place attrs variable) takes grows = takes
grows_not (CreateLink place attrs target variable) takes grows = takes
grows_not (CreateObject kind place attrs args variable) takes grows = takes
grows_not (OpenDirectory name attrs variable) takes grows = takes
grows_not (OpenLink name attrs variable) takes grows = takes
grows_not (OpenObject want name attrs variable) takes grows = takes
grows_not (Close handle) takes grows = grows
grows_not (QueryLink handle) takes grows = takes
grows_not (QueryName handle) takes grows = takes
grows_not (QueryDirectory handle room mode) takes grows = takes
grows_not (Duplicate handle to inherit variable) takes grows = takes
grows_not (MakeTemporary handle) takes grows = grows
grows_not (MakePermanent handle) takes grows = grows
grows_not (SetDeviceMap handle) takes grows = takes
grows_not (NewProcess inherit child) takes grows = takes
grows_not ExitProcess takes grows = grows

-- nor does its command
its_command : (request : Request (List ℕ)) (variables : Variables) (p : ℕ) (c : Command StandardKind) → TakesNone request → IsCommand request variables p c → TakesNoMemory c
its_command (CreateDirectory place attrs variable) variables p c takes is = absurd takes
its_command (CreateShadowed shadow place attrs variable) variables p c takes is = absurd takes
its_command (CreateLink place attrs target variable) variables p c takes is = absurd takes
its_command (CreateObject kind place attrs args variable) variables p c takes is = absurd takes
its_command (OpenDirectory name attrs variable) variables p c takes is = absurd takes
its_command (OpenLink name attrs variable) variables p c takes is = absurd takes
its_command (OpenObject want name attrs variable) variables p c takes is = absurd takes
its_command (Close handle) variables p c takes is = subst (λ (x : Command StandardKind). TakesNoMemory x) (sym is) tt
its_command (QueryLink handle) variables p c takes is = absurd takes
its_command (QueryName handle) variables p c takes is = absurd takes
its_command (QueryDirectory handle room mode) variables p c takes is = absurd takes
its_command (Duplicate handle to inherit variable) variables p c takes is = absurd takes
its_command (MakeTemporary handle) variables p c takes is = subst (λ (x : Command StandardKind). TakesNoMemory x) (sym is) tt
its_command (MakePermanent handle) variables p c takes is = subst (λ (x : Command StandardKind). TakesNoMemory x) (sym is) tt
its_command (SetDeviceMap handle) variables p c takes is = absurd takes
its_command (NewProcess inherit child) variables p c takes is = absurd takes
its_command ExitProcess variables p c takes is = subst (λ (x : Command StandardKind). TakesNoMemory x) (sym is) tt

pub never_unanswered : (request : Request (List ℕ)) (p : ℕ) (variables : Variables) (s t : Space) → TakesNone request → IsUnanswered request p variables s t → ⊥
never_unanswered request p variables s t takes (steps, inl (none, same, grows)) = grows_not request takes grows
never_unanswered request p variables s t takes (steps, inr (c, is, falters)) = falters_never standard s t p c steps (its_command request variables p c takes is) falters
