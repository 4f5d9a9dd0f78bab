-- A command that takes no memory is answered at once.
use Rattle.std.proofs.Common.{◌≡◌, ℕ, List, [], ◌∷◌, false, refl, subst}
use Rattle.ob_model.specs.declared.command.Command.{Command}
use Rattle.ob_model.specs.declared.command.Command.TheVariants.{CreateDirectory, CreateShadowed, CreateLink, CreateObject, OpenDirectory, OpenLink, OpenObject, Close, QueryLink, QueryName, QueryDirectory, Duplicate, MakeTemporary, MakePermanent, SetDeviceMap, NewProcess, ExitProcess}
use Rattle.ob_model.specs.declared.reply.Answer.{Answer}
use Rattle.ob_model.specs.declared.reply.Answer.TheVariants.{Done, Ticket}
use Rattle.ob_model.specs.declared.reply.Event.{Event}
use Rattle.ob_model.specs.declared.reply.Event.TheVariants.{Start}
use Rattle.ob_model.specs.Procedures.{Procedures}
use Rattle.ob_model.specs.State.{State}
use Rattle.ob_model.specs.Step.{Step}
use Rattle.ob_space.specs.Early.{TakesNoMemory}
use Rattle.ob_runner.specs.Completes.{Made, Falters}
use Rattle.ob_runner.proofs.Replies.{IsReply, start_replies}
use Rattle.ob_runner.specs.Opens.{is_open}

no_open : {K : Type 0} (command : Command K) → TakesNoMemory command → is_open command ≡ false
no_open (CreateDirectory where_to attrs) takes = absurd takes
no_open (CreateShadowed where_to attrs shadow) takes = absurd takes
no_open (CreateLink where_to attrs target) takes = absurd takes
no_open (CreateObject where_to attrs kind args) takes = absurd takes
no_open (OpenDirectory root name attrs) takes = absurd takes
no_open (OpenLink root name attrs) takes = absurd takes
no_open (OpenObject root name attrs want) takes = absurd takes
no_open (Close handle) takes = refl
no_open (QueryLink handle) takes = absurd takes
no_open (QueryName handle) takes = absurd takes
no_open (QueryDirectory handle context room single restart) takes = absurd takes
no_open (Duplicate handle to inherit) takes = absurd takes
no_open (MakeTemporary handle) takes = refl
no_open (MakePermanent handle) takes = refl
no_open (SetDeviceMap handle) takes = absurd takes
no_open (NewProcess inherit) takes = absurd takes
no_open ExitProcess takes = refl

pub no_ticket : {K T F I : Type 0} (g : Procedures K T F I) (s t : State K T F I) (p n : ℕ) (command : Command K)
    → Step g s (Start p command) (Ticket n) t → TakesNoMemory command → ⊥
no_ticket g s t p n command step takes = go (start_replies g s t (Ticket n) p command (no_open command takes) step)
  where
    go : IsReply (Ticket n) → ⊥
    go (reply, is) = let apart : Ticket n ≡ Done reply = is in cc

-- so it doesn't falter
pub falters_never : {K T F I : Type 0} (g : Procedures K T F I) (s t : State K T F I) (p : ℕ) (command : Command K) (steps : List (Made K))
    → TakesNoMemory command → Falters g (Start p command) steps s t → ⊥
falters_never g s t p command [] takes (same, may) = may.0 takes
falters_never {K} g s t p command (step ∷ steps) takes (n, u, asked, answered, made, behind) =
    no_ticket g s u p n command (subst (λ (a : Answer). Step g s (Start p command) a u) answered (subst (λ (e : Event K). Step g s e step.1 u) asked made)) takes
