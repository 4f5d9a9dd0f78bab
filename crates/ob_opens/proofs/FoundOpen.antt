-- What is found among the pending opens of a namespace is found in its state.
use Rattle.std.proofs.Common.{◌≡◌, ◌∙◌, ℕ, Option, ap, sym}
use Rattle.ob_model.specs.declared.state.PendingOpen.{PendingOpen}
use Rattle.ob_model.specs.PendingOpens.{pending_of}
use Rattle.ob_model.specs.State.{State}

pub found_open : {K T F I : Type 0} {s t : State K T F I} → t ≡ s → (ticket : ℕ) (o : Option (PendingOpen K)) → o ≡ pending_of t ticket → pending_of s ticket ≡ o
found_open is ticket o found = ap (λ (u : State _ _ _ _). pending_of u ticket) (sym is) ∙ sym found
