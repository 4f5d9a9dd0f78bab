-- A pending open whose parse ended with a text to look up again.
--
-- Sources: Windows Internals, Object Manager (parse methods: a reparse). That it is judged in the state as it is
-- when the parse has ended is this profile.
use Rattle.std.specs.Prelude.{◌≡◌, ℕ, MatchOption}
use Rattle.ob_model.specs.declared.reply.Answer.{Answer}
use Rattle.ob_model.specs.Looks.{Look}
use Rattle.ob_model.specs.Opens.{Opens}
use Rattle.ob_model.specs.PendingOpens.{pending_of, without_pending}
use Rattle.ob_model.specs.Procedures.{Procedures}
use Rattle.ob_model.specs.Settle.{settle}
use Rattle.ob_model.specs.State.{State}

-- the open of a ticket is pending no longer, and what a lookup of the text that its parse ended with leads to is
-- done; then what doesn't stay goes
abbrev pub OpensAgain : {K T F I : Type 0} → Procedures K T F I → State K T F I → ℕ → Look → Answer → State K T F I → Type 0
OpensAgain {K} {T} {F} {I} g s ticket look answer t =
    MatchOption (pending_of s ticket) ⊥
    (λ x. let u = without_pending s ticket in (v : State K T F I) × Opens g u x.process x.attrs x.wanted look answer v × (t ≡ settle g v))
