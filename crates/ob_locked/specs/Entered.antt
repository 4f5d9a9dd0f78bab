-- The entry of a step, and what a step leaves of the opens that wait.
--
-- Source: this profile.
use Rattle.std.specs.Prelude.{◌≡◌, ℕ, ◌<◌, ◌≤◌, ◌==◌, not, List, [], ◌∷◌, ◌++◌, All, MatchOption, filter}
use Rattle.std.specs.List.{find}
use Rattle.ob_model.specs.declared.reply.Answer.{Answer}
use Rattle.ob_model.specs.declared.reply.Answer.TheVariants.{Done, Ticket}
use Rattle.ob_model.specs.declared.reply.Event.{Event}
use Rattle.ob_model.specs.declared.state.PendingOpen.{PendingOpen}
use Rattle.ob_model.specs.Looks.{most_reparses}
use Rattle.ob_model.specs.Run.{Entry}

-- the entry of a step that a seat asked for
abbrev pub entered : {K : Type 0} → (number seat : ℕ) → Event K → Answer → Entry K
entered number seat event answer = record { number = number; seat = seat; event = event; answer = answer }

-- so few reparses are left to an open that has just begun to wait
abbrev pub HasFew : ℕ → Type 0
HasFew n = n ≤ most_reparses

-- the opens that wait after an answer: as they were, or with one more, under the ticket, which is above those of all others,
-- and which has few reparses left
abbrev pub PendingAfter : {K : Type 0} → (ℕ → Type 0) → List (PendingOpen K) → Answer → List (PendingOpen K) → Type 0
PendingAfter Few before (Done reply) after = after ≡ before
PendingAfter {K} Few before (Ticket m) after = (y : PendingOpen K) × (after ≡ before ++ y ∷ []) × (y.ticket ≡ m) × Few y.left × All (λ z. z.ticket < m) before

-- the same after the end of the open of a ticket: it is pending no longer; or it is pending again with fewer reparses left
abbrev pub EndedAfter : {K : Type 0} → List (PendingOpen K) → ℕ → Answer → List (PendingOpen K) → Type 0
EndedAfter before ticket answer after =
    MatchOption (find (λ x. x.ticket == ticket) before) ⊥ (λ x. PendingAfter (λ n. n < x.left) (filter (λ y. not (y.ticket == ticket)) before) answer after)
