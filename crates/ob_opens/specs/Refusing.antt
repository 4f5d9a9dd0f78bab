-- The refusals of an open when its parse is brought, before anything grows: so they take no memory.
--
-- Source: this profile.
use Rattle.std.specs.Prelude.{◌≡◌, ◌⊎◌, ℕ, Bool, true, false, ◌||◌, not, Option, None, Some, MatchOption}
use Rattle.ob_model.specs.declared.state.Body.TheVariants.{Other}
use Rattle.ob_model.specs.declared.state.PendingOpen.{PendingOpen}
use Rattle.ob_model.specs.Grants.{is_table_full}
use Rattle.ob_model.specs.Opens.{open_mode, options_by}
use Rattle.ob_model.specs.PendingOpens.{pending_of, without_pending}
use Rattle.ob_model.specs.Procedures.{Procedures, ParseOutcome, EndsItself, EndsMade, EndsReparse, EndsRefused}
use Rattle.ob_model.specs.State.{State, is_live}
use Rattle.ob_model.specs.Types.{is_wanted}
use Rattle.ob_space.specs.Found.{is_refused_at, is_open_refused_at, IsRefusedWhereFound}

module _ {K T F I : Type 0} (g : Procedures K T F I) where
  -- the instance that the parse of an open made is of another type, or a handle to it is refused: it isn't exclusive,
  -- and no other process has a handle to it
  abbrev pub is_instance_refused : State K T F I → PendingOpen K → F → I → Bool
  is_instance_refused s x face inner = not (is_wanted g x.wanted (Other face inner)) || ((options_by x.attrs).exclusive || is_table_full s x.process)

  -- an open is refused where its parse ended so: at the object itself, at the instance, and at what its text leads to,
  -- where a reparse is left for it
  abbrev pub IsEndRefused : State K T F I → PendingOpen K → Option (ParseOutcome F I) → Type 0
  IsEndRefused s x None = Unit {0}
  IsEndRefused s x (Some EndsItself) = is_refused_at g s x.process (options_by x.attrs) x.wanted x.object ≡ true
  IsEndRefused s x (Some (EndsMade face inner)) = is_instance_refused s x face inner ≡ true
  IsEndRefused s x (Some (EndsReparse text)) =
      (x.left ≡ 0) ⊎ IsRefusedWhereFound g (without_pending s x.ticket) x.process (open_mode x.wanted x.attrs) None text (is_open_refused_at g (without_pending s x.ticket) x.process x.attrs x.wanted)
  IsEndRefused s x (Some (EndsRefused k)) = Unit {0}

  -- so is the open of a ticket, also where the process that asked is gone
  abbrev pub IsBroughtRefused : State K T F I → ℕ → Option (ParseOutcome F I) → Type 0
  IsBroughtRefused s ticket outcome = MatchOption (pending_of s ticket) ⊥ (λ x. (is_live s x.process ≡ false) ⊎ IsEndRefused s x outcome)
