-- Steps that are made again, as a history has them.
--
-- Source: this profile.
use Rattle.std.specs.Prelude.{◌≡◌, true, List, map}
use Rattle.std.specs.Option.{is_some}
use Rattle.ob_model.specs.declared.reply.Event.{Event}
use Rattle.ob_model.specs.declared.reply.Event.TheVariants.{Start, Resume, Abandon}
use Rattle.ob_model.specs.PendingOpens.{pending_of}
use Rattle.ob_model.specs.State.{State}
use Rattle.ob_types.specs.Parse.{ToRun}
use Rattle.ob_runner.specs.Completes.{HasRun}
use Rattle.ob_runner.specs.Begun.{tickets_of}

module _ {K T F I : Type 0} where
  -- the parses of all opens that are pending are kept, and no others
  abbrev pub AreAllKept : State K T F I → List (ToRun F) → Type 0
  AreAllKept s parses = map (λ x. x.ticket) s.pending ≡ tickets_of parses

  -- an event that may be one from this state: an open that it ends is pending, and its parse was run where it is resumed
  abbrev pub MayBe : State K T F I → Event K → Type 0
  MayBe s (Start p command) = Unit {0}
  MayBe s (Resume ticket parse) = HasRun parse × (is_some (pending_of s ticket) ≡ true)
  MayBe s (Abandon ticket parse) = is_some (pending_of s ticket) ≡ true
