-- Changes of a set's own value that none of its procedures notices: its owner may make one between two steps.
--
-- Source: this profile.
use Rattle.std.specs.Prelude.{◌≡◌, ℕ, List}
use Rattle.ob_model.specs.declared.reply.Answer.{Answer}
use Rattle.ob_model.specs.declared.reply.Event.{Event}
use Rattle.ob_model.specs.declared.terms.Reason.{Reason}
use Rattle.ob_model.specs.State.{State}
use Rattle.ob_model.specs.Procedures.{Procedures}
use Rattle.ob_model.specs.Step.{Step}
use Rattle.ob_model.specs.Run.{Entry, Run}

module _ {K T F I : Type 0} where
  -- after the change opens are refused as before it, and what an open, a close and a delete leave is what they leave
  -- before it, with the change made of the set's value
  pub record IsUnnoticed (g : Procedures K T F I) (change : T → T) : Type 0 where
    pub refusals : (set : T) (inner : I) (reason : Reason) → g.refuses_to_open (change set) inner reason ≡ g.refuses_to_open set inner reason
    pub opens : (set : T) (inner : I) (reason : Reason) → g.opened (change set) inner reason ≡ (change ((g.opened set inner reason).0), (g.opened set inner reason).1)
    pub closes : (set : T) (inner : I) (process_left system_left : ℕ)
        → g.closed (change set) inner process_left system_left ≡ (change ((g.closed set inner process_left system_left).0), (g.closed set inner process_left system_left).1)
    pub deletes : (set : T) (inner : I) → g.deleted (change set) inner ≡ change (g.deleted set inner)

  -- a state with the change made of its set's value
  abbrev pub with_change : (T → T) → State K T F I → State K T F I
  with_change change s = record s { set = change s.set }

module _ (K T F I : Type 0) where
  abbrev pub ChangesLeaveSteps : Type 0
  ChangesLeaveSteps =
      (g : Procedures K T F I) (change : T → T) (s t : State K T F I) (e : Event K) (a : Answer)
      → IsUnnoticed g change → Step g s e a t → Step g (with_change change s) e a (with_change change t)

  abbrev pub ChangesLeaveRuns : Type 0
  ChangesLeaveRuns =
      (g : Procedures K T F I) (change : T → T) (first : T) (entries : List (Entry K)) (s : State K T F I)
      → IsUnnoticed g change → Run g first entries s → Run g (change first) entries (with_change change s)
