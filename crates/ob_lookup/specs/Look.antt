-- A lookup of the code, in the words of the machine: what is done at a stop, and what it ends with.
--
-- Source: this profile.
use Rattle.std.specs.Prelude.{◌≡◌, ℕ, zero, suc, ◌-◌, Bool, ◌&&◌, not, nat_lt, if◌then◌else◌, List, length, Option, MatchOption}
use Rattle.ob_base.specs.declared.status.Status.TheVariants.{ObjectPathSyntaxBad, NameTooLong, ReparseLimit}
use Rattle.ob_model.specs.Names.{longest_name, substituted}
use Rattle.ob_model.specs.State.{State}
use Rattle.ob_model.specs.Paths.{origin_of}
use Rattle.ob_model.specs.Procedures.{Procedures}
use Rattle.ob_model.specs.Looks as machine
use Rattle.ob_model.specs.declared.terms.Mode.{Mode}
use Rattle.ob_devmap.specs.declared.view.View.{View}
use Rattle.ob_devmap.specs.View.{IsViewOf}
use Rattle.ob_objects.specs.Store.{Entries, Shows}
use Rattle.ob_lookup.specs.declared.terms.Look.{Look}
use Rattle.ob_lookup.specs.declared.terms.Look.TheVariants as look
use Rattle.ob_lookup.specs.declared.next.Next.{Next}
use Rattle.ob_lookup.specs.declared.next.Next.TheVariants as next
use Rattle.ob_lookup.specs.declared.start.Beginning.{Beginning}
use Rattle.ob_lookup.specs.declared.start.Beginning.TheVariants as start
use Rattle.ob_lookup.specs.declared.start.Start.{Start}
use Rattle.ob_lookup.specs.declared.walk.Stop.{Stop}
use Rattle.ob_lookup.specs.declared.walk.Stop.TheVariants as stop
use Rattle.ob_lookup.specs.Walk.{place_of, text_of}

-- what a lookup ended with
abbrev pub look_of : Look → machine.Look
look_of (look.At id) = machine.At id
look_of (look.Vacant directory component) = machine.Vacant directory component
look_of (look.Parse object rest left) = machine.Parse object rest left
look_of (look.Refused status) = machine.Refused status

-- what a lookup ends with at an object of the set, which is asked to parse the rest or not, with n reparses
-- left
abbrev pub other_at : Bool → ℕ → List ℕ → ℕ → machine.Look
other_at asked id rest n = if asked then machine.Parse id rest n else machine.named_or_mismatch id rest

-- what is to be done at a stop, with n reparses left
abbrev pub next_at : Mode → ℕ → Stop → machine.Next
next_at mode n (stop.Missed directory component last) = machine.at_miss mode directory component last
next_at mode n (stop.Directory id) = machine.Over (machine.At id)
next_at mode n (stop.Link id target rest) = machine.at_link mode id target rest
next_at mode n (stop.Other id rest parses) = machine.Over (other_at (parses && not mode.create) id rest n)

-- what comes of it with n reparses left: the lookup is over, or a text is looked up again
pub data Turn : Type 0 where
  Ended : machine.Look → Turn
  Restarted : List ℕ → Turn

abbrev pub turn_at : ℕ → machine.Next → Turn
turn_at n (machine.Over end) = Ended end
turn_at zero (machine.Follow target rest) = Ended (machine.Refused ReparseLimit)
turn_at (suc n) (machine.Follow target rest) =
    if nat_lt longest_name (length (substituted target rest)) then Ended (machine.Refused NameTooLong)
    else Restarted (substituted target rest)

abbrev pub turn_of : Next → Turn
turn_of (next.Over end) = Ended (look_of end)
turn_of (next.Again text) = Restarted text

-- The ends of a lookup with no reparse left for which a lookup with any number left may need memory: the
-- refusal in place of a text that a link makes.
abbrev pub MayWantMemory : machine.Look → Type 0
MayWantMemory (machine.At id) = ⊥
MayWantMemory (machine.Vacant directory component) = ⊥
MayWantMemory (machine.Parse id rest n) = ⊥
MayWantMemory (machine.Refused status) = status ≡ ReparseLimit

-- the same of what comes of a stop, with no reparse left
abbrev pub TurnMayWantMemory : Turn → Type 0
TurnMayWantMemory (Ended end) = MayWantMemory end
TurnMayWantMemory (Restarted text) = ⊥

-- a fact of where the walk begins, where there is one
abbrev pub IfWalk : Beginning → (Start → Type 0) → Type 0
IfWalk (start.Walk from) fact = fact from
IfWalk (start.Over look) fact = Unit {0}

-- a fact, where a text is to be looked up again
abbrev pub IfAgain : Next → Type 0 → Type 0
IfAgain (next.Over end) fact = Unit {0}
IfAgain (next.Again text) fact = fact

module _ {K T F I : Type 0} (g : Procedures K T F I) where
  -- a text that a reparse made is looked up with this end, with n reparses left
  abbrev pub LooksAgain : State K T F I → ℕ → Mode → ℕ → List ℕ → machine.Look → Type 0
  LooksAgain s p mode n text end =
      MatchOption (origin_of s p mode.create text) (end ≡ machine.Refused ObjectPathSyntaxBad)
      (λ at. machine.Looks g s p mode n at.0 at.1 end)

  -- from a turn the lookup ends so, with n reparses left before it
  abbrev pub Goes : State K T F I → ℕ → Mode → ℕ → Turn → machine.Look → Type 0
  Goes s p mode n (Ended found) end = end ≡ found
  Goes s p mode n (Restarted text) end = LooksAgain s p mode (n - 1) text end

  -- with no reparse left, a lookup from here has such an end
  abbrev pub WalkMayWantMemory : Entries F I → View → Mode → Start → Type 0
  WalkMayWantMemory store view mode start =
      (s : State K T F I) (p : ℕ) → Shows s store → IsViewOf s p view
      → (end : machine.Look) × MayWantMemory end × machine.Looks g s p mode 0 (place_of p start) (text_of start) end

  -- what a name ends with then, in any state that shows the store, for a process of this view, is such
  -- an end
  abbrev pub NameMayWantMemory : Entries F I → View → Mode → Option ℕ → List ℕ → Type 0
  NameMayWantMemory store view mode root name =
      (s : State K T F I) (p : ℕ) (end : machine.Look) → Shows s store → IsViewOf s p view
      → machine.LooksUp g s p mode 0 root name end → MayWantMemory end

  -- a name is looked up with this end in every state that shows the store, for every process of this
  -- view
  abbrev pub LooksUpIn : Entries F I → View → Mode → ℕ → Option ℕ → List ℕ → machine.Look → Type 0
  LooksUpIn store view mode n root name end =
      (s : State K T F I) (p : ℕ) → Shows s store → IsViewOf s p view → machine.LooksUp g s p mode n root name end

  -- how a lookup begins: it goes on as the walk from there does, with any number of reparses left, or it is over
  abbrev pub Begins : Entries F I → View → Mode → ℕ → Option ℕ → List ℕ → Beginning → Type 0
  Begins store view mode n root name (start.Walk from) =
      (s : State K T F I) (p m : ℕ) (end : machine.Look) → Shows s store → IsViewOf s p view
      → machine.Looks g s p mode m (place_of p from) (text_of from) end → machine.LooksUp g s p mode m root name end
  Begins store view mode n root name (start.Over look) = LooksUpIn store view mode n root name (look_of look)
