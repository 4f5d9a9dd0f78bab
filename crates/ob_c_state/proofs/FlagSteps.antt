-- The steps of an inherit flag in a caller's namespace, from how their commands end.
use Rattle.std.proofs.Common.{◌≡◌, ℕ, Bool, true, false, not, List, Option, None, Some, Ok, Err, ◌⊎◌, inl, inr, refl, ap, sym, subst}
use Rattle.std.specs.Prelude.{MatchBool}
use Rattle.std.specs.Bool.{beq}
use Rattle.std.specs.Option.{is_some, option_and_then}
use Rattle.ob_base.specs.Handle.{key_of}
use Rattle.ob_base.specs.declared.status.Status.{Status}
use Rattle.ob_base.specs.declared.status.Status.TheVariants.{NoMemory, Success}
use Rattle.ob_model.specs.Alike.{handle_in}
use Rattle.ob_model.specs.State.{held_of, is_live}
use Rattle.ob_model.specs.declared.command.Command.TheVariants.{Close, Duplicate}
use Rattle.ob_model.specs.declared.reply.Reply.{Reply}
use Rattle.ob_model.specs.declared.state.Held.{Held}
use Rattle.ob_c_state.specs.Calls.{Ends}
use Rattle.ob_c_state.specs.Inherit.{CloseIsRefused, DuplicateIsRefused, HasFlagSet, IsClosed, IsDuplicated, SetsFlag, SetsInherit}
use Rattle.ob_host.specs.declared.object.HostObject.{HostObject}
use Rattle.ob_model.specs.Choice.{revalued}
use Rattle.ob_types.specs.Parse.{ToRun}
use Rattle.ob_c_state.specs.Machine.{KeepsParses, Space, host}
use Rattle.ob_c_state.proofs.Flags.{Fails, of_held, of_none, third_of}
use Rattle.ob_c_state.proofs.Inherits.{none_to_duplicate}

module _ (s t : Space) (p handle : ℕ) where
  module _ (inherit : Bool) where
    pub duplicated : (reply : Reply) (value : ℕ) → Ends p (Duplicate handle p inherit) s (Ok reply) t → handle_in reply.given ≡ Some value → IsDuplicated host s p handle inherit value t
    duplicated reply value ends given = record { reply = reply; step = ends; given = given }

    pub not_duplicated : (reply : Reply) → Ends p (Duplicate handle p inherit) s (Ok reply) t → handle_in reply.given ≡ None
        → (reply.status ≡ NoMemory) ⊎ DuplicateIsRefused host s p handle inherit reply.status
    not_duplicated reply ends none = inr (record { reply = reply; left = t; step = ends; none = none; is = refl })

    pub duplicate_wants : (status : Status) → Ends p (Duplicate handle p inherit) s (Err status) t → (status ≡ NoMemory) ⊎ DuplicateIsRefused host s p handle inherit status
    duplicate_wants status ends = inl ends.0

    -- a duplicate of a handle that isn't there needs no memory
    module _ (none : option_and_then (held_of s p) (key_of handle) ≡ None) where
      pub never_wants : (status : Status) → Ends p (Duplicate handle p inherit) s (Err status) t → ⊥
      never_wants status (is, inl (same, may)) = may.1 (third_of (not (is_live s p)) (not (is_live s p)) _ (ap (λ (o : Option Held). not (is_some o)) none))
      never_wants status (is, inr (bytes, same)) = bytes

      pub is_refused : (reply : Reply) → Ends p (Duplicate handle p inherit) s (Ok reply) t → (t ≡ s) × DuplicateIsRefused host s p handle inherit reply.status
      is_refused reply ends = none_to_duplicate host s t p handle inherit reply none ends

  pub closed : (reply : Reply) → Ends p (Close handle) s (Ok reply) t → reply.status ≡ Success → IsClosed host s p handle t
  closed reply ends done = record { reply = reply; step = ends; done = done }

  pub not_closed : (reply : Reply) → Ends p (Close handle) s (Ok reply) t → (reply.status ≡ Success → ⊥) → (reply.status ≡ NoMemory) ⊎ CloseIsRefused host s p handle reply.status
  not_closed reply ends other = inr (record { reply = reply; left = t; step = ends; is = refl; other = other })

  pub close_wants : (status : Status) → Ends p (Close handle) s (Err status) t → (status ≡ NoMemory) ⊎ CloseIsRefused host s p handle status
  close_wants status ends = inl ends.0

module _ (p handle : ℕ) (inherit : Bool) (s : Space) where
  -- the four steps were made, or the namespace stayed
  pub flag_set : (t : Space) → HasFlagSet host s p handle inherit t → SetsFlag p handle inherit s Success t
  flag_set t has = inl (refl, has)

  pub flag_stays : (status : Status) → Fails host s p handle inherit status → SetsFlag p handle inherit s status s
  flag_stays status fails = inr (refl, fails)

  -- there is no such handle
  pub sets_none : (t : Space) (status : Status) → None ≡ option_and_then (held_of s p) (key_of handle) → t ≡ s → DuplicateIsRefused host s p handle inherit status
      → SetsInherit p handle inherit s status t
  sets_none t status none same refused = of_none (option_and_then (held_of s p) (key_of handle)) _ _ none (same, refused)

  module _ (h : Held) (found : Some h ≡ option_and_then (held_of s p) (key_of handle)) where
    -- its flag is as asked, or another
    pub sets_same : beq h.inherit inherit ≡ true → SetsInherit p handle inherit s Success s
    sets_same as_asked =
        of_held (option_and_then (held_of s p) (key_of handle)) _ _ h found
        (subst (λ b. MatchBool b ((Success ≡ Success) × (s ≡ s)) (SetsFlag p handle inherit s Success s)) (sym as_asked) (refl, refl))

    pub sets_other : (t : Space) (status : Status) → beq h.inherit inherit ≡ false → SetsFlag p handle inherit s status t → SetsInherit p handle inherit s status t
    sets_other t status other sets =
        of_held (option_and_then (held_of s p) (key_of handle)) _ _ h found
        (subst (λ b. MatchBool b ((status ≡ Success) × (t ≡ s)) (SetsFlag p handle inherit s status t)) (sym other) sets)

-- another value of a handle leaves what is pending
pub revalued_keeps : (s t : Space) (parses : List (ToRun HostObject)) (to : ℕ) → t ≡ revalued to s → KeepsParses s parses → KeepsParses t parses
revalued_keeps s t parses to is keeps = subst (λ (w : Space). KeepsParses w parses) (sym is) keeps
