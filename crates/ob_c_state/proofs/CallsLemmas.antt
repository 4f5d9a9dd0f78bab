-- Calls from what their parts do.
use Rattle.std.proofs.Common.{◌≡◌, ◌≢◌, ℕ, zero, suc, arith, Option, None, Some, Result, Ok, Err, refl, sym, subst, inl, inr}
use Rattle.std.specs.Prelude.{IfOk}
use Rattle.ob_base.specs.declared.status.Status.{Status}
use Rattle.ob_base.specs.declared.status.Status.TheVariants.{InvalidParameter}
use Rattle.ob_model.specs.declared.command.Command.{Command}
use Rattle.ob_model.specs.declared.reply.Reply.{Reply}
use Rattle.ob_host.specs.declared.kind.Kind.{Kind}
use Rattle.ob_c_state.specs.Machine.{Space}
use Rattle.ob_c_state.specs.Calls.{HasBytes, Ends, Calls, Does, DoesOfAnyType, EndsMade, CallsMade}
use Rattle.ob_c_state.specs.Pending.{BeginsOpen, BeginsMade}
use Rattle.ob_numbers.specs.Types.{type_of_kind}
use Rattle.ob_runner.specs.declared.begun.Begun.{Begun}

module _ {E : Type 0} (p : ℕ) where
  -- what was taken out of a caller's struct says whether it was open
  pub call_closed : (made : Result (Command Kind) E) (old new : Option Space) → None ≡ old → new ≡ None → CallsMade p made old (Err InvalidParameter) new
  call_closed made old new is closed = subst (λ (o : Option Space). CallsMade p made o (Err InvalidParameter) new) is (refl, closed)

  pub call_open : (made : Result (Command Kind) E) (old new : Option Space) (s t : Space) (ended : Result Reply Status) → Some s ≡ old → new ≡ Some t → EndsMade p made s ended t
      → CallsMade p made old ended new
  call_open made old new s t ended is put ends = subst (λ (o : Option Space). CallsMade p made o ended new) is (t, put, ends)

  ends_made : (made : Result (Command Kind) E) (command : Command Kind) → HasBytes command → IfOk made (λ c. c ≡ command) → (s t : Space) (ended : Result Reply Status)
      → EndsMade p made s ended t → Ends p command s ended t
  ends_made (Ok c) command bytes is s t ended ends = subst (λ (d : Command Kind). Ends p d s ended t) is ends
  ends_made (Err e) command bytes is s t ended ends = subst (λ (d : Result Reply Status). Ends p command s d t) (sym ends.0) (refl, inr (bytes, ends.1))

  calls_made : (made : Result (Command Kind) E) (command : Command Kind) → HasBytes command → IfOk made (λ c. c ≡ command) → (old new : Option Space) (ended : Result Reply Status)
      → CallsMade p made old ended new → Calls p command old ended new
  calls_made made command bytes is None new ended calls = calls
  calls_made made command bytes is (Some s) new ended calls = (calls.0, calls.1, ends_made made command bytes is s calls.0 ended calls.2)

  -- a command that was made of bytes of the caller's
  pub does_made : (made : Result (Command Kind) E) (command : Command Kind) → HasBytes command → IfOk made (λ c. c ≡ command) → (old new : Option Space) (ended : Result Reply Status)
      → (reports : Result Reply Status → Type 0) → CallsMade p made old ended new → reports ended → Does p command old new reports
  does_made made command bytes is old new ended reports calls report = (ended, calls_made made command bytes is old new ended calls, report)

  -- an open that was begun of bytes of the caller's
  pub begins_made : (made : Result (Command Kind) E) (command : Command Kind) → HasBytes command → IfOk made (λ c. c ≡ command) → (s t : Space) (begun : Result Begun Status)
      → BeginsMade p made s begun t → BeginsOpen p command s begun t
  begins_made (Ok c) command bytes is s t begun begins = subst (λ (d : Command Kind). BeginsOpen p d s begun t) is begins
  begins_made (Err e) command bytes is s t begun begins = subst (λ (d : Result Begun Status). BeginsOpen p command s d t) (sym begins.0) (refl, inr (bytes, begins.1))

calls_ok : (E : Type 0) (p : ℕ) (command : Command Kind) (old new : Option Space) (ended : Result Reply Status) → CallsMade {E = E} p (Ok command) old ended new → Calls p command old ended new
calls_ok E p command None new ended calls = calls
calls_ok E p command (Some s) new ended calls = calls

-- a command that takes no bytes
pub does : (E : Type 0) (p : ℕ) (command : Command Kind) (old new : Option Space) (ended : Result Reply Status) (reports : Result Reply Status → Type 0) → CallsMade {E = E} p (Ok command) old ended new
    → reports ended → Does p command old new reports
does E p command old new ended reports calls report = (ended, calls_ok E p command old new ended calls, report)

-- a command of any type, and of the kind of a number
pub does_any_type : (n p : ℕ) (command : Option Kind → Command Kind) (old new : Option Space) (reports : Result Reply Status → Type 0) → n ≡ 0 → Does p (command None) old new reports
    → DoesOfAnyType n p command old new reports
does_any_type zero p command old new reports is does = does
does_any_type (suc n) p command old new reports is does = absurd (omega (arith, is))

pub does_of_a_kind : (n p : ℕ) (command : Option Kind → Command Kind) (old new : Option Space) (reports : Result Reply Status → Type 0) (kind : Kind) → n ≡ type_of_kind kind
    → Does p (command (Some kind)) old new reports → DoesOfAnyType n p command old new reports
does_of_a_kind zero p command old new reports kind is does = absurd (omega (arith, is))
does_of_a_kind (suc n) p command old new reports kind is does = inl (kind, is, does)

pub does_of_none : (n p : ℕ) (command : Option Kind → Command Kind) (old new : Option Space) (reports : Result Reply Status → Type 0) → n ≢ 0 → ((kind : Kind) → n ≡ type_of_kind kind → ⊥)
    → new ≡ old → reports (Err InvalidParameter) → DoesOfAnyType n p command old new reports
does_of_none zero p command old new reports some none same report = absurd (some refl)
does_of_none (suc n) p command old new reports some none same report = inr (none, same, report)
