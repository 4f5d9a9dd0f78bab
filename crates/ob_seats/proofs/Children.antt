-- The variables of a child, after its process variable.
use Rattle.std.proofs.Common.{◌≡◌, ◌∙◌, ℕ, Bool, true, false, cond, List, Result, OnOk, ap, refl, sym}
use Rattle.ob_model.specs.declared.reply.Given.{Given}
use Rattle.ob_model.specs.declared.reply.Given.TheVariants as given
use Rattle.ob_model.specs.declared.reply.Reply.{Reply}
use Rattle.ob_lines.specs.declared.change.Change.{Change}
use Rattle.ob_lines.specs.declared.change.Change.TheVariants as change
use Rattle.ob_requests.specs.Variables.{Variables, handed_on, with_process}
use Rattle.ob_requests.specs.Commands.{applied, changed, given_process, with_child, with_own_variables}
use Rattle.ob_seats.proofs.Told.{then_ok}

-- they are set apart
begun_apart : (variables : Variables) (p : ℕ) (variable : List ℕ) (inherit : Bool) (thing : Given)
    → with_own_variables (with_process variables variable (given_process thing)) p inherit thing ≡ with_child variables p variable inherit thing
begun_apart variables p variable inherit given.Nothing = refl
begun_apart variables p variable inherit (given.Handle handle) = refl
begun_apart variables p variable inherit (given.Text text) = refl
begun_apart variables p variable inherit (given.Process process handles) = refl
begun_apart variables p variable inherit (given.Page entries context) = refl

-- so a reply to the request for a child changes what it says
pub child_changed : {X E : Type 0} (r : Result X E) (c : Change (List ℕ)) (p : ℕ) (reply : Reply) (variable : List ℕ) (inherit : Bool) (variables between variables' : Variables)
    → c ≡ change.SetsProcess variable inherit → between ≡ applied c p reply variables → OnOk r (variables' ≡ with_own_variables between p inherit reply.given)
    → OnOk r (variables' ≡ changed c p reply variables)
child_changed r c p reply variable inherit variables between variables' is first then =
    then_ok (variables' ≡ with_own_variables between p inherit reply.given) (variables' ≡ changed c p reply variables) r
    (λ last.
    last
    ∙ (ap (λ (w : Variables). with_own_variables w p inherit reply.given) (first ∙ ap (λ (x : Change (List ℕ)). applied x p reply variables) is)
    ∙ (begun_apart variables p variable inherit reply.given ∙ ap (λ (x : Change (List ℕ)). changed x p reply variables) (sym is)))) then

-- ---- variables that are handed on, from those that a child may get

module _ (values own : List ℕ → ℕ) (handles : List ℕ) where
  -- where it doesn't inherit: none
  pub handed_none : (inherit : Bool) → inherit ≡ false → own ≡ (λ w. cond inherit (values w) 0) → own ≡ handed_on values inherit handles
  handed_none true apart is = cc
  handed_none false apart is = is

  -- where it does
  pub handed_all : (inherit : Bool) (new : List ℕ → ℕ) → inherit ≡ true → own ≡ (λ w. cond inherit (values w) 0) → new ≡ handed_on own true handles
      → new ≡ handed_on values inherit handles
  handed_all true new inherits is kept = kept ∙ ap (λ (f : List ℕ → ℕ). handed_on f true handles) is
  handed_all false new inherits is kept = cc
