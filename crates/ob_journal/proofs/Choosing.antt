-- The value of a new handle is the one choice: where the line's value isn't one that may be chosen, no step has its reply.
use Rattle.std.proofs.Common.{◌≡◌, ◌∙◌, ℕ, ◌==◌, Bool, true, false, ◌&&◌, cond, IsTrue, ◌↔◌, [], ◌∷◌, ◌++◌, find, Option, None, Some, IfSome, IfNone, refl, ap, sym, subst}
use Rattle.std.specs.Option.{option_or}
use Rattle.std.proofs.lemmas.List.Folds.{find-append}
use Rattle.std.proofs.lemmas.Bool.{ne_eqb}
use Rattle.ob_model.specs.declared.reply.Answer.{Answer}
use Rattle.ob_model.specs.declared.reply.Answer.TheVariants as answer
use Rattle.ob_model.specs.declared.reply.Given.{Given}
use Rattle.ob_model.specs.declared.reply.Given.TheVariants as given
use Rattle.ob_model.specs.declared.state.Held.{Held}
use Rattle.ob_model.specs.Alike.{handle_given, handle_in}
use Rattle.ob_model.specs.Closing.{is_handle}
use Rattle.ob_model.specs.Grants.{IsFreeValue}
use Rattle.ob_model.specs.Sound.{IsSound}
use Rattle.ob_model.specs.Step.{Step}
use Rattle.ob_model.specs.Choice.{answer_under, given_under, revalued, IsOtherChoice, same, under}
use Rattle.ob_model.proofs.ChosenSteps.{step_last, step_under}
use Rattle.ob_model.proofs.OneAnswer.{step_has_one_answer}
use Rattle.ob_core.specs.Reached.{IsJustGiven, IsReached}
use Rattle.ob_standard.specs.Standard.{standard}
use Rattle.ob_standard_core.specs.Machine.{Space}
use Rattle.ob_reader.specs.declared.line.Line.{Line}
use Rattle.ob_reader.specs.Reading.{said_of, gift_of}
use Rattle.ob_journal.specs.declared.choice.Choice.{Choice}
use Rattle.ob_journal.specs.Journal.{IsNoReply}
use Rattle.ob_journal.specs.Played.{value_in, value_said, MayChoose, MayChooseNone, IsTaken}

-- the value that a line says is the one that the answer gives
gift_value : (thing : Given) → value_in (gift_of thing) ≡ handle_in thing
gift_value given.Nothing = refl
gift_value (given.Handle value) = refl
gift_value (given.Text text) = refl
gift_value (given.Process process values) = refl
gift_value (given.Page entries context) = refl

value_told : (a : Answer) → value_said (said_of a) ≡ handle_given a
value_told (answer.Done reply) = gift_value reply.given
value_told (answer.Ticket ticket) = refl

-- an answer that gives a handle under another value gives one under its own
thing_gives : (value other : ℕ) (thing : Given) → handle_in (given_under value thing) ≡ Some other → (chosen : ℕ) × (handle_in thing ≡ Some chosen)
thing_gives value other given.Nothing e = cc
thing_gives value other (given.Handle chosen) e = (chosen, refl)
thing_gives value other (given.Text text) e = cc
thing_gives value other (given.Process process values) e = cc
thing_gives value other (given.Page entries context) e = cc

under_gives : (value other : ℕ) (a : Answer) → handle_given (answer_under value a) ≡ Some other → (chosen : ℕ) × (handle_given a ≡ Some chosen)
under_gives value other (answer.Done reply) e = thing_gives value other reply.given e
under_gives value other (answer.Ticket ticket) e = cc

-- under its own value it is itself
thing_itself : (value : ℕ) (thing : Given) → handle_in thing ≡ Some value → given_under value thing ≡ thing
thing_itself value given.Nothing e = refl
thing_itself value (given.Handle chosen) e = let is : chosen ≡ value = cc in ap given.Handle (sym is)
thing_itself value (given.Text text) e = refl
thing_itself value (given.Process process values) e = refl
thing_itself value (given.Page entries context) e = refl

under_itself : (value : ℕ) (a : Answer) → handle_given a ≡ Some value → answer_under value a ≡ a
under_itself value (answer.Done reply) e = let is = thing_itself value reply.given e in λ i. answer.Done (record reply { given = is i })
under_itself value (answer.Ticket ticket) e = refl

some_is : {A : Type 0} (P : A → Type 0) (o : Option A) (x : A) → o ≡ Some x → IfSome o P → P x
some_is P None x e h = cc
some_is P (Some y) x e h = let is : y ≡ x = cc in subst P is h

one_value : (v w : ℕ) (o : Option ℕ) → o ≡ Some v → o ≡ Some w → v ≡ w
one_value v w o e f = let both : Some v ≡ Some w = sym e ∙ f in cc

-- what a test finds untrue
pub not_said : {A : Type 0} (b : Bool) (x y : A) → (IsTrue b ↔ (x ≡ y)) → b ≡ false → y ≡ x → ⊥
not_said b x y tells is e = let both : true ≡ false = sym (tells.1 (sym e)) ∙ is in cc

module _ (s u : Space) (line : Line) (a : Answer) (step : Step standard s line.step a u) (unsaid : said_of a ≡ line.reply → ⊥) where
  module _ (choice : Option Choice) (free : IfSome choice (MayChoose s line)) where
    -- what may be chosen
    pub may_choose : (one : Choice) (chosen : ℕ) → IsTaken line choice a one chosen → MayChoose s line one
    may_choose one chosen taken = some_is (MayChoose s line) choice one taken.one_is free

    pub newest_is_given : IsReached standard s → (one : Choice) (chosen : ℕ) → IsTaken line choice a one chosen → IsJustGiven standard u one.process chosen
    newest_is_given reached one chosen taken = (s, line.step, a, reached, step, (may_choose one chosen taken).receiver, taken.given)

    -- the value that the line says is another one than the one that was given
    other_value : (one : Choice) (chosen : ℕ) → IsTaken line choice a one chosen → chosen ≡ one.value → ⊥
    other_value one chosen taken is = unsaid (ap said_of (sym (under_itself one.value a (taken.given ∙ ap (λ v. Some v) is))) ∙ taken.said)

    pub still_free : (one : Choice) (chosen : ℕ) → IsTaken line choice a one chosen → IsFreeValue u one.process one.value
    still_free one chosen taken = (
      may.free.0,
      ap (find (is_handle one.process one.value)) last.1 ∙ find-append (is_handle one.process one.value) s.handles (last.0 ∷ [])
          ∙ ap (λ o. option_or o (find (is_handle one.process one.value) (last.0 ∷ []))) may.free.1 ∙ ap (λ b. cond b (Some last.0) None) no_match,
    )
      where
        may : MayChoose s line one
        may = may_choose one chosen taken

        last : (h : Held) × (u.handles ≡ s.handles ++ h ∷ []) × (h.process ≡ one.process) × (h.value ≡ chosen)
        last = step_last standard s u line.step a one.process chosen step taken.given may.receiver

        differs : (last.0.value == one.value) ≡ false
        differs = ne_eqb last.0.value one.value (λ is. other_value one chosen taken (sym last.3 ∙ is))

        both_false : (x y : Bool) → y ≡ false → (x && y) ≡ false
        both_false true y e = e
        both_false false y e = refl

        no_match : is_handle one.process one.value last.0 ≡ false
        no_match = both_false (last.0.process == one.process) (last.0.value == one.value) differs

    pub step_revalued : (one : Choice) (chosen : ℕ) → IsTaken line choice a one chosen → Step standard s line.step (answer_under one.value a) (revalued one.value u)
    step_revalued one chosen taken =
        let may = may_choose one chosen taken in
        step_under standard s u line.step a one.process chosen one.value step taken.given may.receiver may.free

    -- where nothing is taken no step has the reply
    pub no_step_replies : IsSound s → IfNone choice (MayChooseNone s line) → ((one : Choice) (chosen : ℕ) → IsTaken line choice a one chosen → ⊥) → IsNoReply s line
    no_step_replies sound none nothing b v other said = against (step_has_one_answer standard s u v line.step a b sound step other)
      where
        found : (one : Choice) → MayChoose s line one → b ≡ answer_under one.value a → handle_given b ≡ Some one.value → (o : Option Choice) → choice ≡ o → IfNone o (MayChooseNone s line)
            → IfSome o (MayChoose s line) → ⊥
        found one may is given None e nil fits = nil one may
        found one may is given (Some two) e nil fits =
            let value : one.value ≡ two.value = one_value one.value two.value (value_said line.reply) may.said fits.said in
            let gives = under_gives one.value one.value a (ap handle_given (sym is) ∙ given) in
            nothing two gives.0 (record { one_is = e; given = gives.1; said = ap (λ w. said_of (answer_under w a)) (sym value) ∙ ap said_of (sym is) ∙ said })

        against : IsOtherChoice s line.step a b → ⊥
        against (same is) = unsaid (ap said_of (sym is) ∙ said)
        against (under value p given is gets free_too) =
            found (record { process = p; value = value })
            (record { said = ap value_said (sym said) ∙ value_told b ∙ given; receiver = gets; free = free_too })
            is given choice refl none free
