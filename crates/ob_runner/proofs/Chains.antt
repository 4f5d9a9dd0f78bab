-- The steps of a command that is run to its reply: they are a run, lead from a sound state to a sound one, and are one
-- step alone where the command is no open.
use Rattle.std.proofs.Common.{◌≡◌, ℕ, ◌+◌, true, false, List, [], ◌∷◌, ◌++◌, map, refl, sym, ap, subst, inl, inr}
use Rattle.ob_model.specs.declared.command.Command.{Command}
use Rattle.ob_model.specs.declared.reply.Answer.{Answer}
use Rattle.ob_model.specs.declared.reply.Answer.TheVariants.{Done, Ticket}
use Rattle.ob_model.specs.declared.reply.Event.{Event}
use Rattle.ob_model.specs.declared.reply.Event.TheVariants.{Start, Resume}
use Rattle.ob_model.specs.declared.reply.ParseRun.{ParseRun}
use Rattle.ob_model.specs.declared.reply.Reply.{Reply}
use Rattle.ob_model.specs.Procedures.{Procedures}
use Rattle.ob_model.specs.Run.{Entry, RunFrom}
use Rattle.ob_model.specs.Sound.{IsSound}
use Rattle.ob_model.specs.State.{State}
use Rattle.ob_model.specs.Step.{Step}
use Rattle.ob_model.proofs.Steps.{step_sound}
use Rattle.ob_runner.specs.Completes.{Made, step_of, Leads, HasRun, Completes, GivesUp, Falters}
use Rattle.ob_runner.proofs.Fewer.{start_waits}
use Rattle.ob_runner.specs.Opens.{is_open}

module _ {K T F I : Type 0} (g : Procedures K T F I) where
  -- a sound state stays sound
  pub completes_sound : (event : Event K) (steps : List (Made K)) (s t : State K T F I) (reply : Reply) → IsSound s → Completes g event steps s reply t → IsSound t
  completes_sound event [] s t reply sound h = absurd h
  completes_sound event (step ∷ steps) s t reply sound (u, asked, made, h) = go step.1 made (λ n parse more. completes_sound (Resume n parse) steps u t reply (step_sound g s u event step.1 sound made) more) h
    where
      go : (answer : Answer) → Step g s event answer u → ((n : ℕ) (parse : ParseRun) → Completes g (Resume n parse) steps u reply t → IsSound t)
          → Leads answer (λ given. (given ≡ reply) × (steps ≡ []) × (t ≡ u)) (λ n. (parse : ParseRun) × HasRun parse × Completes g (Resume n parse) steps u reply t) → IsSound t
      go (Done given) made on (same, none, is) = subst IsSound (sym is) (step_sound g s u event (Done given) sound made)
      go (Ticket n) made on (parse, ran, h) = on n parse h

  pub gives_up_sound : (n : ℕ) (steps : List (Made K)) (s t : State K T F I) → IsSound s → GivesUp g n steps s t → IsSound t
  gives_up_sound n [] s t sound h = absurd h
  gives_up_sound n (step ∷ steps) s t sound (inl (parse, asked, answered, made, none)) = step_sound g s t step.0 step.1 sound made
  gives_up_sound n (step ∷ steps) s t sound (inr (parse, m, u, ran, asked, answered, made, h)) =
      gives_up_sound m steps u t (step_sound g s u step.0 step.1 sound made) h

  pub falters_sound : (event : Event K) (steps : List (Made K)) (s t : State K T F I) → IsSound s → Falters g event steps s t → IsSound t
  falters_sound event [] s t sound (same, may) = subst IsSound (sym same) sound
  falters_sound event (step ∷ steps) s t sound (n, u, asked, answered, made, h) =
      gives_up_sound n steps u t (step_sound g s u step.0 step.1 sound made) h

  -- what isn't an open is done in one step
  pub completes_at_once : (p : ℕ) (c : Command K) (steps : List (Made K)) (s t : State K T F I) (reply : Reply) → IsSound s → is_open c ≡ false
      → Completes g (Start p c) steps s reply t → Step g s (Start p c) (Done reply) t
  completes_at_once p c [] s t reply sound none h = absurd h
  completes_at_once p c (step ∷ steps) s t reply sound none (u, asked, made, h) = go step.1 made h
    where
      go : (answer : Answer) → Step g s (Start p c) answer u
          → Leads answer (λ given. (given ≡ reply) × (steps ≡ []) × (t ≡ u)) (λ n. (parse : ParseRun) × HasRun parse × Completes g (Resume n parse) steps u reply t)
          → Step g s (Start p c) (Done reply) t
      go (Done given) made (same, ends, is) = subst (λ w. Step g s (Start p c) (Done reply) w) (sym is) (subst (λ r. Step g s (Start p c) (Done r) u) same made)
      go (Ticket n) made h = let waits : is_open c ≡ true = (start_waits g s u n sound p c made).1 in cc

-- the entries of these steps, of seat 0, behind so many others
abbrev pub entered : {K : Type 0} → ℕ → List (Made K) → List (Entry K)
entered count [] = []
entered count (step ∷ steps) = record { number = count + 1; seat = 0; event = step.0; answer = step.1 } ∷ entered (count + 1) steps

-- how many entries there are behind these steps
abbrev pub behind : {K : Type 0} → ℕ → List (Made K) → ℕ
behind count [] = count
behind count (step ∷ steps) = behind (count + 1) steps

module _ {K T F I : Type 0} (g : Procedures K T F I) where
  -- a run goes on behind them
  pub completes_run : (event : Event K) (steps : List (Made K)) (s t : State K T F I) (reply : Reply) (count : ℕ) (rest : List (Entry K)) (w : State K T F I)
      → Completes g event steps s reply t → RunFrom g t (behind count steps) rest w → RunFrom g s count (entered count steps ++ rest) w
  completes_run event [] s t reply count rest w h run = absurd h
  completes_run event (step ∷ steps) s t reply count rest w (u, asked, made, h) run =
      (u, refl, subst (λ e. Step g s e step.1 u) (sym asked) made, go step.1 (λ n parse more. completes_run (Resume n parse) steps u t reply (count + 1) rest w more run) h)
    where
      go : (answer : Answer) → ((n : ℕ) (parse : ParseRun) → Completes g (Resume n parse) steps u reply t → RunFrom g u (count + 1) (entered (count + 1) steps ++ rest) w)
          → Leads answer (λ given. (given ≡ reply) × (steps ≡ []) × (t ≡ u)) (λ n. (parse : ParseRun) × HasRun parse × Completes g (Resume n parse) steps u reply t)
          → RunFrom g u (count + 1) (entered (count + 1) steps ++ rest) w
      go (Done given) on (same, none, is) =
          subst (λ xs. RunFrom g u (count + 1) (entered (count + 1) xs ++ rest) w) (sym none)
          (subst (λ x. RunFrom g x (count + 1) rest w) is (subst (λ xs. RunFrom g t (behind (count + 1) xs) rest w) none run))
      go (Ticket n) on (parse, ran, h) = on n parse h

  pub gives_up_run : (n : ℕ) (steps : List (Made K)) (s t : State K T F I) (count : ℕ) (rest : List (Entry K)) (w : State K T F I)
      → GivesUp g n steps s t → RunFrom g t (behind count steps) rest w → RunFrom g s count (entered count steps ++ rest) w
  gives_up_run n [] s t count rest w h run = absurd h
  gives_up_run n (step ∷ steps) s t count rest w (inl (parse, asked, answered, made, none)) run =
      (t, refl, made, subst (λ xs. RunFrom g t (count + 1) (entered (count + 1) xs ++ rest) w) (sym none) (subst (λ xs. RunFrom g t (behind (count + 1) xs) rest w) none run))
  gives_up_run n (step ∷ steps) s t count rest w (inr (parse, m, u, ran, asked, answered, made, h)) run =
      (u, refl, made, gives_up_run m steps u t (count + 1) rest w h run)

  pub falters_run : (event : Event K) (steps : List (Made K)) (s t : State K T F I) (count : ℕ) (rest : List (Entry K)) (w : State K T F I)
      → Falters g event steps s t → RunFrom g t (behind count steps) rest w → RunFrom g s count (entered count steps ++ rest) w
  falters_run event [] s t count rest w (same, may) run = subst (λ x. RunFrom g x count rest w) same run
  falters_run event (step ∷ steps) s t count rest w (n, u, asked, answered, made, h) run = (u, refl, made, gives_up_run n steps u t (count + 1) rest w h run)

-- they are of these entries
pub entered_steps : {K : Type 0} (count : ℕ) (steps : List (Made K)) (rest : List (Entry K)) → map step_of (entered count steps ++ rest) ≡ steps ++ map step_of rest
entered_steps count [] rest = refl
entered_steps count (step ∷ steps) rest = ap (λ xs. step ∷ xs) (entered_steps (count + 1) steps rest)
