-- Two alike commands in alike states that are run to their replies, each by its own steps, are answered alike and leave
-- alike states.
use Rattle.std.proofs.Common.{◌≡◌, ◌∙◌, ℕ, ◌==◌, ◌&&◌, true, List, [], ◌∷◌, map, refl, sym, ap, subst, inl, inr, ◌⊎◌}
use Rattle.std.specs.Prelude.{Option, None, Some, MatchOption}
use Rattle.std.specs.List.{find, list_any}
use Rattle.ob_model.specs.declared.command.Command.{Command}
use Rattle.ob_model.specs.declared.command.Command.TheVariants.{OpenObject}
use Rattle.ob_model.specs.declared.reply.Answer.{Answer}
use Rattle.ob_model.specs.declared.reply.Answer.TheVariants.{Done, Ticket}
use Rattle.ob_model.specs.declared.reply.Event.{Event}
use Rattle.ob_model.specs.declared.reply.Event.TheVariants.{Start, Resume, Abandon}
use Rattle.ob_model.specs.declared.reply.ParseRun.{ParseRun}
use Rattle.ob_model.specs.declared.reply.ParseRun.TheVariants as run
use Rattle.ob_model.specs.declared.reply.Reply.{Reply}
use Rattle.ob_model.specs.declared.state.Held.{Held}
use Rattle.ob_model.specs.declared.state.PendingOpen.{PendingOpen}
use Rattle.ob_model.specs.Alike.{AreAlike, AreAlikeCommands, AreAlikeAnswers, LeadOn, HoldOn, unvalued_answer, is_named}
use Rattle.ob_model.specs.PendingOpens.{pending_of}
use Rattle.ob_model.specs.Procedures.{Procedures}
use Rattle.ob_model.specs.Sound.{IsSound}
use Rattle.ob_model.specs.State.{State}
use Rattle.ob_model.specs.Step.{Step}
use Rattle.ob_model.proofs.AlikeResumes.{resume_stays, abandon_stays}
use Rattle.ob_model.proofs.AlikeSteps.{steps_stay, steps_lead, step_holds}
use Rattle.ob_model.proofs.Steps.{step_sound}
use Rattle.ob_runner.specs.Completes.{Made, Leads, HasRun, Completes, FindsMemory, FindMemory}
use Rattle.ob_runner.proofs.Fewer.{WaitsFor, waits_for, start_begins, step_begins}
use Rattle.ob_runner.specs.Opens.{is_open}

-- nothing is closed
abbrev none : ℕ → ℕ → Type 0
none q value = ⊥

module _ {K T F I : Type 0} where
  -- what is left of handles from states with the same handles
  lead_from : (s t x y u v : State K T F I) (p r : ℕ) (a b : Answer) → x.handles ≡ s.handles → y.handles ≡ t.handles → LeadOn x y p r a b u v → LeadOn s t p r a b u v
  lead_from s t x y u v p r a b same same_too lead = record {
    held = λ q value other held leads. lead.held q value other (ap (list_any (is_named q value)) same ∙ held) (along q value other leads);
    granted = lead.granted;
    inherited = λ child value other given leads. lead.inherited child value other given (along p value other leads);
  }
    where
      along : (q value other : ℕ) → map (is_named q value) s.handles ≡ map (is_named q other) t.handles → map (is_named q value) x.handles ≡ map (is_named q other) y.handles
      along q value other leads = ap (map (is_named q value)) same ∙ leads ∙ sym (ap (map (is_named q other)) same_too)

  hold_from : (s x u : State K T F I) (r : ℕ) (a : Answer) → x.handles ≡ s.handles → HoldOn x none r a u → HoldOn s none r a u
  hold_from s x u r a same hold = record {
    stays = λ p value held left. hold.stays p value (ap (list_any (is_named p value)) same ∙ held) left;
    given = λ value gives. (((hold.given value gives).0.0, free value (hold.given value gives).0.1), (hold.given value gives).1);
    told = hold.told;
  }
    where
      free : (value : ℕ) → find (λ (h : Held). h.process == r && h.value == value) x.handles ≡ None → find (λ (h : Held). h.process == r && h.value == value) s.handles ≡ None
      free value is = ap (find (λ (h : Held). h.process == r && h.value == value)) (sym same) ∙ is

  -- two steps end alike, for a process to which a handle is given
  abbrev pub EndsAlike : State K T F I → State K T F I → ℕ → Answer → Answer → State K T F I → State K T F I → Type 0
  EndsAlike s t p a b u v = AreAlikeAnswers a b × AreAlike u v × LeadOn s t p p a b u v × HoldOn s none p a u × HoldOn t none p b v

  -- and so do those behind them, where they were answered with tickets
  ends_from : (s t x y : State K T F I) (p : ℕ) (a b : Answer) (u v : State K T F I) → x.handles ≡ s.handles → y.handles ≡ t.handles → EndsAlike x y p a b u v → EndsAlike s t p a b u v
  ends_from s t x y p a b u v same same_too (answers, states, lead, hold, hold_too) =
      (answers, states, lead_from s t x y u v p p a b same same_too lead, hold_from s x u p a same hold, hold_from t y v p b same_too hold_too)

module _ {K T F I : Type 0} (g : Procedures K T F I) where
  -- what holds for the process of the open that waits holds for that of which it is known
  for_its_process : (o : Option (PendingOpen K)) (p : ℕ) (P : ℕ → Type 0) → MatchOption o ⊥ (λ x. x.process ≡ p) → MatchOption o ⊥ (λ x. P x.process) → P p
  for_its_process None p P is h = absurd h
  for_its_process (Some x) p P is h = subst P is h

  -- the open that waits for a process ends alike, where each of the two does so as seen from either
  ends_alike : (s t u v : State K T F I) (n p : ℕ) (a b : Answer) → AreAlike s t → WaitsFor s n p
      → MatchOption (pending_of s n) ⊥ (λ x. AreAlikeAnswers a b × AreAlike u v × LeadOn s t x.process x.process a b u v × HoldOn s none x.process a u)
      → MatchOption (pending_of t n) ⊥ (λ x. AreAlikeAnswers b a × AreAlike v u × LeadOn t s x.process x.process b a v u × HoldOn t none x.process b v) → EndsAlike s t p a b u v
  ends_alike s t u v n p a b alike waits h k =
      let there : pending_of s n ≡ pending_of t n = ap (λ x. pending_of x n) alike in
      let one = for_its_process (pending_of s n) p (λ q. AreAlikeAnswers a b × AreAlike u v × LeadOn s t q q a b u v × HoldOn s none q a u) waits h in
      let other = for_its_process (pending_of t n) p (λ q. AreAlikeAnswers b a × AreAlike v u × LeadOn t s q q b a v u × HoldOn t none q b v)
      (subst (λ o. MatchOption o ⊥ (λ x. x.process ≡ p)) there waits) k in
      (one.0, one.1, one.2, one.3, other.3)

  -- the resume of one open that waits for a process, with a parse that ran in both
  pub resume_alike : (s t u v : State K T F I) (n p : ℕ) (a b : Answer) → AreAlike s t → WaitsFor s n p → Step g s (Resume n run.Ran) a u → Step g t (Resume n run.Ran) b v → EndsAlike s t p a b u v
  resume_alike s t u v n p a b alike waits h k =
      ends_alike s t u v n p a b alike waits (resume_stays g s t alike a b u v n run.Ran h k) (resume_stays g t s (sym alike) b a v u n run.Ran k h)

  -- it is given up in both, with the same of its parse
  pub abandon_alike : (s t u v : State K T F I) (n p : ℕ) (parse : ParseRun) (a b : Answer) → AreAlike s t → WaitsFor s n p
      → Step g s (Abandon n parse) a u → Step g t (Abandon n parse) b v → EndsAlike s t p a b u v
  abandon_alike s t u v n p parse a b alike waits h k =
      ends_alike s t u v n p a b alike waits (abandon_stays g s t alike a b u v n parse h k) (abandon_stays g t s (sym alike) b a v u n parse k h)

  -- two opens of a process that are alike begin alike
  pub open_alike : (s t u v : State K T F I) (p : ℕ) (root other : Option ℕ) (name : List ℕ) (attrs : ℕ) (want : Option K) (a b : Answer) → IsSound s → IsSound t → AreAlike s t
      → AreAlikeCommands s t p (OpenObject root name attrs want) (OpenObject other name attrs want)
      → Step g s (Start p (OpenObject root name attrs want)) a u → Step g t (Start p (OpenObject other name attrs want)) b v → EndsAlike s t p a b u v
  open_alike s t u v p root other name attrs want a b s_sound t_sound alike same h k =
      let c : Command K = OpenObject root name attrs want in
      let d : Command K = OpenObject other name attrs want in
      let stay = steps_stay g s t p c d a b u v s_sound t_sound alike same h k in
      (stay.0, stay.1, steps_lead g s t p c d a b u v s_sound t_sound alike same h k, step_holds g s p c a u s_sound h, step_holds g t p d b v t_sound k)

  -- what follows a step, and what it comes to
  abbrev Follows : List (Made K) → Answer → State K T F I → State K T F I → Reply → Type 0
  Follows steps answer u t reply =
      Leads answer (λ given. (given ≡ reply) × (steps ≡ []) × (t ≡ u)) (λ n. (parse : ParseRun) × HasRun parse × Completes g (Resume n parse) steps u reply t)

  -- a parse that was run and found memory ran
  ran : (n : ℕ) (parse : ParseRun) (event : Event K) → HasRun parse → event ≡ Resume n parse → FindsMemory event → parse ≡ run.Ran
  ran n run.Unrun event has is finds = absurd has
  ran n run.Ran event has is finds = refl
  ran n run.NoMemory event has is finds = absurd (subst FindsMemory is finds)

  -- the opens behind one ticket, resumed until they are answered
  pub resumed_alike : (es fs : List (Made K)) (s t u v : State K T F I) (n p : ℕ) (parse other : ParseRun) (a b : Reply)
      → IsSound s → IsSound t → AreAlike s t → WaitsFor s n p → HasRun parse → HasRun other → FindMemory es → FindMemory fs
      → Completes g (Resume n parse) es s a u → Completes g (Resume n other) fs t b v → EndsAlike s t p (Done a) (Done b) u v
  resumed_alike [] fs s t u v n p parse other a b s_sound t_sound alike waits has has_too finds finds_too h k = absurd h
  resumed_alike (e ∷ es) [] s t u v n p parse other a b s_sound t_sound alike waits has has_too finds finds_too h k = absurd k
  resumed_alike (e ∷ es) (f ∷ fs) s t u v n p parse other a b s_sound t_sound alike waits has has_too finds finds_too (x, asked, made, h) (y, asked_too, made_too, k) =
      go e.1 f.1
      (subst (λ z. Step g s (Resume n z) e.1 x) (ran n parse e.0 has asked finds.0) made)
      (subst (λ z. Step g t (Resume n z) f.1 y) (ran n other f.0 has_too asked_too finds_too.0) made_too)
      (λ m one two s_sound t_sound alike waits has has_too h k. resumed_alike es fs x y u v m p one two a b s_sound t_sound alike waits has has_too finds.1 finds_too.1 h k) h k
    where
      go : (c d : Answer) → Step g s (Resume n run.Ran) c x → Step g t (Resume n run.Ran) d y
          → ((m : ℕ) (one two : ParseRun) → IsSound x → IsSound y → AreAlike x y → WaitsFor x m p → HasRun one → HasRun two
          → Completes g (Resume m one) es x a u → Completes g (Resume m two) fs y b v → EndsAlike x y p (Done a) (Done b) u v)
          → Follows es c x u a → Follows fs d y v b → EndsAlike s t p (Done a) (Done b) u v
      go (Done c) (Done d) made made_too on (same, none_left, is) (same_too, none_left_too, is_too) =
          subst (λ w. EndsAlike s t p (Done a) (Done b) w v) (sym is)
          (subst (λ w. EndsAlike s t p (Done a) (Done b) x w) (sym is_too)
          (subst (λ r. EndsAlike s t p (Done r) (Done b) x y) same
          (subst (λ r. EndsAlike s t p (Done c) (Done r) x y) same_too (resume_alike s t x y n p (Done c) (Done d) alike waits made made_too))))
      go (Done c) (Ticket m) made made_too on h k = let bad = (resume_alike s t x y n p (Done c) (Ticket m) alike waits made made_too).0 in cc
      go (Ticket m) (Done d) made made_too on h k = let bad = (resume_alike s t x y n p (Ticket m) (Done d) alike waits made made_too).0 in cc
      go (Ticket m) (Ticket l) made made_too on (one, has, h) (two, has_too, k) =
          let both = resume_alike s t x y n p (Ticket m) (Ticket l) alike waits made made_too in
          let same : l ≡ m = let e : unvalued_answer (Ticket m) ≡ unvalued_answer (Ticket l) = both.0 in cc in
          let begins = step_begins g s x m s_sound n run.Ran p waits made in
          let waits_too : WaitsFor t n p = subst (λ o. MatchOption o ⊥ (λ z. z.process ≡ p)) (ap (λ z. pending_of z n) alike) waits in
          let begins_too = step_begins g t y l t_sound n run.Ran p waits_too made_too in
          ends_from s t x y p (Done a) (Done b) u v begins.1.2 begins_too.1.2
          (on m one two (step_sound g s x (Resume n run.Ran) (Ticket m) s_sound made) (step_sound g t y (Resume n run.Ran) (Ticket l) t_sound made_too) both.1 (waits_for g s x m p begins) has has_too
          h (subst (λ i. Completes g (Resume i two) fs y b v) same k))

  -- What two chains leave of handles: both were one step each, or both were opens, and what they lead to goes on to
  -- lead alike.
  abbrev pub GoOn : State K T F I → State K T F I → State K T F I → State K T F I → ℕ → Command K → Command K → Reply → Reply → Type 0
  GoOn s t u v p c d a b =
      (Step g s (Start p c) (Done a) u × Step g t (Start p d) (Done b) v)
      ⊎ ((is_open c ≡ true) × (is_open d ≡ true) × LeadOn s t p p (Done a) (Done b) u v × HoldOn s (λ q value. ⊥) p (Done a) u × HoldOn t (λ q value. ⊥) p (Done b) v)

  -- alike commands that are run to their replies end alike
  pub completes_alike : (s t u v : State K T F I) (p : ℕ) (c d : Command K) (es fs : List (Made K)) (a b : Reply)
      → IsSound s → IsSound t → AreAlike s t → AreAlikeCommands s t p c d → FindMemory es → FindMemory fs
      → Completes g (Start p c) es s a u → Completes g (Start p d) fs t b v
      → AreAlikeAnswers (Done a) (Done b) × AreAlike u v × GoOn s t u v p c d a b
  completes_alike s t u v p c d [] fs a b s_sound t_sound alike same finds finds_too h k = absurd h
  completes_alike s t u v p c d (e ∷ es) [] a b s_sound t_sound alike same finds finds_too h k = absurd k
  completes_alike s t u v p c d (e ∷ es) (f ∷ fs) a b s_sound t_sound alike same finds finds_too (x, asked, made, h) (y, asked_too, made_too, k) = go e.1 f.1 made made_too h k
    where
      Goal : State K T F I → State K T F I → Reply → Reply → Type 0
      Goal u v a b = AreAlikeAnswers (Done a) (Done b) × AreAlike u v × GoOn s t u v p c d a b

      go : (i j : Answer) → Step g s (Start p c) i x → Step g t (Start p d) j y → Follows es i x u a → Follows fs j y v b → Goal u v a b
      go (Done i) (Done j) made made_too (is_given, none_left, is) (is_given_too, none_left_too, is_too) =
          let stay = steps_stay g s t p c d (Done i) (Done j) x y s_sound t_sound alike same made made_too in
          subst (λ w. Goal w v a b) (sym is)
          (subst (λ w. Goal x w a b) (sym is_too)
          (subst (λ r. Goal x y r b) is_given (subst (λ r. Goal x y i r) is_given_too (stay.0, stay.1, inl (made, made_too)))))
      go (Done i) (Ticket m) made made_too h k = let bad = (steps_stay g s t p c d (Done i) (Ticket m) x y s_sound t_sound alike same made made_too).0 in cc
      go (Ticket m) (Done j) made made_too h k = let bad = (steps_stay g s t p c d (Ticket m) (Done j) x y s_sound t_sound alike same made made_too).0 in cc
      go (Ticket m) (Ticket l) made made_too (one, has, h) (two, has_too, k) =
          let stay = steps_stay g s t p c d (Ticket m) (Ticket l) x y s_sound t_sound alike same made made_too in
          let number : l ≡ m = let e : unvalued_answer (Ticket m) ≡ unvalued_answer (Ticket l) = stay.0 in cc in
          let begins = start_begins g s x m s_sound p c made in
          let begins_too = start_begins g t y l t_sound p d made_too in
          let ends = ends_from s t x y p (Done a) (Done b) u v begins.0.1.2 begins_too.0.1.2
          (resumed_alike es fs x y u v m p one two a b (step_sound g s x (Start p c) (Ticket m) s_sound made) (step_sound g t y (Start p d) (Ticket l) t_sound made_too)
          stay.1 (waits_for g s x m p begins.0) has has_too finds.1 finds_too.1 h (subst (λ i. Completes g (Resume i two) fs y b v) number k)) in
          (ends.0, ends.1, inr (begins.1, begins_too.1, ends.2, ends.3, ends.4))
