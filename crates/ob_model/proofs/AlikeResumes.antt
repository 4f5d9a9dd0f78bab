-- Pending opens of alike states that are resumed, or given up, with one end of their parse are answered alike, and
-- leave alike states.
use Rattle.std.proofs.Common.{◌≡◌, ◌∙◌, ℕ, zero, suc, Bool, true, false, not, List, [], ◌∷◌, length, Option, None, Some, MatchOption, refl, ap, sym, subst}
use Rattle.std.specs.Prelude.{MatchBool, nat_lt}
use Rattle.ob_base.specs.declared.status.Status.TheVariants.{Success, NoMemory, NameTooLong, ProcessGone, ObjectPathSyntaxBad, TypeRefused}
use Rattle.ob_model.specs.declared.reply.Answer.{Answer}
use Rattle.ob_model.specs.declared.reply.Event.TheVariants.{Resume, Abandon}
use Rattle.ob_model.specs.declared.reply.ParseRun.{ParseRun}
use Rattle.ob_model.specs.declared.reply.ParseRun.TheVariants as run
use Rattle.ob_model.specs.declared.state.PendingOpen.{PendingOpen}
use Rattle.ob_model.specs.Names.{longest_name}
use Rattle.ob_model.specs.State.{State, is_live}
use Rattle.ob_model.specs.Paths.{origin_of}
use Rattle.ob_model.specs.PendingOpens.{face_of, pending_of, without_pending, with_instance}
use Rattle.ob_model.specs.Parses.{IsParsed, LooksAgain, EndsOpen, Resumes, Abandons, parsed_state}
use Rattle.ob_model.specs.Procedures.{Procedures, ParseOutcome, EndsItself, EndsMade, EndsReparse, EndsRefused, ParseEnds}
use Rattle.ob_model.specs.declared.terms.Mode.{Mode}
use Rattle.ob_model.specs.Looks.{Look, Refused, Looks}
use Rattle.ob_model.specs.Opens.{OpensAt, Opens, open_mode}
use Rattle.ob_model.specs.Refusals.{Unless}
use Rattle.ob_model.specs.Settle.{settle}
use Rattle.ob_model.specs.Step.{Step}
use Rattle.ob_model.specs.Alike.{AreAlike}
use Rattle.ob_model.proofs.ParseRuns.{parse_unique}
use Rattle.ob_model.proofs.Alike.{EndAlike, settle_alike, unless_alike, refused_alike, opens_at_alike, opens_alike, look_alike, ends_alike}

-- nothing is closed
abbrev none : ℕ → ℕ → Type 0
none q value = ⊥

-- two things that hold of what is there hold of it together
joined : {X : Type 0} (o : Option X) (One Other : X → Type 0) → MatchOption o ⊥ One → MatchOption o ⊥ Other → MatchOption o ⊥ (λ x. One x × Other x)
joined None One Other h k = absurd h
joined (Some x) One Other h k = (h, k)

-- two texts that are looked up again end the same
module _ {K T F I : Type 0} (g : Procedures K T F I) (s t : State K T F I) (alike : AreAlike s t) (a b : Answer) (u v : State K T F I) (p : ℕ) where
  again_alike : (mode : Mode) (n : ℕ) (text : List ℕ) (one other : Look) → LooksAgain g s p mode n text one → LooksAgain g t p mode n text other → other ≡ one
  again_alike mode zero text one other h k = k ∙ sym h
  again_alike mode (suc n) text one other h k = go (nat_lt longest_name (length text)) h k
    where
      go : (long : Bool)
          → MatchBool long (one ≡ Refused NameTooLong) (MatchOption (origin_of s p mode.create text) (one ≡ Refused ObjectPathSyntaxBad) (λ at. Looks g s p mode n at.0 at.1 one))
          → MatchBool long (other ≡ Refused NameTooLong) (MatchOption (origin_of t p mode.create text) (other ≡ Refused ObjectPathSyntaxBad) (λ at. Looks g t p mode n at.0 at.1 other))
          → other ≡ one
      go true h k = k ∙ sym h
      go false h k = look_alike g s t alike a b u v p p none p mode n None text one other h k

  -- what one end of a parse leads to
  ends_open_alike : (x : PendingOpen K) (outcome : Option (ParseOutcome F I)) → x.process ≡ p → EndsOpen g s x outcome a u → EndsOpen g t x outcome b v → EndAlike g s t alike a b u v p p none
  ends_open_alike x None is h k = refused_alike g s t alike a b u v p p none NoMemory h k
  ends_open_alike x (Some EndsItself) is h k =
      opens_at_alike g s t alike a b u v p p none x.attrs x.wanted Success x.object
      (subst (λ q. OpensAt g s q x.attrs x.wanted Success x.object a u) is h) (subst (λ q. OpensAt g t q x.attrs x.wanted Success x.object b v) is k)
  ends_open_alike x (Some (EndsMade face inner)) is h k =
      opens_at_alike g s t alike a b u v p p none x.attrs x.wanted Success x.ticket
      (subst (λ q. OpensAt g s q x.attrs x.wanted Success x.ticket a u) is h) (subst (λ q. OpensAt g t q x.attrs x.wanted Success x.ticket b v) is k)
  ends_open_alike x (Some (EndsReparse text)) is h k =
      let mode = open_mode x.wanted x.attrs in
      let same : k.0 ≡ h.0 = again_alike mode x.left text h.0 k.0 (subst (λ q. LooksAgain g s q mode x.left text h.0) is h.1) (subst (λ q. LooksAgain g t q mode x.left text k.0) is k.1) in
      opens_alike g s t alike a b u v p p none x.attrs x.wanted h.0
      (subst (λ q. Opens g s q x.attrs x.wanted h.0 a u) is h.2) (subst (λ q. Opens g t q x.attrs x.wanted h.0 b v) is (subst (λ look. Opens g t x.process x.attrs x.wanted look b v) same k.2))
  ends_open_alike x (Some (EndsRefused code)) is h k = refused_alike g s t alike a b u v p p none (TypeRefused code) h k

  judged_alike : (x : PendingOpen K) (outcome : Option (ParseOutcome F I)) (live other : Bool) → x.process ≡ p → live ≡ other
      → Unless ((not live, ProcessGone) ∷ []) s a u (EndsOpen g s x outcome a u) → Unless ((not other, ProcessGone) ∷ []) t b v (EndsOpen g t x outcome b v)
      → EndAlike g s t alike a b u v p p none
  judged_alike x outcome live other is same h k =
      unless_alike g s t alike a b u v p p none ((not live, ProcessGone) ∷ []) ((not other, ProcessGone) ∷ []) (EndsOpen g s x outcome a u) (EndsOpen g t x outcome b v)
      (ap (λ (c : Bool). (not c, ProcessGone) ∷ []) same) (ends_open_alike x outcome is) h k

module _ {K T F I : Type 0} (g : Procedures K T F I) (s t : State K T F I) (alike : AreAlike s t) where
  parsed_alike : (n : ℕ) (outcome : Option (ParseOutcome F I)) → AreAlike (parsed_state s n outcome) (parsed_state t n outcome)
  parsed_alike n None = ap (λ x. without_pending x n) alike
  parsed_alike n (Some EndsItself) = ap (λ x. without_pending x n) alike
  parsed_alike n (Some (EndsMade face inner)) = ap (λ x. with_instance (without_pending x n) n face inner) alike
  parsed_alike n (Some (EndsReparse text)) = ap (λ x. without_pending x n) alike
  parsed_alike n (Some (EndsRefused k)) = ap (λ x. without_pending x n) alike

  module _ (a b : Answer) (u v : State K T F I) where
    -- what ends alike in the states in which the ends are judged does so from the states before
    from_before : (x : PendingOpen K) (outcome : Option (ParseOutcome F I)) (one other : State K T F I)
        → EndAlike g (parsed_state s x.ticket outcome) (parsed_state t x.ticket outcome) (parsed_alike x.ticket outcome) a b one other x.process x.process none
        → u ≡ settle g one → v ≡ settle g other → EndAlike g s t alike a b u v x.process x.process none
    from_before x None one other (same, left, lead, hold) is is_too =
        ends_alike g s t alike a b u v x.process x.process none a b (settle g one) (settle g other) refl is refl is_too same (settle_alike g one other left)
        (record { held = lead.held; granted = lead.granted; inherited = lead.inherited }) (record { stays = hold.stays; given = hold.given; told = hold.told })
    from_before x (Some EndsItself) one other (same, left, lead, hold) is is_too =
        ends_alike g s t alike a b u v x.process x.process none a b (settle g one) (settle g other) refl is refl is_too same (settle_alike g one other left)
        (record { held = lead.held; granted = lead.granted; inherited = lead.inherited }) (record { stays = hold.stays; given = hold.given; told = hold.told })
    from_before x (Some (EndsMade face inner)) one other (same, left, lead, hold) is is_too =
        ends_alike g s t alike a b u v x.process x.process none a b (settle g one) (settle g other) refl is refl is_too same (settle_alike g one other left)
        (record { held = lead.held; granted = lead.granted; inherited = lead.inherited }) (record { stays = hold.stays; given = hold.given; told = hold.told })
    from_before x (Some (EndsReparse text)) one other (same, left, lead, hold) is is_too =
        ends_alike g s t alike a b u v x.process x.process none a b (settle g one) (settle g other) refl is refl is_too same (settle_alike g one other left)
        (record { held = lead.held; granted = lead.granted; inherited = lead.inherited }) (record { stays = hold.stays; given = hold.given; told = hold.told })
    from_before x (Some (EndsRefused k)) one other (same, left, lead, hold) is is_too =
        ends_alike g s t alike a b u v x.process x.process none a b (settle g one) (settle g other) refl is refl is_too same (settle_alike g one other left)
        (record { held = lead.held; granted = lead.granted; inherited = lead.inherited }) (record { stays = hold.stays; given = hold.given; told = hold.told })

    -- a pending open that is resumed in both
    resumes_alike : (x : PendingOpen K) (outcome : Option (ParseOutcome F I)) → Resumes g s x outcome a u → Resumes g t x outcome b v → EndAlike g s t alike a b u v x.process x.process none
    resumes_alike x outcome h k =
        from_before x outcome h.0 k.0
        (judged_alike g (parsed_state s x.ticket outcome) (parsed_state t x.ticket outcome) (parsed_alike x.ticket outcome) a b h.0 k.0 x.process x outcome (is_live s x.process) (is_live t x.process) refl
        (ap (λ y. is_live y x.process) alike) h.1 k.1) h.2 k.2

    -- and one that is given up in both
    abandons_alike : (x : PendingOpen K) (outcome : Option (ParseOutcome F I)) → Abandons g s x outcome a u → Abandons g t x outcome b v → EndAlike g s t alike a b u v x.process x.process none
    abandons_alike x outcome h k =
        from_before x outcome (parsed_state s x.ticket outcome) (parsed_state t x.ticket outcome)
        (refused_alike g (parsed_state s x.ticket outcome) (parsed_state t x.ticket outcome) (parsed_alike x.ticket outcome) a b (parsed_state s x.ticket outcome) (parsed_state t x.ticket outcome) x.process x.process none
        Success (h.0, refl) (k.0, refl)) h.1 k.1

    -- the parse of a pending open has one end in both
    one_end : (x : PendingOpen K) (parse : ParseRun) (one other : Option (ParseOutcome F I)) → IsParsed g s x parse one → IsParsed g t x parse other → other ≡ one
    one_end x run.Unrun one other h k = k ∙ sym h
    one_end x run.NoMemory one other h k = k ∙ sym h
    one_end x run.Ran None other h k = absurd h
    one_end x run.Ran (Some one) None h k = absurd k
    one_end x run.Ran (Some one) (Some other) h k = go (face_of s x.object) h (subst (λ (f : Option F). MatchOption f ⊥ (λ face. ParseEnds g face x.rest other)) (sym (ap (λ y. face_of y x.object) alike)) k)
      where
        go : (f : Option F) → MatchOption f ⊥ (λ face. ParseEnds g face x.rest one) → MatchOption f ⊥ (λ face. ParseEnds g face x.rest other) → Some other ≡ Some one
        go None h k = absurd h
        go (Some face) h k = ap Some (parse_unique g k h)

    -- what holds of the open that is pending under a ticket, in both
    both : (ticket : ℕ) (One Other Goal : PendingOpen K → Type 0) → ((x : PendingOpen K) → One x → Other x → Goal x)
        → MatchOption (pending_of s ticket) ⊥ One → MatchOption (pending_of t ticket) ⊥ Other → MatchOption (pending_of s ticket) ⊥ Goal
    both ticket One Other Goal follows h k = go (pending_of s ticket) h (subst (λ (o : Option (PendingOpen K)). MatchOption o ⊥ Other) (sym (ap (λ y. pending_of y ticket) alike)) k)
      where
        go : (o : Option (PendingOpen K)) → MatchOption o ⊥ One → MatchOption o ⊥ Other → MatchOption o ⊥ Goal
        go None h k = absurd h
        go (Some x) h k = follows x h k

    -- so is what an end of a pending open says in both, where it is brought in both by a parse that became of the same
    ended_alike : (ticket : ℕ) (parse : ParseRun) (One Other : PendingOpen K → Option (ParseOutcome F I) → Type 0)
        → ((x : PendingOpen K) (outcome : Option (ParseOutcome F I)) → One x outcome → Other x outcome → EndAlike g s t alike a b u v x.process x.process none)
        → (one other : Option (ParseOutcome F I)) → MatchOption (pending_of s ticket) ⊥ (λ x. IsParsed g s x parse one) → MatchOption (pending_of t ticket) ⊥ (λ x. IsParsed g t x parse other)
        → MatchOption (pending_of s ticket) ⊥ (λ x. One x one) → MatchOption (pending_of t ticket) ⊥ (λ x. Other x other)
        → MatchOption (pending_of s ticket) ⊥ (λ x. EndAlike g s t alike a b u v x.process x.process none)
    ended_alike ticket parse One Other follows one other brought brought_too h k =
        both ticket (λ x. IsParsed g s x parse one × One x one) (λ x. IsParsed g t x parse other × Other x other) (λ x. EndAlike g s t alike a b u v x.process x.process none)
        (λ x h k. follows x one h.1 (subst (Other x) (one_end x parse one other h.0 k.0) k.1))
        (joined (pending_of s ticket) (λ x. IsParsed g s x parse one) (λ x. One x one) brought h)
        (joined (pending_of t ticket) (λ x. IsParsed g t x parse other) (λ x. Other x other) brought_too k)

    pub resume_stays : (ticket : ℕ) (parse : ParseRun) → Step g s (Resume ticket parse) a u → Step g t (Resume ticket parse) b v
        → MatchOption (pending_of s ticket) ⊥ (λ x. EndAlike g s t alike a b u v x.process x.process none)
    resume_stays ticket run.Unrun h k = absurd h.1
    resume_stays ticket run.Ran h k = ended_alike ticket run.Ran (λ x outcome. Resumes g s x outcome a u) (λ x outcome. Resumes g t x outcome b v) resumes_alike h.0 k.0 h.1 k.1 h.2 k.2
    resume_stays ticket run.NoMemory h k = ended_alike ticket run.NoMemory (λ x outcome. Resumes g s x outcome a u) (λ x outcome. Resumes g t x outcome b v) resumes_alike h.0 k.0 h.1 k.1 h.2 k.2

    pub abandon_stays : (ticket : ℕ) (parse : ParseRun) → Step g s (Abandon ticket parse) a u → Step g t (Abandon ticket parse) b v
        → MatchOption (pending_of s ticket) ⊥ (λ x. EndAlike g s t alike a b u v x.process x.process none)
    abandon_stays ticket parse h k = ended_alike ticket parse (λ x outcome. Abandons g s x outcome a u) (λ x outcome. Abandons g t x outcome b v) abandons_alike h.0 k.0 h.1 k.1 h.2 k.2
