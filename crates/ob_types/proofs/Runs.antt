-- A parse run has one end, and goes on or is over by the answer of its face.
use Rattle.std.proofs.Common.{◌≡◌, ◌⊎◌, inl, inr, Bor, ℕ, ◌+◌, ◌-◌, ◌≤◌, ◌<◌, List, length, take, drop, Option, None, Some, MatchOption, refl, sym, ap, subst, ◌∙◌, arith}
use Rattle.std.proofs.lemmas.List.{take_rest, length-drop}
use Rattle.ob_model.specs.Procedures as model
use Rattle.ob_model.specs.Procedures.{Procedures, ParseAnswer, ParseOutcome, ParseEnds, ends_itself, ends_reparse, ends_refused, ends_made, goes_on, EndsItself, EndsMade, EndsReparse, EndsRefused, FrontIsUsed, ParsedIsIdle, SameFacesAnswerAlike, UsesFront}
use Rattle.ob_types.specs.declared.answer.ParseAnswer.{ParseAnswer as Answered}
use Rattle.ob_types.specs.declared.answer.ParseAnswer.TheVariants as answer
use Rattle.ob_types.specs.declared.run.Outcome.{Outcome}
use Rattle.ob_types.specs.declared.run.Outcome.TheVariants as run
use Rattle.ob_types.specs.declared.run.Step.{Step}
use Rattle.ob_types.specs.declared.run.Step.TheVariants.{Over, Onward}
use Rattle.ob_types.specs.Parsing.{answer_of, outcome_of, IfMade}
use Rattle.ob_types.specs.Runs.{IsMadeOf, IfOnward, GoesOn, RunsHaveOneEnd, SameFacesEndAlike}

module _ {F I : Type 0} where
  -- a fact of the face and the inner value, where an end is an instance
  ForMade : (F → I → Type 0) → ParseOutcome F I → Type 0
  ForMade P EndsItself = Unit {0}
  ForMade P (EndsMade face inner) = P face inner
  ForMade P (EndsReparse text) = Unit {0}
  ForMade P (EndsRefused k) = Unit {0}

  -- what is made has what holds of its parts
  pub made_has : (P : F → I → Type 0) (outcome : Outcome F I) (face : F) (inner : I) → IsMadeOf outcome face inner → P face inner → IfMade outcome P
  unfolding ForMade
  made_has P run.Itself face inner e h = cc
  made_has P (run.Made shared kept) face inner e h = subst (λ (end : ParseOutcome F I). ForMade P end) (sym e) h
  made_has P (run.Reparse text) face inner e h = cc
  made_has P (run.Refused k) face inner e h = cc
  made_has P run.NoMemory face inner e h = tt

  -- the greatest number of answers that are still to come
  abbrev pub steps_left : Step F I → ℕ
  steps_left (Over outcome) = 0
  steps_left (Onward next left) = length left.now + 1

  -- it gets smaller where the rest gets shorter
  pub fewer_left : (step later : Step F I) (next : F) (left : Bor (List ℕ)) → step ≡ Onward next left → IfOnward later (λ _ rest. length rest < length left.now) → steps_left later < steps_left step
  fewer_left (Over outcome) later next left is shorter = cc
  fewer_left (Onward next' left') later next left is shorter = subst (λ (s : Step F I). steps_left later < steps_left s) (sym is) (go later shorter)
    where
      go : (s : Step F I) → IfOnward s (λ _ rest. length rest < length left.now) → steps_left s < length left.now + 1
      go (Over outcome) h = omega arith
      go (Onward onward rest) h = omega (arith, h)

module _ {K T F I : Type 0} (g : Procedures K T F I) where
  -- ---- the ends of a run

  -- what an end is, by the answer of the first face
  ByAnswer : F → List ℕ → ParseOutcome F I → ParseAnswer F I → Type 0
  ByAnswer face rest end model.Itself = end ≡ EndsItself
  ByAnswer face rest end (model.Front used next inner) = ((used ≡ length rest) × (end ≡ EndsMade next inner)) ⊎ ((used < length rest) × ParseEnds g next (drop used rest) end)
  ByAnswer face rest end (model.Reparse text) = end ≡ EndsReparse text
  ByAnswer face rest end (model.Refused k) = end ≡ EndsRefused k

  by_answer : {face : F} {rest : List ℕ} {end : ParseOutcome F I} → ParseEnds g face rest end → (x : ParseAnswer F I) → g.parsed face rest ≡ x → ByAnswer face rest end x
  unfolding ByAnswer
  by_answer {face} {rest} (ends_itself e) x is = subst (λ (y : ParseAnswer F I). ByAnswer face rest EndsItself y) (sym e ∙ is) refl
  by_answer {face} {rest} (ends_reparse {text} e) x is = subst (λ (y : ParseAnswer F I). ByAnswer face rest (EndsReparse text) y) (sym e ∙ is) refl
  by_answer {face} {rest} (ends_refused {k} e) x is = subst (λ (y : ParseAnswer F I). ByAnswer face rest (EndsRefused k) y) (sym e ∙ is) refl
  by_answer {face} {rest} (ends_made {next} {inner} e all) x is = subst (λ (y : ParseAnswer F I). ByAnswer face rest (EndsMade next inner) y) (sym e ∙ is) (inl (all, refl))
  by_answer {face} {rest} (goes_on {outcome} e less onward) x is = subst (λ (y : ParseAnswer F I). ByAnswer face rest outcome y) (sym e ∙ is) (inr (less, onward))

  one_end : {face : F} {rest : List ℕ} {a : ParseOutcome F I} → ParseEnds g face rest a → (b : ParseOutcome F I) → ParseEnds g face rest b → a ≡ b
  unfolding ByAnswer
  one_end (ends_itself e) b other = sym (by_answer other model.Itself e)
  one_end (ends_reparse {text} e) b other = sym (by_answer other (model.Reparse text) e)
  one_end (ends_refused {k} e) b other = sym (by_answer other (model.Refused k) e)
  one_end {rest} (ends_made {next} {used} {inner} e all) b other = go (by_answer other (model.Front used next inner) e)
    where
      go : ((used ≡ length rest) × (b ≡ EndsMade next inner)) ⊎ ((used < length rest) × ParseEnds g next (drop used rest) b) → EndsMade next inner ≡ b
      go (inl h) = sym h.1
      go (inr h) = absurd (omega (arith, h.0, all))
  one_end {rest} {a} (goes_on {next} {used} {inner} e less onward) b other = go (by_answer other (model.Front used next inner) e) (one_end onward b)
    where
      go : ((used ≡ length rest) × (b ≡ EndsMade next inner)) ⊎ ((used < length rest) × ParseEnds g next (drop used rest) b) → (ParseEnds g next (drop used rest) b → a ≡ b) → a ≡ b
      go (inl h) later = absurd (omega (arith, h.0, less))
      go (inr h) later = later h.1

  pub runs_have_one_end : RunsHaveOneEnd g
  runs_have_one_end face rest a b first second = one_end first b second

  pub same_faces_end : SameFacesAnswerAlike g → SameFacesEndAlike g
  same_faces_end alike a b rest end same ends = go ends
    where
      go : {end : ParseOutcome F I} → ParseEnds g a rest end → ParseEnds g b rest end
      go (ends_itself e) = ends_itself (sym (alike a b rest same) ∙ e)
      go (ends_reparse e) = ends_reparse (sym (alike a b rest same) ∙ e)
      go (ends_refused e) = ends_refused (sym (alike a b rest same) ∙ e)
      go (ends_made e all) = ends_made (sym (alike a b rest same) ∙ e) all
      go (goes_on e less onward) = goes_on (sym (alike a b rest same) ∙ e) less onward

  -- ---- one answer

  pub itself_ends : (face : F) (rest : List ℕ) (x : Answered F I) → answer_of x ≡ g.parsed face rest → x ≡ answer.Itself → ParseEnds g face rest EndsItself
  itself_ends face rest x told is = ends_itself (sym told ∙ ap answer_of is)

  pub reparse_ends : (face : F) (rest : List ℕ) (x : Answered F I) (text : List ℕ) → answer_of x ≡ g.parsed face rest → x ≡ answer.Reparse text → ParseEnds g face rest (EndsReparse text)
  reparse_ends face rest x text told is = ends_reparse (sym told ∙ ap answer_of is)

  pub refused_ends : (face : F) (rest : List ℕ) (x : Answered F I) (k : ℕ) → answer_of x ≡ g.parsed face rest → x ≡ answer.Refused k → ParseEnds g face rest (EndsRefused k)
  refused_ends face rest x k told is = ends_refused (sym told ∙ ap answer_of is)

  front_told : (face : F) (rest : List ℕ) (x : Answered F I) (used : ℕ) (next : F) (inner : I)
      → answer_of x ≡ g.parsed face rest → x ≡ answer.Front used next inner → g.parsed face rest ≡ model.Front used next inner
  front_told face rest x used next inner told is = sym told ∙ ap answer_of is

  -- a front with something behind it
  pub front_goes_on : (face : F) (rest : List ℕ) (x : Answered F I) (used : ℕ) (next : F) (inner : I) → FrontIsUsed g
      → answer_of x ≡ g.parsed face rest → x ≡ answer.Front used next inner → used < length rest → GoesOn g face rest next (take (length rest - used) (drop used rest))
  front_goes_on face rest x used next inner law told is less = record {
    parses = (law face next rest used inner (front_told face rest x used next inner told is)).onward less;
    ends = λ end ends. goes_on (front_told face rest x used next inner told is) less (subst (λ (left : List ℕ). ParseEnds g next left end) (take_rest rest used) ends);
  }

  -- of a rest that isn't empty a front uses some bytes
  pub front_is_some : (face : F) (rest : List ℕ) (x : Answered F I) (used : ℕ) (next : F) (inner : I) → FrontIsUsed g
      → answer_of x ≡ g.parsed face rest → x ≡ answer.Front used next inner → used < length rest → length (take (length rest - used) (drop used rest)) < length rest
  front_is_some face rest x used next inner law told is less =
      let some : 0 < used = (law face next rest used inner (front_told face rest x used next inner told is)).some_bytes (λ empty. omega (arith, subst (λ (r : List ℕ). used < length r) empty less)) in
      subst (λ (left : List ℕ). length left < length rest) (sym (take_rest rest used)) (subst (λ (n : ℕ). n < length rest) (sym (length-drop used rest)) (omega arith))

  -- a front that uses the rest up
  pub front_ends : (face : F) (rest : List ℕ) (x : Answered F I) (used : ℕ) (next : F) (inner : I) (outcome : Outcome F I) → FrontIsUsed g
      → answer_of x ≡ g.parsed face rest → x ≡ answer.Front used next inner → length rest ≤ used → IsMadeOf outcome next inner
      → MatchOption (outcome_of outcome) (Unit {0}) (λ end. ParseEnds g face rest end)
  front_ends face rest x used next inner outcome law told is all = go (outcome_of outcome)
    where
      front : g.parsed face rest ≡ model.Front used next inner
      front = front_told face rest x used next inner told is

      up : used ≡ length rest
      up = let within : used ≤ length rest = (law face next rest used inner front).within in omega arith

      go : (o : Option (ParseOutcome F I)) → MatchOption o (Unit {0}) (λ end. end ≡ EndsMade next inner) → MatchOption o (Unit {0}) (λ end. ParseEnds g face rest end)
      go None made = tt
      go (Some end) made = subst (λ (e : ParseOutcome F I). ParseEnds g face rest e) (sym made) (ends_made front up)

  -- what is made then is idle
  pub front_idle : (Idle : I → Type 0) (face : F) (rest : List ℕ) (x : Answered F I) (used : ℕ) (next : F) (inner : I) (outcome : Outcome F I) → ParsedIsIdle g Idle
      → answer_of x ≡ g.parsed face rest → x ≡ answer.Front used next inner → IsMadeOf outcome next inner → IfMade outcome (λ _ kept. Idle kept)
  front_idle Idle face rest x used next inner outcome law told is made =
      made_has (λ _ kept. Idle kept) outcome next inner made (law face next rest used inner (front_told face rest x used next inner told is))
