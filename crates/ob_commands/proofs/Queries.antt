-- A query of an object's path: what its rows say is what the whole state says, and how that is answered.
use Rattle.std.proofs.Common.{◌≡◌, ℕ, ◌<◌, ◌≤◌, Bool, true, not, cond, List, [], ◌∷◌, length, refl, ap, ◌∙◌, sym, subst, inl, inr}
use Rattle.std.specs.Prelude.{Option, Some, None, MatchOption}
use Rattle.std.specs.Option.{option_and_then}
use Rattle.std.proofs.lemmas.Bool.{lt-ltb, le-ltb}
use Rattle.ob_base.specs.declared.status.Status.TheVariants.{Success, ObjectTypeMismatch, NameTooLong, InvalidHandle, ProcessGone}
use Rattle.ob_base.specs.Handle.{key_of}
use Rattle.ob_model.specs.declared.reply.Answer.{Answer}
use Rattle.ob_model.specs.declared.reply.Given.TheVariants.{Text}
use Rattle.ob_model.specs.declared.state.Held.{Held}
use Rattle.ob_model.specs.declared.state.Row.{Row}
use Rattle.ob_model.specs.Names.{longest_name}
use Rattle.ob_model.specs.State.{State, is_live, held_of, body_of}
use Rattle.ob_model.specs.Naming.{IsWayUp, path_text, path_answer, TellsName, target_of, TellsTarget}
use Rattle.ob_model.specs.Refusals.{answers, gives, IsRefused, Unless}
use Rattle.ob_model.specs.Step.{QueriesName, QueriesLink}
use Rattle.ob_space.specs.Namespace.{rows_alone}

-- what is told of an option, where it is none and where it has a value
pub at_none : {X : Type 0} (o : Option X) (P : Type 0) (Q : X → Type 0) → o ≡ None → MatchOption o P Q → P
at_none o P Q e h = subst (λ (y : Option _). MatchOption y P Q) e h

pub at_some : {X : Type 0} (o : Option X) (P : Type 0) (Q : X → Type 0) (x : X) → o ≡ Some x → MatchOption o P Q → Q x
at_some o P Q x e h = subst (λ (y : Option _). MatchOption y P Q) e h

-- a way up by the rows of a state alone is one in the state
IsWayUp-whole : {K T F I : Type 0} (s : State K T F I) (o : ℕ) (names : List (List ℕ)) → IsWayUp (rows_alone s.rows) o names → IsWayUp s o names
IsWayUp-whole s o [] way = way
IsWayUp-whole s o (c ∷ cs) way = (way.0, (way.1.0, way.1.1, way.1.2, IsWayUp-whole s way.1.0.directory cs way.1.3))

-- and one in the state is one by its rows alone
IsWayUp-rows : {K T F I : Type 0} (s : State K T F I) (o : ℕ) (names : List (List ℕ)) → IsWayUp s o names → IsWayUp (rows_alone s.rows) o names
IsWayUp-rows s o [] way = way
IsWayUp-rows s o (c ∷ cs) way = (way.0, (way.1.0, way.1.1, way.1.2, IsWayUp-rows s way.1.0.directory cs way.1.3))

-- the answer of a path that is too long, and of one that isn't
pub answer_long : (text : List ℕ) → longest_name < length text → path_answer text ≡ answers NameTooLong
answer_long text long = ap (λ (b : Bool). cond b (answers NameTooLong) (gives Success (Text text))) (lt-ltb longest_name (length text) long)

pub answer_short : (text : List ℕ) → length text ≤ longest_name → path_answer text ≡ gives Success (Text text)
answer_short text short = ap (λ (b : Bool). cond b (answers NameTooLong) (gives Success (Text text))) (le-ltb longest_name (length text) short)

module _ {K T F I : Type 0} (s : State K T F I) where
  -- the path that the rows of the state say is told
  pub tells_path : (rows : List Row) (o : ℕ) (names : List (List ℕ)) (text : List ℕ) (answer : Answer) → rows ≡ s.rows → IsWayUp (rows_alone rows) o names
      → text ≡ path_text names → answer ≡ path_answer text → TellsName s o answer
  tells_path rows o names text answer same way is told =
      inl (names, IsWayUp-whole s o names (subst (λ (rs : List Row). IsWayUp (rows_alone rs) o names) same way), told ∙ ap path_answer is)

  -- the empty text is told where they say none
  pub tells_none : (rows : List Row) (o : ℕ) (answer : Answer) → rows ≡ s.rows → ((names : List (List ℕ)) → IsWayUp (rows_alone rows) o names → ⊥)
      → answer ≡ gives Success (Text []) → TellsName s o answer
  tells_none rows o answer same none told =
      inr (λ names way. none names (subst (λ (rs : List Row). IsWayUp (rows_alone rs) o names) (sym same) (IsWayUp-rows s o names way)), told)

  -- a live process asks for the path of the object of a handle that it has
  pub queries : (p handle : ℕ) (answer : Answer) (held : Held) → is_live s p ≡ true
      → Some held ≡ option_and_then (held_of s p) (key_of handle) → TellsName s held.object answer → QueriesName s p handle answer s
  queries p handle answer held live found told =
      let Does = λ (h : Held). TellsName s h.object answer × (s ≡ s) in
      let Taken = MatchOption (option_and_then (held_of s p) (key_of handle)) (IsRefused s InvalidHandle answer s) Does in
      subst (λ (b : Bool). Unless ((not b, ProcessGone) ∷ []) s answer s Taken) (sym live)
      (subst (λ (o : Option Held). MatchOption o (IsRefused s InvalidHandle answer s) Does) found (told, refl))

  -- a live process asks for the target of the object of a handle that it has
  pub queries_link : (p handle : ℕ) (answer : Answer) (held : Held) → is_live s p ≡ true
      → Some held ≡ option_and_then (held_of s p) (key_of handle) → TellsTarget s held.object answer → QueriesLink s p handle answer s
  queries_link p handle answer held live found told =
      let Does = λ (h : Held). TellsTarget s h.object answer × (s ≡ s) in
      let Taken = MatchOption (option_and_then (held_of s p) (key_of handle)) (IsRefused s InvalidHandle answer s) Does in
      subst (λ (b : Bool). Unless ((not b, ProcessGone) ∷ []) s answer s Taken) (sym live)
      (subst (λ (o : Option Held). MatchOption o (IsRefused s InvalidHandle answer s) Does) found (told, refl))

  -- the target of a link that has one is told, and else the type is another
  pub tells_target : (o : ℕ) (answer : Answer) (target : Option (List ℕ)) → option_and_then target_of (body_of s o) ≡ target
      → MatchOption target (answer ≡ answers ObjectTypeMismatch) (λ text. answer ≡ gives Success (Text text)) → TellsTarget s o answer
  tells_target o answer target is told = subst (λ (t : Option (List ℕ)). MatchOption t (answer ≡ answers ObjectTypeMismatch) (λ text. answer ≡ gives Success (Text text))) (sym is) told
