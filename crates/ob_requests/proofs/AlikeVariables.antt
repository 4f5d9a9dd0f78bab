-- Alike variables after alike replies: a variable that is set gets a handle that is new in both states, one that is given up
-- named what is closed, and a child gets the variables of what it inherits.
use Rattle.std.proofs.Common.{◌≡◌, ◌∙◌, ◌⊎◌, inl, inr, ℕ, ◌*◌, ◌<◌, ◌==◌, true, false, Bool, ◌&&◌, ◌||◌, not, cond, List, [], ◌∷◌, map, filter, Option, None, Some, MatchOption, refl, ap, sym, subst, arith, eqb-true}
use Rattle.std.specs.List.{list_any}
use Rattle.std.specs.Option.{option_and_then, option_map_or}
use Rattle.std.specs.Str.{bytes_eq}
use Rattle.ob_base.specs.Handle.{key_of}
use Rattle.ob_base.specs.declared.status.Status.TheVariants.{Success, InvalidHandle, ProcessGone}
use Rattle.ob_model.specs.declared.command.Command.{Command}
use Rattle.ob_model.specs.declared.command.Command.TheVariants as command
use Rattle.ob_model.specs.declared.reply.Answer.{Answer}
use Rattle.ob_model.specs.declared.reply.Answer.TheVariants.{Done, Ticket}
use Rattle.ob_model.specs.declared.reply.Event.TheVariants.{Start}
use Rattle.ob_model.specs.declared.reply.Given.{Given}
use Rattle.ob_model.specs.declared.reply.Given.TheVariants as given
use Rattle.ob_model.specs.declared.reply.Reply.{Reply}
use Rattle.ob_model.specs.declared.state.Held.{Held}
use Rattle.ob_model.specs.State.{State, is_live, held_of}
use Rattle.ob_model.specs.Closing.{is_handle, closed_handle}
use Rattle.ob_model.specs.Grants.{IsHandleValue, IsFreeValue, first_refusal}
use Rattle.ob_model.specs.Procedures.{Procedures}
use Rattle.ob_model.specs.Processes.{values_in, ended}
use Rattle.ob_model.specs.Refusals.{answers, IsRefused}
use Rattle.ob_model.specs.Settle.{settle}
use Rattle.ob_model.specs.Sound.{IsSound}
use Rattle.ob_model.specs.Step.{Step}
use Rattle.ob_model.specs.Alike.{is_named, AreAlike, AreAlikeAnswers, AreAlikeCommands, IsHeld, LeadAlike, LeadOn, HoldOn, IsClosedBy, receiver, handle_in, process_in, unvalued_given, values_in_given}
use Rattle.ob_model.proofs.AlikeHandles.{from_one, none_is_named, somewhere_too}
use Rattle.ob_model.proofs.AlikeSteps.{steps_stay, steps_lead, step_holds}
use Rattle.ob_standard.specs.Standard.{StandardKind}
use Rattle.ob_parts.specs.declared.handle.HandleForm.{HandleForm}
use Rattle.ob_lines.specs.declared.request.Request.{Request}
use Rattle.ob_lines.specs.declared.request.Request.TheVariants.{CreateDirectory, CreateShadowed, CreateLink, CreateObject, OpenDirectory, OpenLink, OpenObject, Close, QueryLink, QueryName, QueryDirectory, Duplicate, MakeTemporary, MakePermanent, SetDeviceMap, NewProcess, ExitProcess}
use Rattle.ob_parts.specs.Parts.{offset_value}
use Rattle.ob_requests.specs.Variables.{Variables, with_number, with_own, with_number_of, with_process, with_variables, with_variable, without_variables, is_among, handed_on}
use Rattle.ob_requests.specs.Commands.{kind_meant, handle_meant, is_success, given_handle, with_child, with_page, IsCommand, variables_after}
use Rattle.ob_requests.specs.Alike.{AreAlikeValues, unset, set, AreAlikeVariables}
use Rattle.ob_requests.proofs.Alike.{offset_small, key_of_value, key_of_zero, own_key, asks_alike}
use Rattle.ob_requests.proofs.Tables.{same_bytes, own_bytes, flipped, both_same}

-- no two variables have one value but 0
abbrev AreApart : (List ℕ → ℕ) → Type 0
AreApart values = (a b : List ℕ) → values a ≡ values b → (values a ≡ 0) ⊎ (bytes_eq a b ≡ true)

not_zero : (value : ℕ) → IsHandleValue value → value ≡ 0 → ⊥
not_zero value is zero =
    let n : ℕ = is.0 in
    let four : value ≡ 4 * n = is.1 in
    let some : 0 < n = is.2 in
    absurd (omega (arith, four, some, zero))

-- where one variable of apart ones gets a number that no other has
apart_set : (values : List ℕ → ℕ) (variable : List ℕ) (value : ℕ) → AreApart values → ((w : List ℕ) → values w ≡ value → value ≡ 0) → AreApart (with_number values variable value)
apart_set values variable value apart new a b = go (bytes_eq variable a) (bytes_eq variable b) refl refl
  where
    go : (x y : Bool) → bytes_eq variable a ≡ x → bytes_eq variable b ≡ y → cond x value (values a) ≡ cond y value (values b) → (cond x value (values a) ≡ 0) ⊎ (bytes_eq a b ≡ true)
    go true true at too e = inr (own_bytes a b (sym (same_bytes variable a at) ∙ same_bytes variable b too))
    go true false at too e = inl (new b (sym e))
    go false true at too e = inl (e ∙ new a e)
    go false false at too e = apart a b e

-- the variables that are handed on of apart ones
apart_handed : (values : List ℕ → ℕ) (inherit : Bool) (handles : List ℕ) → AreApart values → AreApart (handed_on values inherit handles)
apart_handed values inherit handles apart a b = go (inherit && is_among handles (values a)) (inherit && is_among handles (values b))
  where
    go : (x y : Bool) → cond x (values a) 0 ≡ cond y (values b) 0 → (cond x (values a) 0 ≡ 0) ⊎ (bytes_eq a b ≡ true)
    go true true e = apart a b e
    go true false e = inl e
    go false y e = inl refl

-- numbers that are the same, of which those of one process, or of one of its variables, are others that are the same
own_same : (numbers others : ℕ → List ℕ → ℕ) → ((p : ℕ) (w : List ℕ) → numbers p w ≡ others p w) → (q : ℕ) (mine theirs : List ℕ → ℕ) → ((w : List ℕ) → mine w ≡ theirs w)
    → (p : ℕ) (w : List ℕ) → with_own numbers q mine p w ≡ with_own others q theirs p w
own_same numbers others same q mine theirs own p w = go (q == p)
  where
    go : (b : Bool) → cond b mine (numbers p) w ≡ cond b theirs (others p) w
    go true = own w
    go false = same p w

one_same : (numbers others : ℕ → List ℕ → ℕ) → ((p : ℕ) (w : List ℕ) → numbers p w ≡ others p w) → (q : ℕ) (variable : List ℕ) (number other : ℕ) → number ≡ other
    → (p : ℕ) (w : List ℕ) → with_number_of numbers q variable number p w ≡ with_number_of others q variable other p w
one_same numbers others same q variable number other is =
    own_same numbers others same q (with_number (numbers q) variable number) (with_number (others q) variable other) (λ w. go w (bytes_eq variable w))
  where
    go : (w : List ℕ) (b : Bool) → cond b number (numbers q w) ≡ cond b other (others q w)
    go w true = is
    go w false = same q w

-- a handle value is among those of a process where the process holds it
among_held : (n value : ℕ) (hs : List Held) → list_any (λ handle. handle == value) (map (λ h. h.value) (filter (λ h. h.process == n) hs)) ≡ list_any (is_handle n value) hs
among_held n value [] = refl
among_held n value (h ∷ hs) = go (h.process == n) (among_held n value hs)
  where
    rest : List Held
    rest = filter (λ x. x.process == n) hs

    go : (b : Bool) → list_any (λ handle. handle == value) (map (λ x. x.value) (filter (λ x. x.process == n) hs)) ≡ list_any (is_handle n value) hs
        → list_any (λ handle. handle == value) (map (λ x. x.value) (cond b (h ∷ filter (λ x. x.process == n) hs) (filter (λ x. x.process == n) hs)))
        ≡ ((b && (h.value == value)) || list_any (is_handle n value) hs)
    go true e = ap (λ x. (h.value == value) || x) e
    go false e = e

module _ {T F I : Type 0} where
  among_values : (u : State StandardKind T F I) (n value : ℕ) → IsHandleValue value → is_among (values_in u n) value ≡ list_any (is_named n value) u.handles
  among_values u n value is =
      among_held n value u.handles ∙ (λ i. list_any (λ h. option_map_or (λ key. is_handle n key h) (sym (own_key value is) i) false) u.handles)

  -- a free value is no held one
  free_unheld : (s : State StandardKind T F I) (r value : ℕ) → IsFreeValue s r value → IsHeld s r value → ⊥
  free_unheld s r value free held =
      from_one {Goal = ⊥} (is_named r value) s.handles
      (λ k d within named. let other = none_is_named r value s.handles (own_key value free.0) free.1 k d within in cc) held

  -- a close and an exit that are refused leave the state
  close_refused : (g : Procedures StandardKind T F I) (s u : State StandardKind T F I) (a : Reply) (live : Bool) (found : Option Held)
      → MatchOption (first_refusal ((not live, ProcessGone) ∷ []))
      (MatchOption found (IsRefused s InvalidHandle (Done a) u) (λ h. (Done a ≡ answers Success) × (u ≡ settle g (closed_handle g s h))))
      (λ status. IsRefused s status (Done a) u)
      → is_success a.status ≡ false → u ≡ s
  close_refused g s u a false found h failed = h.1
  close_refused g s u a true None h failed = h.1
  close_refused g s u a true (Some handle) h failed =
      let done : a.status ≡ Success = cc (h.0) in let yes : is_success a.status ≡ true = ap is_success done in cc

  exit_refused : (g : Procedures StandardKind T F I) (s u : State StandardKind T F I) (p : ℕ) (a : Reply) (live : Bool)
      → MatchOption (first_refusal ((not live, ProcessGone) ∷ [])) ((Done a ≡ answers Success) × (u ≡ settle g (ended g s p))) (λ status. IsRefused s status (Done a) u)
      → is_success a.status ≡ false → u ≡ s
  exit_refused g s u p a false h failed = h.1
  exit_refused g s u p a true h failed = let done : a.status ≡ Success = cc (h.0) in let yes : is_success a.status ≡ true = ap is_success done in cc

  -- variables of which some are set, given up or named anew
  module _ (u v : State StandardKind T F I) where
    named_alike : (variables others : Variables) (variable : List ℕ) (n m : ℕ) → n ≡ m → (s t : State StandardKind T F I) → AreAlikeVariables s t variables others
        → AreAlikeVariables s t (with_process variables variable n) (with_process others variable m)
    named_alike variables others variable n m same s t alike = record {
      processes = λ w. λ i. cond (bytes_eq variable w) (same i) (alike.processes w i);
      values = alike.values;
      contexts = alike.contexts;
      tickets = alike.tickets;
      apart = alike.apart;
      apart_too = alike.apart_too;
    }

    -- the variables whose contexts are these, and those of one process have these values
    abbrev of_process : Variables → ℕ → (List ℕ → ℕ) → (ℕ → List ℕ → ℕ) → Variables
    of_process variables q values contexts = record variables { values = with_own variables.values q values; contexts = contexts }

    variables_of_alike : (variables others : Variables) (s t : State StandardKind T F I) → AreAlikeVariables s t variables others → (q : ℕ) (mine theirs : List ℕ → ℕ) (kept held : ℕ → List ℕ → ℕ)
        → ((p : ℕ) (w : List ℕ) → kept p w ≡ held p w)
        → ((p : ℕ) (w : List ℕ) → (p ≡ q → ⊥) → AreAlikeValues u v p (variables.values p w) (others.values p w))
        → ((w : List ℕ) → AreAlikeValues u v q (mine w) (theirs w)) → AreApart mine → AreApart theirs
        → AreAlikeVariables u v (of_process variables q mine kept) (of_process others q theirs held)
    variables_of_alike variables others s t before q mine theirs kept held same_kept elsewhere here apart apart_too = record {
      processes = before.processes;
      values = λ p w. values p w (q == p) refl;
      contexts = same_kept;
      tickets = before.tickets;
      apart = λ p. apart_at variables.values mine before.apart apart p (q == p);
      apart_too = λ p. apart_at others.values theirs before.apart_too apart_too p (q == p);
    }
      where
        values : (p : ℕ) (w : List ℕ) (b : Bool) → (q == p) ≡ b → AreAlikeValues u v p (cond b mine (variables.values p) w) (cond b theirs (others.values p) w)
        values p w true e = let same : q ≡ p = eqb-true q p e in subst (λ x. AreAlikeValues u v x (mine w) (theirs w)) same (here w)
        values p w false e = elsewhere p w (λ same. let yes : (q == p) ≡ true = grind (arith, same) in cc)

        apart_at : (all : ℕ → List ℕ → ℕ) (new : List ℕ → ℕ) → ((p : ℕ) → AreApart (all p)) → AreApart new → (p : ℕ) (b : Bool) → AreApart (cond b new (all p))
        apart_at all new old apart p true = apart
        apart_at all new old apart p false = old p

  -- a value of alike ones is that of no variable or is held, in both states
  held_first : (s t : State StandardKind T F I) (p value other : ℕ) → AreAlikeValues s t p value other → (value ≡ 0) ⊎ IsHeld s p value
  held_first s t p value other (unset zero zero_too) = inl zero
  held_first s t p value other (set held lead is is_too) = inr held

  held_second : (s t : State StandardKind T F I) (p value other : ℕ) → AreAlikeValues s t p value other → (other ≡ 0) ⊎ IsHeld t p other
  held_second s t p value other (unset zero zero_too) = inl zero_too
  held_second s t p value other (set held lead is is_too) = inr (somewhere_too (is_named p value) (is_named p other) s.handles t.handles lead held)

  -- a handle that is given is none that a variable names
  given_is_new : (s : State StandardKind T F I) (r : ℕ) (thing : Given) → ((value : ℕ) → handle_in thing ≡ Some value → IsFreeValue s r value)
      → (old : ℕ) → (old ≡ 0) ⊎ IsHeld s r old → old ≡ given_handle thing → given_handle thing ≡ 0
  given_is_new s r given.Nothing free old held e = refl
  given_is_new s r (given.Handle value) free old (inl zero) e = sym e ∙ zero
  given_is_new s r (given.Handle value) free old (inr held) e = absurd (free_unheld s r value (free value refl) (subst (λ x. IsHeld s r x) e held))
  given_is_new s r (given.Text text) free old held e = refl
  given_is_new s r (given.Process process values) free old held e = refl
  given_is_new s r (given.Page entries context) free old held e = refl

  module _ (s t u v : State StandardKind T F I) (p r : ℕ) (a b : Reply) (Closed : ℕ → ℕ → Type 0) (on : LeadOn s t p r (Done a) (Done b) u v) (hold : HoldOn s Closed r (Done a) u)
      (same : unvalued_given a.given ≡ unvalued_given b.given) (variables others : Variables) (before : AreAlikeVariables s t variables others) where
    value_stays : (q value other : ℕ) → (IsHandleValue value → Closed q value → ⊥) → AreAlikeValues s t q value other → AreAlikeValues u v q value other
    value_stays q value other left (unset zero zero_too) = unset zero zero_too
    value_stays q value other left (set held lead is is_too) = set (hold.stays q value held (left is)) (on.held q value other held lead) is is_too

    -- where nothing is closed, variables that don't change stay alike
    variables_stay : ((q value : ℕ) → Closed q value → ⊥) → AreAlikeVariables u v variables others
    variables_stay left = record {
      processes = before.processes;
      contexts = before.contexts;
      tickets = before.tickets;
      values = λ q w. value_stays q (variables.values q w) (others.values q w) (λ is. left q (variables.values q w)) (before.values q w);
      apart = before.apart;
      apart_too = before.apart_too;
    }

    given_alike : (thing other : Given) → unvalued_given thing ≡ unvalued_given other
        → ((value second : ℕ) → handle_in thing ≡ Some value → handle_in other ≡ Some second → LeadAlike u v r value second)
        → ((value : ℕ) → handle_in thing ≡ Some value → IsFreeValue s r value × IsHeld u r value) → ((value : ℕ) → handle_in other ≡ Some value → IsFreeValue t r value)
        → AreAlikeValues u v r (given_handle thing) (given_handle other)
    given_alike (given.Handle value) (given.Handle second) e lead first then =
        set ((first value refl).1) (lead value second refl refl) ((first value refl).0.0) ((then second refl).0)
    given_alike given.Nothing given.Nothing e lead first then = unset refl refl
    given_alike (given.Text text) (given.Text other) e lead first then = unset refl refl
    given_alike (given.Process n values) (given.Process m others) e lead first then = unset refl refl
    given_alike (given.Page entries context) (given.Page others second) e lead first then = unset refl refl
    given_alike thing other e lead first then = cc

    -- a variable is set to what is given
    pub sets : (Later : ℕ → ℕ → Type 0) → HoldOn t Later r (Done b) v → ((q value : ℕ) → Closed q value → ⊥) → (variable : List ℕ)
        → AreAlikeVariables u v (with_variable variables r variable (given_handle a.given)) (with_variable others r variable (given_handle b.given))
    sets Later second left variable =
        variables_of_alike u v variables others s t before r (with_number (variables.values r) variable (given_handle a.given)) (with_number (others.values r) variable (given_handle b.given))
        (with_number_of variables.contexts r variable 0) (with_number_of others.contexts r variable 0) (one_same variables.contexts others.contexts before.contexts r variable 0 0 refl)
        (λ q w elsewhere. value_stays q (variables.values q w) (others.values q w) (λ is. left q (variables.values q w)) (before.values q w))
        (λ w. here w (bytes_eq variable w))
        (apart_set (variables.values r) variable (given_handle a.given) (before.apart r)
        (λ w e. given_is_new s r a.given (λ value e. (hold.given value e).0) (variables.values r w) (held_first s t r (variables.values r w) (others.values r w) (before.values r w)) e))
        (apart_set (others.values r) variable (given_handle b.given) (before.apart_too r)
        (λ w e. given_is_new t r b.given (λ value e. (second.given value e).0) (others.values r w) (held_second s t r (variables.values r w) (others.values r w) (before.values r w)) e))
      where
        here : (w : List ℕ) (x : Bool) → AreAlikeValues u v r (cond x (given_handle a.given) (variables.values r w)) (cond x (given_handle b.given) (others.values r w))
        here w true = given_alike a.given b.given same on.granted hold.given (λ value e. (second.given value e).0)
        here w false = value_stays r (variables.values r w) (others.values r w) (λ is. left r (variables.values r w)) (before.values r w)

    -- a variable is given up, where what it names is closed alone
    gives_up : (handle : HandleForm (List ℕ)) → ((q value : ℕ) → Closed q value → (q ≡ p) × (key_of value ≡ key_of (handle_meant handle (variables.values p))))
        → AreAlikeVariables u v (with_variable variables p handle.variable 0) (with_variable others p handle.variable 0)
    gives_up handle only =
        variables_of_alike u v variables others s t before p (with_number (variables.values p) handle.variable 0) (with_number (others.values p) handle.variable 0)
        (with_number_of variables.contexts p handle.variable 0) (with_number_of others.contexts p handle.variable 0) (one_same variables.contexts others.contexts before.contexts p handle.variable 0 0 refl)
        (λ q w elsewhere. value_stays q (variables.values q w) (others.values q w) (λ is closed. elsewhere (only q (variables.values q w) closed).0) (before.values q w))
        (λ w. here w (bytes_eq handle.variable w) refl)
        (apart_set (variables.values p) handle.variable 0 (before.apart p) (λ w e. refl)) (apart_set (others.values p) handle.variable 0 (before.apart_too p) (λ w e. refl))
      where
        other_variable : (w : List ℕ) → bytes_eq handle.variable w ≡ false → IsHandleValue (variables.values p w) → key_of (variables.values p w) ≡ key_of (handle_meant handle (variables.values p)) → ⊥
        other_variable w differs is key = go (before.values p handle.variable)
          where
            own : key_of (variables.values p w) ≡ Some (variables.values p w)
            own = own_key (variables.values p w) is

            go : AreAlikeValues s t p (variables.values p handle.variable) (others.values p handle.variable) → ⊥
            go (unset zero zero_too) =
                let none : key_of (handle_meant handle (variables.values p)) ≡ None =
                key_of_zero (variables.values p handle.variable) (offset_value handle.offset) zero (offset_small handle.offset) in cc own
            go (set held lead named named_too) =
                let some : key_of (handle_meant handle (variables.values p)) ≡ Some (variables.values p handle.variable) =
                key_of_value (variables.values p handle.variable) (offset_value handle.offset) named (offset_small handle.offset) in
                let one : variables.values p w ≡ variables.values p handle.variable = cc own in
                elim (before.apart p w handle.variable one) as (λ x. ⊥) [
                  | inl zero ↦ not_zero (variables.values p w) is zero
                  | inr one_variable ↦ let turned : bytes_eq w handle.variable ≡ bytes_eq handle.variable w = flipped w handle.variable in cc
                ]

        here : (w : List ℕ) (x : Bool) → bytes_eq handle.variable w ≡ x → AreAlikeValues u v p (cond x 0 (variables.values p w)) (cond x 0 (others.values p w))
        here w true e = unset refl refl
        here w false e =
            value_stays p (variables.values p w) (others.values p w) (λ is closed. other_variable w e is (only p (variables.values p w) closed).1) (before.values p w)

    -- all variables of the process are given up, where what it holds is closed alone
    gives_all_up : ((q value : ℕ) → Closed q value → q ≡ p) → AreAlikeVariables u v (without_variables variables p) (without_variables others p)
    gives_all_up only =
        variables_of_alike u v variables others s t before p (λ w. 0) (λ w. 0) (with_own variables.contexts p (λ w. 0)) (with_own others.contexts p (λ w. 0))
        (own_same variables.contexts others.contexts before.contexts p (λ w. 0) (λ w. 0) (λ w. refl))
        (λ q w elsewhere. value_stays q (variables.values q w) (others.values q w) (λ is closed. elsewhere (only q (variables.values q w) closed)) (before.values q w))
        (λ w. unset refl refl) (λ w z e. inl refl) (λ w z e. inl refl)

    -- the context of a page is kept
    turns : AreAlikeVariables u v variables others → (variable : List ℕ) (thing other : Given) → unvalued_given thing ≡ unvalued_given other
        → AreAlikeVariables u v (with_page variables p variable thing) (with_page others p variable other)
    turns after variable given.Nothing given.Nothing e = after
    turns after variable (given.Handle value) (given.Handle second) e = after
    turns after variable (given.Text text) (given.Text second) e = after
    turns after variable (given.Process n values) (given.Process m seconds) e = after
    turns after variable (given.Page entries context) (given.Page others' second) e = record {
      processes = after.processes;
      values = after.values;
      contexts = one_same variables.contexts others.contexts after.contexts p variable context second (let same_context : context ≡ second = cc in same_context);
      tickets = after.tickets;
      apart = after.apart;
      apart_too = after.apart_too;
    }
    turns after variable thing other e = cc

    -- a child gets the variables of what it inherits
    handed_alike : (n value other : ℕ) (inherit : Bool) (values others' : List ℕ) → (LeadAlike s t p value other → LeadAlike u v n value other) → values ≡ values_in u n → others' ≡ values_in v n
        → AreAlikeValues s t p value other → AreAlikeValues u v n (cond (inherit && is_among values value) value 0) (cond (inherit && is_among others' other) other 0)
    handed_alike n value other inherit values others' inherited told told_too (unset zero zero_too) =
        unset (either (inherit && is_among values value) value zero) (either (inherit && is_among others' other) other zero_too)
      where
        either : (x : Bool) (y : ℕ) → y ≡ 0 → cond x y 0 ≡ 0
        either true y e = e
        either false y e = refl
    handed_alike n value other inherit values others' inherited told told_too (set held lead is is_too) =
        go inherit (is_among values value) (is_among others' other) (first ∙ both ∙ sym second) (λ e. sym first ∙ e)
      where
        later : LeadAlike u v n value other
        later = inherited lead

        first : is_among values value ≡ list_any (is_named n value) u.handles
        first = ap (λ x. is_among x value) told ∙ among_values u n value is

        second : is_among others' other ≡ list_any (is_named n other) v.handles
        second = ap (λ x. is_among x other) told_too ∙ among_values v n other is_too

        both : list_any (is_named n value) u.handles ≡ list_any (is_named n other) v.handles
        both =
            both_same (list_any (is_named n value) u.handles) (list_any (is_named n other) v.handles)
            (somewhere_too (is_named n value) (is_named n other) u.handles v.handles later)
            (somewhere_too (is_named n other) (is_named n value) v.handles u.handles (sym later))

        go : (x y z : Bool) → y ≡ z → (y ≡ true → IsHeld u n value) → AreAlikeValues u v n (cond (x && y) value 0) (cond (x && z) other 0)
        go false y z e found = unset refl refl
        go true false false e found = unset refl refl
        go true true true e found = set (found refl) later is is_too
        go true true false e found = cc
        go true false true e found = cc

    begins : ((q value : ℕ) → Closed q value → ⊥) → (variable : List ℕ) (inherit : Bool) (thing other : Given) → unvalued_given thing ≡ unvalued_given other
        → ((child value second : ℕ) → process_in thing ≡ Some child → LeadAlike s t p value second → LeadAlike u v child value second)
        → ((child : ℕ) → process_in thing ≡ Some child → values_in_given thing ≡ values_in u child)
        → ((child : ℕ) → process_in other ≡ Some child → values_in_given other ≡ values_in v child)
        → AreAlikeVariables u v (with_child variables p variable inherit thing) (with_child others p variable inherit other)
    begins left variable inherit (given.Process n values) (given.Process m seconds) e inherited told told_too =
        let one : n ≡ m = cc in
        let theirs : List ℕ → ℕ = handed_on (others.values p) inherit seconds in
        subst (λ x. AreAlikeVariables u v (with_variables (with_process variables variable n) n (handed_on (variables.values p) inherit values)) (with_variables (with_process others variable m) x theirs)) one
        (variables_of_alike u v (with_process variables variable n) (with_process others variable m) s t (named_alike u v variables others variable n m one s t before) n
        (handed_on (variables.values p) inherit values) theirs (with_own variables.contexts n (λ w. 0)) (with_own others.contexts n (λ w. 0))
        (own_same variables.contexts others.contexts before.contexts n (λ w. 0) (λ w. 0) (λ w. refl))
        (λ q w elsewhere. value_stays q (variables.values q w) (others.values q w) (λ is. left q (variables.values q w)) (before.values q w))
        (λ w.
        handed_alike n (variables.values p w) (others.values p w) inherit values seconds (λ lead. inherited n (variables.values p w) (others.values p w) refl lead)
        (told n refl) (told_too m refl ∙ ap (values_in v) (sym one)) (before.values p w))
        (apart_handed (variables.values p) inherit values (before.apart p)) (apart_handed (others.values p) inherit seconds (before.apart_too p)))
    begins left variable inherit given.Nothing given.Nothing e inherited told told_too = named_alike u v variables others variable 0 0 refl u v (variables_stay left)
    begins left variable inherit (given.Handle value) (given.Handle second) e inherited told told_too = named_alike u v variables others variable 0 0 refl u v (variables_stay left)
    begins left variable inherit (given.Text text) (given.Text second) e inherited told told_too = named_alike u v variables others variable 0 0 refl u v (variables_stay left)
    begins left variable inherit (given.Page entries context) (given.Page others' second) e inherited told told_too = named_alike u v variables others variable 0 0 refl u v (variables_stay left)
    begins left variable inherit thing other e inherited told told_too = cc

module _ {T F I : Type 0} (g : Procedures StandardKind T F I) (s t u v : State StandardKind T F I) (p : ℕ) (a b : Reply) (variables others : Variables) (before : AreAlikeVariables s t variables others) where
  -- what is known of the commands of both: who gets a handle, and what is closed
  idle : (c k : Command StandardKind) → c ≡ k → ((q value : ℕ) → IsClosedBy p k q value → ⊥) → (q value : ℕ) → IsClosedBy p c q value → ⊥
  idle c k is none q value closed = none q value (subst (λ x. IsClosedBy p x q value) is closed)

  module _ (c d : Command StandardKind) (on : LeadOn s t p (receiver p c) (Done a) (Done b) u v) (hold : HoldOn s (IsClosedBy p c) (receiver p c) (Done a) u)
      (hold_too : HoldOn t (IsClosedBy p d) (receiver p d) (Done b) v) (status : a.status ≡ b.status) (same : unvalued_given a.given ≡ unvalued_given b.given) where
    sets_for : (r : ℕ) (k : Command StandardKind) → c ≡ k → receiver p c ≡ r → receiver p d ≡ r → ((q value : ℕ) → IsClosedBy p k q value → ⊥) → (variable : List ℕ)
        → AreAlikeVariables u v (with_variable variables r variable (given_handle a.given)) (with_variable others r variable (given_handle b.given))
    sets_for r k is one two none variable =
        sets s t u v p r a b (IsClosedBy p c) (subst (λ x. LeadOn s t p x (Done a) (Done b) u v) one on) (subst (λ x. HoldOn s (IsClosedBy p c) x (Done a) u) one hold) same variables others before
        (IsClosedBy p d) (subst (λ x. HoldOn t (IsClosedBy p d) x (Done b) v) two hold_too) (idle c k is none) variable

    nothing : (k : Command StandardKind) → c ≡ k → ((q value : ℕ) → IsClosedBy p k q value → ⊥) → AreAlikeVariables u v variables others
    nothing k is none = variables_stay s t u v p (receiver p c) a b (IsClosedBy p c) on hold same variables others before (idle c k is none)

    refused : u ≡ s → v ≡ t → AreAlikeVariables u v variables others
    refused first second = subst (λ x. AreAlikeVariables x v variables others) (sym first) (subst (λ x. AreAlikeVariables s x variables others) (sym second) before)

    closes : (handle : HandleForm (List ℕ)) → c ≡ command.Close (handle_meant handle (variables.values p)) → d ≡ command.Close (handle_meant handle (others.values p))
        → Step g s (Start p c) (Done a) u → Step g t (Start p d) (Done b) v
        → AreAlikeVariables u v (variables_after (Close handle) p a variables) (variables_after (Close handle) p b others)
    closes handle c_is d_is h k = go (is_success a.status) (is_success b.status) (ap is_success status) refl
      where
        here : Step g s (Start p (command.Close (handle_meant handle (variables.values p)))) (Done a) u
        here = subst (λ x. Step g s (Start p x) (Done a) u) c_is h

        there : Step g t (Start p (command.Close (handle_meant handle (others.values p)))) (Done b) v
        there = subst (λ x. Step g t (Start p x) (Done b) v) d_is k

        go : (x y : Bool) → x ≡ y → is_success a.status ≡ x → AreAlikeVariables u v (cond x (with_variable variables p handle.variable 0) variables) (cond y (with_variable others p handle.variable 0) others)
        go true true e passed =
            gives_up s t u v p (receiver p c) a b (IsClosedBy p c) on hold same variables others before handle (λ q value closed. subst (λ x. IsClosedBy p x q value) c_is closed)
        go false false e failed =
            refused
            (close_refused g s u a (is_live s p) (option_and_then (held_of s p) (key_of (handle_meant handle (variables.values p)))) here failed)
            (close_refused g t v b (is_live t p) (option_and_then (held_of t p) (key_of (handle_meant handle (others.values p)))) there (ap is_success (sym status) ∙ failed))
        go true false e passed = cc
        go false true e passed = cc

    exits : c ≡ command.ExitProcess → d ≡ command.ExitProcess → Step g s (Start p c) (Done a) u → Step g t (Start p d) (Done b) v
        → AreAlikeVariables u v (variables_after ExitProcess p a variables) (variables_after ExitProcess p b others)
    exits c_is d_is h k = go (is_success a.status) (is_success b.status) (ap is_success status) refl
      where
        here : Step g s (Start p command.ExitProcess) (Done a) u
        here = subst (λ x. Step g s (Start p x) (Done a) u) c_is h

        there : Step g t (Start p command.ExitProcess) (Done b) v
        there = subst (λ x. Step g t (Start p x) (Done b) v) d_is k

        go : (x y : Bool) → x ≡ y → is_success a.status ≡ x → AreAlikeVariables u v (cond x (without_variables variables p) variables) (cond y (without_variables others p) others)
        go true true e passed =
            gives_all_up s t u v p (receiver p c) a b (IsClosedBy p c) on hold same variables others before (λ q value closed. subst (λ x. IsClosedBy p x q value) c_is closed)
        go false false e failed =
            refused (exit_refused g s u p a (is_live s p) here failed) (exit_refused g t v p b (is_live t p) there (ap is_success (sym status) ∙ failed))
        go true false e passed = cc
        go false true e passed = cc

    done : (request : Request (List ℕ)) → IsCommand request variables p c → IsCommand request others p d → Step g s (Start p c) (Done a) u → Step g t (Start p d) (Done b) v
        → AreAlikeVariables u v (variables_after request p a variables) (variables_after request p b others)
    done (CreateDirectory form attrs variable) f e h k = sets_for p (command.CreateDirectory f.0 attrs) f.2 (ap (receiver p) f.2) (ap (receiver p) e.2) (λ q value closed. closed) variable
    done (CreateShadowed shadow form attrs variable) f e h k =
        sets_for p (command.CreateShadowed f.0 attrs (handle_meant shadow (variables.values p))) f.2 (ap (receiver p) f.2) (ap (receiver p) e.2) (λ q value closed. closed) variable
    done (CreateLink form attrs target variable) f e h k = sets_for p (command.CreateLink f.0 attrs f.1) f.4 (ap (receiver p) f.4) (ap (receiver p) e.4) (λ q value closed. closed) variable
    done (CreateObject kind form attrs args variable) f e h k = sets_for p (command.CreateObject f.0 attrs (kind_meant kind) f.1) f.4 (ap (receiver p) f.4) (ap (receiver p) e.4) (λ q value closed. closed) variable
    done (OpenDirectory name attrs variable) f e h k = sets_for p _ f.2 (ap (receiver p) f.2) (ap (receiver p) e.2) (λ q value closed. closed) variable
    done (OpenLink name attrs variable) f e h k = sets_for p _ f.2 (ap (receiver p) f.2) (ap (receiver p) e.2) (λ q value closed. closed) variable
    done (OpenObject want name attrs variable) f e h k = sets_for p _ f.2 (ap (receiver p) f.2) (ap (receiver p) e.2) (λ q value closed. closed) variable
    done (Close handle) f e h k = closes handle f e h k
    done (QueryLink handle) f e h k = nothing _ f (λ q value closed. closed)
    done (QueryName handle) f e h k = nothing _ f (λ q value closed. closed)
    done (QueryDirectory handle room mode) f e h k =
        turns s t u v p (receiver p c) a b (IsClosedBy p c) on hold same variables others before (nothing _ f (λ q value closed. closed)) handle.variable a.given b.given same
    done (Duplicate handle to inherit variable) f e h k =
        subst (λ n. AreAlikeVariables u v (with_variable variables (variables.processes to) variable (given_handle a.given)) (with_variable others n variable (given_handle b.given))) (before.processes to)
        (sets_for (variables.processes to) _ f (ap (receiver p) f) (ap (receiver p) e ∙ sym (before.processes to)) (λ q value closed. closed) variable)
    done (MakeTemporary handle) f e h k = nothing _ f (λ q value closed. closed)
    done (MakePermanent handle) f e h k = nothing _ f (λ q value closed. closed)
    done (SetDeviceMap handle) f e h k = nothing _ f (λ q value closed. closed)
    done (NewProcess inherit child) f e h k =
        begins s t u v p (receiver p c) a b (IsClosedBy p c) on hold same variables others before
        (idle c (command.NewProcess inherit) f (λ q value closed. closed)) child inherit a.given b.given same on.inherited hold.told hold_too.told
    done ExitProcess f e h k = exits f e h k

-- alike answers have one status, and give the same but for values: the reply of an answer, or another one
reply_in : Reply → Answer → Reply
reply_in other (Done reply) = reply
reply_in other (Ticket number) = other

pub replies_alike : (a b : Reply) → AreAlikeAnswers (Done a) (Done b) → (a.status ≡ b.status) × (unvalued_given a.given ≡ unvalued_given b.given)
unfolding reply_in
replies_alike a b same = (ap (λ x. (reply_in a x).status) same, ap (λ x. (reply_in a x).given) same)

pub variables_stay_alike : {T F I : Type 0} (g : Procedures StandardKind T F I) (s t u v : State StandardKind T F I) (p : ℕ) (request : Request (List ℕ)) (variables others : Variables)
    (c d : Command StandardKind) (a b : Reply)
    → IsSound s → IsSound t → AreAlike s t → AreAlikeVariables s t variables others → IsCommand request variables p c → IsCommand request others p d
    → Step g s (Start p c) (Done a) u → Step g t (Start p d) (Done b) v → AreAlikeVariables u v (variables_after request p a variables) (variables_after request p b others)
variables_stay_alike g s t u v p request variables others c d a b s_sound t_sound alike before f e h k =
    let same : AreAlikeCommands s t p c d = asks_alike s t p request variables others c d alike before f e in
    let both : AreAlikeAnswers (Done a) (Done b) = (steps_stay g s t p c d (Done a) (Done b) u v s_sound t_sound alike same h k).0 in
    done g s t u v p a b variables others before c d (steps_lead g s t p c d (Done a) (Done b) u v s_sound t_sound alike same h k)
    (step_holds g s p c (Done a) u s_sound h) (step_holds g t p d (Done b) v t_sound k) (replies_alike a b both).0 (replies_alike a b both).1 request f e h k
