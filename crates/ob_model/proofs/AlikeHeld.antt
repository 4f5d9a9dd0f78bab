-- What is held after a step: all that was, but for what is closed, and what is given.
use Rattle.std.proofs.Common.{◌≡◌, ◌∙◌, ℕ, ◌+◌, ◌==◌, Bool, true, false, ◌&&◌, ◌||◌, not, cond, List, [], ◌∷◌, ◌++◌, filter, get_or, Option, None, Some, All, refl, ap, sym, subst}
use Rattle.std.specs.List.{list_any}
use Rattle.std.specs.Option.{option_map_or}
use Rattle.std.proofs.lemmas.List.Elements.{All-head, All-tail, filter_passes}
use Rattle.std.proofs.Common.{eqb-true}
use Rattle.ob_base.specs.Handle.{key_of}
use Rattle.ob_model.specs.declared.reply.Answer.{Answer}
use Rattle.ob_model.specs.declared.state.Held.{Held}
use Rattle.ob_model.specs.State.{State}
use Rattle.ob_model.specs.declared.terms.Reason.TheVariants.{Inherited}
use Rattle.ob_model.specs.Procedures.{Procedures}
use Rattle.ob_model.specs.Grants.{IsFreeValue, open_refusal, with_open, with_handle}
use Rattle.ob_model.specs.Closing.{is_handle, closed_handle}
use Rattle.ob_model.specs.Processes.{handles_in, inherited_from, with_child, inherits_one, inherits, begun, closed_in_turn, ended}
use Rattle.ob_model.specs.Alike.{is_named, handle_given, process_given, IsHeld, HoldOn}
use Rattle.ob_model.proofs.AlikeHandles.{named_owner, own_key, new_is_named}

-- a test that passes somewhere does so in a longer list, and at its end
pub any_front : (f : Held → Bool) (hs is : List Held) → list_any f hs ≡ true → list_any f (hs ++ is) ≡ true
any_front f [] is some = cc
any_front f (h ∷ hs) is some = go (f h) some (any_front f hs is)
  where
    go : (b : Bool) → (b || list_any f hs) ≡ true → (list_any f hs ≡ true → list_any f (hs ++ is) ≡ true) → (b || list_any f (hs ++ is)) ≡ true
    go true some rest = refl
    go false some rest = rest some

any_last : (f : Held → Bool) (hs : List Held) (h : Held) → f h ≡ true → list_any f (hs ++ h ∷ []) ≡ true
any_last f [] h e = ap (λ b. b || false) e
any_last f (x ∷ hs) h e = go (f x) (any_last f hs h e)
  where
    go : (b : Bool) → list_any f (hs ++ h ∷ []) ≡ true → (b || list_any f (hs ++ h ∷ [])) ≡ true
    go true rest = refl
    go false rest = rest

-- where one passes it and is kept, one is left that passes
any_kept : (kept f : Held → Bool) (hs : List Held) → All (λ h. f h ≡ true → kept h ≡ true) hs → list_any f hs ≡ true → list_any f (filter kept hs) ≡ true
any_kept kept f [] each some = some
any_kept kept f (h ∷ hs) each some =
    go (kept h) (f h) (All-head (λ x. f x ≡ true → kept x ≡ true) h hs each) refl some (any_kept kept f hs (All-tail (λ x. f x ≡ true → kept x ≡ true) h hs each))
  where
    go : (k b : Bool) → (b ≡ true → k ≡ true) → f h ≡ b → (b || list_any f hs) ≡ true → (list_any f hs ≡ true → list_any f (filter kept hs) ≡ true)
        → list_any f (cond k (h ∷ filter kept hs) (filter kept hs)) ≡ true
    go true true keeps is some rest = ap (λ b. b || list_any f (filter kept hs)) is
    go true false keeps is some rest = ap (λ b. b || list_any f (filter kept hs)) is ∙ rest some
    go false true keeps is some rest = let bad : false ≡ true = keeps refl in cc
    go false false keeps is some rest = rest some

-- two values by which processes name one handle
pub named_twice : (p value q other : ℕ) (h : Held) → is_named p value h ≡ true → is_named q other h ≡ true → (q ≡ p) × (key_of other ≡ key_of value)
named_twice p value q other h one two = (sym (named_owner q other h two) ∙ named_owner p value h one, sym (key q other two) ∙ key p value one)
  where
    second : (a b : Bool) → (a && b) ≡ true → b ≡ true
    second true b e = e
    second false b e = cc

    key : (p value : ℕ) → is_named p value h ≡ true → Some h.value ≡ key_of value
    key p value e = go (key_of value) e
      where
        go : (o : Option ℕ) → option_map_or (λ key. is_handle p key h) o false ≡ true → Some h.value ≡ o
        go None e = cc
        go (Some key) e = ap (λ n. Some n) (eqb-true h.value key (second (h.process == p) (h.value == key) e))

module _ {K T F I : Type 0} where
  pub hold_on_with_nothing : (s : State K T F I) (IsClosed : ℕ → ℕ → Type 0) (r : ℕ) (a : Answer) (u : State K T F I) → handle_given a ≡ None → process_given a ≡ None
      → ((p value : ℕ) → IsHeld s p value → (IsClosed p value → ⊥) → IsHeld u p value) → HoldOn s IsClosed r a u
  hold_on_with_nothing s IsClosed r a u no_handle no_process stays = record {
    stays = stays;
    given = λ value given. let both : None ≡ Some value = sym no_handle ∙ given in cc;
    told = λ child given. let both : None ≡ Some child = sym no_process ∙ given in cc;
  }

  pub hold_on_with_handle : (s : State K T F I) (IsClosed : ℕ → ℕ → Type 0) (r : ℕ) (a : Answer) (u : State K T F I) (value : ℕ) (new : Held)
      → handle_given a ≡ Some value → process_given a ≡ None → IsFreeValue s r value → new.process ≡ r → new.value ≡ value → u.handles ≡ s.handles ++ new ∷ [] → HoldOn s IsClosed r a u
  hold_on_with_handle s IsClosed r a u value new given no_process free owner is u_is = record {
    stays = λ p x held left. ap (list_any (is_named p x)) u_is ∙ any_front (is_named p x) s.handles (new ∷ []) held;
    given = λ x gives.
        let same : value ≡ x = cc in
        subst (λ (n : ℕ). IsFreeValue s r n × IsHeld u r n) same
        (free, ap (list_any (is_named r value)) u_is ∙ any_last (is_named r value) s.handles new (new_is_named r value s.handles new owner is (own_key value free.0)));
    told = λ child gives. let both : None ≡ Some child = sym no_process ∙ gives in cc;
  }

  -- a handle that is closed is the only one that goes
  pub closed_held : (g : Procedures K T F I) (s : State K T F I) (f : Held → Bool) (h : Held) → ((x : Held) → is_handle h.process h.value x ≡ f x)
      → (p value : ℕ) → ((x : Held) → f x ≡ true → is_named p value x ≡ true → ⊥) → IsHeld s p value → IsHeld (closed_handle g s h) p value
  closed_held g s f h is p value apart held =
      any_kept (λ x. not (is_handle h.process h.value x)) (is_named p value) s.handles
      (λ k d within named. go (get_or s.handles k d) (is_handle h.process h.value (get_or s.handles k d)) refl named) held
    where
      go : (x : Held) (b : Bool) → is_handle h.process h.value x ≡ b → is_named p value x ≡ true → not b ≡ true
      go x true e named = absurd (apart x (sym (is x) ∙ e) named)
      go x false e named = refl

  -- a child that begins takes none away
  inherits_held : (g : Procedures K T F I) (child p value : ℕ) (hs : List Held) (s : State K T F I) → IsHeld s p value → IsHeld (inherits g s child hs) p value
  inherits_held g child p value [] s held = held
  inherits_held g child p value (h ∷ hs) s held = inherits_held g child p value hs (inherits_one g s child h) (go (open_refusal g s h.object Inherited))
    where
      go : (o : Option ℕ) → IsHeld (option_map_or (λ _. record s { next_order = s.next_order + 1 }) o (with_handle (with_open g s h.object Inherited) child h.value h.object true)) p value
      go None = any_front (is_named p value) s.handles (record { process = child; value = h.value; object = h.object; inherit = true; order = s.next_order } ∷ []) held
      go (Some k) = held

  pub begun_held : (g : Procedures K T F I) (s : State K T F I) (q : ℕ) (inherit : Bool) (p value : ℕ) → IsHeld s p value → IsHeld (begun g s q inherit) p value
  begun_held g s q inherit p value held = inherits_held g s.next_process p value (inherited_from s q inherit) (with_child s q) held

  -- a process that ends takes its own away
  closed_in_turn_held : (g : Procedures K T F I) (q p value : ℕ) → (p ≡ q → ⊥) → (hs : List Held) → All (λ h. (h.process == q) ≡ true) hs → (s : State K T F I)
      → IsHeld s p value → IsHeld (closed_in_turn g s hs) p value
  closed_in_turn_held g q p value other [] owned s held = held
  closed_in_turn_held g q p value other (h ∷ hs) owned s held =
      closed_in_turn_held g q p value other hs (All-tail (λ x. (x.process == q) ≡ true) h hs owned) (closed_handle g s h)
      (closed_held g s (is_handle h.process h.value) h (λ x. refl) p value
      (λ x one two.
      other (sym (named_owner p value x two) ∙ eqb-true x.process h.process (first (x.process == h.process) (x.value == h.value) one) ∙ eqb-true h.process q (All-head (λ x. (x.process == q) ≡ true) h hs owned))) held)
    where
      first : (a b : Bool) → (a && b) ≡ true → a ≡ true
      first true b e = refl
      first false b e = cc

  pub ended_held : (g : Procedures K T F I) (s : State K T F I) (q p value : ℕ) → (p ≡ q → ⊥) → IsHeld s p value → IsHeld (ended g s q) p value
  ended_held g s q p value other held = closed_in_turn_held g q p value other (handles_in s q) (filter_passes (λ h. h.process == q) s.handles) s held
