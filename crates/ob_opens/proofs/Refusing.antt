-- An open that wants memory isn't one that is refused before anything grows.
use Rattle.std.proofs.Common.{◌≡◌, ◌∙◌, ◌≢◌, ◌<◌, ℕ, zero, suc, Bool, true, false, ◌||◌, ◌&&◌, not, List, [], ◌∷◌, All, length, option_map, Option, None, Some, ap, sym, subst, arith, inl, inr}
use Rattle.std.specs.Option.{option_map_or, option_or}
use Rattle.std.specs.Prelude.{MatchOption, MatchBool, ◌⊎◌, nat_lt}
use Rattle.ob_base.specs.declared.status.Status.{Status}
use Rattle.ob_base.specs.declared.status.Status.TheVariants.{InvalidParameter, AccessDenied, InsufficientResources, NameTooLong, ReparseLimit, TypeRefused}
use Rattle.ob_model.specs.declared.state.Object.{Object}
use Rattle.ob_model.specs.declared.state.PendingOpen.{PendingOpen}
use Rattle.ob_model.specs.declared.state.Wanted.{Wanted}
use Rattle.ob_model.specs.declared.terms.GrantOptions.{GrantOptions}
use Rattle.ob_model.specs.declared.terms.Mode.{Mode}
use Rattle.ob_model.specs.declared.terms.Reason.TheVariants.{Opened}
use Rattle.ob_model.specs.Grants.{first_refusal, grant_refusal, is_exclusive, is_table_full, has_other_holder, open_refusal}
use Rattle.ob_model.specs.Looks.{Look, At, Parse, Refused, LooksUp}
use Rattle.ob_model.specs.Names.{longest_name}
use Rattle.ob_model.specs.Parses.{LooksAgain}
use Rattle.ob_model.specs.PendingOpens.{pending_of, with_instance}
use Rattle.ob_model.specs.Procedures.{Procedures, ParseOutcome}
use Rattle.ob_model.specs.State.{State, is_live}
use Rattle.ob_model.specs.Types.{is_wanted_at}
use Rattle.ob_lookup.specs.Look.{MayWantMemory}
use Rattle.ob_space.specs.Found.{is_grant_refused, is_refused_at, IsRefusedWhereFound}
use Rattle.ob_space.proofs.InPlace.{IgnoresLeft, is_refused_then}
use Rattle.ob_opens.specs.Refusing.{IsEndRefused, IsBroughtRefused}
use Rattle.ob_opens.proofs.MadeOpens.{made_there}

true_apart : {A : Type 0} → true ≡ false → A
true_apart e = cc

-- the other ends of a lookup are no refusal
pub no_refusal_at : (o : ℕ) (status : Status) → At o ≡ Refused status → ⊥
no_refusal_at o status is = cc

pub no_refusal_parse : (o : ℕ) (rest : List ℕ) (n : ℕ) (status : Status) → Parse o rest n ≡ Refused status → ⊥
no_refusal_parse o rest n status is = cc

module _ {K T F I : Type 0} (g : Procedures K T F I) (s : State K T F I) where
  -- an object of the type that is asked for isn't refused where its grant isn't
  pub passes_at : (p o : ℕ) (asked : GrantOptions) (wanted : Wanted K) → is_wanted_at g s o wanted ≡ true → (is_grant_refused s p o asked ≡ true → ⊥)
      → is_refused_at g s p asked wanted o ≡ true → ⊥
  passes_at p o asked wanted is passes refused = passes (ap (λ b. not b || is_grant_refused s p o asked) (sym is) ∙ refused)

  -- the open of a ticket that a live process asked for isn't refused where its end isn't
  pub passes_brought : (ticket : ℕ) (x : PendingOpen K) (outcome : Option (ParseOutcome F I)) → pending_of s ticket ≡ Some x → is_live s x.process ≡ true
      → (IsEndRefused g s x outcome → ⊥) → IsBroughtRefused g s ticket outcome → ⊥
  passes_brought ticket x outcome found live passes refused =
      go (subst (λ (o : Option (PendingOpen K)). MatchOption o ⊥ (λ y. (is_live s y.process ≡ false) ⊎ IsEndRefused g s y outcome)) found refused)
    where
      go : (is_live s x.process ≡ false) ⊎ IsEndRefused g s x outcome → ⊥
      go (inl gone) = true_apart (sym live ∙ gone)
      go (inr end) = passes end

  -- a text that is looked up again with an end that isn't refused isn't refused at another
  module _ (p : ℕ) (mode : Mode) (text : List ℕ) (refuses : Look → Bool) (ignores : IgnoresLeft refuses) (look : Look) (passes : refuses look ≡ true → ⊥) (there : (status : Status) → look ≡ Refused status → ⊥) where
    pub passes_again : (n : ℕ) → LooksAgain g s p mode n text look → (n ≡ 0) ⊎ IsRefusedWhereFound g s p mode None text refuses → ⊥
    passes_again zero looks refused = there ReparseLimit looks
    passes_again (suc n) looks (inl none) = let apart : suc n ≡ 0 = none in cc
    passes_again (suc n) looks (inr (end, in_place, refused)) = go (nat_lt longest_name (length text)) looks
      where
        go : (long : Bool) → MatchBool long (look ≡ Refused NameTooLong) (LooksUp g s p mode n None text look) → ⊥
        go true is = there NameTooLong is
        go false looks = passes (is_refused_then g s p mode refuses ignores n None text end look in_place looks refused)

  -- nor is it where its lookup may want memory, and a reparse is left
  pub wants_again : (p : ℕ) (mode : Mode) (text : List ℕ) (refuses : Look → Bool) (n : ℕ) → 0 < n
      → ((end : Look) → LooksUp g s p mode 0 None text end → MayWantMemory end) → (n ≡ 0) ⊎ IsRefusedWhereFound g s p mode None text refuses → ⊥
  wants_again p mode text refuses n left wants (inl none) = let more = subst (λ (k : ℕ). 0 < k) none left in omega (arith, more)
  wants_again p mode text refuses n left wants (inr (end, (looks, apart), refused)) = apart (wants end looks)

-- what a grant of an instance is refused for: it isn't exclusive
module _ {K T F I : Type 0} (g : Procedures K T F I) (s : State K T F I) (ticket : ℕ) (free : All (λ y. y.id ≢ ticket) s.objects) (face : F) (inner : I) (p : ℕ) (asked : GrantOptions) where
  t : State K T F I
  t = with_instance s ticket face inner

  not_exclusive : is_exclusive t ticket ≡ false
  unfolding t
  not_exclusive = ap (λ (x : Option (Object F I)). option_map_or (λ y. y.exclusive) x false) (made_there s ticket free face inner)

  pub instance_refused : (status : Status) → first_refusal ((asked.exclusive, InvalidParameter) ∷ (is_table_full s p, InsufficientResources) ∷ []) ≡ Some status
      → grant_refusal g (with_instance s ticket face inner) p ticket asked Opened ≡ Some status
  unfolding t
  instance_refused status is =
      ap (λ (b : Bool). option_or (first_refusal ((asked.exclusive && not b, InvalidParameter) ∷ (asked.inherit && b, InvalidParameter) ∷ (b && has_other_holder t p ticket, AccessDenied) ∷ (is_table_full t p, InsufficientResources) ∷ []))
      (option_map TypeRefused (open_refusal g t ticket Opened))) not_exclusive
      ∙ go asked.exclusive asked.inherit (is_table_full s p) is
    where
      go : (exclusive inherit full : Bool) → first_refusal ((exclusive, InvalidParameter) ∷ (full, InsufficientResources) ∷ []) ≡ Some status
          → option_or (first_refusal ((exclusive && true, InvalidParameter) ∷ (inherit && false, InvalidParameter) ∷ (false, AccessDenied) ∷ (full, InsufficientResources) ∷ []))
          (option_map TypeRefused (open_refusal g t ticket Opened)) ≡ Some status
      go true inherit full is = is
      go false true true is = is
      go false false true is = is
      go false true false is = let none : None ≡ Some status = is in cc
      go false false false is = let none : None ≡ Some status = is in cc
