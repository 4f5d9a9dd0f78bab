-- How an inherit flag is set, from what is done at each step.
use Rattle.std.proofs.Common.{◌≡◌, ◌≢◌, ◌∙◌, ◌==◌, eq-eqb, sym, ℕ, Bool, true, false, ◌||◌, Option, None, Some, ◌⊎◌, inl, inr, refl, subst}
use Rattle.std.specs.Prelude.{IfErr, MatchOption, Result, Ok, Err}
use Rattle.std.specs.Result.{IsErrAnd}
use Rattle.std.proofs.lemmas.Bool.{false≢true}
use Rattle.ob_base.specs.Handle.{key_of}
use Rattle.ob_base.specs.declared.status.Status.{Status}
use Rattle.ob_base.specs.declared.status.Status.TheVariants.{NoMemory}
use Rattle.ob_model.specs.Grants.{IsFreeValue, IsHandleValue}
use Rattle.ob_model.specs.Procedures.{Procedures}
use Rattle.ob_model.specs.State.{State}
use Rattle.ob_model.specs.declared.state.Held.{Held}
use Rattle.ob_c_state.specs.Inherit.{CloseIsRefused, DuplicateIsRefused, FlagIsRefused, HasFlagSet, IsClosed, IsDuplicated, IsReplaced, at_first, at_second, at_third, at_fourth}
use Rattle.ob_c_state.proofs.Inherits.{is_free}

-- what is found of a handle
pub of_none : (o : Option Held) (A : Type 0) (B : Held → Type 0) → None ≡ o → A → MatchOption o A B
of_none None A B is a = a
of_none (Some h) A B is a = cc

pub of_held : (o : Option Held) (A : Type 0) (B : Held → Type 0) (h : Held) → Some h ≡ o → B h → MatchOption o A B
of_held None A B h is b = cc
of_held (Some k) A B h is b = let same : h ≡ k = cc in subst B same b

module _ {K T F I : Type 0} (g : Procedures K T F I) (s : State K T F I) (p handle : ℕ) (inherit : Bool) where
  -- memory ran out, or a step was refused
  abbrev pub Fails : Status → Type 0
  Fails status = (status ≡ NoMemory) ⊎ FlagIsRefused g s p handle inherit status

  pub first_fails : (status : Status) → (status ≡ NoMemory) ⊎ DuplicateIsRefused g s p handle inherit status → Fails status
  first_fails status (inl memory) = inl memory
  first_fails status (inr refused) = inr (at_first refused)

  module _ (value : ℕ) (u : State K T F I) where
    pub second_fails : (status : Status) → IsDuplicated g s p handle inherit value u → (status ≡ NoMemory) ⊎ CloseIsRefused g u p handle status → Fails status
    second_fails status made (inl memory) = inl memory
    second_fails status made (inr refused) = inr (at_second value u made refused)

    pub is_replaced : (t : State K T F I) → IsDuplicated g s p handle inherit value u → IsClosed g u p handle t → IsReplaced g s p handle inherit value t
    is_replaced t made closed = record { between = u; duplicated = made; closed = closed }

    module _ (replaced : IsReplaced g s p handle inherit value u) where
      pub third_fails : (status : Status) → (status ≡ NoMemory) ⊎ DuplicateIsRefused g u p value inherit status → Fails status
      third_fails status (inl memory) = inl memory
      third_fails status (inr refused) = inr (at_third value u replaced refused)

      module _ (key : ℕ) (is : key_of handle ≡ Some key) where
        pub free_again : IsHandleValue key → IsFreeValue u p key
        free_again valid = is_free g replaced.between u p handle key replaced.closed is valid

        pub fourth_fails : (v : State K T F I) (status : Status) → IsDuplicated g u p value inherit key v → (status ≡ NoMemory) ⊎ CloseIsRefused g v p value status → Fails status
        fourth_fails v status made (inl memory) = inl memory
        fourth_fails v status made (inr refused) = inr (at_fourth key value u v is replaced made refused)

        pub has_set : (v t : State K T F I) → IsDuplicated g u p value inherit key v → IsClosed g v p value t → HasFlagSet g s p handle inherit t
        has_set v t made closed = record {
          key = key;
          is_key = is;
          value = value;
          replaced = u;
          first = replaced;
          second = record { between = v; duplicated = made; closed = closed };
        }

-- one of three holds
pub third_of : (a b c : Bool) → c ≡ true → (a || b || c) ≡ true
third_of true b c is = refl
third_of false true c is = refl
third_of false false c is = is

-- an error that is handed on
pub if_err : {R : Type 0} (result : Result R Status) (P Q : Status → Type 0) → ((e : Status) → Q e → P e) → IsErrAnd result Q → IfErr result P
if_err (Ok r) P Q so h = tt
if_err (Err e) P Q so h = so e h

-- numbers that are found to differ
pub differ : (a b : ℕ) → (a == b) ≡ false → a ≢ b
differ a b other same = false≢true (sym other ∙ eq-eqb a b same)
