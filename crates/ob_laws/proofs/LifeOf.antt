-- The life of an object through a run: what its calls so far tell in each state, and what a step adds to them.
use Rattle.std.proofs.Common.{◌≡◌, ◌≢◌, ◌∙◌, ℕ, ◌+◌, ◌<◌, ◌==◌, Bool, true, false, cond, ◌||◌, List, [], ◌∷◌, ◌++◌, append-nil, All, None, is_some, ◌⊎◌, inl, inr, refl, ap, sym, subst, eqb-true}
use Rattle.std.specs.Prelude.{count_by}
use Rattle.std.specs.List.{list_any}
use Rattle.std.proofs.lemmas.Bool.{false≢true}
use Rattle.std.proofs.lemmas.List.Elements.{All-head, All-tail}
use Rattle.std.proofs.lemmas.List.Sums.{sum_by-cons}
use Rattle.ob_model.specs.declared.state.Held.{Held}
use Rattle.ob_model.specs.declared.state.PendingOpen.{PendingOpen}
use Rattle.ob_model.specs.State.{State, object_of, handle_count, handle_count_in}
use Rattle.ob_model.specs.Sound.{IsSound, Stands}
use Rattle.ob_model.specs.Calls.{Call, Passed, is_of_set}
use Rattle.ob_model.specs.Lifetimes.{maker_of, calls_in, StepKeepsCount}
use Rattle.ob_laws.proofs.CallCounts.{has_delete, Tells, Leaves, tells-append, has_delete-append, has_delete-split, closes_leave}

module _ {K T F I : Type 0} where
  -- how many handles lead to an object, where it is one of the set
  abbrev pub set_count : State K T F I → ℕ → ℕ
  set_count s o = cond (is_of_set s o) (handle_count s o) 0

  -- a number was drawn, and is no ticket
  pub record IsTaken (s : State K T F I) (o : ℕ) : Type 0 where
    pub drawn : o < s.next_id
    pub unawaited : All (λ x. x.ticket ≢ o) s.pending

  -- an object is there no more, and never will be
  pub record IsGone (s : State K T F I) (o : ℕ) : Type 0 where
    pub absent : object_of s o ≡ None
    pub taken : IsTaken s o

  -- what the calls of a step from s to t tell of an object, where its closes leave so many handles in their process
  pub record StepTells (s t : State K T F I) (o left : ℕ) (calls : List Call) : Type 0 where
    pub tells : Tells (set_count s o) calls (set_count t o)
    pub leaves : Leaves left calls
    pub gone : has_delete calls ≡ true → IsGone t o
    pub stays_gone : IsGone s o → (calls ≡ []) × IsGone t o

  -- what the calls so far tell of an object in the state s
  pub record Life (s : State K T F I) (o : ℕ) (calls : List Call) : Type 0 where
    pub told : Tells 0 calls (set_count s o)
    pub ended : (has_delete calls ≡ false) ⊎ IsGone s o

  pub life_goes_on : (s t : State K T F I) (o left : ℕ) (calls more : List Call) → Life s o calls → StepTells s t o left more → Life t o (calls ++ more)
  life_goes_on s t o left calls more life step = go life.ended
    where
      go : (has_delete calls ≡ false) ⊎ IsGone s o → Life t o (calls ++ more)
      go (inl kept) = record {
        told = tells-append 0 (set_count s o) (set_count t o) calls more kept life.told step.tells;
        ended = last (has_delete more) refl;
      }
        where
          both : has_delete (calls ++ more) ≡ has_delete more
          both = has_delete-append calls more ∙ ap (λ b. b || has_delete more) kept

          last : (b : Bool) → has_delete more ≡ b → (has_delete (calls ++ more) ≡ false) ⊎ IsGone t o
          last true e = inr (step.gone e)
          last false e = inl (both ∙ e)
      go (inr gone) =
          let none = step.stays_gone gone in
          let same : set_count s o ≡ set_count t o = subst (λ cs. Tells (set_count s o) cs (set_count t o)) none.0 step.tells in
          record {
            told = subst (λ cs. Tells 0 cs (set_count t o)) (sym (ap (λ cs. calls ++ cs) none.0 ∙ append-nil calls)) (subst (Tells 0 calls) same life.told);
            ended = inr none.1;
          }

  -- ---- where no object is there, none is pinned, and no handle leads to it

  other_than : (s : State K T F I) (o m : ℕ) → object_of s o ≡ None → Stands s m → (m == o) ≡ false
  other_than s o m absent stands = go (m == o) refl
    where
      go : (b : Bool) → (m == o) ≡ b → b ≡ false
      go true e = absurd (false≢true (sym (ap is_some absent) ∙ subst (Stands s) (eqb-true m o e) stands))
      go false e = refl

  pub none_pinned : (s : State K T F I) (o : ℕ) → object_of s o ≡ None → (xs : List (PendingOpen K)) → All (λ x. Stands s x.object) xs → list_any (λ x. x.object == o) xs ≡ false
  none_pinned s o absent [] stand = refl
  none_pinned s o absent (x ∷ xs) stand =
      ap (λ b. b || list_any (λ y. y.object == o) xs) (other_than s o x.object absent (All-head (λ y. Stands s y.object) x xs stand))
      ∙ none_pinned s o absent xs (All-tail (λ y. Stands s y.object) x xs stand)

  pub none_held : (s : State K T F I) (o : ℕ) → object_of s o ≡ None → (hs : List Held) → All (λ h. Stands s h.object) hs → count_by (λ h. h.object == o) hs ≡ 0
  none_held s o absent [] stand = refl
  none_held s o absent (h ∷ hs) stand =
      sum_by-cons (λ x. cond (x.object == o) 1 0) h hs
      ∙ ap (λ b. cond b 1 0 + count_by (λ x. x.object == o) hs) (other_than s o h.object absent (All-head (λ y. Stands s y.object) h hs stand))
      ∙ ap (λ n. 0 + n) (none_held s o absent hs (All-tail (λ y. Stands s y.object) h hs stand))

  -- what a step tells is what is asked of it
  pub step_keeps_count : (s : State K T F I) (x : Passed K T F I) (o : ℕ) → IsSound x.after
      → StepTells s x.after o (handle_count_in x.after (maker_of s x.entry.event) o) (calls_in s x o) → StepKeepsCount o s x
  step_keeps_count s x o sound step = record {
    process_left = closes_leave (handle_count_in x.after (maker_of s x.entry.event) o) (calls_in s x o) step.leaves;
    unpinned = λ before behind e. none_pinned x.after o (step.gone (ap has_delete e ∙ has_delete-split before behind)).absent x.after.pending sound.pending.standing;
  }
