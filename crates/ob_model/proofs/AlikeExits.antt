-- A process that exits in two alike states leaves alike states: its handles are closed one after another, in
-- each state the first that it has left.
use Rattle.std.proofs.Common.{◌≡◌, ◌∙◌, ℕ, suc, ◌==◌, Bool, true, false, ◌&&◌, not, cond, List, [], ◌∷◌, filter, map, All, refl, ap, sym, arith, eq-eqb, eqb-true, subst}
use Rattle.std.specs.Prelude.{AllPairs, if◌then◌else◌}
use Rattle.std.proofs.lemmas.List.Elements.{All-head, All-tail, All-weaker, filter_passes}
use Rattle.ob_model.specs.declared.state.Held.{Held}
use Rattle.ob_model.specs.State.{State}
use Rattle.ob_model.specs.Procedures.{Procedures}
use Rattle.ob_model.specs.Closing.{is_handle, closed_handle}
use Rattle.ob_model.specs.Processes.{handles_in, closed_in_turn, without_process, ended}
use Rattle.ob_model.specs.Sound.{IsSound}
use Rattle.ob_model.specs.Alike.{unvalued_handle, AreAlike, LeadAlike}
use Rattle.ob_model.proofs.Finds.{filter_all}
use Rattle.ob_model.proofs.Soundness.{closed_sound}
use Rattle.ob_model.proofs.Unvalued.{handles_in-unvalued}
use Rattle.ob_model.proofs.Alike.{closed_alike, closed_lead}

-- no two of these are one process's of one value
abbrev AreApart : List Held → Type 0
AreApart hs = AllPairs (λ a b. is_handle a.process a.value b ≡ false) hs

first_apart : (h : Held) (hs : List Held) → AreApart (h ∷ hs) → All (λ x. is_handle h.process h.value x ≡ false) hs
first_apart h hs apart = λ k d within. apart 0 (suc k) d (omega arith) (omega (arith, within))

rest_apart : (h : Held) (hs : List Held) → AreApart (h ∷ hs) → AreApart hs
rest_apart h hs apart = λ i j d before within. apart (suc i) (suc j) d (omega (arith, before)) (omega (arith, within))

-- where the first handle of a process stands
abbrev at_first : ℕ → List Held → List Bool
at_first p [] = []
at_first p (h ∷ hs) = if h.process == p then true ∷ map (λ x. false) hs else false ∷ at_first p hs

-- none of these passes
none_passes : (test : Held → Bool) (hs : List Held) → All (λ x. test x ≡ false) hs → map test hs ≡ map (λ x. false) hs
none_passes test [] none = refl
none_passes test (h ∷ hs) none = λ i. All-head (λ x. test x ≡ false) h hs none i ∷ none_passes test hs (All-tail (λ x. test x ≡ false) h hs none) i

any_blank : (hs : List Held) → map (λ x. false) (map unvalued_handle hs) ≡ map (λ (x : Held). false) hs
any_blank [] = refl
any_blank (h ∷ hs) = ap (λ (bs : List Bool). false ∷ bs) (any_blank hs)

at_first-unvalued : (p : ℕ) (hs : List Held) → at_first p (map unvalued_handle hs) ≡ at_first p hs
at_first-unvalued p [] = refl
at_first-unvalued p (h ∷ hs) = λ i. cond (h.process == p) (true ∷ any_blank hs i) (false ∷ at_first-unvalued p hs i)

-- the first of a process's handles is the one of its process and value, and the others are left without it
first_is : (p : ℕ) (h : Held) (rest hs : List Held) → AreApart hs → filter (λ x. x.process == p) hs ≡ h ∷ rest → (h.process == p) ≡ true
    → (map (is_handle h.process h.value) hs ≡ at_first p hs) × (filter (λ x. x.process == p) (filter (λ x. not (is_handle h.process h.value x)) hs) ≡ rest)
first_is p h rest [] apart e owned = cc
first_is p h rest (x ∷ xs) apart e owned = go (x.process == p) refl e (first_is p h rest xs (rest_apart x xs apart))
  where
    test : Held → Bool
    test y = is_handle h.process h.value y

    Goal : Bool → Type 0
    Goal b =
        (test x ∷ map test xs ≡ cond b (true ∷ map (λ y. false) xs) (false ∷ at_first p xs))
        × (filter (λ y. y.process == p) (cond (not (test x)) (x ∷ filter (λ y. not (test y)) xs) (filter (λ y. not (test y)) xs)) ≡ rest)

    taken : x ≡ h → filter (λ y. y.process == p) xs ≡ rest → Goal true
    taken same others =
        let none : All (λ y. test y ≡ false) xs = subst (λ (z : Held). All (λ y. is_handle z.process z.value y ≡ false) xs) same (first_apart x xs apart) in
        let here : test x ≡ true = subst (λ (z : Held). is_handle z.process z.value x ≡ true) same itself in (
          (λ i. here i ∷ none_passes test xs none i),
          (λ i. filter (λ y. y.process == p) (cond (not (here i)) (x ∷ filter (λ y. not (test y)) xs) (filter (λ y. not (test y)) xs)))
              ∙ ap (filter (λ y. y.process == p)) (filter_all (λ y. not (test y)) xs (All-weaker (λ y. test y ≡ false) (λ y. not (test y) ≡ true) (λ y e. ap not e) xs none)) ∙ others,
        )
      where
        itself : is_handle x.process x.value x ≡ true
        itself = (λ i. eq-eqb x.process x.process refl i && (x.value == x.value)) ∙ eq-eqb x.value x.value refl

    left : (x.process == p) ≡ false → (map test xs ≡ at_first p xs) × (filter (λ y. y.process == p) (filter (λ y. not (test y)) xs) ≡ rest) → Goal false
    left other more =
        let there : test x ≡ false = ap (λ (q : ℕ). (x.process == q) && (x.value == h.value)) (eqb-true h.process p owned) ∙ ap (λ b. b && (x.value == h.value)) other in (
          (λ i. there i ∷ more.0 i),
          (λ i. filter (λ y. y.process == p) (cond (not (there i)) (x ∷ filter (λ y. not (test y)) xs) (filter (λ y. not (test y)) xs)))
              ∙ (λ i. cond (other i) (x ∷ filter (λ y. y.process == p) (filter (λ y. not (test y)) xs)) (filter (λ y. y.process == p) (filter (λ y. not (test y)) xs))) ∙ more.1,
        )

    go : (b : Bool) → (x.process == p) ≡ b → cond b (x ∷ filter (λ y. y.process == p) xs) (filter (λ y. y.process == p) xs) ≡ h ∷ rest
        → (filter (λ y. y.process == p) xs ≡ h ∷ rest → (h.process == p) ≡ true
        → (map test xs ≡ at_first p xs) × (filter (λ y. y.process == p) (filter (λ y. not (test y)) xs) ≡ rest)) → Goal b
    go true is e more = taken (cc) (cc)
    go false is e more = left is (more e owned)

-- it is of that process
first_owned : (p : ℕ) (h : Held) (rest hs : List Held) → filter (λ x. x.process == p) hs ≡ h ∷ rest → (h.process == p) ≡ true
first_owned p h rest hs e = All-head (λ x. (x.process == p) ≡ true) h rest (subst (All (λ x. (x.process == p) ≡ true)) e (filter_passes (λ x. x.process == p) hs))

module _ {K T F I : Type 0} (g : Procedures K T F I) (p : ℕ) where
  handles_in_alike : (s t : State K T F I) → AreAlike s t → map unvalued_handle (handles_in s p) ≡ map unvalued_handle (handles_in t p)
  handles_in_alike s t alike = sym (handles_in-unvalued s p) ∙ ap (λ x. handles_in x p) alike ∙ handles_in-unvalued t p

  -- the handles of a process are closed in two alike states
  closed_in_turn_alike : (hs is : List Held) (s t : State K T F I) → AreAlike s t → IsSound s → IsSound t → handles_in s p ≡ hs → handles_in t p ≡ is
      → AreAlike (closed_in_turn g s hs) (closed_in_turn g t is)
      × ((q value other : ℕ) → LeadAlike s t q value other → LeadAlike (closed_in_turn g s hs) (closed_in_turn g t is) q value other)
  closed_in_turn_alike [] [] s t alike s_sound t_sound s_has t_has = (alike, λ q value other lead. lead)
  closed_in_turn_alike [] (i ∷ is) s t alike s_sound t_sound s_has t_has =
      let same : map unvalued_handle [] ≡ map unvalued_handle (i ∷ is) = ap (map unvalued_handle) (sym s_has) ∙ handles_in_alike s t alike ∙ ap (map unvalued_handle) t_has in cc
  closed_in_turn_alike (h ∷ hs) [] s t alike s_sound t_sound s_has t_has =
      let same : map unvalued_handle (h ∷ hs) ≡ map unvalued_handle [] = ap (map unvalued_handle) (sym s_has) ∙ handles_in_alike s t alike ∙ ap (map unvalued_handle) t_has in cc
  closed_in_turn_alike (h ∷ hs) (i ∷ is) s t alike s_sound t_sound s_has t_has =
      let same : map unvalued_handle (h ∷ hs) ≡ map unvalued_handle (i ∷ is) = ap (map unvalued_handle) (sym s_has) ∙ handles_in_alike s t alike ∙ ap (map unvalued_handle) t_has in
      let heads : unvalued_handle h ≡ unvalued_handle i = cc in
      let one = first_is p h hs s.handles s_sound.handles.distinct s_has (first_owned p h hs s.handles s_has) in
      let other = first_is p i is t.handles t_sound.handles.distinct t_has (first_owned p i is t.handles t_has) in
      let places : at_first p s.handles ≡ at_first p t.handles = sym (at_first-unvalued p s.handles) ∙ ap (λ (x : State K T F I). at_first p x.handles) alike ∙ at_first-unvalued p t.handles in
      let tests : map (is_handle h.process h.value) s.handles ≡ map (is_handle i.process i.value) t.handles = one.0 ∙ places ∙ sym other.0 in
      let rest =
      closed_in_turn_alike hs is (closed_handle g s h) (closed_handle g t i)
      (closed_alike g s t alike (is_handle h.process h.value) (is_handle i.process i.value) h i tests heads (λ x. refl) (λ x. refl))
      (closed_sound g s h s_sound) (closed_sound g t i t_sound) one.1 other.1 in (
        rest.0,
        λ q value second lead. rest.1 q value second
            (closed_lead g s t alike (is_handle h.process h.value) (is_handle i.process i.value) h i tests (λ x. refl) (λ x. refl) q value second lead),
      )

  pub ended_alike : (s t : State K T F I) → AreAlike s t → IsSound s → IsSound t
      → AreAlike (ended g s p) (ended g t p) × ((q value other : ℕ) → LeadAlike s t q value other → LeadAlike (ended g s p) (ended g t p) q value other)
  ended_alike s t alike s_sound t_sound =
      let both = closed_in_turn_alike (handles_in s p) (handles_in t p) s t alike s_sound t_sound refl refl in
      (ap (λ x. without_process x p) both.0, both.1)
