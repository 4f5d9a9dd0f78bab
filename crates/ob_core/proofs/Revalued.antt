-- The handle that was opened last gets another value, which its process doesn't use: the handles are then those before it
-- and it, and what holds of a core holds of it as before.
use Rattle.std.proofs.Common.{◌≡◌, ◌∙◌, ℕ, suc, ◌+◌, ◌<◌, ◌==◌, Bool, true, false, not, cond, ◌&&◌, ◌||◌, List, [], ◌∷◌, ◌++◌, length, filter, find, All, AllPairs, count_by, None, Some, refl, ap, sym, subst, arith, eq-eqb, eqb-true, append-nil, length-append, get_or, get_or-append-add}
use Rattle.std.specs.List.{list_any}
use Rattle.std.specs.Option.{option_or}
use Rattle.std.proofs.lemmas.List.Elements.{All-nil, All-cons, All-head, All-tail, All-filter, filter-append}
use Rattle.std.proofs.lemmas.List.Folds.{find-append}
use Rattle.std.proofs.lemmas.List.Kept.{AllPairs-filter}
use Rattle.std.proofs.lemmas.List.Quantifiers.{all_pairs_push}
use Rattle.std.proofs.lemmas.List.Sums.{sum_by-cons}
use Rattle.ob_model.specs.declared.state.Held.{Held}
use Rattle.ob_model.specs.Closing.{is_handle}
use Rattle.ob_model.specs.Grants.{IsFreeValue}
use Rattle.ob_model.specs.Settle.{IsSettled, has_shadow, is_permanent, has_name, is_pinned, is_mapped}
use Rattle.ob_model.specs.Sound.{IsSound, Stands}
use Rattle.ob_model.specs.State.{State, root_id, is_live}
use Rattle.ob_model.proofs.Finds.{find_none, not_found, filter_all}
use Rattle.ob_model.proofs.SoundPaths.{find_of, of_some}
use Rattle.ob_model.specs.Choice.{with_last_value, revalued}
use Rattle.ob_model.proofs.Revalued.{appended, any_revalued}
use Rattle.ob_processes.specs.ByOrder.{OrdersRise}
use Rattle.ob_processes.specs.Running.{Running}
use Rattle.ob_space.specs.Namespace.{Parts, state_of}
use Rattle.ob_space.specs.Orderly.{IsBetweenSteps, IsOrderly}

-- the handle that was opened last is one of this process, under this value
abbrev pub IsLastHandle : {K T F I : Type 0} → State K T F I → ℕ → ℕ → Type 0
IsLastHandle s p value = (hs : List Held) × (h : Held) × (s.handles ≡ hs ++ h ∷ []) × (h.process ≡ p) × (h.value ≡ value)

-- ---- the last of a list

-- what holds of each and those behind it holds of each and the last
last_pairs : {X : Type 0} (R : X → X → Type 0) (xs : List X) (y : X) → AllPairs R (xs ++ y ∷ []) → All (λ x. R x y) xs
last_pairs R [] y pairs = All-nil (λ x. R x y)
last_pairs R (x ∷ xs) y pairs =
    All-cons (λ a. R a y) x xs
    (subst (R x) (get_or-append-add xs (y ∷ []) 0 y) (pairs 0 (suc (length xs + 0)) y (omega arith) (omega (arith, length-append xs (y ∷ [])))))
    (last_pairs R xs y (λ i j d less within. pairs (suc i) (suc j) d (omega (arith, less)) (omega (arith, within))))

-- one handle is another, whichever is asked of the other
same_pair : (a b c d : ℕ) → ((a == b) && (c == d)) ≡ false → ((b == a) && (d == c)) ≡ false
same_pair a b c d differ = go (b == a) (d == c) refl refl
  where
    go : (x y : Bool) → (b == a) ≡ x → (d == c) ≡ y → (x && y) ≡ false
    go true true e f =
        let first : (a == b) ≡ true = eq-eqb a b (sym (eqb-true b a e)) in
        let second : (c == d) ≡ true = eq-eqb c d (sym (eqb-true d c f)) in
        cc
    go true false e f = refl
    go false y e f = refl

-- where the last alone passes it is found, and the others are left without it
found_last : (test : Held → Bool) (hs : List Held) (h : Held) → All (λ k. test k ≡ false) hs → test h ≡ true → find test (hs ++ h ∷ []) ≡ Some h
found_last test hs h others passes =
    find-append test hs (h ∷ []) ∙ ap (λ o. option_or o (find test (h ∷ []))) (find_none test hs others) ∙ ap (λ b. cond b (Some h) None) passes

others_left : (test : Held → Bool) (hs : List Held) (h : Held) → All (λ k. test k ≡ false) hs → test h ≡ true → filter (λ k. not (test k)) (hs ++ h ∷ []) ≡ hs
others_left test hs h others passes =
    filter-append (λ k. not (test k)) hs (h ∷ [])
    ∙ ap (λ b. filter (λ k. not (test k)) hs ++ cond (not b) (h ∷ []) []) passes
    ∙ append-nil (filter (λ k. not (test k)) hs)
    ∙ filter_all (λ k. not (test k)) hs (λ k d within. ap not (others k d within))

-- ---- handles whose last one has another value

module _ (value : ℕ) where
  all_revalued : (P : Held → Type 0) → ((h : Held) → P h → P (record h { value = value })) → (hs : List Held) → All P hs → All P (with_last_value value hs)
  all_revalued P keeps [] each = each
  all_revalued P keeps (h ∷ []) each = All-cons P (record h { value = value }) [] (keeps h (All-head P h [] each)) (All-nil P)
  all_revalued P keeps (h ∷ i ∷ hs) each = All-cons P h (with_last_value value (i ∷ hs)) (All-head P h (i ∷ hs) each) (all_revalued P keeps (i ∷ hs) (All-tail P h (i ∷ hs) each))

  count_revalued : (p : ℕ) (hs : List Held) → count_by (λ h. h.process == p) (with_last_value value hs) ≡ count_by (λ h. h.process == p) hs
  count_revalued p [] = refl
  count_revalued p (h ∷ []) = refl
  count_revalued p (h ∷ i ∷ hs) =
      sum_by-cons one h (with_last_value value (i ∷ hs)) ∙ ap (λ n. one h + n) (count_revalued p (i ∷ hs)) ∙ sym (sum_by-cons one h (i ∷ hs))
    where
      one : Held → ℕ
      one k = cond (k.process == p) 1 0

  -- which objects have handles
  led_to : List Held → ℕ → Bool
  led_to hs o = list_any (λ h. h.object == o) hs

  led_alike : (hs : List Held) → led_to hs ≡ led_to (with_last_value value hs)
  unfolding led_to
  led_alike hs = λ i o. sym (any_revalued value o hs) i

  module _ {K T F I : Type 0} (s : State K T F I) where
    kept_by : (ℕ → Bool) → ℕ → Bool
    kept_by has o = is_permanent s o || has o

    -- an object stays by itself
    itself_by : (ℕ → Bool) → ℕ → Bool
    itself_by has o =
        (o == root_id) || has o || is_pinned s o || is_mapped s o || (is_permanent s o && has_name s o)
        || list_any (λ r. (r.directory == o) && kept_by has r.object) s.rows

    settled_revalued : IsSettled s → IsSettled (revalued value s)
    unfolding kept_by itself_by led_to
    settled_revalued settled = record {
      names = subst (λ (has : ℕ → Bool). All (λ r. kept_by has r.object ≡ true) s.rows) (led_alike s.handles) settled.names;
      objects = subst
          (λ (has : ℕ → Bool). All (λ x. (itself_by has x.id || list_any (λ y. has_shadow x.id y.body && itself_by has y.id) s.objects) ≡ true) s.objects)
          (led_alike s.handles) settled.objects;
    }

    orderly_revalued : (idle : I → Type 0) → IsOrderly idle s → IsOrderly idle (revalued value s)
    orderly_revalued idle orderly = record {
      root = orderly.root;
      rising = orderly.rising;
      drawn = orderly.drawn;
      standing = orderly.standing;
      descending = orderly.descending;
      stamped = orderly.stamped;
      unheld = λ k d within none. orderly.unheld k d within (sym (any_revalued value (get_or s.objects k d).id s.handles) ∙ none);
      opened = all_revalued (λ h. h.order < s.next_order) (λ h less. less) s.handles orderly.opened;
      numbered = orderly.numbered;
      few_handles = λ p. let few = orderly.few_handles p in let same = count_revalued p s.handles in omega (arith, few, same);
      few_processes = orderly.few_processes;
    }

-- ---- the handle that was opened last

module _ {K T F I : Type 0} (s : State K T F I) (p from to : ℕ) (last : IsLastHandle s p from) (sound : IsSound s) where
  -- those before it, and itself
  abbrev before : List Held
  before = last.0

  abbrev newest : Held
  newest = last.1

  is_it : is_handle p from newest ≡ true
  is_it =
      let process : (newest.process == p) ≡ true = eq-eqb newest.process p last.3 in
      let value : (newest.value == from) ≡ true = eq-eqb newest.value from last.4 in
      (λ i. process i && value i)

  others : All (λ k. is_handle p from k ≡ false) before
  others = λ k d within.
      subst (λ v. is_handle p v (get_or before k d) ≡ false) last.4
      (subst (λ q. is_handle q newest.value (get_or before k d) ≡ false) last.3
      (same_pair newest.process (get_or before k d).process newest.value (get_or before k d).value
      (last_pairs (λ a b. is_handle a.process a.value b ≡ false) before newest (subst (AllPairs (λ a b. is_handle a.process a.value b ≡ false)) last.2 sound.handles.distinct) k d within)))

  -- it is the one that its process has under its value
  pub it_is_found : find (is_handle p from) s.handles ≡ Some newest
  it_is_found = ap (find (is_handle p from)) last.2 ∙ found_last (is_handle p from) before newest others is_it

  pub some_is_found : find (is_handle p from) s.handles ≡ None → ⊥
  some_is_found none = let e : Some newest ≡ None = sym it_is_found ∙ none in cc

  -- without it those before it are left
  left : filter (λ k. not (is_handle p from k)) s.handles ≡ before
  left = ap (filter (λ k. not (is_handle p from k))) last.2 ∙ others_left (is_handle p from) before newest others is_it

  module _ (h : Held) (found : find (is_handle p from) s.handles ≡ Some h) where
    it_is : newest ≡ h
    it_is = let e : Some newest ≡ Some h = sym it_is_found ∙ found in cc

    pub its_process : h.process ≡ p
    its_process = ap (λ k. k.process) (sym it_is) ∙ last.3

    pub process_is_live : is_live s h.process ≡ true
    process_is_live = of_some (λ k. is_live s k.process ≡ true) (find (is_handle p from) s.handles) h found (find_of (λ k. is_live s k.process ≡ true) (is_handle p from) s.handles sound.handles.live)

    pub order_was_drawn : All (λ k. k.order < s.next_order) s.handles → h.order < s.next_order
    order_was_drawn opened = of_some (λ k. k.order < s.next_order) (find (is_handle p from) s.handles) h found (find_of (λ k. k.order < s.next_order) (is_handle p from) s.handles opened)

    -- the others were opened before it
    pub others_are_older : OrdersRise s.handles → All (λ k. k.order < h.order) (filter (λ k. not (is_handle p from k)) s.handles)
    others_are_older rise =
        subst (All (λ k. k.order < h.order)) (sym left)
        (subst (λ (x : Held). All (λ k. k.order < x.order) before) it_is (last_pairs (λ a b. a.order < b.order) before newest (subst OrdersRise last.2 rise)))

    -- the handles where it has the other value
    pub last_is_revalued : filter (λ k. not (is_handle p from k)) s.handles ++ record h { value = to } ∷ [] ≡ with_last_value to s.handles
    last_is_revalued =
        ap (λ hs. hs ++ record h { value = to } ∷ []) left ∙ ap (λ x. before ++ record x { value = to } ∷ []) (sym it_is) ∙ sym (appended to before newest) ∙ ap (with_last_value to) (sym last.2)

  module _ (free : IsFreeValue s p to) where
    -- the others don't have the value either
    unused_by_all : All (λ k. is_handle p to k ≡ false) (filter (λ k. not (is_handle p from k)) s.handles)
    unused_by_all = All-filter (λ k. not (is_handle p from k)) (λ k. is_handle p to k ≡ false) s.handles (not_found (is_handle p to) s.handles free.1)

    pub still_unused : find (is_handle p to) (filter (λ k. not (is_handle p from k)) s.handles) ≡ None
    still_unused = find_none (is_handle p to) (filter (λ k. not (is_handle p from k)) s.handles) unused_by_all

    sound_revalued : IsSound (revalued to s)
    sound_revalued = record {
      objects = sound.objects;
      processes = sound.processes;
      rows = sound.rows;
      handles = record {
        standing = all_revalued to (λ h. Stands s h.object) (λ h stands. stands) s.handles sound.handles.standing;
        live = all_revalued to (λ h. is_live s h.process ≡ true) (λ h live. live) s.handles sound.handles.live;
        distinct =
            let rest = filter (λ k. not (is_handle p from k)) s.handles in
            let process = its_process newest it_is_found in
            subst (AllPairs (λ a b. is_handle a.process a.value b ≡ false)) (last_is_revalued newest it_is_found)
            (all_pairs_push (λ a b. is_handle a.process a.value b ≡ false) rest (record newest { value = to })
            (AllPairs-filter (λ a b. is_handle a.process a.value b ≡ false) (λ k. not (is_handle p from k)) s.handles sound.handles.distinct)
            (λ k d within.
            subst (λ q. ((q == (get_or rest k d).process) && (to == (get_or rest k d).value)) ≡ false) (sym process)
            (same_pair (get_or rest k d).process p (get_or rest k d).value to (unused_by_all k d within))));
      };
      pending = sound.pending;
    }

    pub core_revalued : (idle : I → Type 0) → IsBetweenSteps idle s → IsBetweenSteps idle (revalued to s)
    core_revalued idle core = record {
      orderly = orderly_revalued to s idle core.orderly;
      sound = sound_revalued;
      settled = settled_revalued to s core.settled;
    }

-- the parts of a namespace whose processes have these handles
pub revalued_state : (K : Type 0) {T F I : Type 0} (a : Parts K T F I) (p from to : ℕ) (last : IsLastHandle (state_of K a) p from) (sound : IsSound (state_of K a)) (h : Held) (running : Running)
    → find (is_handle p from) a.processes.handles ≡ Some h
    → running.handles ≡ filter (λ k. not (is_handle p from k)) a.processes.handles ++ record h { value = to } ∷ [] → running.processes ≡ a.processes.processes
    → state_of K (record a { processes = running }) ≡ revalued to (state_of K a)
revalued_state K a p from to last sound h running found handles processes =
    let now = handles ∙ last_is_revalued (state_of K a) p from to last sound h found in
    (λ i. record (state_of K a) { handles = now i; processes = processes i })
