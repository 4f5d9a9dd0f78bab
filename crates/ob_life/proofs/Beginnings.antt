-- A child's handles come one after another: each is opened by the set, or taken from the child again.
use Rattle.std.proofs.Common.{◌≡◌, ◌≢◌, ◌∙◌, ℕ, ◌+◌, ◌-◌, ◌<◌, ◌≤◌, ◌==◌, ◌&&◌, ◌||◌, nat_le, nat_lt, Bool, true, false, not, cond, List, [], ◌∷◌, ◌++◌, length, filter, map, get_or, take, drop, count_by, Option, None, Some, MatchOption, All, refl, ap, sym, subst, arith, eq-eqb}
use Rattle.std.specs.Prelude.{AllPairs}
use Rattle.std.specs.Option.{option_map_or, option_and_then}
use Rattle.std.proofs.lemmas.Bool.{ne_eqb}
use Rattle.std.proofs.lemmas.Bool.Decides.{nat_tests}
use Rattle.std.proofs.lemmas.List.{append-nil, append_assoc, map-append, length-append, length-drop, get_or-drop, get_or_default, drop_more, drop_all, take_all}
use Rattle.std.proofs.lemmas.List.Elements.{All-head, All-tail, All-push, All-weaker, All-filter, filter-append}
use Rattle.std.proofs.lemmas.List.Sums.{count_by-le-length, length-filter}
use Rattle.ob_model.specs.declared.state.Held.{Held}
use Rattle.ob_model.specs.declared.state.Process.{Process}
use Rattle.ob_model.specs.State.{State, process_of, table_size, most_handles, greatest_process}
use Rattle.ob_model.specs.declared.terms.Reason.TheVariants.{Inherited}
use Rattle.ob_model.specs.Procedures.{Procedures}
use Rattle.ob_model.specs.Grants.{open_refusal, with_open, with_handle}
use Rattle.ob_model.specs.Closing.{is_handle}
use Rattle.ob_model.specs.Processes.{most_processes, handles_in, values_in, inherited_from, with_child, without_process, inherits_one, inherits, begun}
use Rattle.ob_model.specs.Sound.{IsSound}
use Rattle.ob_model.proofs.Ended.{live_numbered}
use Rattle.ob_model.proofs.Finds.{filter_all, filter_none}
use Rattle.ob_processes.specs.Handed.{handed_on}
use Rattle.ob_processes.proofs.Handing.{other_values, passed, others_before}
use Rattle.ob_space.specs.Orderly.{IsOrderly}
use Rattle.ob_space.proofs.Handles.{count-append}
use Rattle.ob_space.proofs.Orders.{granted_orderly}
use Rattle.ob_life.specs.Coming.{with_coming}

module _ {K T F I : Type 0} where
  pub none_coming : (s : State K T F I) (process : ℕ) → with_coming s process [] ≡ s
  none_coming s process = λ i. record s { handles = append-nil s.handles i; next_order = zero_more i }
    where
      zero_more : s.next_order + 0 ≡ s.next_order
      zero_more = omega arith

module _ {K T F I : Type 0} (g : Procedures K T F I) (s : State K T F I) (child : ℕ) (h : Held) (rest : List Held) where
  -- the handle that comes, and those behind it
  abbrev first : Held
  first = record { process = child; value = h.value; object = h.object; inherit = true; order = s.next_order }

  abbrev behind : List Held
  behind = handed_on child (s.next_order + 1) rest

  order_is : s.next_order + length (h ∷ rest) ≡ s.next_order + 1 + length rest
  order_is = omega arith

  -- the object of what comes is opened
  pub opened : open_refusal g s h.object Inherited ≡ None → with_open g (with_coming s child (h ∷ rest)) h.object Inherited ≡ with_coming (inherits_one g s child h) child rest
  opened accepted =
      let v = with_handle (with_open g s h.object Inherited) child h.value h.object true in
      (λ i. record (with_open g s h.object Inherited) { handles = handles_are i; next_order = order_is i })
      ∙ ap (λ o. with_coming (option_map_or (λ _. record s { next_order = s.next_order + 1 }) o v) child rest) (sym accepted)
    where
      handles_are : s.handles ++ first ∷ behind ≡ (s.handles ++ first ∷ []) ++ behind
      handles_are = sym (append_assoc s.handles (first ∷ []) behind)

  -- or it isn't, and what came is taken
  pub refused : (k : ℕ) → open_refusal g s h.object Inherited ≡ Some k → All (λ x. is_handle child h.value x ≡ false) s.handles → All (λ x. x.value ≢ h.value) rest
      → record (with_coming s child (h ∷ rest)) { handles = filter (λ x. not (is_handle child h.value x)) (with_coming s child (h ∷ rest)).handles }
      ≡ with_coming (inherits_one g s child h) child rest
  refused k e unused others =
      let v = with_handle (with_open g s h.object Inherited) child h.value h.object true in
      (λ i. record s { handles = handles_are i; next_order = order_is i })
      ∙ ap (λ o. with_coming (option_map_or (λ _. record s { next_order = s.next_order + 1 }) o v) child rest) (sym e)
    where
      keeps : Held → Bool
      keeps x = not (is_handle child h.value x)

      itself : is_handle child h.value first ≡ true
      itself = ap (λ b. b && (h.value == h.value)) (eq-eqb child child refl) ∙ eq-eqb h.value h.value refl

      stay : (xs : List Held) → All (λ x. is_handle child h.value x ≡ false) xs → filter keeps xs ≡ xs
      stay xs none = filter_all keeps xs (All-weaker (λ x. is_handle child h.value x ≡ false) (λ x. keeps x ≡ true) (λ x e. ap not e) xs none)

      handles_are : filter keeps (s.handles ++ first ∷ behind) ≡ s.handles ++ behind
      handles_are =
          filter-append keeps s.handles (first ∷ behind)
          ∙ ap (λ xs. xs ++ filter keeps (first ∷ behind)) (stay s.handles unused)
          ∙ ap (λ t. s.handles ++ cond (not t) (first ∷ filter keeps behind) (filter keeps behind)) itself
          ∙ ap (λ xs. s.handles ++ xs) (stay behind (other_values child (s.next_order + 1) rest h.value others))

-- ---- one handle more that is inherited

module _ {K T F I : Type 0} (g : Procedures K T F I) where
  pub inherits_more : (s : State K T F I) (child : ℕ) (hs : List Held) (h : Held) → inherits g s child (hs ++ h ∷ []) ≡ inherits_one g (inherits g s child hs) child h
  inherits_more s child [] h = refl
  inherits_more s child (k ∷ hs) h = inherits_more (inherits_one g s child k) child hs h

  -- a value that none of them has is as unused as it was
  unused_one : (s : State K T F I) (child value : ℕ) (h : Held) → h.value ≢ value → All (λ x. is_handle child value x ≡ false) s.handles
      → All (λ x. is_handle child value x ≡ false) (inherits_one g s child h).handles
  unused_one s child value h other unused = go (open_refusal g s h.object Inherited)
    where
      neither : (a b : Bool) → b ≡ false → (a && b) ≡ false
      neither true b e = e
      neither false b e = refl

      go : (o : Option ℕ) → All (λ x. is_handle child value x ≡ false)
          (option_map_or (λ _. record s { next_order = s.next_order + 1 }) o (with_handle (with_open g s h.object Inherited) child h.value h.object true)).handles
      go None = All-push (λ x. is_handle child value x ≡ false) s.handles _ unused (neither (child == child) (h.value == value) (ne_eqb h.value value other))
      go (Some k) = unused

  pub unused_all : (s : State K T F I) (child value : ℕ) (hs : List Held) → All (λ h. h.value ≢ value) hs → All (λ x. is_handle child value x ≡ false) s.handles
      → All (λ x. is_handle child value x ≡ false) (inherits g s child hs).handles
  unused_all s child value [] others unused = unused
  unused_all s child value (h ∷ hs) others unused =
      unused_all (inherits_one g s child h) child value hs (All-tail (λ x. x.value ≢ value) h hs others) (unused_one s child value h (All-head (λ x. x.value ≢ value) h hs others) unused)

  -- the values that the child has so far
  pub values_one : (s : State K T F I) (child : ℕ) (h : Held)
      → values_in (inherits_one g s child h) child ≡ values_in s child ++ option_map_or (λ _. []) (open_refusal g s h.object Inherited) (h.value ∷ [])
  values_one s child h = go (open_refusal g s h.object Inherited)
    where
      new : Held
      new = record { process = child; value = h.value; object = h.object; inherit = true; order = s.next_order }

      go : (o : Option ℕ) → values_in (option_map_or (λ _. record s { next_order = s.next_order + 1 }) o (with_handle (with_open g s h.object Inherited) child h.value h.object true)) child
          ≡ values_in s child ++ option_map_or (λ _. []) o (h.value ∷ [])
      go None =
          ap (map (λ x. x.value)) (filter-append (λ (x : Held). x.process == child) s.handles (new ∷ []) ∙ ap (λ (b : Bool). handles_in s child ++ cond b (new ∷ []) []) (eq-eqb child child refl))
          ∙ map-append (λ (x : Held). x.value) (handles_in s child) (new ∷ [])
      go (Some k) = sym (append-nil (values_in s child))

-- ---- the handles that are inherited, one after another

-- no handle is inherited where none is to be, and else those that are marked are
pub none_inherited : {K T F I : Type 0} (s : State K T F I) (p : ℕ) (inherit : Bool) → inherit ≡ false → inherited_from s p inherit ≡ []
none_inherited s p inherit e = ap (inherited_from s p) e ∙ filter_none (λ h. h.inherit && false) (handles_in s p) (λ k d within. neither (get_or (handles_in s p) k d).inherit)
  where
    neither : (b : Bool) → (b && false) ≡ false
    neither true = refl
    neither false = refl

pub all_inherited : {K T F I : Type 0} (s : State K T F I) (p : ℕ) (inherit : Bool) → inherit ≡ true → filter (λ h. h.inherit) (handles_in s p) ≡ inherited_from s p inherit
all_inherited s p inherit e = same (handles_in s p) ∙ sym (ap (inherited_from s p) e)
  where
    both : (b : Bool) → b ≡ (b && true)
    both true = refl
    both false = refl

    same : (hs : List Held) → filter (λ h. h.inherit) hs ≡ filter (λ h. h.inherit && true) hs
    same [] = refl
    same (h ∷ hs) = ap (λ t. cond t (h ∷ filter (λ k. k.inherit) hs) (filter (λ k. k.inherit) hs)) (both h.inherit) ∙ ap (λ xs. cond (h.inherit && true) (h ∷ xs) xs) (same hs)

-- no handle has the number of the process that comes next
pub no_child : {K T F I : Type 0} (s : State K T F I) → IsSound s → All (λ h. (h.process == s.next_process) ≡ false) s.handles
no_child s sound k d within =
    let h = get_or s.handles k d in
    let less = live_numbered s.processes s.next_process h.process sound.processes.numbered (sound.handles.live k d within) in
    ne_eqb h.process s.next_process (λ same. omega (arith, less, same))

-- what is left of a list behind one of its elements, where any two differ
others_behind : (all : List Held) (k : ℕ) (x : Held) → k < length all → x ≡ get_or all k x → AllPairs (λ a b. a.value ≢ b.value) all → All (λ h. h.value ≢ x.value) (drop (k + 1) all)
others_behind all k x within is apart i d below same =
    let left : length (drop (k + 1) all) ≡ length all - (k + 1) = length-drop (k + 1) all in
    apart k (k + 1 + i) d (omega arith) (omega (arith, below, left))
    (ap (λ (h : Held). h.value) (sym (is ∙ get_or_default all k x d within)) ∙ sym same ∙ ap (λ (h : Held). h.value) (get_or-drop (k + 1) all i d))

-- the state after a child of a process has inherited so many of these
abbrev pub after : {K T F I : Type 0} → Procedures K T F I → State K T F I → ℕ → List Held → ℕ → State K T F I
after g s p all k = inherits g (with_child s p) s.next_process (take k all)

module _ {K T F I : Type 0} (g : Procedures K T F I) (s : State K T F I) (p : ℕ) (sound : IsSound s) (all : List Held) (apart : AllPairs (λ a b. a.value ≢ b.value) all) where
  abbrev child : ℕ
  child = s.next_process

  -- the process begins with all of them
  pub started : (process : Option ℕ) (t : State K T F I) → process ≡ option_and_then (λ x. x.map) (process_of s p)
      → t ≡ record s {
        handles = s.handles ++ handed_on child s.next_order all;
        processes = s.processes ++ record { number = child; map = process } ∷ [];
        next_process = s.next_process + 1;
        next_order = s.next_order + length all;
      }
      → t ≡ with_coming (after g s p all 0) child (drop 0 all)
  started process t same is = is ∙ ap (λ (m : Option ℕ). with_coming (record s { processes = s.processes ++ record { number = child; map = m } ∷ []; next_process = s.next_process + 1 }) child all) same

  -- each of them is opened or goes again
  module _ (k : ℕ) (x : Held) (within : k < length all) (is : x ≡ get_or all k x) where
    turn : drop k all ≡ x ∷ drop (k + 1) all
    turn = drop_more all k x within ∙ ap (λ (h : Held). h ∷ drop (k + 1) all) (sym is)

    next_is : after g s p all (k + 1) ≡ inherits_one g (after g s p all k) child x
    next_is = ap (inherits g (with_child s p) child) (passed all k x within is) ∙ inherits_more g (with_child s p) child (take k all) x

    unused : All (λ h. is_handle child x.value h ≡ false) (after g s p all k).handles
    unused =
        unused_all g (with_child s p) child x.value (take k all) (others_before all k x within is apart)
        (All-weaker (λ h. (h.process == child) ≡ false) (λ h. is_handle child x.value h ≡ false) (λ h e. ap (λ b. b && (h.value == x.value)) e) s.handles (no_child s sound))

    abbrev Ends : State K T F I → State K T F I → Bool → Type 0
    Ends before t result =
        MatchOption (open_refusal g before x.object Inherited)
        ((result ≡ true) × (t ≡ with_open g before x.object Inherited))
        (λ _. (result ≡ false) × (t ≡ record before { handles = filter (λ h. not (is_handle child x.value h)) before.handles }))

    pub one_turn : (before t : State K T F I) (result : Bool) → before ≡ with_coming (after g s p all k) child (drop k all) → Ends before t result
        → (t ≡ with_coming (after g s p all (k + 1)) child (drop (k + 1) all)) × (values_in (after g s p all (k + 1)) child ≡ values_in (after g s p all k) child ++ cond result (x.value ∷ []) [])
    one_turn before t result same ends = go (open_refusal g (after g s p all k) x.object Inherited) refl there
      where
        there : Ends (with_coming (after g s p all k) child (x ∷ drop (k + 1) all)) t result
        there = subst (λ (u : State K T F I). Ends u t result) (same ∙ ap (with_coming (after g s p all k) child) turn) ends

        values : values_in (after g s p all (k + 1)) child ≡ values_in (after g s p all k) child ++ option_map_or (λ _. []) (open_refusal g (after g s p all k) x.object Inherited) (x.value ∷ [])
        values = ap (λ u. values_in u child) next_is ∙ values_one g (after g s p all k) child x

        go : (o : Option ℕ) → open_refusal g (after g s p all k) x.object Inherited ≡ o
            → MatchOption o ((result ≡ true) × (t ≡ with_open g (with_coming (after g s p all k) child (x ∷ drop (k + 1) all)) x.object Inherited))
            (λ _. (result ≡ false) × (t ≡ record (with_coming (after g s p all k) child (x ∷ drop (k + 1) all)) { handles = filter (λ h. not (is_handle child x.value h)) (with_coming (after g s p all k) child (x ∷ drop (k + 1) all)).handles }))
            → (t ≡ with_coming (after g s p all (k + 1)) child (drop (k + 1) all)) × (values_in (after g s p all (k + 1)) child ≡ values_in (after g s p all k) child ++ cond result (x.value ∷ []) [])
        go None e h = (
          h.1 ∙ opened g (after g s p all k) child x (drop (k + 1) all) e ∙ ap (λ u. with_coming u child (drop (k + 1) all)) (sym next_is),
          values ∙ ap (λ o. values_in (after g s p all k) child ++ option_map_or (λ _. []) o (x.value ∷ [])) e ∙ ap (λ b. values_in (after g s p all k) child ++ cond b (x.value ∷ []) []) (sym h.0),
        )
        go (Some code) e h = (
          h.1 ∙ refused g (after g s p all k) child x (drop (k + 1) all) code e unused (others_behind all k x within is apart) ∙ ap (λ u. with_coming u child (drop (k + 1) all)) (sym next_is),
          values ∙ ap (λ o. values_in (after g s p all k) child ++ option_map_or (λ _. []) o (x.value ∷ [])) e ∙ ap (λ b. values_in (after g s p all k) child ++ cond b (x.value ∷ []) []) (sym h.0),
        )

  -- behind the last no more comes
  pub all_after : (k : ℕ) → length all ≤ k → after g s p all k ≡ inherits g (with_child s p) child all
  all_after k past = ap (inherits g (with_child s p) child) (take_all k all past)

  pub none_left : (k : ℕ) (t : State K T F I) → length all ≤ k → t ≡ with_coming (after g s p all k) child (drop k all) → t ≡ after g s p all k
  none_left k t past same = same ∙ ap (with_coming (after g s p all k) child) (drop_all k all past) ∙ none_coming (after g s p all k) child

  -- at first the child has no value
  pub no_values : values_in (after g s p all 0) child ≡ []
  no_values = ap (map (λ (h : Held). h.value)) (filter_none (λ h. h.process == child) s.handles (no_child s sound))

-- ---- what begins is orderly

module _ {K T F I : Type 0} (g : Procedures K T F I) (idle : I → Type 0) where
  order_drawn : (s : State K T F I) → IsOrderly idle s → IsOrderly idle (record s { next_order = s.next_order + 1 })
  order_drawn s is = record {
    root = is.root;
    rising = is.rising;
    drawn = is.drawn;
    descending = is.descending;
    stamped = is.stamped;
    standing = is.standing;
    unheld = is.unheld;
    opened = All-weaker (λ h. h.order < s.next_order) (λ h. h.order < s.next_order + 1) (λ h less. omega (arith, less)) s.handles is.opened;
    numbered = is.numbered;
    few_handles = is.few_handles;
    few_processes = is.few_processes;
  }

  one_orderly : (s : State K T F I) (child : ℕ) (h : Held) → IsOrderly idle s → table_size s child < most_handles → IsOrderly idle (inherits_one g s child h)
  one_orderly s child h is room = go (open_refusal g s h.object Inherited)
    where
      go : (o : Option ℕ) → IsOrderly idle (option_map_or (λ _. record s { next_order = s.next_order + 1 }) o (with_handle (with_open g s h.object Inherited) child h.value h.object true))
      go None = granted_orderly g idle s child h.value h.object Inherited true is room
      go (Some k) = order_drawn s is

  one_larger : (s : State K T F I) (child : ℕ) (h : Held) → table_size (inherits_one g s child h) child ≤ table_size s child + 1
  one_larger s child h = go (open_refusal g s h.object Inherited)
    where
      new : Held
      new = record { process = child; value = h.value; object = h.object; inherit = true; order = s.next_order }

      go : (o : Option ℕ) → table_size (option_map_or (λ _. record s { next_order = s.next_order + 1 }) o (with_handle (with_open g s h.object Inherited) child h.value h.object true)) child ≤ table_size s child + 1
      go None =
          let all : count_by (λ x. x.process == child) (s.handles ++ new ∷ []) ≡ table_size s child + count_by (λ x. x.process == child) (new ∷ []) = count-append (λ x. x.process == child) s.handles (new ∷ []) in
          let one : count_by (λ (x : Held). x.process == child) (new ∷ []) ≡ 1 = ap (λ (b : Bool). 0 + cond b 1 0) (eq-eqb child child refl) in
          omega (arith, all, one)
      go (Some k) = omega arith

  inherits_orderly : (s : State K T F I) (child : ℕ) (hs : List Held) → IsOrderly idle s → table_size s child + length hs ≤ most_handles → IsOrderly idle (inherits g s child hs)
  inherits_orderly s child [] is room = is
  inherits_orderly s child (h ∷ hs) is room =
      inherits_orderly (inherits_one g s child h) child hs (one_orderly s child h is (omega (arith, room)))
      (let more = one_larger s child h in omega (arith, room, more))

  child_orderly : (s : State K T F I) (p : ℕ) → IsOrderly idle s → length s.processes < most_processes → IsOrderly idle (with_child s p)
  child_orderly s p is room = record {
    root = is.root;
    rising = is.rising;
    drawn = is.drawn;
    descending = is.descending;
    stamped = is.stamped;
    standing = is.standing;
    unheld = is.unheld;
    opened = is.opened;
    numbered = All-push (λ x. x.number < s.next_process + 1) s.processes child
        (All-weaker (λ x. x.number < s.next_process) (λ x. x.number < s.next_process + 1) (λ x less. omega (arith, less)) s.processes is.numbered) (omega arith);
    few_handles = is.few_handles;
    few_processes = let longer : length (s.processes ++ child ∷ []) ≡ length s.processes + 1 = length-append s.processes (child ∷ []) in omega (arith, room, longer);
  }
    where
      child : Process
      child = record { number = s.next_process; map = option_and_then (λ x. x.map) (process_of s p) }

      go : (o : Option Process) → MatchOption o (Unit {0}) (λ x. x.map ≡ None) → option_and_then (λ x. x.map) o ≡ None
      go None h = refl
      go (Some x) h = h

  pub begun_orderly : (s : State K T F I) (p : ℕ) (inherit : Bool) → IsSound s → IsOrderly idle s → length s.processes < most_processes → IsOrderly idle (begun g s p inherit)
  begun_orderly s p inherit sound is room =
      inherits_orderly (with_child s p) s.next_process (inherited_from s p inherit) (child_orderly s p is room)
      (let none : table_size s s.next_process ≡ 0 = sym (length-filter (λ h. h.process == s.next_process) s.handles) ∙ ap length (filter_none (λ h. h.process == s.next_process) s.handles (no_child s sound)) in
      let own : length (handles_in s p) ≡ table_size s p = length-filter (λ h. h.process == p) s.handles in
      let marked : length (inherited_from s p inherit) ≡ count_by (λ h. h.inherit && inherit) (handles_in s p) = length-filter (λ h. h.inherit && inherit) (handles_in s p) in
      let fewer = count_by-le-length (λ h. h.inherit && inherit) (handles_in s p) in
      let few : table_size s p ≤ most_handles = is.few_handles p in
      omega (arith, none, own, marked, fewer, few))

  -- and so is the state without a process
  pub parted_orderly : (s : State K T F I) (p : ℕ) → IsOrderly idle s → IsOrderly idle (without_process s p)
  parted_orderly s p is = record {
    root = is.root;
    rising = is.rising;
    drawn = is.drawn;
    descending = is.descending;
    stamped = is.stamped;
    standing = is.standing;
    unheld = is.unheld;
    opened = is.opened;
    numbered = All-filter (λ x. not (x.number == p)) (λ x. x.number < s.next_process) s.processes is.numbered;
    few_handles = is.few_handles;
    few_processes =
        let counted : length (filter (λ x. not (x.number == p)) s.processes) ≡ count_by (λ x. not (x.number == p)) s.processes = length-filter (λ x. not (x.number == p)) s.processes in
        let fewer = count_by-le-length (λ x. not (x.number == p)) s.processes in
        let few : length s.processes ≤ most_processes = is.few_processes in
        omega (arith, counted, fewer, few);
  }

-- fewer processes live than may
pub fewer_processes : {K T F I : Type 0} (s : State K T F I) → (nat_le most_processes (length s.processes) || nat_lt greatest_process s.next_process) ≡ false → length s.processes < most_processes
fewer_processes s e = go (nat_le most_processes (length s.processes)) refl e
  where
    go : (t : Bool) → nat_le most_processes (length s.processes) ≡ t → (t || nat_lt greatest_process s.next_process) ≡ false → length s.processes < most_processes
    go true f e = cc
    go false f e = grind (arith, nat_tests)
