-- A table with a handle more or less is a table.
use Rattle.std.proofs.Common.{◌≡◌, ◌≢◌, ◌∙◌, ℕ, suc, ◌+◌, ◌<◌, ◌==◌, Bool, true, false, not, cond, if◌then◌else◌, List, [], ◌∷◌, ◌++◌, length, get_or, find, None, Some, All, refl, ap, sym, arith, eqb-true, eq-eqb}
use Rattle.std.proofs.lemmas.Bool.{false≢true}
use Rattle.std.proofs.lemmas.List.Elements.{All-nil, All-push, All-filter}
use Rattle.std.proofs.lemmas.List.Kept.{AllPairs-cons, AllPairs-filter}
use Rattle.std.specs.List.{AllPairs}
use Rattle.std.specs.Option.{is_some}
use Rattle.ob_model.specs.declared.state.Held.{Held}
use Rattle.ob_model.specs.Grants.{IsHandleValue}
use Rattle.ob_model.proofs.Finds.{filter_all}
use Rattle.ob_handles.specs.Table.{IsTable, IsUnused, without}
use Rattle.ob_processes.proofs.ByOrder.{OrdersRise-push}

pub taken_table : (handles : List Held) (value : ℕ) → IsTable handles → IsTable (without handles value)
taken_table handles value is = record {
  rising = AllPairs-filter (λ a b. a.order < b.order) (λ h. not (h.value == value)) handles is.rising;
  apart = AllPairs-filter (λ a b. a.value ≢ b.value) (λ h. not (h.value == value)) handles is.apart;
  values = All-filter (λ h. not (h.value == value)) (λ h. IsHandleValue h.value) handles is.values;
}

-- a handle more, at the end
pushed_apart : (handles : List Held) (h : Held) → AllPairs (λ a b. a.value ≢ b.value) handles → find (λ k. k.value == h.value) handles ≡ None
    → AllPairs (λ a b. a.value ≢ b.value) (handles ++ h ∷ [])
pushed_apart [] h apart unused = AllPairs-cons (λ a b. a.value ≢ b.value) h [] (All-nil (λ k. h.value ≢ k.value)) apart
pushed_apart (k ∷ handles) h apart unused = go (k.value == h.value) refl unused (pushed_apart handles h (λ i j d before below. apart (suc i) (suc j) d (omega (arith, before)) (omega (arith, below))))
  where
    go : (t : Bool) → (k.value == h.value) ≡ t → cond t (Some k) (find (λ x. x.value == h.value) handles) ≡ None
        → (find (λ x. x.value == h.value) handles ≡ None → AllPairs (λ a b. a.value ≢ b.value) (handles ++ h ∷ [])) → AllPairs (λ a b. a.value ≢ b.value) (k ∷ (handles ++ h ∷ []))
    go true same here more = cc
    go false other there more =
        AllPairs-cons (λ a b. a.value ≢ b.value) k (handles ++ h ∷ [])
        (All-push (λ x. k.value ≢ x.value) handles h (λ i d below. apart 0 (suc i) d (omega arith) (omega (arith, below))) (λ same. false≢true (sym other ∙ eq-eqb k.value h.value same)))
        (more there)

pub pushed_table : (handles : List Held) (h : Held) → IsTable handles → IsUnused handles h.value → All (λ k. k.order < h.order) handles → IsTable (handles ++ h ∷ [])
pushed_table handles h is unused newest = record {
  rising = OrdersRise-push handles h is.rising newest;
  apart = pushed_apart handles h is.apart unused.1;
  values = All-push (λ k. IsHandleValue k.value) handles h is.values unused.0;
}

-- ---- a table without one of its handles is one shorter

pub taken_length : (handles : List Held) (value : ℕ) → IsTable handles → length (without handles value) + (if is_some (find (λ h. h.value == value) handles) then 1 else 0) ≡ length handles
taken_length handles value is = lengths handles is.apart
  where
    Apart : List Held → Type 0
    Apart hs = AllPairs (λ a b. a.value ≢ b.value) hs

    lengths : (hs : List Held) → Apart hs → length (without hs value) + (if is_some (find (λ h. h.value == value) hs) then 1 else 0) ≡ length hs
    lengths [] apart = refl
    lengths (h ∷ hs) apart = go (h.value == value) refl (lengths hs (λ i j d before below. apart (suc i) (suc j) d (omega (arith, before)) (omega (arith, below))))
      where
        stays : h.value ≡ value → All (λ x. not (x.value == value) ≡ true) hs
        stays same = λ k d below. other (get_or hs k d) ((get_or hs k d).value == value) refl (apart 0 (suc k) d (omega arith) (omega (arith, below)))
          where
            other : (x : Held) (t : Bool) → (x.value == value) ≡ t → h.value ≢ x.value → not (x.value == value) ≡ true
            other x true here differ = absurd (differ (let e : x.value ≡ value = eqb-true x.value value here in same ∙ sym e))
            other x false there differ = ap not there

        go : (t : Bool) → (h.value == value) ≡ t → length (without hs value) + (if is_some (find (λ x. x.value == value) hs) then 1 else 0) ≡ length hs
            → length (cond (not t) (h ∷ without hs value) (without hs value)) + (if is_some (cond t (Some h) (find (λ x. x.value == value) hs)) then 1 else 0) ≡ length (h ∷ hs)
        go true same more = let all : length (without hs value) ≡ length hs = ap length (filter_all (λ x. not (x.value == value)) hs (stays (eqb-true h.value value same))) in omega (arith, all)
        go false other more = omega (arith, more)
