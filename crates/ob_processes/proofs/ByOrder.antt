-- Handles by orders that rise strictly.
use Rattle.std.proofs.Common.{ℕ, suc, ◌+◌, ◌≤◌, ◌<◌, List, [], ◌∷◌, ◌++◌, length, All, arith}
use Rattle.std.proofs.lemmas.List.Elements.{All-nil, All-head, All-tail, All-push}
use Rattle.std.proofs.lemmas.List.Kept.{AllPairs-cons}
use Rattle.ob_model.specs.declared.state.Held.{Held}
use Rattle.ob_model.proofs.Sorted.{Rises}
use Rattle.ob_processes.specs.ByOrder.{order_of, OrdersRise}

pub OrdersRise-Rises : (handles : List Held) → OrdersRise handles → Rises order_of handles
OrdersRise-Rises [] rising = tt
OrdersRise-Rises (r ∷ handles) rising = (
  λ k d below. omega (arith, rising 0 (suc k) d (omega arith) (omega (arith, below))),
  OrdersRise-Rises handles (λ i j d before below. rising (suc i) (suc j) d (omega (arith, before)) (omega (arith, below))),
)

-- a handle that was opened behind all comes last
pub OrdersRise-push : (handles : List Held) (h : Held) → OrdersRise handles → All (λ k. k.order < h.order) handles → OrdersRise (handles ++ h ∷ [])
OrdersRise-push [] h rising newest = AllPairs-cons (λ a b. a.order < b.order) h [] (All-nil (λ k. h.order < k.order)) rising
OrdersRise-push (r ∷ handles) h rising newest =
    AllPairs-cons (λ a b. a.order < b.order) r (handles ++ h ∷ [])
    (All-push (λ k. r.order < k.order) handles h (λ k d below. rising 0 (suc k) d (omega arith) (omega (arith, below))) (All-head (λ k. k.order < h.order) r handles newest))
    (OrdersRise-push handles h (λ i j d before below. rising (suc i) (suc j) d (omega (arith, before)) (omega (arith, below)))
    (All-tail (λ k. k.order < h.order) r handles newest))

-- there are no more handles than orders that they may have
pub fewer_than_orders : (handles : List Held) (first last : ℕ) → OrdersRise handles → All (λ h. first ≤ h.order) handles → All (λ h. h.order < last) handles → first ≤ last
    → first + length handles ≤ last
fewer_than_orders [] first last rising from below is = omega (arith, is)
fewer_than_orders (r ∷ handles) first last rising from below is =
    let start : first ≤ r.order = All-head (λ h. first ≤ h.order) r handles from in
    let end : r.order < last = All-head (λ h. h.order < last) r handles below in
    let rest : suc r.order + length handles ≤ last =
    fewer_than_orders handles (suc r.order) last
    (λ i j d before within. rising (suc i) (suc j) d (omega (arith, before)) (omega (arith, within)))
    (λ k d within. omega (arith, rising 0 (suc k) d (omega arith) (omega (arith, within))))
    (All-tail (λ h. h.order < last) r handles below) (omega (arith, end)) in
    omega (arith, start, rest)
