-- What a copy of rows keeps while the core beside it makes steps.
use Rattle.std.proofs.Common.{ℕ, ◌<◌, ◌≤◌, List, [], All, Contains, ◌⊎◌, inl, inr, arith}
use Rattle.std.proofs.lemmas.List.Elements.{All-nil, All-contains, All-contains_itself, All-weaker}
use Rattle.ob_model.specs.declared.state.Row.{Row}
use Rattle.ob_model.specs.State.{State}
use Rattle.ob_model.proofs.Sorted.{pairs_none}
use Rattle.ob_laws.specs.Names.{KeepsNames}
use Rattle.ob_mirror.specs.Mirrored.{AreInOrder, Follows}

-- no row was copied yet
pub nothing_follows : {K T F I : Type 0} (s : State K T F I) → Follows [] 0 s
nothing_follows s = record {
  known = All-weaker (Contains s.rows) (λ r. r.object < 0 → Contains [] r) (λ r at less. absurd (omega (arith, less))) s.rows (All-contains_itself s.rows);
  looked_at = All-nil (λ q. q.object < 0);
  drawn = omega arith;
  rising = pairs_none (λ a b. a.object < b.object);
  stamps = All-nil (λ q. q.stamp < s.next_stamp);
  before = All-nil (λ q. All (λ r. q.object < r.object → q.stamp < r.stamp) s.rows);
}

-- names that only went, or came after all others, are in order
pub in_order : {K T F I : Type 0} (s t : State K T F I) → KeepsNames s t → AreInOrder t
in_order s t keeps = record { below = keeps.below; rising = keeps.rising }

-- what followed a state follows each later one
pub follows_lasts : {K T F I : Type 0} (s t : State K T F I) (rows : List Row) (next : ℕ) → KeepsNames s t → Follows rows next s → Follows rows next t
follows_lasts {K} {T} {F} {I} s t rows next keeps follows = record {
  known = All-weaker Kept (λ r. r.object < next → Contains rows r) known t.rows keeps.there;
  looked_at = follows.looked_at;
  drawn = omega (arith, follows.drawn, keeps.drawn.0);
  rising = follows.rising;
  stamps = All-weaker (λ (q : Row). q.stamp < s.next_stamp) (λ q. q.stamp < t.next_stamp) (λ q less. omega (arith, less, keeps.drawn.1)) rows follows.stamps;
  before = All-weaker (Contains rows) (λ q. All (λ r. q.object < r.object → q.stamp < r.stamp) t.rows)
      (λ q at. All-weaker Kept (λ r. q.object < r.object → q.stamp < r.stamp) (before q at) t.rows keeps.there) rows (All-contains_itself rows);
}
  where
    Kept : Row → Type 0
    Kept r = Contains s.rows r ⊎ ((s.next_id ≤ r.object) × (s.next_stamp ≤ r.stamp))

    known : (r : Row) → Kept r → r.object < next → Contains rows r
    known r (inl at) less = All-contains (λ q. q.object < next → Contains rows q) s.rows r follows.known at less
    known r (inr drawn) less = absurd (omega (arith, less, drawn.0, follows.drawn))

    before : (q : Row) → Contains rows q → (r : Row) → Kept r → q.object < r.object → q.stamp < r.stamp
    before q at r (inl there) less = All-contains (λ (x : Row). q.object < x.object → q.stamp < x.stamp) s.rows r (All-contains (λ (p : Row). All (λ x. p.object < x.object → p.stamp < x.stamp) s.rows) rows q follows.before at) there less
    before q at r (inr drawn) less = omega (arith, All-contains (λ (p : Row). p.stamp < s.next_stamp) rows q follows.stamps at, drawn.1)
