-- What a pass over rows makes of each.
use Rattle.std.proofs.Common.{◌≡◌, ℕ, ◌+◌, Bool, true, false, cond, List, Some, inl, inr, sym, ap, ◌∙◌, refl, take}
use Rattle.std.specs.List.{IsDistinct, slice_get}
use Rattle.std.specs.Map.{keys_of}
use Rattle.std.specs.Str.{bytes_eq}
use Rattle.smallvec.specs.SmallVec.{SmallVec}
use Rattle.ob_requests.specs.declared.variable.Variable.{Variable}
use Rattle.ob_requests.specs.declared.variable.Write.{Write}
use Rattle.ob_requests.specs.declared.variable.Write.TheVariants.{Ticket}
use Rattle.ob_requests.specs.Rows.{no_row, written}
use Rattle.ob_requests.specs.Tables.{number_among, IsKept}
use Rattle.ob_requests.specs.Variables.{with_number}
use Rattle.ob_requests.proofs.Tables.{same_bytes, same_key, not_earlier, taken}

-- a row is written
abbrev pub IsWritten : Write → Variable → Variable → Type 0
IsWritten write old new = new ≡ written old write

-- a row has no ticket
abbrev pub HasNoTicket : Variable → Variable → Type 0
HasNoTicket old new = old.ticket ≡ 0

module _ (Says : ℕ → Bool → Type 0) where
  -- a row's value is kept by a test, and the rest of it stays
  abbrev pub IsRowKept : Variable → Variable → Type 0
  IsRowKept old new = IsKept Says old.value new.value × (new.context ≡ old.context) × (new.ticket ≡ old.ticket)

  pub row_stays : (row : Variable) → Says row.value true → IsRowKept row row
  row_stays row passes = (inl (refl, passes), refl, refl)

  pub row_goes : (row : Variable) → Says row.value false → IsRowKept row (record { value = 0; context = row.context; ticket = row.ticket })
  row_goes row fails = (inr (inl (refl, fails)), refl, refl)

  pub none_kept : IsRowKept no_row no_row
  none_kept = (inr (inr (refl, refl)), refl, refl)

-- ---- tickets that are taken over, a slot at a time

module _ (was now : List ℕ → Variable) (es : List (SmallVec ℕ × Variable)) (slot : ℕ) (e : SmallVec ℕ × Variable) (distinct : IsDistinct same_key (keys_of es)) (at : slice_get es slot ≡ Some e)
    (so_far : (w : List ℕ) → now w ≡ written (was w) (Ticket (number_among no_row (take slot es) w).ticket)) where
  -- the tickets of the slots so far, and of this one
  with_this : (w : List ℕ) (b : Bool) → bytes_eq e.0.items w ≡ b → (number_among no_row (take (slot + 1) es) w).ticket ≡ (cond b e.1 (number_among no_row (take slot es) w)).ticket
  with_this w b is = ap (λ (r : Variable). r.ticket) (taken no_row es slot e distinct at w ∙ ap (λ (b : Bool). cond b e.1 (number_among no_row (take slot es) w)) is)

  -- the ticket of this slot is written
  pub ticket_added : (new : List ℕ → Variable) (variable : List ℕ) → e.0.items ≡ variable → new ≡ with_number now variable (written (now variable) (Ticket e.1.ticket))
      → (w : List ℕ) → new w ≡ written (was w) (Ticket (number_among no_row (take (slot + 1) es) w).ticket)
  ticket_added new variable is set w = ap (λ (f : List ℕ → Variable). f w) set ∙ go (bytes_eq variable w) refl
    where
      go : (b : Bool) → bytes_eq variable w ≡ b → cond b (written (now variable) (Ticket e.1.ticket)) (now w) ≡ written (was w) (Ticket (number_among no_row (take (slot + 1) es) w).ticket)
      go true h =
          ap (λ (r : Variable). written r (Ticket e.1.ticket)) (so_far variable)
          ∙ (ap (λ (v : List ℕ). written (was v) (Ticket e.1.ticket)) (same_bytes variable w h)
          ∙ ap (λ (n : ℕ). written (was w) (Ticket n)) (sym (with_this w true (ap (λ (v : List ℕ). bytes_eq v w) is ∙ h))))
      go false h = so_far w ∙ ap (λ (n : ℕ). written (was w) (Ticket n)) (sym (with_this w false (ap (λ (v : List ℕ). bytes_eq v w) is ∙ h)))

  -- this slot has none
  pub ticket_passed : e.1.ticket ≡ 0 → (w : List ℕ) → now w ≡ written (was w) (Ticket (number_among no_row (take (slot + 1) es) w).ticket)
  ticket_passed none w = so_far w ∙ ap (λ (n : ℕ). written (was w) (Ticket n)) (go (bytes_eq e.0.items w) refl)
    where
      go : (b : Bool) → bytes_eq e.0.items w ≡ b → (number_among no_row (take slot es) w).ticket ≡ (number_among no_row (take (slot + 1) es) w).ticket
      go true h = ap (λ (r : Variable). r.ticket) (not_earlier no_row es slot e distinct at w h) ∙ (sym none ∙ sym (with_this w true h))
      go false h = sym (with_this w false h)
