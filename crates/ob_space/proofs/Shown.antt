-- What is shown by the parts of a namespace: its store shows its objects and rows, and its processes have
-- their views.
use Rattle.std.proofs.Common.{◌≡◌, ℕ, ◌∙◌, ◌==◌, ap, sym, find}
use Rattle.std.specs.Option.{option_and_then}
use Rattle.ob_model.specs.State.{State, global_id}
use Rattle.ob_objects.specs.Store.{Entries, Shows, objects_of, rows_of}
use Rattle.ob_devmap.specs.View.{IsViewOf}
use Rattle.ob_devmap.specs.declared.view.View.{View}

pub shown : {K T F I : Type 0} (store : Entries F I) {s t : State K T F I} → s ≡ t → t.objects ≡ objects_of store → t.rows ≡ rows_of store → Shows s store
shown store is objects rows = record { objects = ap (λ x. x.objects) is ∙ objects; rows = ap (λ x. x.rows) is ∙ rows }

pub seen : {K T F I : Type 0} {s t : State K T F I} → s ≡ t → (p : ℕ) (view : View)
    → view.local ≡ option_and_then (λ x. x.map) (find (λ x. x.number == p) t.processes) → view.global ≡ global_id → IsViewOf s p view
seen is p view local global = (
  local ∙ sym (ap (λ (u : State _ _ _ _). option_and_then (λ x. x.map) (find (λ x. x.number == p) u.processes)) is),
  global,
)
