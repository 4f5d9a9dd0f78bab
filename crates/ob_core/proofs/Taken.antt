-- What holds of a core holds of it where its set's owner has taken from it.
use Rattle.std.proofs.Common.{◌≡◌, Option, None, Some, sym, subst}
use Rattle.std.specs.Prelude.{IfSome, IfNone}
use Rattle.ob_model.specs.Procedures.{Procedures}
use Rattle.ob_model.specs.State.{State}
use Rattle.ob_space.specs.Namespace.{Parts, state_of}
use Rattle.ob_space.specs.Orderly.{IsBetweenSteps}
use Rattle.ob_types.specs.Unnoticed.{IsUnnoticed, with_change}
use Rattle.ob_types.proofs.UnnoticedRuns.{runs_stay}
use Rattle.ob_core.specs.Reached.{IsReached}

-- what holds of a core
abbrev pub IsCore : {K T F I : Type 0} → Procedures K T F I → (I → Type 0) → State K T F I → Type 0
IsCore g idle s = IsBetweenSteps idle s × IsReached g s

module _ {K T F I : Type 0} (g : Procedures K T F I) (idle : I → Type 0) (change : T → T) where
  -- what is orderly, sound and settled doesn't read the set's value
  between_changed : (s : State K T F I) → IsBetweenSteps idle s → IsBetweenSteps idle (with_change change s)
  between_changed s between = record {
    orderly = record {
      root = between.orderly.root;
      rising = between.orderly.rising;
      drawn = between.orderly.drawn;
      standing = between.orderly.standing;
      descending = between.orderly.descending;
      stamped = between.orderly.stamped;
      unheld = between.orderly.unheld;
      opened = between.orderly.opened;
      numbered = between.orderly.numbered;
      few_handles = between.orderly.few_handles;
      few_processes = between.orderly.few_processes;
    };
    sound = record {
      objects = between.sound.objects;
      processes = between.sound.processes;
      rows = between.sound.rows;
      handles = between.sound.handles;
      pending = between.sound.pending;
    };
    settled = record { names = between.settled.names; objects = between.settled.objects };
  }

  core_changed : IsUnnoticed g change → (s : State K T F I) → IsCore g idle s → IsCore g idle (with_change change s)
  core_changed unnoticed s core =
      (between_changed s core.0, (change core.1.0, core.1.1, runs_stay g change core.1.0 core.1.1 s unnoticed core.1.2))

  -- the parts of a namespace whose set gave an item, or had none
  pub core_taken : IsUnnoticed g change → {X : Type 0} (a : Parts K T F I) (set : T) (taken : Option X)
      → IsCore g idle (state_of K a) → IfSome taken (λ _. set ≡ change a.set) → IfNone taken (set ≡ a.set) → IsCore g idle (state_of K (record a { set = set }))
  core_taken unnoticed a set None core some none = subst (λ (value : T). IsCore g idle (state_of K (record a { set = value }))) (sym none) core
  core_taken unnoticed a set (Some x) core some none =
      subst (λ (value : T). IsCore g idle (state_of K (record a { set = value }))) (sym some) (core_changed unnoticed (state_of K a) core)
