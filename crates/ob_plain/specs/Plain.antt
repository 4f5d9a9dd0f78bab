-- The procedures of the plain types: events, mutants and sections.
use Rattle.std.specs.Prelude.{ℕ, Bool, leb, true, false, cond, List, Option, None, Some, codes}
use Rattle.ob_model.specs.Procedures.{Procedures, Refused}
use Rattle.ob_plain.specs.Handles as handles
use Rattle.ob_plain.specs.Limits.{limit_of, refuses_arguments}
use Rattle.ob_plain.specs.declared.plain.Plain.{Plain}
use Rattle.ob_plain.specs.declared.plain.PlainKind.{PlainKind}
use Rattle.ob_plain.specs.declared.plain.PlainKind.TheVariants.{Event, Mutant, Section}
use Rattle.ob_plain.specs.declared.plain.PlainFace.{PlainFace}
use Rattle.ob_plain.specs.declared.plain.PlainInner.{PlainInner}

-- the name of the kind's type
abbrev pub name_of : PlainKind → List ℕ
name_of Event = codes "Event"
name_of Mutant = codes "Mutant"
name_of Section = codes "Section"

-- two kinds are one
abbrev pub same_plain_kind : PlainKind → PlainKind → Bool
same_plain_kind Event b = elim b [ Event ↦ true | Mutant ↦ false | Section ↦ false ]
same_plain_kind Mutant b = elim b [ Event ↦ false | Mutant ↦ true | Section ↦ false ]
same_plain_kind Section b = elim b [ Event ↦ false | Mutant ↦ false | Section ↦ true ]

-- an open is refused: the number of handles is at the limit
abbrev pub refuses_handle : PlainInner → Option ℕ
refuses_handle inner = elim inner.limit [ None ↦ None | Some limit ↦ cond (leb limit inner.handles) (Some 2) None ]

-- what stays as it was where it refuses, and else changes
abbrev pub unless_told : {A : Type 0} → Option ℕ → A → A → A
unless_told None kept changed = changed
unless_told (Some _) kept changed = kept

-- one handle more
abbrev pub one_more : PlainInner → PlainInner
one_more inner = record inner { handles = handles.one_more inner.handles }

-- no handle is open
abbrev pub IsIdle : PlainInner → Type 0
IsIdle inner = handles.IsIdle inner.handles

-- what each procedure means
abbrev pub plain_procedures : Procedures PlainKind Plain PlainFace PlainInner
plain_procedures = record {
  type_name = name_of;
  kind_of = λ face. face.kind;
  same_kind = same_plain_kind;
  parses = λ _. false;
  same_face = λ a b. same_plain_kind a.kind b.kind;
  refuses_to_make = λ _ args. refuses_arguments args;
  made = λ kind args. (record { kind = kind }, record { handles = handles.unopened; limit = limit_of args });
  parsed = λ _ _. Refused 3;
  refuses_to_open = λ _ inner _. refuses_handle inner;
  opened = λ set inner _. (set, unless_told (refuses_handle inner) inner (one_more inner));
  closed = λ set inner _ system_left. (set, record inner { handles = system_left });
  deleted = λ set _. set;
}
