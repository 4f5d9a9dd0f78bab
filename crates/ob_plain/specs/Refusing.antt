-- A set that refuses each open after so many that the set below it accepted.
use Rattle.std.specs.Prelude.{ℕ, ◌-◌, ◌==◌, cond, Some}
use Rattle.ob_model.specs.Procedures.{Procedures}
use Rattle.ob_plain.specs.Plain.{unless_told}
use Rattle.ob_plain.specs.declared.refusing.Refusing.{Refusing}

-- the set below, and how many opens may still be accepted
abbrev pub allowed_of : {T : Type 0} → Refusing T → T
allowed_of refusing = refusing.part

abbrev pub left_of : {T : Type 0} → Refusing T → ℕ
left_of refusing = refusing.left

-- what each procedure means: what it means below, but where none is left an open is refused by the number 6; an open
-- that is accepted is one less
abbrev pub refusing_procedures : {K T F I : Type 0} → Procedures K T F I → Procedures K (Refusing T) F I
refusing_procedures below = record {
  type_name = below.type_name;
  kind_of = below.kind_of;
  same_kind = below.same_kind;
  parses = below.parses;
  same_face = below.same_face;
  refuses_to_make = below.refuses_to_make;
  made = below.made;
  parsed = below.parsed;
  refuses_to_open = λ refusing inner reason. cond (refusing.left == 0) (Some 6) (below.refuses_to_open refusing.part inner reason);
  opened = λ refusing inner reason. cond (refusing.left == 0) (refusing, inner) (record refusing { part = (below.opened refusing.part inner reason).0; left = unless_told (below.refuses_to_open refusing.part inner reason) refusing.left (refusing.left - 1) }, (below.opened refusing.part inner reason).1);
  closed = λ refusing inner process_left system_left. (record refusing { part = (below.closed refusing.part inner process_left system_left).0 }, (below.closed refusing.part inner process_left system_left).1);
  deleted = λ refusing inner. record refusing { part = below.deleted refusing.part inner };
}
