-- A set that counts the calls of the set below it.
use Rattle.std.specs.Prelude.{ℕ, ◌+◌, ◌-◌, ◌^◌, min}
use Rattle.ob_model.specs.Procedures.{Procedures}
use Rattle.ob_plain.specs.Plain.{unless_told}
use Rattle.ob_plain.specs.declared.counting.Counting.{Counting}

-- the set below, and the accepted opens, the closes and the deletes that were counted
abbrev pub part_of : {T : Type 0} → Counting T → T
part_of counting = counting.part

abbrev pub opens_of : {T : Type 0} → Counting T → ℕ
opens_of counting = counting.opens

abbrev pub closes_of : {T : Type 0} → Counting T → ℕ
closes_of counting = counting.closes

abbrev pub deletes_of : {T : Type 0} → Counting T → ℕ
deletes_of counting = counting.deletes

-- one more, stopping at the greatest u64
abbrev pub counted : ℕ → ℕ
counted count = min (count + 1) (2 ^ 64 - 1)

-- what each procedure means: what it means below, and one more counted
abbrev pub counting_procedures : {K T F I : Type 0} → Procedures K T F I → Procedures K (Counting T) F I
counting_procedures below = record {
  type_name = below.type_name;
  kind_of = below.kind_of;
  same_kind = below.same_kind;
  parses = below.parses;
  same_face = below.same_face;
  refuses_to_make = below.refuses_to_make;
  made = below.made;
  parsed = below.parsed;
  refuses_to_open = λ counting inner reason. below.refuses_to_open counting.part inner reason;
  opened = λ counting inner reason. (record counting { part = (below.opened counting.part inner reason).0; opens = unless_told (below.refuses_to_open counting.part inner reason) counting.opens (counted counting.opens) }, (below.opened counting.part inner reason).1);
  closed = λ counting inner process_left system_left. (record counting { part = (below.closed counting.part inner process_left system_left).0; closes = counted counting.closes }, (below.closed counting.part inner process_left system_left).1);
  deleted = λ counting inner. record counting { part = below.deleted counting.part inner; deletes = counted counting.deletes };
}
