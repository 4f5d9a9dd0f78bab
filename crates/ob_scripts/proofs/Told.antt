-- Texts that are gathered part by part, as they are printed.
use Rattle.std.proofs.Common.{◌≡◌, ◌-◌, ℕ, List, [], ◌++◌, Option, length, take, drop, ap, sym, subst, ◌∙◌, append_assoc, append-nil, take-append-drop}
use Rattle.std.proofs.lemmas.List.{take_rest}
use Rattle.ob_output.specs.Printed.{printed_bytes}
use Rattle.ob_output.proofs.Printed.{printed_append}
use Rattle.ob_output.specs.Gathering.{Gathers}
use Rattle.ob_output.specs.Writing.{AppendsFront}
use Rattle.ob_output.proofs.Gathered.{GathersUpTo, gathers_more, gathers_front, front_gathers}

-- a text is printed as a front of it and then its rest
printed_cut : (rest : List ℕ) (count : ℕ) → printed_bytes rest ≡ printed_bytes (take count rest) ++ printed_bytes (drop count rest)
printed_cut rest count = ap printed_bytes (sym (take-append-drop count rest)) ∙ printed_append (take count rest) (drop count rest)

-- one part more
pub part_more : (old mid new : Option (List ℕ)) (had between has text rest : List ℕ) (count : ℕ) → GathersUpTo old mid had (printed_bytes text) (printed_bytes rest) between
    → Gathers mid new between (printed_bytes (take count rest)) has
    → GathersUpTo old new had (printed_bytes text) (printed_bytes (take (length rest - count) (drop count rest))) has
part_more old mid new had between has text rest count so_far one =
    let P : List ℕ → Type 0 = λ x. GathersUpTo old new had (printed_bytes text) (printed_bytes x) has in
    let more : GathersUpTo old new had (printed_bytes text) (printed_bytes (drop count rest)) has = record {
      front = so_far.front ++ printed_bytes (take count rest);
      joined = so_far.joined
          ∙ (ap (λ l. so_far.front ++ l) (printed_cut rest count) ∙ sym (append_assoc so_far.front (printed_bytes (take count rest)) (printed_bytes (drop count rest))));
      gathered = gathers_more old mid new had between has so_far.front (printed_bytes (take count rest)) so_far.gathered one;
    } in
    subst P (sym (take_rest rest count)) more

-- a part at which a write failed
pub part_front : (old mid new : Option (List ℕ)) (had between text rest : List ℕ) (count : ℕ) → GathersUpTo old mid had (printed_bytes text) (printed_bytes rest) between
    → AppendsFront mid new (between ++ printed_bytes (take count rest)) → AppendsFront old new (had ++ printed_bytes text)
part_front old mid new had between text rest count so_far one =
    let P : List ℕ → Type 0 = λ x. AppendsFront old new (had ++ x) in
    let Q : List ℕ → Type 0 = λ x. AppendsFront mid new (between ++ x) in
    let whole : AppendsFront mid new (between ++ printed_bytes rest) =
    subst Q (sym (printed_cut rest count)) (front_gathers mid new between (printed_bytes (take count rest)) (printed_bytes (drop count rest)) one) in
    subst P (sym so_far.joined) (gathers_front old mid new had between so_far.front (printed_bytes rest) so_far.gathered whole)

-- nothing is left
pub parts_all : (old new : Option (List ℕ)) (had has text rest : List ℕ) → GathersUpTo old new had (printed_bytes text) (printed_bytes rest) has → rest ≡ []
    → Gathers old new had (printed_bytes text) has
parts_all old new had has text rest so_far none =
    let P : List ℕ → Type 0 = λ x. Gathers old new had x has in
    subst P (sym (so_far.joined ∙ (ap (λ l. so_far.front ++ printed_bytes l) none ∙ append-nil so_far.front))) so_far.gathered
