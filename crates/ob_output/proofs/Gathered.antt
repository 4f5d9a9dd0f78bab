-- Lemmas on what a writer and a block hold while bytes are gathered part by part.
use Rattle.std.proofs.Common.{◌≡◌, ◌∙◌, ℕ, List, [], ◌++◌, refl, ap, sym, append_assoc, append-nil, subst, Option, Result, Ok, Err, OnOk}
use Rattle.std.specs.Io.KnownBytes.{Appends}
use Rattle.std.proofs.KnownBytes.{Appends-nil, Appends-trans}
use Rattle.ob_output.specs.Gathering.{Gathers}
use Rattle.ob_output.specs.Writing.{AppendsFront}
use Rattle.ob_output.proofs.Writers.{front-append, append-front}

-- nothing is gathered at first
pub gathers_nothing : (old : Option (List ℕ)) (had : List ℕ) → Gathers old old had [] had
gathers_nothing old had = record { front = []; joined = append-nil had; written = Appends-nil old }

-- there is room for all
pub gathers_all : (old : Option (List ℕ)) (had bytes has : List ℕ) → has ≡ had ++ bytes → Gathers old old had bytes has
gathers_all old had bytes has e = record { front = []; joined = sym e; written = Appends-nil old }

-- the block was written and emptied first
pub gathers_behind : (old new : Option (List ℕ)) (had empty bytes has : List ℕ) → Appends old new had → empty ≡ [] → has ≡ empty ++ bytes
    → Gathers old new had bytes has
gathers_behind old new had empty bytes has a none e =
    record { front = had; joined = ap (λ l. had ++ l) (sym (e ∙ ap (λ l. l ++ bytes) none)); written = a }

-- what is gathered, and then more
pub gathers_more : (old mid new : Option (List ℕ)) (had between has bytes more : List ℕ) → Gathers old mid had bytes between → Gathers mid new between more has
    → Gathers old new had (bytes ++ more) has
gathers_more old mid new had between has bytes more first second = record {
  front = first.front ++ second.front;
  joined = sym (append_assoc had bytes more) ∙ (ap (λ l. l ++ more) first.joined
      ∙ (append_assoc first.front between more ∙ (ap (λ l. first.front ++ l) second.joined ∙ sym (append_assoc first.front second.front has))));
  written = Appends-trans old mid new first.front second.front first.written second.written;
}

-- room was made, and then there is room for all
pub gathers_room : (old new : Option (List ℕ)) (had between bytes has : List ℕ) → Gathers old new had [] between → has ≡ between ++ bytes
    → Gathers old new had bytes has
gathers_room old new had between bytes has room e = gathers_more old new new had between has [] bytes room (gathers_all new between bytes has e)

-- what is gathered, and then a beginning of more
pub gathers_front : (old mid new : Option (List ℕ)) (had between bytes more : List ℕ) → Gathers old mid had bytes between → AppendsFront mid new (between ++ more)
    → AppendsFront old new (had ++ (bytes ++ more))
gathers_front old mid new had between bytes more first f =
    let joined : had ++ (bytes ++ more) ≡ first.front ++ (between ++ more) =
    sym (append_assoc had bytes more) ∙ (ap (λ l. l ++ more) first.joined ∙ append_assoc first.front between more) in
    subst (AppendsFront old new) (sym joined) (append-front old mid new first.front (between ++ more) first.written f)

-- a beginning of what is gathered is a beginning of more
pub front_gathers : (old new : Option (List ℕ)) (had bytes more : List ℕ) → AppendsFront old new (had ++ bytes) → AppendsFront old new (had ++ (bytes ++ more))
front_gathers old new had bytes more f = subst (AppendsFront old new) (append_assoc had bytes more) (front-append old new (had ++ bytes) more f)

-- what the block has is written behind what was
pub gathers_out : (old mid new : Option (List ℕ)) (bytes has : List ℕ) → Gathers old mid [] bytes has → Appends mid new has → Appends old new bytes
gathers_out old mid new bytes has g a = subst (Appends old new) (sym g.joined) (Appends-trans old mid new g.front has g.written a)

pub gathers_out_front : (old mid new : Option (List ℕ)) (bytes has : List ℕ) → Gathers old mid [] bytes has → AppendsFront mid new has → AppendsFront old new bytes
gathers_out_front old mid new bytes has g f = subst (AppendsFront old new) (sym g.joined) (append-front old mid new g.front has g.written f)

-- of the bytes all is gathered but `rest`
pub record GathersUpTo (old new : Option (List ℕ)) (had bytes rest has : List ℕ) : Type 0 where
  pub front : List ℕ
  pub joined : bytes ≡ front ++ rest
  pub gathered : Gathers old new had front has

-- nothing is gathered at first
pub up_to_nothing : (old : Option (List ℕ)) (had bytes : List ℕ) → GathersUpTo old old had bytes bytes had
up_to_nothing old had bytes = record { front = []; joined = refl; gathered = gathers_nothing old had }

-- what follows where there is no fault
pub at_ok_weaker : {T E : Type 0} (r : Result T E) (P Q : Type 0) → (P → Q) → OnOk r P → OnOk r Q
at_ok_weaker (Ok x) P Q f h = f h
at_ok_weaker (Err e) P Q f h = tt
