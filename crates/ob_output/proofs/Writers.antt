-- Lemmas on what a writer holds while bytes are written to it part by part.
use Rattle.std.proofs.Common.{◌≡◌, ◌≢◌, ◌∙◌, ◌-◌, ℕ, List, [], ◌∷◌, ◌++◌, length, take, drop, refl, ap, sym, append_assoc, append-nil, subst, take-append-drop, Option, Result, Ok, Err, OnErr}
use Rattle.std.proofs.lemmas.List.{take_rest}
use Rattle.std.specs.Io.KnownBytes.{Appends, Keeps}
use Rattle.std.proofs.KnownBytes.{Appends-nil, Appends-trans, Appends-kept}
use Rattle.ob_output.specs.Writing.{AppendsFront}

-- of the bytes all is written but `rest`
pub record WritesUpTo (old new : Option (List ℕ)) (bytes rest : List ℕ) : Type 0 where
  pub front : List ℕ
  pub joined : bytes ≡ front ++ rest
  pub written : Appends old new front

-- nothing is written at first
pub writes_nothing : (old : Option (List ℕ)) (bytes : List ℕ) → WritesUpTo old old bytes bytes
writes_nothing old bytes = record { front = []; joined = refl; written = Appends-nil old }

-- one write more
pub writes_more : (old mid new : Option (List ℕ)) (bytes rest : List ℕ) (count : ℕ) → WritesUpTo old mid bytes rest
    → Appends mid new (take count rest) → WritesUpTo old new bytes (drop count rest)
writes_more old mid new bytes rest count so_far one = record {
  front = so_far.front ++ take count rest;
  joined = so_far.joined ∙ ap (λ l. so_far.front ++ l) (sym (take-append-drop count rest)) ∙ sym (append_assoc so_far.front (take count rest) (drop count rest));
  written = Appends-trans old mid new so_far.front (take count rest) so_far.written one;
}

-- one write more, with the rest as a slice's range gives it
pub writes_on : (old mid new : Option (List ℕ)) (bytes rest : List ℕ) (count : ℕ) → WritesUpTo old mid bytes rest
    → Appends mid new (take count rest) → WritesUpTo old new bytes (take (length rest - count) (drop count rest))
writes_on old mid new bytes rest count so_far one =
    subst (WritesUpTo old new bytes) (sym (take_rest rest count)) (writes_more old mid new bytes rest count so_far one)

-- nothing is left
pub writes_all : (old new : Option (List ℕ)) (bytes rest : List ℕ) → WritesUpTo old new bytes rest → rest ≡ [] → Appends old new bytes
writes_all old new bytes rest so_far none =
    subst (Appends old new) (sym (so_far.joined ∙ ap (λ l. so_far.front ++ l) none ∙ append-nil so_far.front)) so_far.written

-- a write failed with something left
pub writes_front : (old mid new : Option (List ℕ)) (bytes rest : List ℕ) → WritesUpTo old mid bytes rest → rest ≢ [] → Keeps mid new
    → AppendsFront old new bytes
writes_front old mid new bytes rest so_far some kept = record {
  front = so_far.front;
  back = rest;
  joined = so_far.joined;
  unwritten = some;
  written = Appends-kept old mid new so_far.front so_far.written kept;
}

-- lists that join to nothing are nothing
front_of_nothing : (front back : List ℕ) → front ++ back ≡ [] → front ≡ []
front_of_nothing [] back none = refl
front_of_nothing (x ∷ front) back none = cc

-- a beginning of some bytes is a beginning of more
pub front-append : (old new : Option (List ℕ)) (bytes more : List ℕ) → AppendsFront old new bytes → AppendsFront old new (bytes ++ more)
front-append old new bytes more h = record {
  front = h.front;
  back = h.back ++ more;
  joined = ap (λ l. l ++ more) h.joined ∙ append_assoc h.front h.back more;
  unwritten = λ none. h.unwritten (front_of_nothing h.back more none);
  written = h.written;
}

-- some bytes, and then a beginning of more
pub append-front : (old mid new : Option (List ℕ)) (bytes more : List ℕ) → Appends old mid bytes → AppendsFront mid new more
    → AppendsFront old new (bytes ++ more)
append-front old mid new bytes more first h = record {
  front = bytes ++ h.front;
  back = h.back;
  joined = ap (λ l. bytes ++ l) h.joined ∙ sym (append_assoc bytes h.front h.back);
  unwritten = h.unwritten;
  written = Appends-trans old mid new bytes h.front first h.written;
}

-- one part, and then a beginning of the next, of three
pub append-front-append : (a b c : Option (List ℕ)) (xs ys zs : List ℕ) → Appends a b xs → AppendsFront b c ys → AppendsFront a c (xs ++ (ys ++ zs))
append-front-append a b c xs ys zs first second = append-front a b c xs (ys ++ zs) first (front-append b c ys zs second)

-- two parts, and then a beginning of the third
pub append-append-front : (a b c d : Option (List ℕ)) (xs ys zs : List ℕ) → Appends a b xs → Appends b c ys → AppendsFront c d zs
    → AppendsFront a d (xs ++ (ys ++ zs))
append-append-front a b c d xs ys zs first second third = append-front a b d xs (ys ++ zs) first (append-front b c d ys zs second third)

-- what holds anyway holds at a fault
pub at_err : {T E : Type 0} (r : Result T E) (P : Type 0) → P → OnErr r P
at_err (Ok x) P h = tt
at_err (Err e) P h = h

-- what follows at a fault
pub at_err_weaker : {T E : Type 0} (r : Result T E) (P Q : Type 0) → (P → Q) → OnErr r P → OnErr r Q
at_err_weaker (Ok x) P Q f h = tt
at_err_weaker (Err e) P Q f h = f h
