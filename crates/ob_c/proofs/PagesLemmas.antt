-- Pages, entry by entry: what they take, what is left of a room, and what is written.
use Rattle.std.proofs.Common.{◌≡◌, ◌≤◌, ◌<◌, ℕ, suc, ◌+◌, ◌-◌, List, [], ◌∷◌, ◌++◌, None, Some, length, take, drop, get_or, slice_set, map, nat_le, if◌then◌else◌, refl, ap, sym, subst, ◌∙◌, arith, append_assoc, append-nil, take-append-drop, Bool, true, false}
use Rattle.std.proofs.lemmas.Bool.{leb-true}
use Rattle.std.proofs.lemmas.List.{length-append, length-drop, length-take-le, set_split, take_more, take_at, drop_at, drop-drop}
use Rattle.std.proofs.lemmas.Slice.{take-put_mid, drop-put_mid}
use borrow.Rule.Slice.PartMut.{put_mid, same_len_mid}
use Rattle.ob_model.specs.Enumeration.{Shown, fitting, listed, room_of}
use Rattle.ob_model.specs.declared.entries.Listed.{Listed}
use Rattle.ob_c.specs.Pages.{entry_bytes, page_bytes, room_left, PagesFit}
use Rattle.ob_numbers.specs.Texts.{zero_ended}

page_append : (a b : List Listed) → page_bytes (a ++ b) ≡ page_bytes a ++ page_bytes b
page_append [] b = refl
page_append (e ∷ a) b = ap (λ z. entry_bytes e ++ z) (page_append a b) ∙ sym (append_assoc (entry_bytes e) (page_bytes a) (page_bytes b))

-- one entry more
pub page_more : (es : List Listed) (i : ℕ) (e : Listed) → i < length es → e ≡ get_or es i e → page_bytes (take (i + 1) es) ≡ page_bytes (take i es) ++ entry_bytes e
page_more es i e l is =
    ap page_bytes (take_more es i e l)
    ∙ (page_append (take i es) (get_or es i e ∷ []) ∙ ap (λ z. page_bytes (take i es) ++ z) (ap (λ x. page_bytes (x ∷ [])) (sym is) ∙ append-nil (entry_bytes e)))

pub page_grows : (es : List Listed) (i : ℕ) (e : Listed) → i < length es → e ≡ get_or es i e
    → length (page_bytes (take (i + 1) es)) ≡ length (page_bytes (take i es)) + length (entry_bytes e)
page_grows es i e l is = ap length (page_more es i e l is) ∙ length-append (page_bytes (take i es)) (entry_bytes e)

front_within : (es : List Listed) (i : ℕ) → length (page_bytes es) ≡ length (page_bytes (take i es)) + length (page_bytes (drop i es))
front_within es i =
    ap (λ z. length (page_bytes z)) (sym (take-append-drop i es)) ∙ (ap length (page_append (take i es) (drop i es)) ∙ length-append (page_bytes (take i es)) (page_bytes (drop i es)))

pub page_within : (es : List Listed) (i : ℕ) (e : Listed) → i < length es → e ≡ get_or es i e → length (page_bytes (take i es)) + length (entry_bytes e) ≤ length (page_bytes es)
page_within es i e l is = omega (arith, page_grows es i e l is, front_within es (i + 1))

-- how many bytes an entry takes
pub zero_length : (text : List ℕ) → length (zero_ended text) ≡ length text + 1
zero_length text = length-append text (0 ∷ [])

pub entry_length : (e : Listed) → length (entry_bytes e) ≡ length e.name + length e.type_name + 2
entry_length e = omega (arith, length-append (zero_ended e.name) (zero_ended e.type_name), zero_length e.name, zero_length e.type_name)

-- what is left of a room
pub some_left : (room needed left : ℕ) → left + needed ≡ room → room_left room needed ≡ Some left
some_left room needed left is = grind arith

pub none_left : (room needed : ℕ) → room < needed → room_left room needed ≡ None
none_left room needed less = grind arith

pub left_of : (room needed left : ℕ) → Some left ≡ room_left room needed → left + needed ≡ room
left_of room needed left is = grind arith

pub less_than : (room needed : ℕ) → None ≡ room_left room needed → room < needed
less_than room needed is = grind arith

-- a buffer whose front was written
pub record Written (old front now : List ℕ) (place : ℕ) : Type 0 where
  pub at : place ≡ length front
  pub bytes : now ≡ front ++ drop place old

-- a page of a room fits it
entry_fits : (e : Shown) → length (entry_bytes (listed e)) ≤ room_of e
entry_fits e = omega (arith, entry_length (listed e))

module _ (e : Shown) (es : List Shown) (room : ℕ) (rest : ℕ → List Shown) (fits : (left : ℕ) → length (page_bytes (map listed (rest left))) ≤ left) where
  fits_by : (b : Bool) → nat_le (room_of e) room ≡ b → length (page_bytes (map listed (if b then e ∷ rest (room - room_of e) else []))) ≤ room
  fits_by true is =
      omega (
        arith,
        entry_fits e,
        fits (room - room_of e),
        length-append (entry_bytes (listed e)) (page_bytes (map listed (rest (room - room_of e)))),
        leb-true (room_of e) room is,
      )
  fits_by false is = omega arith

pub pages_fit : PagesFit
pages_fit room [] = omega arith
pages_fit room (e ∷ es) = fits_by e es room (λ left. fitting left es) (λ left. pages_fit left es) (nat_le (room_of e) room) refl

-- one text more, with a byte 0 behind it
pub written_more : {old front now new : List ℕ} {place behind : ℕ} (text : List ℕ) → Written old front now place → behind ≡ place + length text + 1
    → new ≡ take place now ++ zero_ended text ++ drop (place + length text + 1) now → Written old (front ++ zero_ended text) new behind
written_more {old} {front} {now} {new} {place} {behind} text so_far place_is bytes =
    let kept : take place now ≡ front = ap (take place) so_far.bytes ∙ take_at front (drop place old) place (sym so_far.at) in
    let past : drop place now ≡ drop place old = ap (drop place) so_far.bytes ∙ drop_at front (drop place old) place (sym so_far.at) in
    let more : ℕ = length text + 1 in
    let left : drop (place + more) now ≡ drop (place + more) old = sym (drop-drop more place now) ∙ (ap (drop more) past ∙ drop-drop more place old) in
    let same : place + length text + 1 ≡ place + more = omega arith in
    record {
      at = omega (arith, place_is, so_far.at, length-append front (zero_ended text), zero_length text);
      bytes = bytes
          ∙ (ap (λ z. z ++ zero_ended text ++ drop (place + length text + 1) now) kept
          ∙ ap (λ z. front ++ zero_ended text ++ z) (ap (λ n. drop n now) same ∙ (left ∙ ap (λ n. drop n old) (sym (place_is ∙ same)))));
    }

-- what was written takes no room
pub written_length : {old front now : List ℕ} {place : ℕ} → Written old front now place → place ≤ length old → length now ≡ length old
written_length {old} {front} {now} {place} so_far within =
    omega (arith, ap length so_far.bytes, length-append front (drop place old), length-drop place old, so_far.at)

-- an entry more, by its two texts
pub entry_written : {old now mid new : List ℕ} {place behind place' : ℕ} (es : List Listed) (i : ℕ) (e : Listed) (name kind : List ℕ) → i < length es → e ≡ get_or es i e
    → name ≡ e.name → kind ≡ e.type_name → Written old (page_bytes (take i es)) now place → behind ≡ place + length name + 1
    → mid ≡ take place now ++ zero_ended name ++ drop (place + length name + 1) now → place' ≡ behind + length kind + 1
    → new ≡ take behind mid ++ zero_ended kind ++ drop (behind + length kind + 1) mid → Written old (page_bytes (take (i + 1) es)) new place'
entry_written {old} {now} {mid} {new} {place} {behind} {place'} es i e name kind l is name_is kind_is so_far behind_is mid_is place_is new_is =
    let front : List ℕ = page_bytes (take i es) in
    let both = written_more kind (written_more name so_far behind_is mid_is) place_is new_is in
    let same : (front ++ zero_ended name) ++ zero_ended kind ≡ page_bytes (take (i + 1) es) =
    append_assoc front (zero_ended name) (zero_ended kind)
    ∙ (ap (λ z. front ++ (zero_ended z ++ zero_ended kind)) name_is
    ∙ (ap (λ z. front ++ (zero_ended e.name ++ zero_ended z)) kind_is ∙ sym (page_more es i e l is))) in
    subst (λ (z : List ℕ). Written old z new place') same both

-- there is room for each of its texts
pub name_fits : {old now : List ℕ} {place : ℕ} (es : List Listed) (i : ℕ) (e : Listed) (name : List ℕ) → i < length es → e ≡ get_or es i e → name ≡ e.name
    → Written old (page_bytes (take i es)) now place → length (page_bytes es) ≤ length old → place + length name < length now
name_fits {old} {now} {place} es i e name l is name_is so_far fits =
    let within = page_within es i e l is in
    omega (arith, ap length name_is, entry_length e, within, so_far.at, fits, written_length so_far (omega (arith, within, so_far.at, fits)))

pub kind_fits : {old now mid : List ℕ} {place behind : ℕ} (es : List Listed) (i : ℕ) (e : Listed) (name kind : List ℕ) → i < length es → e ≡ get_or es i e → name ≡ e.name
    → kind ≡ e.type_name → Written old (page_bytes (take i es)) now place → length (page_bytes es) ≤ length old → behind ≡ place + length name + 1
    → mid ≡ take place now ++ zero_ended name ++ drop (place + length name + 1) now → behind + length kind < length mid
kind_fits {old} {now} {mid} {place} {behind} es i e name kind l is name_is kind_is so_far fits behind_is mid_is =
    let within = page_within es i e l is in
    let more = written_more name so_far behind_is mid_is in
    let sizes : behind ≤ length old = omega (arith, ap length name_is, entry_length e, within, so_far.at, fits, behind_is) in
    omega (arith, ap length name_is, ap length kind_is, entry_length e, within, so_far.at, fits, behind_is, written_length more sizes)

-- a text that was copied into a buffer, and the byte 0 that was written behind it
pub text_written : (old part text : List ℕ) (place k : ℕ) → part ≡ text → k ≡ length text → place + length text < length old
    → slice_set (put_mid place k old part) (place + length text) 0 ≡ take place old ++ zero_ended text ++ drop (place + length text + 1) old
text_written old part text place k part_is k_is fits =
    let n : ℕ = place + length text in
    let put : List ℕ = put_mid place k old part in
    let long : length part ≡ k = ap length part_is ∙ sym k_is in
    let whole : length put ≡ length old =
    same_len_mid place k old part (long ∙ sym (length-take-le k (drop place old) (omega (arith, k_is, length-drop place old)))) in
    let front : take n put ≡ take place old ++ part = take-put_mid place k old part n (omega (arith, long, k_is)) (omega arith) in
    let rest : drop (suc n) put ≡ drop (suc n) old = drop-put_mid place k old part (suc n) (omega (arith, k_is)) (omega arith) long in
    set_split put n 0 (omega (arith, whole))
    ∙ (ap (λ z. z ++ 0 ∷ drop (suc n) put) front
    ∙ (ap (λ z. (take place old ++ part) ++ 0 ∷ z) rest
    ∙ (ap (λ z. (take place old ++ z) ++ 0 ∷ drop (suc n) old) part_is
    ∙ (regroup (take place old) text (drop (suc n) old) ∙ ap (λ m. take place old ++ zero_ended text ++ drop m old) (next n)))))
  where
    regroup : (a b c : List ℕ) → (a ++ b) ++ 0 ∷ c ≡ a ++ (b ++ 0 ∷ []) ++ c
    regroup a b c = simp append_assoc

    next : (n : ℕ) → suc n ≡ n + 1
    next n = omega arith
