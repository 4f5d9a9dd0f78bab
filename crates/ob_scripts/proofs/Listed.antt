-- Replies that are gathered part by part: texts between quotes, the entries of pages, and the names of types as they are.
use Rattle.std.proofs.Common.{◌≡◌, ◌-◌, ◌+◌, ◌<◌, ℕ, codes, List, ◌++◌, Option, length, take, drop, get_or, refl, ap, sym, subst, ◌∙◌, append_assoc, take-append-drop}
use Rattle.std.proofs.lemmas.List.{take_rest, drop_more}
use Rattle.std.specs.Fmt.{decimal}
use Rattle.ob_model.specs.declared.entries.Listed.{Listed}
use Rattle.ob_model.specs.declared.reply.Given.TheVariants.{Text}
use Rattle.ob_model.specs.declared.reply.Reply.{Reply}
use Rattle.ob_output.specs.Printed.{output_line, status_text, printed_bytes, entry_text, entries_text, given_text, reply_text}
use Rattle.ob_output.specs.Gathering.{Gathers}
use Rattle.ob_output.specs.Writing.{AppendsFront}
use Rattle.ob_output.proofs.Gathered.{GathersUpTo, gathers_more, gathers_front, front_gathers, up_to_nothing}

-- a front of what was left is gathered
pub left_more : {old mid new : Option (List ℕ)} {had between has bytes : List ℕ} (part rest : List ℕ) → GathersUpTo old mid had bytes (part ++ rest) between
    → Gathers mid new between part has → GathersUpTo old new had bytes rest has
left_more {old} {mid} {new} {had} {between} {has} {bytes} part rest so_far one = record {
  front = so_far.front ++ part;
  joined = so_far.joined ∙ sym (append_assoc so_far.front part rest);
  gathered = gathers_more old mid new had between has so_far.front part so_far.gathered one;
}

-- all that was left is gathered
pub left_all : {old mid new : Option (List ℕ)} {had between has bytes : List ℕ} (rest part : List ℕ) → part ≡ rest → GathersUpTo old mid had bytes rest between
    → Gathers mid new between part has → Gathers old new had bytes has
left_all {old} {mid} {new} {had} {between} {has} {bytes} rest part e so_far one =
    let P : List ℕ → Type 0 = λ x. Gathers old new had x has in
    let Q : List ℕ → Type 0 = λ x. Gathers mid new between x has in
    subst P (sym so_far.joined) (gathers_more old mid new had between has so_far.front rest so_far.gathered (subst Q e one))

-- a write failed in what was left
pub left_front : {old mid new : Option (List ℕ)} {had between bytes : List ℕ} (rest part : List ℕ) → part ≡ rest → GathersUpTo old mid had bytes rest between
    → AppendsFront mid new (between ++ part) → AppendsFront old new (had ++ bytes)
left_front {old} {mid} {new} {had} {between} {bytes} rest part e so_far one =
    let P : List ℕ → Type 0 = λ x. AppendsFront old new (had ++ x) in
    let Q : List ℕ → Type 0 = λ x. AppendsFront mid new (between ++ x) in
    subst P (sym so_far.joined) (gathers_front old mid new had between so_far.front rest so_far.gathered (subst Q e one))

-- a write failed in a front of what was left
pub left_first : {old mid new : Option (List ℕ)} {had between bytes : List ℕ} (part rest : List ℕ) → GathersUpTo old mid had bytes (part ++ rest) between
    → AppendsFront mid new (between ++ part) → AppendsFront old new (had ++ bytes)
left_first {old} {mid} {new} {had} {between} {bytes} part rest so_far one =
    left_front (part ++ rest) (part ++ rest) refl so_far (front_gathers mid new between part rest one)

-- one part more of a text as it is, and one at which a write failed
pub plain_more : {old mid new : Option (List ℕ)} {had between has text : List ℕ} (rest : List ℕ) (count : ℕ) → GathersUpTo old mid had text rest between
    → Gathers mid new between (take count rest) has → GathersUpTo old new had text (take (length rest - count) (drop count rest)) has
plain_more {old} {mid} {new} {had} {between} {has} {text} rest count so_far one =
    let P : List ℕ → Type 0 = λ x. GathersUpTo old new had text x has in
    let Q : List ℕ → Type 0 = λ x. GathersUpTo old mid had text x between in
    subst P (sym (take_rest rest count)) (left_more (take count rest) (drop count rest) (subst Q (sym (take-append-drop count rest)) so_far) one)

pub plain_front : {old mid new : Option (List ℕ)} {had between text : List ℕ} (rest : List ℕ) (count : ℕ) → GathersUpTo old mid had text rest between
    → AppendsFront mid new (between ++ take count rest) → AppendsFront old new (had ++ text)
plain_front {old} {mid} {new} {had} {between} {text} rest count so_far one =
    let Q : List ℕ → Type 0 = λ x. GathersUpTo old mid had text x between in
    left_first (take count rest) (drop count rest) (subst Q (sym (take-append-drop count rest)) so_far) one

-- what is left of an entry after its name, and after its first quote
abbrev pub behind_name : Listed → List ℕ
behind_name e = codes "\" " ++ e.type_name

abbrev pub behind_quote : Listed → List ℕ
behind_quote e = printed_bytes e.name ++ behind_name e

entry_is : (e : Listed) → entry_text e ≡ codes " \"" ++ behind_quote e
entry_is e = simp append_assoc

entry_begins : (old : Option (List ℕ)) (had : List ℕ) (e : Listed) → GathersUpTo old old had (entry_text e) (codes " \"" ++ behind_quote e) had
entry_begins old had e = subst (λ x. GathersUpTo old old had (entry_text e) x had) (entry_is e) (up_to_nothing old had (entry_text e))

-- a write failed at the first quote
pub quote_front : {old new : Option (List ℕ)} (had : List ℕ) (e : Listed) → AppendsFront old new (had ++ codes " \"") → AppendsFront old new (had ++ entry_text e)
quote_front {old} {new} had e one = left_first (codes " \"") (behind_quote e) (entry_begins old had e) one

pub quote_more : {old new : Option (List ℕ)} {had has : List ℕ} (e : Listed) → Gathers old new had (codes " \"") has → GathersUpTo old new had (entry_text e) (behind_quote e) has
quote_more {old} {new} {had} {has} e one = left_more (codes " \"") (behind_quote e) (entry_begins old had e) one

-- at the name
pub name_front : {old mid new : Option (List ℕ)} {had between : List ℕ} (e : Listed) (name : List ℕ) → name ≡ e.name
    → GathersUpTo old mid had (entry_text e) (behind_quote e) between → AppendsFront mid new (between ++ printed_bytes name) → AppendsFront old new (had ++ entry_text e)
name_front {old} {mid} {new} {had} {between} e name is so_far one =
    let Q : List ℕ → Type 0 = λ x. AppendsFront mid new (between ++ printed_bytes x) in
    left_first (printed_bytes e.name) (behind_name e) so_far (subst Q is one)

pub name_more : {old mid new : Option (List ℕ)} {had between has : List ℕ} (e : Listed) (name : List ℕ) → name ≡ e.name
    → GathersUpTo old mid had (entry_text e) (behind_quote e) between → Gathers mid new between (printed_bytes name) has
    → GathersUpTo old new had (entry_text e) (behind_name e) has
name_more {old} {mid} {new} {had} {between} {has} e name is so_far one =
    let Q : List ℕ → Type 0 = λ x. Gathers mid new between (printed_bytes x) has in
    left_more (printed_bytes e.name) (behind_name e) so_far (subst Q is one)

-- at the second quote
pub close_front : {old mid new : Option (List ℕ)} {had between : List ℕ} (e : Listed) → GathersUpTo old mid had (entry_text e) (behind_name e) between
    → AppendsFront mid new (between ++ codes "\" ") → AppendsFront old new (had ++ entry_text e)
close_front e so_far one = left_first (codes "\" ") e.type_name so_far one

pub close_more : {old mid new : Option (List ℕ)} {had between has : List ℕ} (e : Listed) → GathersUpTo old mid had (entry_text e) (behind_name e) between
    → Gathers mid new between (codes "\" ") has → GathersUpTo old new had (entry_text e) e.type_name has
close_more e so_far one = left_more (codes "\" ") e.type_name so_far one

-- the entries that are left, and the first of them
entries_cut : (es : List Listed) (i : ℕ) (e : Listed) → i < length es → e ≡ get_or es i e → entries_text (drop i es) ≡ entry_text e ++ entries_text (drop (i + 1) es)
entries_cut es i e l is = ap entries_text (drop_more es i e l) ∙ ap (λ x. entry_text x ++ entries_text (drop (i + 1) es)) (sym is)

-- one entry more, and one at which a write failed
pub entry_more : {old mid new : Option (List ℕ)} {had between has : List ℕ} (es : List Listed) (i : ℕ) (e : Listed) → i < length es → e ≡ get_or es i e
    → GathersUpTo old mid had (entries_text es) (entries_text (drop i es)) between → Gathers mid new between (entry_text e) has
    → GathersUpTo old new had (entries_text es) (entries_text (drop (i + 1) es)) has
entry_more {old} {mid} {new} {had} {between} es i e l is so_far one =
    let Q : List ℕ → Type 0 = λ x. GathersUpTo old mid had (entries_text es) x between in
    left_more (entry_text e) (entries_text (drop (i + 1) es)) (subst Q (entries_cut es i e l is) so_far) one

pub entry_front : {old mid new : Option (List ℕ)} {had between : List ℕ} (es : List Listed) (i : ℕ) (e : Listed) → i < length es → e ≡ get_or es i e
    → GathersUpTo old mid had (entries_text es) (entries_text (drop i es)) between → AppendsFront mid new (between ++ entry_text e)
    → AppendsFront old new (had ++ entries_text es)
entry_front {old} {mid} {new} {had} {between} es i e l is so_far one =
    let Q : List ℕ → Type 0 = λ x. GathersUpTo old mid had (entries_text es) x between in
    left_first (entry_text e) (entries_text (drop (i + 1) es)) (subst Q (entries_cut es i e l is) so_far) one

-- a text that is given, at its first quote
pub quoted_begins : (old : Option (List ℕ)) (had text : List ℕ) → GathersUpTo old old had (given_text (Text text)) (codes " \"" ++ (printed_bytes text ++ codes "\"")) had
quoted_begins old had text = up_to_nothing old had (given_text (Text text))

-- the line that reports a reply, and its part in front of what is given
abbrev pub reply_line : ℕ → Reply → List ℕ
reply_line number reply = output_line number (reply_text reply)

abbrev reply_front : ℕ → Reply → List ℕ
reply_front number reply = decimal number ++ codes ": " ++ status_text reply.status

reply_is : (number : ℕ) (reply : Reply) → reply_line number reply ≡ reply_front number reply ++ (given_text reply.given ++ codes "\n")
reply_is number reply = simp append_assoc

-- at what is given
pub reply_begun : {old new : Option (List ℕ)} {had has : List ℕ} (number : ℕ) (reply : Reply) (part : List ℕ) → part ≡ reply_front number reply
    → Gathers old new had part has → GathersUpTo old new had (reply_line number reply) (given_text reply.given ++ codes "\n") has
reply_begun {old} {new} {had} {has} number reply part is one =
    let P : List ℕ → Type 0 = λ x. GathersUpTo old old had (reply_line number reply) x had in
    let Q : List ℕ → Type 0 = λ x. Gathers old new had x has in
    left_more (reply_front number reply) (given_text reply.given ++ codes "\n") (subst P (reply_is number reply) (up_to_nothing old had (reply_line number reply))) (subst Q is one)
