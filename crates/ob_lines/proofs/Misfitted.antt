-- Parts that a line has: parts of a verb's sorts are its operands, and with a verb that isn't there the line stops.
use Rattle.std.proofs.Common.{◌≡◌, ℕ, ◌≤◌, inl, inr, List, [], ◌∷◌, ◌++◌, length, Option, Some, IfSome, refl, ap, codes, subst, ◌∙◌}
use Rattle.ob_parts.specs.declared.kind.KindForm.{KindForm}
use Rattle.ob_parts.specs.declared.name.NameForm.{NameForm}
use Rattle.ob_parts.specs.declared.name.PlaceForm.{PlaceForm}
use Rattle.ob_parts.specs.declared.sort.PartForm.TheVariants as part
use Rattle.ob_parts.specs.declared.sort.LastForm.TheVariants as last
use Rattle.ob_parts.specs.Text.{Lacks}
use Rattle.ob_parts.specs.Parts.{BeginsWithProcess, IsFlagsAndVariable, IsFlagsTextAndVariable, IsNameFlagsAndVariable, IsWantNameFlagsAndVariable, IsPlaceFlagsTextAndVariable}
use Rattle.ob_parts.specs.Stops.{AreParts}
use Rattle.ob_parts.proofs.Cuts.{lacks_no_cut}
use Rattle.ob_parts.proofs.Flagged.{lacks_from_test}
use Rattle.ob_parts.proofs.Readings.{moved, spaced, spaced_alike}
use Rattle.ob_lines.specs.declared.form.Form.{Form}
use Rattle.ob_lines.specs.declared.form.Form.TheVariants.{Asks, Waits}
use Rattle.ob_lines.specs.declared.pending.PendingForm.TheVariants.{Begin, End, Drop}
use Rattle.ob_lines.specs.declared.request.Request.{Request}
use Rattle.ob_lines.specs.declared.request.Request.TheVariants.{CreateDirectory, CreateShadowed, CreateLink, CreateObject, OpenDirectory, OpenLink, OpenObject, Close, QueryLink, QueryName, QueryDirectory, Duplicate, MakeTemporary, MakePermanent, SetDeviceMap, NewProcess}
use Rattle.ob_lines.specs.declared.verb.Verb.{Verb}
use Rattle.ob_lines.specs.declared.verb.Verb.TheVariants as verb
use Rattle.ob_lines.specs.Grammar.{IsLine, IsOperands, longest_line, verb_of}
use Rattle.ob_lines.specs.Misfits.{HasSorts, IsCutAtSpace}
use Rattle.ob_lines.specs.Verbs.{Sorts, sorts_of, verb_text}
use Rattle.ob_lines.proofs.LineForms.{request_joined}
use Rattle.ob_lines.proofs.Verbs.{verb_lacks}

-- words that have sorts have no space
pub sorts_lack : (word : List ℕ) (sorts : Sorts) → HasSorts word sorts → Lacks 0x20 word
sorts_lack word sorts (inl (v, e, s)) = moved (Lacks 0x20) word (verb_text v) e (verb_lacks v)
sorts_lack word sorts (inr (inl (e, s))) = moved (Lacks 0x20) word (codes "begin") e (lacks_from_test 0x20 (codes "begin") refl)
sorts_lack word sorts (inr (inr (inl e, s))) = moved (Lacks 0x20) word (codes "end") e (lacks_from_test 0x20 (codes "end") refl)
sorts_lack word sorts (inr (inr (inr e, s))) = moved (Lacks 0x20) word (codes "drop") e (lacks_from_test 0x20 (codes "drop") refl)

-- bytes that are cut at their first space, after a word with no sorts, are cut after no other word that has some
pub no_sorts_cut : (bytes word rest : List ℕ) → bytes ≡ word ++ (0x20 ∷ rest) → Lacks 0x20 word → ((sorts : Sorts) → ¬ HasSorts word sorts)
    → (other operands : List ℕ) (sorts : Sorts) → IsCutAtSpace bytes other operands → ¬ HasSorts other sorts
no_sorts_cut bytes word rest e lacks none other operands sorts (inl f) s =
    let same : (word ≡ other) × (rest ≡ operands) = spaced_alike bytes word rest other operands lacks (sorts_lack other sorts s) e f in
    none sorts (moved (λ x. HasSorts x sorts) word other same.0 s)
no_sorts_cut bytes word rest e lacks none other operands sorts (inr (f, o)) s =
    lacks_no_cut 0x20 bytes word rest (moved (Lacks 0x20) bytes other f (sorts_lack other sorts s)) e

-- nor are bytes with no space that have no sorts
pub no_sorts_alone : (bytes : List ℕ) → Lacks 0x20 bytes → ((sorts : Sorts) → ¬ HasSorts bytes sorts)
    → (word operands : List ℕ) (sorts : Sorts) → IsCutAtSpace bytes word operands → ¬ HasSorts word sorts
no_sorts_alone bytes lacks none word operands sorts (inl e) s = lacks_no_cut 0x20 bytes word operands lacks (spaced bytes word operands e)
no_sorts_alone bytes lacks none word operands sorts (inr (e, o)) s = none sorts (moved (λ x. HasSorts x sorts) bytes word e s)

-- parts after one another that several forms have
flags_variable : (bytes : List ℕ) → AreParts (part.Flags ∷ []) last.SetsVariable bytes → (a : ℕ) × (w : List ℕ) × IsFlagsAndVariable bytes a w
flags_variable bytes (r, (a, b), (w, s)) = (a, w, (r, b, s))

flags_text_variable : (bytes : List ℕ) → AreParts (part.Flags ∷ part.Text ∷ []) last.SetsVariable bytes → (a : ℕ) × (t : List ℕ) × (w : List ℕ) × IsFlagsTextAndVariable bytes a t w
flags_text_variable bytes (r, (a, b), (m, (t, c), (w, s))) = (a, t, w, (r, m, b, c, s))

name_flags_variable : (bytes : List ℕ) → AreParts (part.Name ∷ part.Flags ∷ []) last.SetsVariable bytes
    → (n : NameForm (List ℕ)) × (a : ℕ) × (w : List ℕ) × IsNameFlagsAndVariable bytes n a w
name_flags_variable bytes (r, (n, b), f) = let e = flags_variable r f in (n, e.0, e.1, (r, b, e.2))

want_name_flags_variable : (bytes : List ℕ) → AreParts (part.Want ∷ part.Name ∷ part.Flags ∷ []) last.SetsVariable bytes
    → (k : Option KindForm) × (n : NameForm (List ℕ)) × (a : ℕ) × (w : List ℕ) × IsWantNameFlagsAndVariable bytes k n a w
want_name_flags_variable bytes (r, (k, b), f) = let e = name_flags_variable r f in (k, e.0, e.1, e.2, (r, b, e.3))

place_flags_text_variable : (bytes : List ℕ) → AreParts (part.Place ∷ part.Flags ∷ part.Text ∷ []) last.SetsVariable bytes
    → (p : PlaceForm (List ℕ)) × (a : ℕ) × (t : List ℕ) × (w : List ℕ) × IsPlaceFlagsTextAndVariable bytes p a t w
place_flags_text_variable bytes (r, (p, b), f) = let e = flags_text_variable r f in (p, e.0, e.1, e.2, (r, b, e.3))

-- parts of these sorts are the operands of a request of this verb
abbrev Reads : Verb → List ℕ → Sorts → Type 0
Reads v bytes sorts = AreParts sorts.0 sorts.1 bytes → (r : Request (List ℕ)) × (verb_of r ≡ v) × IsOperands bytes r

dir_reads : (bytes : List ℕ) → Reads verb.Dir bytes (part.Place ∷ part.Flags ∷ [], last.SetsVariable)
dir_reads bytes (r, (p, b), f) = let e = flags_variable r f in (CreateDirectory p e.0 e.1, refl, (r, b, e.2))

shadow_reads : (bytes : List ℕ) → Reads verb.Shadow bytes (part.Handle ∷ part.Place ∷ part.Flags ∷ [], last.SetsVariable)
shadow_reads bytes (r, (h, b), (m, (p, c), f)) = let e = flags_variable m f in (CreateShadowed h p e.0 e.1, refl, (r, m, b, c, e.2))

link_reads : (bytes : List ℕ) → Reads verb.Link bytes (part.Place ∷ part.Flags ∷ part.Text ∷ [], last.SetsVariable)
link_reads bytes f = let e = place_flags_text_variable bytes f in (CreateLink e.0 e.1 e.2 e.3, refl, e.4)

make_reads : (bytes : List ℕ) → Reads verb.Make bytes (part.Kind ∷ part.Place ∷ part.Flags ∷ part.Text ∷ [], last.SetsVariable)
make_reads bytes (r, (k, b), f) = let e = place_flags_text_variable r f in (CreateObject k e.0 e.1 e.2 e.3, refl, (r, b, e.4))

opendir_reads : (bytes : List ℕ) → Reads verb.OpenDir bytes (part.Name ∷ part.Flags ∷ [], last.SetsVariable)
opendir_reads bytes f = let e = name_flags_variable bytes f in (OpenDirectory e.0 e.1 e.2, refl, e.3)

openlink_reads : (bytes : List ℕ) → Reads verb.OpenLink bytes (part.Name ∷ part.Flags ∷ [], last.SetsVariable)
openlink_reads bytes f = let e = name_flags_variable bytes f in (OpenLink e.0 e.1 e.2, refl, e.3)

open_reads : (bytes : List ℕ) → Reads verb.Open bytes (part.Want ∷ part.Name ∷ part.Flags ∷ [], last.SetsVariable)
open_reads bytes f = let e = want_name_flags_variable bytes f in (OpenObject e.0 e.1 e.2 e.3, refl, e.4)

list_reads : (bytes : List ℕ) → Reads verb.List bytes (part.Handle ∷ part.Room ∷ [], last.Mode)
list_reads bytes (r, (h, b), (m, (n, c), (mode, s))) = (QueryDirectory h n mode, refl, (r, m, b, c, s))

dup_reads : (bytes : List ℕ) → Reads verb.Dup bytes (part.Handle ∷ part.Process ∷ part.Inherit ∷ [], last.SetsVariable)
dup_reads bytes (r, (h, b), (m, (q, c), (l, (i, d), (w, s)))) = (Duplicate h q i w, refl, (r, m, l, b, c, d, s))

new_reads : (bytes : List ℕ) → Reads verb.New bytes (part.Inherit ∷ [], last.SetsProcess)
new_reads bytes (r, (i, b), (q, s)) = (NewProcess i q, refl, (r, b, s))

each_reads : (v : Verb) (bytes : List ℕ) → IfSome (sorts_of v) (Reads v bytes)
each_reads verb.Dir bytes = dir_reads bytes
each_reads verb.Shadow bytes = shadow_reads bytes
each_reads verb.Link bytes = link_reads bytes
each_reads verb.Make bytes = make_reads bytes
each_reads verb.OpenDir bytes = opendir_reads bytes
each_reads verb.OpenLink bytes = openlink_reads bytes
each_reads verb.Open bytes = open_reads bytes
each_reads verb.Close bytes = λ s. (Close s.0, refl, s.1)
each_reads verb.Target bytes = λ s. (QueryLink s.0, refl, s.1)
each_reads verb.Name bytes = λ s. (QueryName s.0, refl, s.1)
each_reads verb.List bytes = list_reads bytes
each_reads verb.Dup bytes = dup_reads bytes
each_reads verb.Temp bytes = λ s. (MakeTemporary s.0, refl, s.1)
each_reads verb.Perm bytes = λ s. (MakePermanent s.0, refl, s.1)
each_reads verb.Map bytes = λ s. (SetDeviceMap s.0, refl, s.1)
each_reads verb.New bytes = new_reads bytes
each_reads verb.Exit bytes = tt

verb_reads : (v : Verb) (bytes : List ℕ) (sorts : Sorts) → sorts_of v ≡ Some sorts → Reads v bytes sorts
verb_reads v bytes sorts e = let found : IfSome (Some sorts) (Reads v bytes) = subst (λ o. IfSome o (Reads v bytes)) e (each_reads v bytes) in found

-- A line with parts of all sorts that its word has is a script line.
pub has_form : (line process bytes word operands : List ℕ) (sorts : Sorts) → length line ≤ longest_line → BeginsWithProcess line process bytes
    → bytes ≡ word ++ (0x20 ∷ operands) → HasSorts word sorts → AreParts sorts.0 sorts.1 operands → (form : Form (List ℕ)) × IsLine line form
has_form line process bytes word operands sorts short b e (inl (v, f, s)) parts =
    let reads = verb_reads v operands sorts s parts in
    (Asks process reads.0, (bytes, b, inr (request_joined bytes word operands v reads.0 e f reads.1 reads.2), short))
has_form line process bytes word operands sorts short b e (inr (inl (f, s))) parts =
    let own : AreParts (part.Want ∷ part.Name ∷ part.Flags ∷ []) last.SetsVariable operands = subst (λ (x : Sorts). AreParts x.0 x.1 operands) s parts in
    let reads = want_name_flags_variable operands own in
    (Waits process (Begin reads.0 reads.1 reads.2 reads.3), (bytes, b, (operands, e ∙ ap (λ w. w ++ (0x20 ∷ operands)) f, reads.4), short))
has_form line process bytes word operands sorts short b e (inr (inr (inl f, s))) parts =
    let own : AreParts [] last.Variable operands = subst (λ (x : Sorts). AreParts x.0 x.1 operands) s parts in
    (Waits process (End operands), (bytes, b, (own, e ∙ ap (λ w. w ++ (0x20 ∷ operands)) f), short))
has_form line process bytes word operands sorts short b e (inr (inr (inr f, s))) parts =
    let own : AreParts [] last.Variable operands = subst (λ (x : Sorts). AreParts x.0 x.1 operands) s parts in
    (Waits process (Drop operands), (bytes, b, (own, e ∙ ap (λ w. w ++ (0x20 ∷ operands)) f), short))
