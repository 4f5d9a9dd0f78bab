-- Rows, entry by entry: what was read so far, and what is written.
use Rattle.std.proofs.Common.{◌≡◌, ◌≤◌, ◌<◌, ℕ, suc, ◌+◌, List, [], ◌∷◌, ◌++◌, Bool, true, false, MatchBool, Option, Some, Result, length, take, drop, map, slice_set, take-append-drop, refl, ap, sym, subst, ◌∙◌, arith, append_assoc}
use Rattle.std.proofs.lemmas.List.{length-append, length-drop, set_split, take_at, drop_at, drop-drop}
use Rattle.std.proofs.lemmas.Slice.{take-put_mid, drop-put_mid}
use borrow.Rule.Slice.PartMut.{put_mid}
use Rattle.ob_base.specs.declared.status.Status.{Status}
use Rattle.ob_model.specs.declared.entries.Listed.{Listed}
use Rattle.ob_model.specs.declared.reply.Reply.{Reply}
use Rattle.ob_c_state.specs.Machine.{Space}
use Rattle.ob_c.specs.Rows.{Asks, IsRead, Read, Reads, Takes, entry_in, names_of, names_room}
use Rattle.ob_numbers.specs.Types.{IsTypeNumber}
use Rattle.ob_c.specs.declared.rows.PageRow.{PageRow}
use Rattle.ob_c.specs.declared.rows.Progress.{Progress}

-- something more is written after the front of a list
put_more : {A : Type 0} (old now new front part : List A) (n : ℕ) → n ≡ length front → now ≡ front ++ drop n old
    → new ≡ take n now ++ part ++ drop (n + length part) now → new ≡ (front ++ part) ++ drop (n + length part) old
put_more old now new front part n at is put =
    let k : ℕ = length part in
    let kept : take n now ≡ front = ap (take n) is ∙ take_at front (drop n old) n (sym at) in
    let past : drop n now ≡ drop n old = ap (drop n) is ∙ drop_at front (drop n old) n (sym at) in
    let left : drop (n + k) now ≡ drop (n + k) old = sym (drop-drop k n now) ∙ (ap (drop k) past ∙ drop-drop k n old) in
    put ∙ (ap (λ z. z ++ part ++ drop (n + k) now) kept ∙ ap (λ z. front ++ part ++ z) left)

rows_append : (a b : List Read) → map (λ read. read.row) (a ++ b) ≡ map (λ read. read.row) a ++ map (λ read. read.row) b
rows_append [] b = refl
rows_append (read ∷ a) b = ap (λ z. read.row ∷ z) (rows_append a b)

names_append : (a b : List Read) → names_of (a ++ b) ≡ names_of a ++ names_of b
names_append [] b = refl
names_append (read ∷ a) b = ap (λ z. read.name ++ z) (names_append a b) ∙ sym (append_assoc read.name (names_of a) (names_of b))

rows_length : (reads : List Read) → length (map (λ read. read.row) reads) ≡ length reads
rows_length [] = refl
rows_length (read ∷ reads) = ap suc (rows_length reads)

-- the progress after an entry
abbrev after : Progress → Read → Progress
after progress read = record { filled = progress.filled + 1; place = progress.place + length read.name; context = read.row.context }

module _ (process handle : ℕ) where
  -- one entry more
  reads_more : (from to : Progress) (s u v : Space) (reads : List Read) (read : Read) (ended : Result Reply Status) → Reads process handle from s reads to u
      → Asks process handle to.context u ended v → IsRead to.place (entry_in ended) read → Reads process handle from s (reads ++ read ∷ []) (after to read) v
  reads_more from to s u v [] read ended so_far asked is =
      let asked' = subst (λ (x : Space). Asks process handle to.context x ended v) so_far.1 asked in
      let from_here : Reads process handle to s (read ∷ []) (after to read) v = (ended, v, asked', is, (refl, refl)) in
      subst (λ (x : Progress). Reads process handle x s (read ∷ []) (after to read) v) so_far.0 from_here
  reads_more from to s u v (first ∷ reads) read ended so_far asked is =
      (so_far.0, so_far.1, so_far.2, so_far.3, reads_more (after from first) to so_far.1 u v reads read ended so_far.4 asked is)

  -- What was read so far of a listing, and the query after it: the rows and the names stand in front.
  pub record IsAt (s : Space) (context : ℕ) (rows : List PageRow) (buffer : List ℕ) (progress : Progress) (ended : Result Reply Status) (t : Space) (rows' : List PageRow) (buffer' : List ℕ) : Type 0 where
    pub reads : List Read
    pub before : Space
    pub so_far : Reads process handle (record { filled = 0; place = 0; context = context }) s reads progress before
    pub asked : Asks process handle progress.context before ended t
    pub filled : progress.filled ≡ length reads
    pub place : progress.place ≡ length (names_of reads)
    pub rows_are : rows' ≡ map (λ read. read.row) reads ++ drop progress.filled rows
    pub bytes_are : buffer' ≡ names_of reads ++ drop progress.place buffer
    pub rows_fit : progress.filled ≤ length rows
    pub bytes_fit : progress.place ≤ names_room (length buffer)

  module _ {s t : Space} {context : ℕ} {rows rows' : List PageRow} {buffer buffer' : List ℕ} {progress : Progress} {ended : Result Reply Status}
      (at : IsAt s context rows buffer progress ended t rows' buffer') where
    -- the rows keep their length
    pub same_rows : length rows' ≡ length rows
    same_rows =
        omega (
          arith,
          ap length at.rows_are,
          length-append (map (λ read. read.row) at.reads) (drop progress.filled rows),
          length-drop progress.filled rows,
          rows_length at.reads,
          at.filled,
          at.rows_fit,
        )

    -- an entry is taken, and the next one is asked for
    pub one_more : (room : ℕ) (progress' : Progress) (rows'' : List PageRow) (buffer'' : List ℕ) (ended' : Result Reply Status) (t' : Space) (B : Type 0) (took : Bool) → took ≡ true
        → room ≡ names_room (length buffer) → MatchBool took (Takes (entry_in ended) room progress progress' rows' rows'' buffer' buffer'') B → Asks process handle progress'.context t ended' t'
        → IsAt s context rows buffer progress' ended' t' rows'' buffer''
    one_more room progress' rows'' buffer'' ended' t' B false is_true is_room takes asked = cc
    one_more room progress' rows'' buffer'' ended' t' B true is_true is_room takes asked =
        let read = takes.0 in
        let is : progress' ≡ after progress read = takes.4 in
        let next : IsAt s context rows buffer (after progress read) ended' t' rows'' buffer'' = record {
          reads = at.reads ++ read ∷ [];
          before = t;
          so_far = reads_more _ progress s at.before t at.reads read ended at.so_far at.asked takes.1;
          asked = subst (λ (x : Progress). Asks process handle x.context t ended' t') is asked;
          filled = omega (arith, at.filled, length-append at.reads (read ∷ []));
          place = omega (arith, at.place, ap length (names_append at.reads (read ∷ [])), length-append (names_of at.reads) (names_of (read ∷ [])), name_alone read);
          rows_are = put_more rows rows' rows'' (map (λ r. r.row) at.reads) (read.row ∷ []) progress.filled (at.filled ∙ sym (rows_length at.reads)) at.rows_are (takes.5 ∙ one_apart (take progress.filled rows') read.row (drop (progress.filled + 1) rows'))
              ∙ ap (λ z. z ++ drop (progress.filled + 1) rows) (sym (rows_append at.reads (read ∷ [])));
          bytes_are = put_more buffer buffer' buffer'' (names_of at.reads) read.name progress.place at.place at.bytes_are takes.6
              ∙ ap (λ z. z ++ drop (progress.place + length read.name) buffer) (names_more at.reads read);
          rows_fit = omega (arith, takes.2, same_rows);
          bytes_fit = subst (λ (n : ℕ). progress.place + length read.name ≤ n) is_room takes.3;
        } in
        subst (λ (x : Progress). IsAt s context rows buffer x ended' t' rows'' buffer'') (sym is) next
      where
        one_apart : (front : List PageRow) (row : PageRow) (rest : List PageRow) → front ++ row ∷ rest ≡ front ++ (row ∷ []) ++ rest
        one_apart front row rest = sym (append_assoc front (row ∷ []) rest)

        append_nothing : (xs : List ℕ) → xs ++ [] ≡ xs
        append_nothing [] = refl
        append_nothing (x ∷ xs) = ap (λ z. x ∷ z) (append_nothing xs)

        name_alone : (read : Read) → length (names_of (read ∷ [])) ≡ length read.name
        name_alone read = ap length (append_nothing read.name)

        names_more : (reads : List Read) (read : Read) → names_of reads ++ read.name ≡ names_of (reads ++ read ∷ [])
        names_more reads read = sym (names_append reads (read ∷ []) ∙ ap (λ z. names_of reads ++ z) (append_nothing read.name))

  -- nothing was read yet
  pub at_first : (s t : Space) (context : ℕ) (rows : List PageRow) (buffer : List ℕ) (ended : Result Reply Status) → Asks process handle context s ended t
      → IsAt s context rows buffer (record { filled = 0; place = 0; context = context }) ended t rows buffer
  at_first s t context rows buffer ended asked = record {
    reads = [];
    before = s;
    so_far = (refl, refl);
    asked = asked;
    filled = refl;
    place = refl;
    rows_are = refl;
    bytes_are = refl;
    rows_fit = omega arith;
    bytes_fit = omega arith;
  }

-- an entry that a query gave is taken
pub takes_entry : (given : Option (Listed × ℕ)) (entry : Listed) (room context number : ℕ) (old : Progress) (rows rows' : List PageRow) (name buffer buffer' : List ℕ)
    → Some (entry, context) ≡ given → name ≡ entry.name → IsTypeNumber entry.type_name number → old.filled < length rows → old.place + length name ≤ room
    → rows' ≡ take old.filled rows ++ record { context = context; number = number; name = old.place; length = length name } ∷ drop (old.filled + 1) rows
    → buffer' ≡ take old.place buffer ++ name ++ drop (old.place + length name) buffer
    → Takes given room old (record { filled = old.filled + 1; place = old.place + length name; context = context }) rows rows' buffer buffer'
takes_entry given entry room context number old rows rows' name buffer buffer' is name_is report less fits rows_are bytes_are =
    let read : Read = record { name = name; row = record { context = context; number = number; name = old.place; length = length name } } in
    let new : Progress = record { filled = old.filled + 1; place = old.place + length name; context = context } in
    subst (λ (g : Option (Listed × ℕ)). Takes g room old new rows rows' buffer buffer') is
    (read, (name_is, refl, report, refl, ap length name_is), less, fits, refl, rows_are, bytes_are)

-- a row that was set at a place
pub row_put : (rows : List PageRow) (place : ℕ) (row : PageRow) → place < length rows → slice_set rows place row ≡ take place rows ++ row ∷ drop (place + 1) rows
row_put rows place row less = set_split rows place row less ∙ ap (λ n. take place rows ++ row ∷ drop n rows) (next place)
  where
    next : (n : ℕ) → suc n ≡ n + 1
    next n = omega arith

-- a name that was copied to a place
pub name_put : (old part name : List ℕ) (place k : ℕ) → part ≡ name → k ≡ length name → place + length name ≤ length old
    → put_mid place k old part ≡ take place old ++ name ++ drop (place + length name) old
name_put old part name place k part_is k_is fits =
    let n : ℕ = place + length name in
    let put : List ℕ = put_mid place k old part in
    let long : length part ≡ k = ap length part_is ∙ sym k_is in
    let front : take n put ≡ take place old ++ part = take-put_mid place k old part n (omega (arith, long, k_is)) (omega (arith, fits)) in
    let rest : drop n put ≡ drop n old = drop-put_mid place k old part n (omega (arith, k_is)) (omega (arith, fits)) long in
    sym (take-append-drop n put) ∙ (ap (λ z. z ++ drop n put) front ∙ (ap (λ z. take place old ++ part ++ z) rest ∙ ap (λ z. take place old ++ z ++ drop n old) part_is))
