-- Lines that are those of a run: one more, and what two runs with the same lines have in common.
use Rattle.std.proofs.Common.{◌≡◌, ◌∙◌, ℕ, ◌+◌, ◌<◌, ◌==◌, Bool, true, false, not, ◌||◌, nat_lt, List, [], ◌∷◌, ◌++◌, length, Option, None, Some, MatchOption, refl, ap, sym, subst, arith, append_assoc, append-nil, eq-eqb, inl, inr}
use Rattle.std.proofs.lemmas.Bool.{lt-ltb}
use Rattle.std.specs.Option.{is_some}
use Rattle.ob_base.specs.Status.{code_of, CodesTellStatuses}
use Rattle.ob_model.specs.declared.reply.Answer.{Answer}
use Rattle.ob_model.specs.declared.reply.Answer.TheVariants as answer
use Rattle.ob_model.specs.declared.reply.Event.{Event}
use Rattle.ob_model.specs.declared.reply.Event.TheVariants.{Start, Resume, Abandon}
use Rattle.ob_model.specs.declared.reply.Given.{Given}
use Rattle.ob_model.specs.declared.reply.Given.TheVariants as given
use Rattle.ob_model.specs.declared.state.PendingOpen.{PendingOpen}
use Rattle.ob_model.specs.Opening.{opening}
use Rattle.ob_model.specs.Parses.{Resumes, Abandons}
use Rattle.ob_model.specs.PendingOpens.{pending_of}
use Rattle.ob_model.specs.Run.{Entry, RunFrom, Run}
use Rattle.ob_model.specs.Step.{Step}
use Rattle.ob_model.proofs.Ends.{run_end}
use Rattle.ob_standard.specs.Standard.{StandardKind, Standard, standard, IsFresh}
use Rattle.ob_standard_core.specs.Machine.{Space}
use Rattle.ob_entries.specs.Segments.{most_entries}
use Rattle.ob_reader.specs.declared.header.Header.{Header}
use Rattle.ob_reader.specs.declared.line.Line.{Line}
use Rattle.ob_reader.specs.declared.line.SegmentLine.{SegmentLine}
use Rattle.ob_reader.specs.declared.line.SegmentLine.TheVariants as says
use Rattle.ob_reader.specs.declared.said.Gift.{Gift}
use Rattle.ob_reader.specs.declared.said.Said.TheVariants as said
use Rattle.ob_reader.specs.Reading.{said_of, gift_of, line_about}
use Rattle.ob_lines.specs.Lines.{lines_of}
use Rattle.ob_journal.specs.declared.position.Position.{Position}
use Rattle.ob_journal.specs.declared.report.Cause.{Cause}
use Rattle.ob_journal.specs.declared.report.Cause.TheVariants as cause
use Rattle.ob_journal.specs.Journal.{Entries, seats_of, first_of, first_header_for, next_header, after_first, after_header, after_entry, said_after, BeginsSegment, TellsEntry, Tell, AreOfRun, first_cause, lacks_ticket, has_room, early_causes, IsNoReply, IsRefused, IsRefusedLine, no_line, no_header, at_line, WhatStopsIsNoRun, WhatStopsIsRefused}
use Rattle.ob_journal.specs.Played.{Played, PlaysLine}

-- two fresh sets are the same
fresh_alike : (a b : Standard) → IsFresh a → IsFresh b → a ≡ b
fresh_alike a b f h = λ i. record a {
  opens = (f.no_opens ∙ sym h.no_opens) i;
  closes = (f.no_closes ∙ sym h.no_closes) i;
  deletes = (f.no_deletes ∙ sym h.no_deletes) i;
}

-- ---- one more line

-- a run with one more step
run_push : (s t u : Space) (n : ℕ) (entries : Entries) (e : Entry StandardKind) → RunFrom standard s n entries t → e.number ≡ n + length entries + 1 → Step standard t e.event e.answer u
    → RunFrom standard s n (entries ++ e ∷ []) u
run_push s t u n [] e is numbered step =
    (u, omega (arith, numbered), subst (λ (x : Space). Step standard x e.event e.answer u) is step, refl)
run_push s t u n (f ∷ entries) e (w, number, first, rest) numbered step =
    (w, number, first, run_push w t u (n + 1) entries e rest (omega (arith, numbered)) step)

-- a line that begins a segment, before others
begins_first : (p q : Position) (l : List ℕ) (ls : List (List ℕ)) (es : Entries) → BeginsSegment p l → Tell (after_header p) ls es q → Tell p (l ∷ ls) es q
begins_first p q l ls [] begins rest = (begins, rest)
begins_first p q l ls (e ∷ es) begins rest = inl (begins, rest)

-- lines, and more lines
tell_append : (p m q : Position) (ls ks : List (List ℕ)) (es fs : Entries) → Tell p ls es m → Tell m ks fs q → Tell p (ls ++ ks) (es ++ fs) q
tell_append p m q [] ks [] fs told more = subst (λ (x : Position). Tell x ks fs q) told more
tell_append p m q [] ks (e ∷ es) fs told more = absurd told
tell_append p m q (l ∷ ls) ks [] fs (begins, rest) more = begins_first p q l (ls ++ ks) fs begins (tell_append (after_header p) m q ls ks [] fs rest more)
tell_append p m q (l ∷ ls) ks (e ∷ es) fs (inl (begins, rest)) more = inl (begins, tell_append (after_header p) m q ls ks (e ∷ es) fs rest more)
tell_append p m q (l ∷ ls) ks (e ∷ es) fs (inr (tells, rest)) more = inr (tells, tell_append (after_entry p) m q ls ks es fs rest more)

-- so many entries come before a position
pub told_count : (p q : Position) (ls : List (List ℕ)) (es : Entries) → Tell p ls es q → q.count ≡ p.count + length es
told_count p q [] [] told = omega (arith, ap (λ (x : Position). x.count) told)
told_count p q [] (e ∷ es) told = absurd told
told_count p q (l ∷ ls) [] (begins, rest) = told_count (after_header p) q ls [] rest
told_count p q (l ∷ ls) (e ∷ es) (inl (begins, rest)) = told_count (after_header p) q ls (e ∷ es) rest
told_count p q (l ∷ ls) (e ∷ es) (inr (tells, rest)) = omega (arith, told_count (after_entry p) q ls es rest)

-- no line
pub none_played : (header : Header) (first : Standard) → IsFresh first → AreOfRun header [] (opening first) (after_first header)
none_played header first fresh = record { first = first; entries = []; is_fresh = fresh; run = refl; told = refl }

-- a line that begins a segment, and one that reports an entry
segment_played : (header : Header) (p : Played) (lines : List (List ℕ)) (l : List ℕ) → AreOfRun header lines p.state p.position → BeginsSegment p.position l
    → AreOfRun header (lines ++ l ∷ []) p.state (after_header p.position)
segment_played header p lines l before begins = record {
  first = before.first;
  entries = before.entries ++ [];
  is_fresh = before.is_fresh;
  run = subst (λ (es : Entries). Run standard before.first es p.state) (sym (append-nil before.entries)) before.run;
  told = tell_append (after_first header) p.position (after_header p.position) lines (l ∷ []) before.entries [] before.told (begins, refl);
}

entry_played : (header : Header) (p q : Played) (lines : List (List ℕ)) (l : List ℕ) (e : Entry StandardKind) → AreOfRun header lines p.state p.position → TellsEntry p.position l e
    → e.number ≡ p.position.count + 1 → Step standard p.state e.event e.answer q.state → AreOfRun header (lines ++ l ∷ []) q.state (after_entry p.position)
entry_played header p q lines l e before tells next step = record {
  first = before.first;
  entries = before.entries ++ e ∷ [];
  is_fresh = before.is_fresh;
  run = run_push (opening before.first) p.state q.state 0 before.entries e before.run (omega (arith, next, told_count (after_first header) p.position lines before.entries before.told)) step;
  told = tell_append (after_first header) p.position (after_entry p.position) lines (l ∷ []) before.entries (e ∷ []) before.told (inr (tells, refl));
}

pub one_more_played : (header : Header) (p q : Played) (lines : List (List ℕ)) (l : List ℕ) → AreOfRun header lines p.state p.position → PlaysLine p l q
    → AreOfRun header (lines ++ l ∷ []) q.state q.position
one_more_played header p q lines l before (inl (begins, is)) =
    subst (λ (x : Played). AreOfRun header (lines ++ l ∷ []) x.state x.position) (sym is) (segment_played header p lines l before begins)
one_more_played header p q lines l before (inr (line, said, plays)) =
    let tells : TellsEntry p.position l plays.entry =
    record { said = said ∙ ap (λ (x : Line). says.Entry (Some x)) plays.told; seat = plays.seat; room = plays.room } in
    subst (λ (x : Position). AreOfRun header (lines ++ l ∷ []) q.state x) (sym plays.position) (entry_played header p q lines l plays.entry before tells plays.next plays.step)

-- ---- lines determine their entries

gift_tells : (a b : Given) → gift_of a ≡ gift_of b → a ≡ b
gift_tells given.Nothing given.Nothing e = refl
gift_tells given.Nothing (given.Handle w) e = cc
gift_tells given.Nothing (given.Text w) e = cc
gift_tells given.Nothing (given.Process w ws) e = cc
gift_tells given.Nothing (given.Page w ws) e = cc
gift_tells (given.Handle v) given.Nothing e = cc
gift_tells (given.Handle v) (given.Handle w) e = cc
gift_tells (given.Handle v) (given.Text w) e = cc
gift_tells (given.Handle v) (given.Process w ws) e = cc
gift_tells (given.Handle v) (given.Page w ws) e = cc
gift_tells (given.Text v) given.Nothing e = cc
gift_tells (given.Text v) (given.Handle w) e = cc
gift_tells (given.Text v) (given.Text w) e = cc
gift_tells (given.Text v) (given.Process w ws) e = cc
gift_tells (given.Text v) (given.Page w ws) e = cc
gift_tells (given.Process v vs) given.Nothing e = cc
gift_tells (given.Process v vs) (given.Handle w) e = cc
gift_tells (given.Process v vs) (given.Text w) e = cc
gift_tells (given.Process v vs) (given.Process w ws) e = cc
gift_tells (given.Process v vs) (given.Page w ws) e = cc
gift_tells (given.Page v vs) given.Nothing e = cc
gift_tells (given.Page v vs) (given.Handle w) e = cc
gift_tells (given.Page v vs) (given.Text w) e = cc
gift_tells (given.Page v vs) (given.Process w ws) e = cc
gift_tells (given.Page v vs) (given.Page w ws) e = cc

done_tells : (n m : ℕ) (a b : Gift) → said.Done n a ≡ said.Done m b → (n ≡ m) × (a ≡ b)
done_tells n m a b e = (cc, cc)

module _ (codes : CodesTellStatuses) where
  said_tells : (a b : Answer) → said_of a ≡ said_of b → a ≡ b
  said_tells (answer.Done one) (answer.Done other) e =
      let parts = done_tells (code_of one.status) (code_of other.status) (gift_of one.given) (gift_of other.given) e in
      let status = codes one.status other.status parts.0 in
      let thing = gift_tells one.given other.given parts.1 in
      λ i. answer.Done (record { status = status i; given = thing i })
  said_tells (answer.Done one) (answer.Ticket m) e = cc
  said_tells (answer.Ticket n) (answer.Done other) e = cc
  said_tells (answer.Ticket n) (answer.Ticket m) e = cc

  line_tells : (a b : Entry StandardKind) → line_about a ≡ line_about b → a ≡ b
  line_tells a b e = λ i. record {
    number = ap (λ (l : Line). l.number) e i;
    seat = ap (λ (l : Line). l.seat) e i;
    event = ap (λ (l : Line). l.step) e i;
    answer = said_tells a.answer b.answer (ap (λ (l : Line). l.reply) e) i;
  }

  entry_tells : (a b : Line) (o : SegmentLine) → o ≡ says.Entry (Some a) → o ≡ says.Entry (Some b) → a ≡ b
  entry_tells a b o e f = let both : says.Entry (Some a) ≡ says.Entry (Some b) = sym e ∙ f in cc

  not_both : {A : Type 0} (p : Position) (l : List ℕ) (e : Entry StandardKind) → BeginsSegment p l → TellsEntry p l e → A
  not_both p l e begins tells = let both : says.Header (Some (next_header p)) ≡ says.Entry (Some (line_about e)) = sym begins.said ∙ tells.said in absurd (cc)

  tell_unique : (p q r : Position) (lines : List (List ℕ)) (one other : Entries) → Tell p lines one q → Tell p lines other r → (one ≡ other) × (q ≡ r)
  tell_unique p q r [] [] [] told too = (refl, told ∙ sym too)
  tell_unique p q r [] [] (b ∷ other) told too = absurd too
  tell_unique p q r [] (a ∷ one) other told too = absurd told
  tell_unique p q r (l ∷ lines) [] [] (begins, rest) (too, rest') = tell_unique (after_header p) q r lines [] [] rest rest'
  tell_unique p q r (l ∷ lines) [] (b ∷ other) (begins, rest) (inl (too, rest')) = tell_unique (after_header p) q r lines [] (b ∷ other) rest rest'
  tell_unique p q r (l ∷ lines) [] (b ∷ other) (begins, rest) (inr (tells, rest')) = not_both p l b begins tells
  tell_unique p q r (l ∷ lines) (a ∷ one) [] (inl (begins, rest)) (too, rest') = tell_unique (after_header p) q r lines (a ∷ one) [] rest rest'
  tell_unique p q r (l ∷ lines) (a ∷ one) [] (inr (tells, rest)) (begins, rest') = not_both p l a begins tells
  tell_unique p q r (l ∷ lines) (a ∷ one) (b ∷ other) (inl (begins, rest)) (inl (too, rest')) = tell_unique (after_header p) q r lines (a ∷ one) (b ∷ other) rest rest'
  tell_unique p q r (l ∷ lines) (a ∷ one) (b ∷ other) (inl (begins, rest)) (inr (tells, rest')) = not_both p l b begins tells
  tell_unique p q r (l ∷ lines) (a ∷ one) (b ∷ other) (inr (tells, rest)) (inl (begins, rest')) = not_both p l a begins tells
  tell_unique p q r (l ∷ lines) (a ∷ one) (b ∷ other) (inr (tells, rest)) (inr (too, rest')) =
      let head = line_tells a b (entry_tells (line_about a) (line_about b) (said_after p.header l) tells.said too.said) in
      let later = tell_unique (after_entry p) q r lines one other rest rest' in
      ((λ i. head i ∷ later.0 i), later.1)

  -- ---- lines in two parts

  record Parts (p : Position) (ls ks : List (List ℕ)) (es : Entries) (q : Position) : Type 0 where
    pub before : Entries
    pub behind : Entries
    pub between : Position
    pub whole : es ≡ before ++ behind
    pub told : Tell p ls before between
    pub rest : Tell between ks behind q

  begins_parts : (p q : Position) (l : List ℕ) (ls ks : List (List ℕ)) (es : Entries) → BeginsSegment p l → Parts (after_header p) ls ks es q → Parts p (l ∷ ls) ks es q
  begins_parts p q l ls ks es begins later = record {
    before = later.before;
    behind = later.behind;
    between = later.between;
    whole = later.whole;
    told = begins_first p later.between l ls later.before begins later.told;
    rest = later.rest;
  }

  tell_parts : (p q : Position) (ls ks : List (List ℕ)) (es : Entries) → Tell p (ls ++ ks) es q → Parts p ls ks es q
  tell_parts p q [] ks es told = record { before = []; behind = es; between = p; whole = refl; told = refl; rest = told }
  tell_parts p q (l ∷ ls) ks [] (begins, rest) = begins_parts p q l ls ks [] begins (tell_parts (after_header p) q ls ks [] rest)
  tell_parts p q (l ∷ ls) ks (e ∷ es) (inl (begins, rest)) = begins_parts p q l ls ks (e ∷ es) begins (tell_parts (after_header p) q ls ks (e ∷ es) rest)
  tell_parts p q (l ∷ ls) ks (e ∷ es) (inr (tells, rest)) =
      let later = tell_parts (after_entry p) q ls ks es rest in
      record {
        before = e ∷ later.before;
        behind = later.behind;
        between = later.between;
        whole = ap (λ (xs : Entries). e ∷ xs) later.whole;
        told = inr (tells, later.told);
        rest = later.rest;
      }

  run_front : (s t : Space) (n : ℕ) (before behind : Entries) → RunFrom standard s n (before ++ behind) t → (u : Space) × RunFrom standard s n before u
  run_front s t n [] behind run = (s, refl)
  run_front s t n (e ∷ before) behind (v, number, step, rest) = let later = run_front v t (n + 1) before behind rest in (later.0, (v, number, step, later.1))

  run_last : (s t : Space) (n : ℕ) (before : Entries) (e : Entry StandardKind) → RunFrom standard s n (before ++ e ∷ []) t
      → (u : Space) × RunFrom standard s n before u × (e.number ≡ n + length before + 1) × Step standard u e.event e.answer t
  run_last s t n [] e (v, number, step, is) = (s, refl, omega (arith, number), subst (λ (x : Space). Step standard s e.event e.answer x) (sym is) step)
  run_last s t n (f ∷ before) e (v, number, step, rest) =
      let later = run_last v t (n + 1) before e rest in
      (later.0, (v, number, step, later.1), omega (arith, later.2), later.3)

  -- ---- no run has a line that is refused after lines of a run

  it_is_there : (found : Option (PendingOpen StandardKind)) (Does : PendingOpen StandardKind → Type 0) → MatchOption found ⊥ Does → not (is_some found) ≡ false
  it_is_there None Does h = absurd h
  it_is_there (Some x) Does h = refl

  -- an event that is a step ends a pending open, where it ends one
  has_ticket : (s t : Space) (e : Event StandardKind) (a : Answer) → Step standard s e a t → lacks_ticket s e ≡ false
  has_ticket s t (Start p command) a h = refl
  has_ticket s t (Resume ticket parse) a h = it_is_there (pending_of s ticket) (λ x. Resumes standard s x h.0 a t) h.2
  has_ticket s t (Abandon ticket parse) a h = it_is_there (pending_of s ticket) (λ x. Abandons standard s x h.0 a t) h.2

  nothing_early : (out_of_turn high lacks : Bool) → out_of_turn ≡ false → high ≡ false → lacks ≡ false
      → first_cause ((out_of_turn, cause.Number) ∷ (high, cause.Seat) ∷ (lacks, cause.Ticket) ∷ []) ≡ None
  nothing_early false false false e f h = refl
  nothing_early true high lacks e f h = cc
  nothing_early false true lacks e f h = cc
  nothing_early false false true e f h = cc

  in_turn : (number : ℕ) (p : Position) → number ≡ p.count + 1 → p.count + 1 < first_of p.header + most_entries → (not (number == p.count + 1) || not (has_room p)) ≡ false
  in_turn number p is few =
      let same : (number == p.count + 1) ≡ true = eq-eqb number (p.count + 1) is in
      let room : has_room p ≡ true = lt-ltb (p.count + 1) (first_of p.header + most_entries) few in
      (λ i. not (same i) || not (room i))

  below : (seat seats : ℕ) → seat < seats → not (nat_lt seat seats) ≡ false
  below seat seats less = let low : nat_lt seat seats ≡ true = lt-ltb seat seats less in ap not low

  -- a header that begins the next segment isn't refused, and no entry that a step leads on from
  segment_goes_on : (state : Space) (p : Position) (l : List ℕ) (why : Cause) → IsRefusedLine state p l why → BeginsSegment p l → ⊥
  segment_goes_on state p l why refused begins =
      let here = subst (λ (x : SegmentLine). IsRefused state p x why) begins.said refused in
      here.1 refl begins.before

  entry_goes_on : (state end : Space) (p : Position) (l : List ℕ) (e : Entry StandardKind) (why : Cause) → IsRefusedLine state p l why → TellsEntry p l e → e.number ≡ p.count + 1
      → Step standard state e.event e.answer end → ⊥
  entry_goes_on state end p l e why refused tells number step = judged (first_cause (early_causes state p line)) early (subst (λ (x : SegmentLine). IsRefused state p x why) tells.said refused)
    where
      line : Line
      line = line_about e

      early : first_cause (early_causes state p line) ≡ None
      early =
          nothing_early (not (line.number == p.count + 1) || not (has_room p)) (not (nat_lt line.seat (seats_of p.header))) (lacks_ticket state line.step)
          (in_turn line.number p number tells.room)
          (below line.seat (seats_of p.header) tells.seat)
          (has_ticket state end e.event e.answer step)

      judged : (o : Option Cause) → o ≡ None → MatchOption o ((why ≡ cause.Reply) × IsNoReply state line) (λ first. why ≡ first) → ⊥
      judged None is (reply, none) = none e.answer end step refl
      judged (Some first) is h = cc

  no_run_goes_on : (header : Header) (lines : List (List ℕ)) (l : List ℕ) (state end : Space) (p q : Position) (why : Cause) → AreOfRun header lines state p → IsRefusedLine state p l why
      → AreOfRun header (lines ++ l ∷ []) end q → ⊥
  no_run_goes_on header lines l state end p q why before refused after = against parts.behind rest run
    where
      parts : Parts (after_first header) lines (l ∷ []) after.entries q
      parts = tell_parts (after_first header) q lines (l ∷ []) after.entries after.told

      same : (parts.before ≡ before.entries) × (parts.between ≡ p)
      same = tell_unique (after_first header) parts.between p lines parts.before before.entries parts.told before.told

      rest : Tell p (l ∷ []) parts.behind q
      rest = subst (λ (x : Position). Tell x (l ∷ []) parts.behind q) same.1 parts.rest

      same_first : after.first ≡ before.first
      same_first = fresh_alike after.first before.first after.is_fresh before.is_fresh

      run : RunFrom standard (opening before.first) 0 (before.entries ++ parts.behind) end
      run = subst (λ (es : Entries). RunFrom standard (opening before.first) 0 (es ++ parts.behind) end) same.0
          (subst (λ (es : Entries). RunFrom standard (opening before.first) 0 es end) parts.whole
          (subst (λ (x : Standard). RunFrom standard (opening x) 0 after.entries end) same_first after.run))

      against : (behind : Entries) → Tell p (l ∷ []) behind q → RunFrom standard (opening before.first) 0 (before.entries ++ behind) end → ⊥
      against [] (begins, is) run = segment_goes_on state p l why refused begins
      against (e ∷ es) (inl (begins, is)) run = absurd is
      against (e ∷ f ∷ es) (inr (tells, is)) run = absurd is
      against (e ∷ []) (inr (tells, is)) run =
          let last = run_last (opening before.first) end 0 before.entries e run in
          let there : last.0 ≡ state = run_end standard (opening before.first) 0 before.entries last.0 state last.1 before.run in
          entry_goes_on state end p l e why refused tells (omega (arith, last.2, told_count (after_first header) p lines before.entries before.told))
          (subst (λ (x : Space). Step standard x e.event e.answer end) there last.3)

  -- ---- the laws

  header_tells : {A : Type 0} (a b : A) (xs bs cs : List A) → cs ≡ a ∷ xs → cs ≡ b ∷ bs → (a ≡ b) × (xs ≡ bs)
  header_tells a b xs bs cs e f = let both : a ∷ xs ≡ b ∷ bs = sym e ∙ f in (cc, cc)

  some_header : (a b : Header) (o p : Option Header) → o ≡ p → o ≡ Some a → p ≡ Some b → a ≡ b
  some_header a b o p same e f = let both : Some a ≡ Some b = sym e ∙ same ∙ f in cc

  -- two lists with one length before an item each
  split_tells : {A : Type 0} (xs bs : List A) (a b : A) (cs ds : List A) → length xs ≡ length bs → xs ++ a ∷ cs ≡ bs ++ b ∷ ds → (xs ≡ bs) × (a ≡ b)
  split_tells [] [] a b cs ds many same = (refl, cc)
  split_tells [] (y ∷ bs) a b cs ds many same = absurd (omega (arith, many))
  split_tells (x ∷ xs) [] a b cs ds many same = absurd (omega (arith, many))
  split_tells (x ∷ xs) (y ∷ bs) a b cs ds many same =
      let head : x ≡ y = cc in
      let tail : xs ++ a ∷ cs ≡ bs ++ b ∷ ds = cc in
      let later = split_tells xs bs a b cs ds (omega (arith, many)) tail in
      ((λ i. head i ∷ later.0 i), later.1)

  -- a front of the lines of a run is that of a run
  front_of_run : (header : Header) (lines behind : List (List ℕ)) (t : Space) (q : Position) → AreOfRun header (lines ++ behind) t q → (u : Space) × (p : Position) × AreOfRun header lines u p
  front_of_run header lines behind t q all =
      let parts = tell_parts (after_first header) q lines behind all.entries all.told in
      let front = run_front (opening all.first) t 0 parts.before parts.behind (subst (λ (es : Entries). RunFrom standard (opening all.first) 0 es t) parts.whole all.run) in
      (front.0, parts.between, record { first = all.first; entries = parts.before; is_fresh = all.is_fresh; run = front.1; told = parts.told })

  pub stops_is_no_run : WhatStopsIsNoRun
  stops_is_no_run text number why (no_line none) header before behind line state end headed is run = absurd (omega (arith, is))
  stops_is_no_run text number why (no_header first after same none) header before behind line state end headed is run = absurd (omega (arith, is))
  stops_is_no_run text number why (at_line header before behind line state p _ headed of_run refused) header' before' behind' line' end q headed' is run =
      let parts = header_tells headed.0 headed'.0 (before ++ line ∷ behind) (before' ++ line' ∷ behind') (lines_of text) headed.1 headed'.1 in
      let split = split_tells before before' line line' behind behind' (omega (arith, is)) parts.1 in
      let header_same : header ≡ header' = some_header header header' (first_header_for headed.0) (first_header_for headed'.0) (ap first_header_for parts.0) headed.2 headed'.2 in
      no_run_goes_on header before line state end p q why of_run refused
      (subst (λ (h : Header). AreOfRun h (before ++ line ∷ []) end q) (sym header_same)
      (subst (λ (ls : List (List ℕ)). AreOfRun header' (ls ++ line ∷ []) end q) (sym split.0) (subst (λ (l : List ℕ). AreOfRun header' (before' ++ l ∷ []) end q) (sym split.1) run)))

  pub stops_is_refused : WhatStopsIsRefused
  stops_is_refused text number why report (no_line none) accepted = let headed = accepted.headed in let both : [] ≡ headed.0 ∷ accepted.lines = sym none ∙ headed.1 in cc
  stops_is_refused text number why report (no_header first after same none) accepted =
      let headed = accepted.headed in
      let parts = header_tells headed.0 first accepted.lines after (lines_of text) headed.1 same in
      let both : None ≡ Some accepted.header = sym none ∙ ap first_header_for (sym parts.0) ∙ headed.2 in
      cc
  stops_is_refused text number why report (at_line header before behind line state p _ headed of_run refused) accepted =
      let theirs = accepted.headed in
      let parts = header_tells headed.0 theirs.0 (before ++ line ∷ behind) accepted.lines (lines_of text) headed.1 theirs.1 in
      let header_same : header ≡ accepted.header = some_header header accepted.header (first_header_for headed.0) (first_header_for theirs.0) (ap first_header_for parts.0) headed.2 theirs.2 in
      let all = subst (λ (h : Header). AreOfRun h (before ++ line ∷ behind) accepted.state accepted.end) (sym header_same)
      (subst (λ (ls : List (List ℕ)). AreOfRun accepted.header ls accepted.state accepted.end) (sym parts.1) accepted.of_run) in
      let front = front_of_run header (before ++ line ∷ []) behind accepted.state accepted.end
      (subst (λ (ls : List (List ℕ)). AreOfRun header ls accepted.state accepted.end) (sym (append_assoc before (line ∷ []) behind)) all) in
      no_run_goes_on header before line state front.0 p front.1 why of_run refused front.2
