-- What is written of an entry is read back.
use Rattle.std.proofs.Common.{◌≡◌, ℕ, ◌^◌, ◌<◌, ◌≤◌, Bool, true, false, cond, nat_lt, bytes_eq, find, List, [], ◌∷◌, Option, None, Some, option_map, codes, refl, sym, ap, ◌∙◌, subst, arith, lt-ltb, le-leb}
use Rattle.std.specs.List.{AllByRecursion}
use Rattle.std.proofs.lemmas.List.{append_cancel_right}
use Rattle.either.specs.declared.Either.TheVariants.{Left, Right}
use Rattle.json.proofs.Printed.Utf8.{are_ascii}
use Rattle.serde_json.specs.Data.{Data}
use Rattle.serde_json.specs.Written.{compact_text}
use Rattle.ob_base.specs.Status.{code_of}
use Rattle.ob_model.specs.declared.command.Command.{Command}
use Rattle.ob_model.specs.declared.command.Command.TheVariants.{CreateDirectory, CreateShadowed, CreateLink, CreateObject, OpenDirectory, OpenLink, OpenObject, Close, QueryLink, QueryName, QueryDirectory, Duplicate, MakeTemporary, MakePermanent, SetDeviceMap, NewProcess, ExitProcess}
use Rattle.ob_model.specs.declared.command.Place.{Place}
use Rattle.ob_model.specs.declared.command.Place.TheVariants.{At, Unnamed}
use Rattle.ob_model.specs.declared.entries.Listed.{Listed}
use Rattle.ob_model.specs.declared.reply.Answer.{Answer}
use Rattle.ob_model.specs.declared.reply.Answer.TheVariants.{Done, Ticket}
use Rattle.ob_model.specs.declared.reply.Event.{Event}
use Rattle.ob_model.specs.declared.reply.Event.TheVariants.{Start, Resume, Abandon}
use Rattle.ob_model.specs.declared.reply.Given.{Given}
use Rattle.ob_model.specs.declared.reply.Given.TheVariants.{Nothing, Handle, Text, Process, Page}
use Rattle.ob_model.specs.declared.reply.ParseRun.{ParseRun}
use Rattle.ob_model.specs.declared.reply.ParseRun.TheVariants.{Unrun, Ran, NoMemory}
use Rattle.ob_model.specs.Run.{Entry}
use Rattle.ob_plain.specs.declared.plain.PlainKind.TheVariants as plain
use Rattle.ob_device.specs.declared.device.DeviceKind.TheVariants as device
use Rattle.ob_key.specs.declared.key.KeyKind.TheVariants as key_kind
use Rattle.ob_standard.specs.Standard.{StandardKind, standard}
use Rattle.ob_entries.specs.Lines.{number_value, text_value, value_or_null, items_of, root_of, name_of, parse_word, kind_value, command_step, step_value, listed_value, reply_value, answer_value, header_value, entry_value}
use Rattle.ob_reader.specs.declared.header.Header.{Header}
use Rattle.ob_reader.specs.declared.header.Header.TheVariants.{Segment}
use Rattle.ob_reader.specs.declared.line.Line.{Line}
use Rattle.ob_reader.specs.declared.line.SegmentLine.TheVariants as segment_line
use Rattle.ob_reader.specs.declared.said.Said.TheVariants as said
use Rattle.ob_reader.specs.Reading.{kind_for, root_in, want_in, place_of, each_in, u64_in, place_in, directory_in, shadowed_in, link_in, object_in, open_directory_in, open_link_in, open_object_in, duplicate_in, query_in, start_in, resume_in, abandon_in, step_in, type_name_for, type_names, listed_in, handle_or_text_in, process_in, page_in, process_or_page_in, gift_in, done_in, reply_in, has_key, line_in, in_version_1, seats_in, segment_in, header_in, value_for, line_for, entry_for, header_for, is_header, segment_line_for, gift_of, said_of, line_about}
use Rattle.ob_reader.specs.Laws.{IsFitRoot, IsFitPlace, IsFitCommand, IsFitEvent, IsFitListed, IsFitGiven, IsFitAnswer, IsFit, EntryLinesAreRead, HeaderLinesAreRead}
use Rattle.ob_reader.proofs.Escapes.{escaped_read, escaped_ascii}
use Rattle.ob_reader.proofs.Plain.{IsPlain, ItemsArePlain, plain_read}

-- ---- the values are plain

number_plain : (n m : ℕ) → m < 2 ^ 64 → IsPlain n (number_value m)
number_plain n m h = (m, refl, h)

short_plain : (n m : ℕ) → m < 2 ^ 32 → IsPlain n (number_value m)
short_plain n m h = (m, refl, omega arith)

root_plain : (n : ℕ) (root : Option ℕ) → IsFitRoot root → IsPlain n (value_or_null number_value root)
root_plain n None h = tt
root_plain n (Some handle) h = short_plain n handle h

name_plain : (n : ℕ) (place : Place) → IsFitPlace place → IsPlain n (value_or_null text_value (name_of place))
name_plain n (At root name) h = escaped_ascii name h.1
name_plain n Unnamed h = tt

place_root_plain : (n : ℕ) (place : Place) → IsFitPlace place → IsPlain n (value_or_null number_value (root_of place))
place_root_plain n (At root name) h = root_plain n root h.0
place_root_plain n Unnamed h = tt

kind_ascii : (kind : StandardKind) → are_ascii (standard.type_name kind) ≡ true
kind_ascii (Left plain.Event) = refl
kind_ascii (Left plain.Mutant) = refl
kind_ascii (Left plain.Section) = refl
kind_ascii (Right (Left device.Device)) = refl
kind_ascii (Right (Left device.File)) = refl
kind_ascii (Right (Right key_kind.Key)) = refl

want_plain : (n : ℕ) (want : Option StandardKind) → IsPlain n (value_or_null (kind_value standard.type_name) want)
want_plain n None = tt
want_plain n (Some kind) = kind_ascii kind

parse_ascii : (parse : ParseRun) → are_ascii (parse_word parse) ≡ true
parse_ascii Unrun = refl
parse_ascii Ran = refl
parse_ascii NoMemory = refl

command_plain : (p : ℕ) (c : Command StandardKind) → p < 2 ^ 32 → IsFitCommand c → IsPlain 4 (command_step standard.type_name p c)
command_plain p (CreateDirectory place flags) h f = (refl, (short_plain 3 flags f.1, (name_plain 3 place f.0, (refl, (short_plain 3 p h, (place_root_plain 3 place f.0, tt))))))
command_plain p (CreateShadowed place flags shadow) h f =
    (refl, (short_plain 3 flags f.1, (name_plain 3 place f.0, (refl, (short_plain 3 p h, (place_root_plain 3 place f.0, (short_plain 3 shadow f.2, tt)))))))
command_plain p (CreateLink place flags target) h f =
    (refl, (short_plain 3 flags f.1, (name_plain 3 place f.0, (refl, (short_plain 3 p h, (place_root_plain 3 place f.0, (escaped_ascii target f.2, tt)))))))
command_plain p (CreateObject place flags kind args) h f =
    (refl, (escaped_ascii args f.2, (short_plain 3 flags f.1, (kind_ascii kind, (name_plain 3 place f.0, (refl, (short_plain 3 p h, (place_root_plain 3 place f.0, tt))))))))
command_plain p (OpenDirectory root name flags) h f = (refl, (short_plain 3 flags f.2, (escaped_ascii name f.1, (refl, (short_plain 3 p h, (root_plain 3 root f.0, tt))))))
command_plain p (OpenLink root name flags) h f = (refl, (short_plain 3 flags f.2, (escaped_ascii name f.1, (refl, (short_plain 3 p h, (root_plain 3 root f.0, tt))))))
command_plain p (OpenObject root name flags want) h f =
    (refl, (short_plain 3 flags f.2, (escaped_ascii name f.1, (refl, (short_plain 3 p h, (root_plain 3 root f.0, (want_plain 3 want, tt)))))))
command_plain p (Close handle) h f = (refl, (short_plain 3 handle f, (refl, (short_plain 3 p h, tt))))
command_plain p (QueryLink handle) h f = (refl, (short_plain 3 handle f, (refl, (short_plain 3 p h, tt))))
command_plain p (QueryName handle) h f = (refl, (short_plain 3 handle f, (refl, (short_plain 3 p h, tt))))
command_plain p (QueryDirectory handle context room single restart) h f =
    (refl, (number_plain 3 context f.1, (short_plain 3 handle f.0, (refl, (short_plain 3 p h, (tt, (short_plain 3 room f.2, (tt, tt))))))))
command_plain p (Duplicate handle to inherit) h f = (refl, (short_plain 3 handle f.0, (tt, (refl, (short_plain 3 p h, (short_plain 3 to f.1, tt))))))
command_plain p (MakeTemporary handle) h f = (refl, (short_plain 3 handle f, (refl, (short_plain 3 p h, tt))))
command_plain p (MakePermanent handle) h f = (refl, (short_plain 3 handle f, (refl, (short_plain 3 p h, tt))))
command_plain p (SetDeviceMap handle) h f = (refl, (short_plain 3 handle f, (refl, (short_plain 3 p h, tt))))
command_plain p (NewProcess inherit) h f = (refl, (tt, (refl, (short_plain 3 p h, tt))))
command_plain p ExitProcess h f = (refl, (refl, (short_plain 3 p h, tt)))

step_plain : (event : Event StandardKind) → IsFitEvent event → IsPlain 4 (step_value standard.type_name event)
step_plain (Start p command) h = command_plain p command h.0 h.1
step_plain (Resume ticket parse) h = (refl, (refl, (parse_ascii parse, (number_plain 3 ticket h.0, tt))))
step_plain (Abandon ticket parse) h = (refl, (refl, (parse_ascii parse, (number_plain 3 ticket h, tt))))

handles_plain : (handles : List ℕ) → AllByRecursion (λ handle. handle < 2 ^ 64) handles → ItemsArePlain 2 (items_of number_value handles)
handles_plain [] h = tt
handles_plain (handle ∷ handles) h = (number_plain 2 handle h.0, handles_plain handles h.1)

-- what is found is one of the list
find_holds : {X : Type 0} (P : X → Type 0) (test : X → Bool) (xs : List X) (y : X) → AllByRecursion P xs → find test xs ≡ Some y → P y
find_holds P test [] y h e = absurd (cc)
find_holds P test (x ∷ xs) y h e = by_test (test x) (λ f. find_holds P test xs y h.1 f) e
  where
    by_test : (b : Bool) → (find test xs ≡ Some y → P y) → cond b (Some x) (find test xs) ≡ Some y → P y
    by_test true later f = let same : x ≡ y = cc in subst P same h.0
    by_test false later f = later f

type_name_ascii : (name : List ℕ) → type_name_for name ≡ Some name → are_ascii name ≡ true
type_name_ascii name h =
    find_holds (λ z. are_ascii z ≡ true) (λ z. bytes_eq name z) type_names name (refl, (refl, (refl, (refl, (refl, (refl, (refl, (refl, tt)))))))) h

entries_plain : (entries : List Listed) → AllByRecursion IsFitListed entries → ItemsArePlain 2 (items_of listed_value entries)
entries_plain [] h = tt
entries_plain (e ∷ entries) h = ((escaped_ascii e.name h.0.0, (type_name_ascii e.type_name h.0.1, tt)), entries_plain entries h.1)

given_plain : (status : ℕ) (given : Given) → status < 2 ^ 64 → IsFitGiven status given → IsPlain 4 (reply_value status given)
given_plain status Nothing s h = (refl, (number_plain 3 status s, tt))
given_plain status (Handle handle) s h = (refl, (short_plain 3 handle h, (number_plain 3 status s, tt)))
given_plain status (Text text) s h = (refl, (number_plain 3 status s, (escaped_ascii text h, tt)))
given_plain status (Process process handles) s h = (refl, (handles_plain handles h.1, (number_plain 3 process h.0, (number_plain 3 status s, tt))))
given_plain status (Page entries context) s h = (refl, (number_plain 3 context h.1, (entries_plain entries h.0, (number_plain 3 status s, tt))))

answer_plain : (answer : Answer) → IsFitAnswer answer → IsPlain 4 (answer_value answer)
answer_plain (Done reply) h = given_plain (code_of reply.status) reply.given h.0 h.1
answer_plain (Ticket ticket) h = (refl, (number_plain 3 ticket h, tt))

entry_plain : (e : Entry StandardKind) → IsFit e → IsPlain 5 (entry_value standard.type_name e)
entry_plain e h = (refl, (number_plain 4 e.number h.0, (answer_plain e.answer h.3, (number_plain 4 e.seat h.1, (step_plain e.event h.2, tt)))))

-- ---- the values say what was written

kind_read : (kind : StandardKind) → kind_for (standard.type_name kind) ≡ Some kind
kind_read (Left plain.Event) = refl
kind_read (Left plain.Mutant) = refl
kind_read (Left plain.Section) = refl
kind_read (Right (Left device.Device)) = refl
kind_read (Right (Left device.File)) = refl
kind_read (Right (Right key_kind.Key)) = refl

fits : (n : ℕ) → n < 2 ^ 32 → nat_lt n (2 ^ 32) ≡ true
fits n h = lt-ltb n (2 ^ 32) h

root_read : (root : Option ℕ) → IsFitRoot root → root_in (value_or_null number_value root) ≡ Some root
root_read None h = refl
root_read (Some handle) h = rw (fits handle h) refl

want_read : (want : Option StandardKind) → want_in (value_or_null (kind_value standard.type_name) want) ≡ Some want
want_read None = refl
want_read (Some kind) = ap (option_map (λ k. Some k)) (kind_read kind)

-- a create's place, read from the values of its root and its name
place_read : (place : Place) → IsFitPlace place → place_of (value_or_null text_value (name_of place)) (value_or_null number_value (root_of place)) ≡ Some place
place_read (At root name) h = rw (root_read root h.0, escaped_read name h.1) refl
place_read Unnamed h = refl

command_read : (p : ℕ) (c : Command StandardKind) → p < 2 ^ 32 → IsFitCommand c → step_in (command_step standard.type_name p c) ≡ Some (Start p c)
unfolding step_in start_in place_in directory_in shadowed_in link_in object_in open_directory_in open_link_in open_object_in duplicate_in query_in
command_read p (CreateDirectory place flags) h f = rw (place_read place f.0, fits flags f.1, fits p h) refl
command_read p (CreateShadowed place flags shadow) h f = rw (place_read place f.0, fits flags f.1, fits shadow f.2, fits p h) refl
command_read p (CreateLink place flags target) h f = rw (place_read place f.0, fits flags f.1, escaped_read target f.2, fits p h) refl
command_read p (CreateObject place flags kind args) h f = rw (place_read place f.0, fits flags f.1, kind_read kind, escaped_read args f.2, fits p h) refl
command_read p (OpenDirectory root name flags) h f = rw (root_read root f.0, escaped_read name f.1, fits flags f.2, fits p h) refl
command_read p (OpenLink root name flags) h f = rw (root_read root f.0, escaped_read name f.1, fits flags f.2, fits p h) refl
command_read p (OpenObject root name flags want) h f = rw (root_read root f.0, escaped_read name f.1, fits flags f.2, want_read want, fits p h) refl
command_read p (Close handle) h f = rw (fits handle f, fits p h) refl
command_read p (QueryLink handle) h f = rw (fits handle f, fits p h) refl
command_read p (QueryName handle) h f = rw (fits handle f, fits p h) refl
command_read p (QueryDirectory handle context room single restart) h f = rw (fits handle f.0, fits room f.2, fits p h) refl
command_read p (Duplicate handle to inherit) h f = rw (fits handle f.0, fits to f.1, fits p h) refl
command_read p (MakeTemporary handle) h f = rw (fits handle f, fits p h) refl
command_read p (MakePermanent handle) h f = rw (fits handle f, fits p h) refl
command_read p (SetDeviceMap handle) h f = rw (fits handle f, fits p h) refl
command_read p (NewProcess inherit) h f = rw (fits p h) refl
command_read p ExitProcess h f = rw (fits p h) refl

step_read : (event : Event StandardKind) → IsFitEvent event → step_in (step_value standard.type_name event) ≡ Some event
unfolding step_in resume_in abandon_in
step_read (Start p command) h = command_read p command h.0 h.1
step_read (Resume ticket Unrun) h = absurd (h.1 refl)
step_read (Resume ticket Ran) h = refl
step_read (Resume ticket NoMemory) h = refl
step_read (Abandon ticket Unrun) h = refl
step_read (Abandon ticket Ran) h = refl
step_read (Abandon ticket NoMemory) h = refl

handles_read : (handles : List ℕ) → each_in u64_in (items_of number_value handles) ≡ Some handles
handles_read [] = refl
handles_read (handle ∷ handles) = ap (option_map (λ xs. handle ∷ xs)) (handles_read handles)

listed_read : (e : Listed) → IsFitListed e → listed_in (listed_value e) ≡ Some e
unfolding listed_in
listed_read e h = rw (escaped_read e.name h.0, h.1) refl

entries_read : (entries : List Listed) → AllByRecursion IsFitListed entries → each_in listed_in (items_of listed_value entries) ≡ Some entries
entries_read [] h = refl
entries_read (e ∷ entries) h = rw (listed_read e h.0) (ap (option_map (λ xs. e ∷ xs)) (entries_read entries h.1))

given_read : (status : ℕ) (given : Given) → IsFitGiven status given → reply_in (reply_value status given) ≡ Some (said.Done status (gift_of given))
unfolding reply_in done_in gift_in handle_or_text_in process_or_page_in process_in page_in
given_read status Nothing h = refl
given_read status (Handle handle) h = rw (fits handle h) refl
given_read status (Text text) h = rw (escaped_read text h) refl
given_read status (Process process handles) h = rw (handles_read handles) refl
given_read status (Page entries context) h = rw (entries_read entries h.0, h.2) refl

answer_read : (answer : Answer) → IsFitAnswer answer → reply_in (answer_value answer) ≡ Some (said_of answer)
unfolding reply_in
answer_read (Done reply) h = given_read (code_of reply.status) reply.given h.1
answer_read (Ticket ticket) h = refl

entry_read : (e : Entry StandardKind) → IsFit e → line_in (entry_value standard.type_name e) ≡ Some (line_about e)
unfolding line_in
entry_read e h = rw (step_read e.event h.2, answer_read e.answer h.3) refl

-- ---- the laws

-- a line is the text of this value
module _ (line : List ℕ) (d : Data) (is : value_for line ≡ Some d) where
  line_of_value : (found : Line) → line_in d ≡ Some found → line_for line ≡ in_version_1 found
  unfolding line_for
  line_of_value found says = rw (is, says) refl

  entry_of_value : (found : Line) → line_in d ≡ Some found → entry_for line ≡ Some found
  unfolding entry_for
  entry_of_value found says = rw is says

  header_of_value : (found : Header) → header_in d ≡ Some found → header_for line ≡ Some found
  unfolding header_for
  header_of_value found says = rw is says

  key_of_value : has_key (codes "journal") d ≡ is_header line
  unfolding is_header
  key_of_value = rw is refl

  entry_in_segments : (found : Option Line) → has_key (codes "journal") d ≡ false → entry_for line ≡ found → segment_line_for line ≡ segment_line.Entry found
  unfolding segment_line_for
  entry_in_segments found lacks says = rw (sym key_of_value ∙ lacks, says) refl

  header_in_segments : (found : Option Header) → has_key (codes "journal") d ≡ true → header_for line ≡ found → segment_line_for line ≡ segment_line.Header found
  unfolding segment_line_for
  header_in_segments found has says = rw (sym key_of_value ∙ has, says) refl

pub entry_lines_are_read : EntryLinesAreRead
entry_lines_are_read e line h written =
    let d = entry_value standard.type_name e in
    let same : compact_text d ≡ line = append_cancel_right _ line (codes "\n") written in
    let is : value_for line ≡ Some d = ap value_for (sym same) ∙ plain_read d (entry_plain e h) in
    let read = entry_read e h in
    (line_of_value line d is (line_about e) read, entry_in_segments line d is (Some (line_about e)) refl (entry_of_value line d is (line_about e) read))

header_read : (seats segment first : ℕ) → 1 ≤ seats → seats ≤ 1024 → header_in (header_value seats segment first) ≡ Some (Segment seats segment first)
unfolding header_in segment_in seats_in
header_read seats segment first low high = rw (le-leb 1 seats low, le-leb seats 1024 high) refl

header_plain : (seats segment first : ℕ) → seats ≤ 1024 → segment < 2 ^ 64 → first < 2 ^ 64 → IsPlain 5 (header_value seats segment first)
header_plain seats segment first high k f =
    (refl, (number_plain 4 first f, (number_plain 4 2 (omega arith), (number_plain 4 seats (omega arith), (number_plain 4 segment k, tt)))))

pub header_lines_are_read : HeaderLinesAreRead
header_lines_are_read seats segment first line low high k f written =
    let d = header_value seats segment first in
    let same : compact_text d ≡ line = append_cancel_right _ line (codes "\n") written in
    let is : value_for line ≡ Some d = ap value_for (sym same) ∙ plain_read d (header_plain seats segment first high k f) in
    let says = header_of_value line d is (Segment seats segment first) (header_read seats segment first low high) in
    (says, header_in_segments line d is (Some (Segment seats segment first)) refl says)
