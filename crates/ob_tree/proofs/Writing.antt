-- Texts of trees, step by step.
use Rattle.std.proofs.Common.{◌≡◌, ◌∙◌, ℕ, zero, suc, ◌+◌, ◌-◌, ◌<◌, ◌≤◌, List, [], ◌∷◌, ◌++◌, append_assoc, length, get_or, drop, replicate, refl, ap, sym, arith, map, reverse, Some, None, add-one}
use Rattle.std.specs.Option.{option_map_or}
use Rattle.std.proofs.Math.Seq.{drop-cons}
use Rattle.std.proofs.lemmas.List.{append-nil, reverse-append}
use Rattle.ob_model.specs.Names.{separator}
use Rattle.ob_model.specs.Naming.{names_joined}
use Rattle.ob_model.specs.declared.state.Row.{Row}
use Rattle.ob_model.specs.declared.state.Held.{Held}
use Rattle.ob_tree.specs.declared.lines.Item.{Item}
use Rattle.ob_tree.specs.declared.style.Style.{Style}
use Rattle.ob_tree.specs.declared.survey.Seen.{Seen}
use Rattle.ob_tree.specs.declared.survey.SeenProcess.{SeenProcess}
use Rattle.ob_tree.specs.Index.{Named}
use Rattle.ob_tree.specs.Tree.{row_at, top_text, path_below, handle_text, handles_text, process_text, processes_text, items_of, items_below, middle_item, last_item, line_text, lines_text}

-- from the last element back: what is left from one element on is that element, and what is left after it
back_one : {X : Type 0} (xs : List X) (x d : X) (step : ℕ) → step < length xs → x ≡ get_or xs (length xs - 1 - step) d
    → drop (length xs - (step + 1)) xs ≡ x ∷ drop (length xs - step) xs
back_one {X} xs x d step within at =
    let k : ℕ = length xs - 1 - step in
    ap (λ n. drop n xs) first ∙ drop-cons xs (length xs - 1 - step) d (omega (arith, within)) ∙ ap (λ (y : X). y ∷ drop (suc (length xs - 1 - step)) xs) (sym at) ∙ ap (λ n. x ∷ drop n xs) second
  where
    first : length xs - (step + 1) ≡ length xs - 1 - step
    first = omega arith

    second : suc (length xs - 1 - step) ≡ length xs - step
    second = omega (arith, within)

all_dropped : {X : Type 0} (xs : List X) → drop (length xs) xs ≡ []
all_dropped [] = refl
all_dropped (x ∷ xs) = all_dropped xs

pub none_yet : {X : Type 0} (xs : List X) → drop (length xs - 0) xs ≡ []
none_yet xs = ap (λ n. drop n xs) (omega arith) ∙ all_dropped xs

pub all_done : {X : Type 0} (xs : List X) (step : ℕ) → length xs ≤ step → drop (length xs - step) xs ≡ xs
all_done xs step most = ap (λ n. drop n xs) none
  where
    none : length xs - step ≡ zero
    none = omega (arith, most)

-- spaces: one more
replicate-more : {X : Type 0} (n : ℕ) (x : X) → replicate n x ++ x ∷ [] ≡ replicate (suc n) x
replicate-more zero x = refl
replicate-more {X} (suc n) x = ap (λ (xs : List X). x ∷ xs) (replicate-more n x)

pub padded_more : (first text more : List ℕ) (n m : ℕ) → text ≡ first ++ replicate n 0x20 → more ≡ text ++ 0x20 ∷ [] → m ≡ suc n → more ≡ first ++ replicate m 0x20
padded_more first text more n m is pushed next =
    pushed ∙ ap (λ (xs : List ℕ). xs ++ 0x20 ∷ []) is ∙ append_assoc first (replicate n 0x20) (0x20 ∷ []) ∙ ap (λ (xs : List ℕ). first ++ xs) (replicate-more n 0x20 ∙ ap (λ k. replicate k 0x20) (sym next))

-- names on a way up: one more
joined-push : (cs : List (List ℕ)) (c : List ℕ) → names_joined (cs ++ c ∷ []) ≡ (separator ∷ c) ++ names_joined cs
joined-push [] c = sym (append-nil (separator ∷ c))
joined-push (b ∷ cs) c = ap (λ (xs : List ℕ). xs ++ separator ∷ b) (joined-push cs c) ∙ append_assoc (separator ∷ c) (names_joined cs) (separator ∷ b)

pub way_more : (objects : List Seen) (o n m : ℕ) (way more : List (List ℕ)) (row : Row) (whole : List ℕ) → Some row ≡ row_at objects o → m ≡ suc n → more ≡ way ++ row.name ∷ []
    → whole ≡ path_below m objects o ++ names_joined way → whole ≡ path_below n objects row.directory ++ names_joined more
way_more objects o n m way more row whole found next pushed is =
    is ∙ ap (λ k. path_below k objects o ++ names_joined way) next
    ∙ ap (λ r. option_map_or (λ r. path_below n objects r.directory ++ separator ∷ r.name) r (top_text objects o) ++ names_joined way) (sym found)
    ∙ append_assoc (path_below n objects row.directory) (separator ∷ row.name) (names_joined way)
    ∙ ap (λ (xs : List ℕ). path_below n objects row.directory ++ xs) (sym (joined-push way row.name) ∙ ap names_joined (sym pushed))

pub way_ends : (objects : List Seen) (o m : ℕ) → None ≡ row_at objects o → path_below m objects o ≡ top_text objects o
way_ends objects o zero none = refl
way_ends objects o (suc n) none = ap (λ r. option_map_or (λ r. path_below n objects r.directory ++ separator ∷ r.name) r (top_text objects o)) (sym none)

pub way_spent : (objects : List Seen) (o m : ℕ) → m ≡ 0 → path_below m objects o ≡ top_text objects o
way_spent objects o m none = ap (λ k. path_below k objects o) none

-- names that are written from the last one back: one more
pub names_back : {X : Type 0} (name : X → List ℕ) (xs : List X) (x d : X) (step : ℕ) (first out begun more : List ℕ) → step < length xs → x ≡ get_or xs (length xs - 1 - step) d
    → out ≡ first ++ names_joined (map name (drop (length xs - step) xs)) → begun ≡ out ++ separator ∷ [] → more ≡ begun ++ name x
    → more ≡ first ++ names_joined (map name (drop (length xs - (step + 1)) xs))
names_back {X} name xs x d step first out begun more within at is began added =
    added ∙ ap (λ (ys : List ℕ). ys ++ name x) began ∙ append_assoc out (separator ∷ []) (name x) ∙ ap (λ (ys : List ℕ). ys ++ separator ∷ name x) is
    ∙ append_assoc first (names_joined (map name (drop (length xs - step) xs))) (separator ∷ name x)
    ∙ sym (ap (λ (ys : List X). first ++ names_joined (map name ys)) (back_one xs x d step within at))

-- handles and processes: one more
pub handles_more : (objects : List Seen) (hs : List Held) (i : ℕ) (h : Held) (out more whole : List ℕ) → i < length hs → h ≡ get_or hs i h → more ≡ out ++ handle_text objects (i + 1) h
    → out ++ handles_text objects (i + 1) (drop i hs) ≡ whole → more ++ handles_text objects (i + 1 + 1) (drop (i + 1) hs) ≡ whole
handles_more objects hs i h out more whole within at added is =
    ap (λ (xs : List ℕ). xs ++ handles_text objects (i + 1 + 1) (drop (i + 1) hs)) added
    ∙ append_assoc out (handle_text objects (i + 1) h) (handles_text objects (i + 1 + 1) (drop (i + 1) hs))
    ∙ ap (λ (ks : List Held). out ++ handles_text objects (i + 1) ks)
    (sym (drop-cons hs i h within ∙ ap (λ (k : Held). k ∷ drop (suc i) hs) (sym at) ∙ ap (λ n. h ∷ drop n hs) (sym (add-one i))))
    ∙ is

pub processes_more : (objects : List Seen) (ps : List SeenProcess) (i : ℕ) (p : SeenProcess) (out more whole : List ℕ) → i < length ps → p ≡ get_or ps i p → more ≡ out ++ process_text objects p
    → out ++ processes_text objects (drop i ps) ≡ whole → more ++ processes_text objects (drop (i + 1) ps) ≡ whole
processes_more objects ps i p out more whole within at added is =
    ap (λ (xs : List ℕ). xs ++ processes_text objects (drop (i + 1) ps)) added
    ∙ append_assoc out (process_text objects p) (processes_text objects (drop (i + 1) ps))
    ∙ ap (λ (ks : List SeenProcess). out ++ processes_text objects ks)
    (sym (drop-cons ps i p within ∙ ap (λ (k : SeenProcess). k ∷ drop (suc i) ps) (sym at) ∙ ap (λ n. p ∷ drop n ps) (sym (add-one i))))
    ∙ is

dropped : {X : Type 0} (xs : List X) (i : ℕ) → length xs ≤ i → drop i xs ≡ []
dropped [] zero most = refl
dropped [] (suc i) most = refl
dropped (x ∷ xs) zero most = absurd (omega (arith, most))
dropped (x ∷ xs) (suc i) most = dropped xs i (omega (arith, most))

pub handles_end : (objects : List Seen) (hs : List Held) (i n : ℕ) (out whole : List ℕ) → length hs ≤ i → out ++ handles_text objects n (drop i hs) ≡ whole → out ≡ whole
handles_end objects hs i n out whole most is = sym (ap (λ (ks : List Held). out ++ handles_text objects n ks) (dropped hs i most) ∙ append-nil out) ∙ is

pub processes_end : (objects : List Seen) (ps : List SeenProcess) (i : ℕ) (out whole : List ℕ) → length ps ≤ i → out ++ processes_text objects (drop i ps) ≡ whole → out ≡ whole
processes_end objects ps i out whole most is = sym (ap (λ (ks : List SeenProcess). out ++ processes_text objects ks) (dropped ps i most) ∙ append-nil out) ∙ is

-- the last element is the first of the list turned
pub reverse_push : {X : Type 0} (xs : List X) (x : X) → reverse (xs ++ x ∷ []) ≡ x ∷ reverse xs
reverse_push xs x = reverse-append xs (x ∷ [])

-- items that are pushed from the last one back
pub tops_back : {X : Type 0} (make : ℕ → X) (ids : List ℕ) (id d step : ℕ) (items more : List X) → step < length ids → id ≡ get_or ids (length ids - 1 - step) d → more ≡ items ++ make id ∷ []
    → reverse items ≡ map make (drop (length ids - step) ids) → reverse more ≡ map make (drop (length ids - (step + 1)) ids)
tops_back {X} make ids id d step items more within at pushed is =
    ap reverse pushed ∙ reverse_push items (make id) ∙ ap (λ (xs : List X). make id ∷ xs) is ∙ sym (ap (map make) (back_one ids id d step within at))

pub items_back : {X : Type 0} (make : X → Item) (xs : List X) (x d : X) (item : Item) (step : ℕ) (items more first : List Item)
    → step < length xs → x ≡ get_or xs (length xs - 1 - step) d → more ≡ items ++ item ∷ [] → item ≡ make x
    → reverse items ≡ map make (drop (length xs - step) xs) ++ first → reverse more ≡ map make (drop (length xs - (step + 1)) xs) ++ first
items_back {X} make xs x d item step items more first within at pushed made is =
    ap reverse pushed ∙ reverse_push items item ∙ ap (λ (i : Item). i ∷ reverse items) made ∙ ap (λ (ys : List Item). make x ∷ ys) is
    ∙ sym (ap (λ (ys : List X). map make ys ++ first) (back_one xs x d step within at))

-- the items of entries are those of the last and of the others
pub items_parted : {X : Type 0} (named : X → Named) (indent : List ℕ) (others : List X) (last : X)
    → items_of indent (map named (others ++ last ∷ [])) ≡ map (λ x. middle_item indent (named x).object) others ++ last_item indent (named last).object ∷ []
items_parted named indent [] last = refl
items_parted named indent (x ∷ []) last = refl
items_parted named indent (x ∷ y ∷ others) last = ap (λ (items : List Item). middle_item indent (named x).object ∷ items) (items_parted named indent (y ∷ others) last)

pub items_pushed : {X : Type 0} (named : X → Named) (indent : List ℕ) (es others : List X) (last : X) (item : Item) (items pushed whole : List Item)
    → es ≡ others ++ last ∷ [] → item ≡ last_item indent (named last).object → pushed ≡ items ++ item ∷ []
    → reverse whole ≡ map (λ x. middle_item indent (named x).object) others ++ reverse pushed → reverse whole ≡ items_of indent (map named es) ++ reverse items
items_pushed {X} named indent es others last item items pushed whole parted made added is =
    is ∙ ap (λ (ys : List Item). map (λ x. middle_item indent (named x).object) others ++ ys) (ap reverse added ∙ reverse_push items item ∙ ap (λ (i : Item). i ∷ reverse items) made)
    ∙ sym (append_assoc (map (λ x. middle_item indent (named x).object) others) (last_item indent (named last).object ∷ []) (reverse items))
    ∙ ap (λ (ys : List Item). ys ++ reverse items) (sym (ap (λ (xs : List X). items_of indent (map named xs)) parted ∙ items_parted named indent others last))

-- lines: one more, and no more
pub lines_more : (style : Style) (objects : List Seen) (es : List Named) (n m : ℕ) (item : Item) (items popped pushed : List Item) (out more whole : List ℕ)
    → m ≡ suc n → items ≡ popped ++ item ∷ [] → more ≡ out ++ line_text style objects item → reverse pushed ≡ items_below style es item ++ reverse popped
    → out ++ lines_text style objects es m (reverse items) ≡ whole → more ++ lines_text style objects es n (reverse pushed) ≡ whole
lines_more style objects es n m item items popped pushed out more whole next was added below is =
    ap (λ (xs : List ℕ). xs ++ lines_text style objects es n (reverse pushed)) added
    ∙ append_assoc out (line_text style objects item) (lines_text style objects es n (reverse pushed))
    ∙ ap (λ (ys : List Item). out ++ (line_text style objects item ++ lines_text style objects es n ys)) below
    ∙ sym (ap (λ k. out ++ lines_text style objects es k (reverse items)) next ∙ ap (λ (ys : List Item). out ++ lines_text style objects es (suc n) ys) (ap reverse was ∙ reverse_push popped item))
    ∙ is

none_written : (style : Style) (objects : List Seen) (es : List Named) (m : ℕ) → lines_text style objects es m [] ≡ []
none_written style objects es zero = refl
none_written style objects es (suc n) = refl

pub lines_end : (style : Style) (objects : List Seen) (es : List Named) (m : ℕ) (items : List Item) (out whole : List ℕ)
    → length items ≡ 0 → out ++ lines_text style objects es m (reverse items) ≡ whole → out ≡ whole
lines_end style objects es m (item ∷ items) out whole none is = absurd (omega (arith, none))
lines_end style objects es m [] out whole none is =
    sym (ap (λ (xs : List ℕ). out ++ xs) (none_written style objects es m) ∙ append-nil out) ∙ is

pub lines_spent : (style : Style) (objects : List Seen) (es : List Named) (m : ℕ) (items : List Item) (out whole : List ℕ)
    → m ≡ 0 → out ++ lines_text style objects es m (reverse items) ≡ whole → out ≡ whole
lines_spent style objects es m items out whole none is = sym (ap (λ k. out ++ lines_text style objects es k (reverse items)) none ∙ append-nil out) ∙ is
