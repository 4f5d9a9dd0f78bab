-- The order of a journal, as it is followed.
use Rattle.std.proofs.Common.{◌≡◌, ◌∙◌, ◌↔◌, ◌+◌, ◌<◌, ◌≤◌, ◌==◌, ℕ, zero, suc, cond, Bool, true, false, IsTrue, List, [], ◌∷◌, ◌++◌, length, take, get_or, ap, refl, sym, subst, arith, append-nil, length-append}
use Rattle.std.proofs.lemmas.Bool.{false≢true}
use Rattle.std.proofs.lemmas.List.Elements.{filter-append}
use Rattle.std.proofs.lemmas.List.Sums.{fold-append}
use Rattle.ob_threads.specs.declared.order.Order.{Order}
use Rattle.ob_threads.specs.declared.order.Order.TheVariants.{Begun, Joined, Broken}
use Rattle.ob_entries.specs.Segments.{Segment, joined}
use Rattle.ob_agreement.specs.Agreement.{entries_of}
use Rattle.ob_model.specs.Run.{Entry}
use Rattle.ob_standard.specs.Standard.{StandardKind}
use Rattle.ob_seats.specs.Received.{Entries}
use Rattle.ob_threads.specs.Order.{after, followed, is_whole}
use Rattle.ob_threads.specs.Played.{IsInOrder}
use Rattle.ob_segments.proofs.Lists.{joined-append}
use Rattle.ob_threads.proofs.CutOff.{take_more}

pub followed_append : (order : Order) (xs ys : Entries) → followed order (xs ++ ys) ≡ followed (followed order xs) ys
followed_append order xs ys = fold-append (λ o e. after o e.seat) order xs ys

-- the entries of a segment more
pub followed_more : (order : Order) (ss : List (Segment StandardKind)) (i : ℕ) (s : Segment StandardKind) → i < length ss → s ≡ get_or ss i s → followed order (joined (take (i + 1) ss)) ≡ followed (followed order (joined (take i ss))) s.entries
followed_more order ss i s inside is =
    ap (λ l. followed order (joined l)) (take_more ss i s inside is)
    ∙ (ap (followed order) (joined-append (take i ss) (s ∷ []) ∙ ap (λ l. joined (take i ss) ++ l) (append-nil s.entries))
    ∙ followed_append order (joined (take i ss)) s.entries)

-- ---- a journal that is followed to its end has its three parts

-- entries in their order, of which so many are those before the workers, and these are those of seat 0
abbrev AreParted : ℕ → Entries → Entries → Type 0
AreParted left es own = (begun : Entries) × (between : Entries) × (rest : Entries) × (length begun ≡ left) × (es ≡ begun ++ (between ++ rest)) × (own ≡ begun ++ rest)

-- entries that follow
abbrev Follow : Order → Entries → Type 0
Follow (Begun left) es = AreParted left es (entries_of 0 es)
Follow Joined es = entries_of 0 es ≡ es
Follow Broken es = ⊥

broken : (es : Entries) → followed Broken es ≡ Broken
broken [] = refl
broken (e ∷ es) = broken es

-- those that follow an entry, and it before them
module _ (es : Entries) (follow : (order : Order) → is_whole (followed order es) ≡ true → Follow order es) (e : Entry StandardKind) where
  of_worker : (own : Entries) → AreParted 0 es own → AreParted 0 (e ∷ es) own
  of_worker own ([], between, rest, none, is, are) = ([], e ∷ between, rest, refl, ap (λ l. e ∷ l) is, are)
  of_worker own (x ∷ begun, between, rest, none, is, are) = absurd (omega (arith, none))

  begun_all : (own : Bool) → is_whole (followed (cond own Joined (Begun 0)) es) ≡ true → AreParted 0 (e ∷ es) (cond own (e ∷ entries_of 0 es) (entries_of 0 es))
  begun_all true whole = ([], [], e ∷ es, refl, refl, ap (λ l. e ∷ l) (follow Joined whole))
  begun_all false whole = of_worker (entries_of 0 es) (follow (Begun 0) whole)

  begun_more : (left : ℕ) (own : Bool) → is_whole (followed (cond own (Begun left) Broken) es) ≡ true → AreParted (suc left) (e ∷ es) (cond own (e ∷ entries_of 0 es) (entries_of 0 es))
  begun_more left true whole = let is = follow (Begun left) whole in (e ∷ is.0, is.1, is.2, ap suc is.3, ap (λ l. e ∷ l) is.4, ap (λ l. e ∷ l) is.5)
  begun_more left false whole = absurd (follow Broken whole)

  joined_more : (own : Bool) → is_whole (followed (cond own Joined Broken) es) ≡ true → cond own (e ∷ entries_of 0 es) (entries_of 0 es) ≡ e ∷ es
  joined_more true whole = ap (λ l. e ∷ l) (follow Joined whole)
  joined_more false whole = absurd (follow Broken whole)

parts_of : (order : Order) (es : Entries) → is_whole (followed order es) ≡ true → Follow order es
parts_of (Begun zero) [] whole = ([], [], [], refl, refl, refl)
parts_of (Begun (suc left)) [] whole = absurd (false≢true whole)
parts_of (Begun zero) (e ∷ es) whole = begun_all es (λ order. parts_of order es) e (e.seat == 0) whole
parts_of (Begun (suc left)) (e ∷ es) whole = begun_more es (λ order. parts_of order es) e left (e.seat == 0) whole
parts_of Joined [] whole = refl
parts_of Joined (e ∷ es) whole = joined_more es (λ order. parts_of order es) e (e.seat == 0) whole
parts_of Broken es whole = false≢true (sym (ap is_whole (broken es)) ∙ whole)

-- ---- a journal that has them is followed to its end

kept : (es : Entries) → entries_of 0 (entries_of 0 es) ≡ entries_of 0 es
kept [] = refl
kept (e ∷ es) = go (e.seat == 0) refl (kept es)
  where
    go : (own : Bool) → (e.seat == 0) ≡ own → entries_of 0 (entries_of 0 es) ≡ entries_of 0 es → entries_of 0 (cond own (e ∷ entries_of 0 es) (entries_of 0 es)) ≡ cond own (e ∷ entries_of 0 es) (entries_of 0 es)
    go true is more = ap (λ own. cond own (e ∷ entries_of 0 (entries_of 0 es)) (entries_of 0 (entries_of 0 es))) is ∙ ap (λ l. e ∷ l) more
    go false is more = more

-- a list has no more entries of seat 0 than entries
fewer : (es : Entries) → length (entries_of 0 es) ≤ length es
fewer [] = omega arith
fewer (e ∷ es) = go (e.seat == 0) (fewer es)
  where
    go : (own : Bool) → length (entries_of 0 es) ≤ length es → length (cond own (e ∷ entries_of 0 es) (entries_of 0 es)) ≤ length (e ∷ es)
    go true more = omega (arith, more)
    go false more = omega (arith, more)

longer : (e : Entry StandardKind) (es : Entries) → entries_of 0 es ≡ e ∷ es → ⊥
longer e es is = omega (arith, ap length is, fewer es)

same_rest : (e : Entry StandardKind) (xs ys : Entries) → e ∷ xs ≡ e ∷ ys → xs ≡ ys
same_rest e xs ys is = cc

-- entries of seat 0 alone
own_alone : (es : Entries) → entries_of 0 es ≡ es → is_whole (followed Joined es) ≡ true
own_alone [] own = refl
own_alone (e ∷ es) own = go (e.seat == 0) own (own_alone es)
  where
    go : (is : Bool) → cond is (e ∷ entries_of 0 es) (entries_of 0 es) ≡ e ∷ es → (entries_of 0 es ≡ es → is_whole (followed Joined es) ≡ true) → is_whole (followed (cond is Joined Broken) es) ≡ true
    go true own more = more (same_rest e (entries_of 0 es) es own)
    go false own more = absurd (longer e es own)

-- entries of workers, and then of seat 0
then_own : (between rest : Entries) → entries_of 0 (between ++ rest) ≡ rest → is_whole (followed (Begun 0) (between ++ rest)) ≡ true
then_own [] [] own = refl
then_own [] (e ∷ rest) own = go (e.seat == 0) own
  where
    go : (is : Bool) → cond is (e ∷ entries_of 0 rest) (entries_of 0 rest) ≡ e ∷ rest → is_whole (followed (cond is Joined (Begun 0)) rest) ≡ true
    go true own = own_alone rest (same_rest e (entries_of 0 rest) rest own)
    go false own = absurd (longer e rest own)
then_own (e ∷ between) rest own = go (e.seat == 0) own (then_own between rest)
  where
    es : Entries
    es = between ++ rest

    all : entries_of 0 rest ≡ rest
    all = sym (ap (entries_of 0) own) ∙ (kept (e ∷ es) ∙ own)

    go : (is : Bool) → cond is (e ∷ entries_of 0 es) (entries_of 0 es) ≡ rest → (entries_of 0 es ≡ rest → is_whole (followed (Begun 0) es) ≡ true) → is_whole (followed (cond is Joined (Begun 0)) es) ≡ true
    go true own more =
        let parts = filter-append (λ (x : Entry StandardKind). x.seat == 0) between rest in
        absurd (omega (arith, ap length own, ap length parts, length-append (entries_of 0 between) (entries_of 0 rest), ap length all))
    go false own more = more own

whole_of : (begun between rest : Entries) → entries_of 0 (begun ++ (between ++ rest)) ≡ begun ++ rest → is_whole (followed (Begun (length begun)) (begun ++ (between ++ rest))) ≡ true
whole_of [] between rest own = then_own between rest own
whole_of (e ∷ begun) between rest own = go (e.seat == 0) refl own (whole_of begun between rest)
  where
    es : Entries
    es = begun ++ (between ++ rest)

    go : (is : Bool) → (e.seat == 0) ≡ is → cond is (e ∷ entries_of 0 es) (entries_of 0 es) ≡ e ∷ (begun ++ rest) → (entries_of 0 es ≡ begun ++ rest → is_whole (followed (Begun (length begun)) es) ≡ true)
        → is_whole (followed (cond is (Begun (length begun)) Broken) es) ≡ true
    go true is own more = more (same_rest e (entries_of 0 es) (begun ++ rest) own)
    go false is own more =
        let all : entries_of 0 (e ∷ (begun ++ rest)) ≡ e ∷ (begun ++ rest) = sym (ap (entries_of 0) own) ∙ (kept es ∙ own) in
        absurd (longer e (begun ++ rest) (sym (ap (λ b. cond b (e ∷ entries_of 0 (begun ++ rest)) (entries_of 0 (begun ++ rest))) is) ∙ all))

-- ---- so what is followed to its end is exactly what is in order
pub in_order : (count : ℕ) (journal : Entries) → IsTrue (is_whole (followed (Begun count) journal)) ↔ IsInOrder count journal
in_order count journal = (
  λ whole. let is = parts_of (Begun count) journal whole in (is.0, is.2, is.3, record { between = is.1; order = is.4; own = is.5 }),
  λ (begun, rest, many, are). subst (λ n. is_whole (followed (Begun n) journal) ≡ true) many (subst (λ es. is_whole (followed (Begun (length begun)) es) ≡ true) (sym are.order)
      (whole_of begun are.between rest (sym (ap (entries_of 0) are.order) ∙ are.own))),
)
