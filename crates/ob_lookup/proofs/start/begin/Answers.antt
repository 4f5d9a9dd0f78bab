-- The object of the root handle is there, and is a directory, is asked to parse the name, or neither.
use Rattle.std.proofs.Common.{◌≡◌, ◌∙◌, ap, sym, subst, Option, Some, List, ℕ}
use Rattle.ob_base.specs.declared.status.Status.TheVariants.{ObjectTypeMismatch}
use Rattle.ob_model.specs.Looks as machine
use Rattle.ob_model.specs.Names.{begins_with_separator}
use Rattle.ob_lookup.specs.Closed.{IsRootThere}
use Rattle.ob_lookup.specs.Walk.{place_of, text_of, parses_at}
use Rattle.ob_lookup.proofs.Begins.{refuses_other, asks_there, begins_there, asked_parts}
use Rattle.ob_lookup.proofs.Starts.{start_there}
use Rattle.ob_lookup.proofs.start.begin.Goals as goal

pub returns-in_default-clause-directory : goal.returns-in_default-clause-directory
returns-in_default-clause-directory g c = start_there c.args.store.now c.args.view.now c.requires.closed c.requires.view 0 c.args.mode.create c.args.name c.in-Some-absolute.start (c.in-Some-absolute.ensures 0)

pub returns-then-is_directory-clause-begins : goal.returns-then-is_directory-clause-begins
returns-then-is_directory-clause-begins g c = λ s p m end shows of looks.
    let inner = ap begins_with_separator (sym c.as_slice.ensures.bytes) ∙ sym c.begins_with_separator.ensures ∙ c.if-begins_with_separator.false in
    subst (λ (r : Option ℕ). machine.LooksUp g.T.TypeSet.procedures s p c.args.mode m r c.args.name end) (sym c.in-Some.is)
    (begins_there g.T.TypeSet.procedures c.args.store.now c.in-Some.id c.args.name inner s p c.args.mode m shows
    (place_of p c.relative.result, text_of c.relative.result) end (sym c.is_directory.ensures ∙ c.if-is_directory.true) (c.relative.ensures.begins p) looks)

pub returns-then-not-is_asked-clause-begins : goal.returns-then-not-is_asked-clause-begins
returns-then-not-is_asked-clause-begins g c = λ s p shows of.
    let inner = ap begins_with_separator (sym c.as_slice.ensures.bytes) ∙ sym c.begins_with_separator.ensures ∙ c.if-begins_with_separator.false in
    subst (λ (r : Option ℕ). machine.LooksUp g.T.TypeSet.procedures s p c.args.mode c.args.left r c.args.name (machine.Refused ObjectTypeMismatch)) (sym c.in-Some.is)
    (refuses_other g.T.TypeSet.procedures c.args.store.now c.in-Some.id c.args.name inner s p c.args.mode c.args.left shows
    (subst (λ (r : Option ℕ). IsRootThere c.args.store.now r) c.in-Some.is c.requires.root) (sym c.is_directory.ensures ∙ c.if-is_directory.false)
    (sym c.is_asked.ensures ∙ c.if-not-is_asked.true))

pub returns-clause-begins : goal.returns-clause-begins
returns-clause-begins g c = λ s p shows of.
    let inner = ap begins_with_separator (sym c.as_slice.ensures.bytes) ∙ sym c.begins_with_separator.ensures ∙ c.if-begins_with_separator.false in
    let asked = asked_parts c.args.mode.create (parses_at g.T.TypeSet.procedures c.args.store.now c.in-Some.id) (sym c.is_asked.ensures ∙ c.if-not-is_asked.false) in
    let whole : c.args.name ≡ c.lent.result = sym c.lent.ensures in
    subst (λ (r : Option ℕ). machine.LooksUp g.T.TypeSet.procedures s p c.args.mode c.args.left r c.args.name (machine.Parse c.in-Some.id c.lent.result c.args.left)) (sym c.in-Some.is)
    (subst (λ (rest : List ℕ). machine.LooksUp g.T.TypeSet.procedures s p c.args.mode c.args.left (Some c.in-Some.id) c.args.name (machine.Parse c.in-Some.id rest c.args.left)) whole
    (asks_there g.T.TypeSet.procedures c.args.store.now c.in-Some.id c.args.name inner s p c.args.mode c.args.left shows asked.0 asked.1))
