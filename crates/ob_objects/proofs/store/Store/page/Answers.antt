-- The page of a store is that of each state which the store shows, by the names of its objects' types.
use Rattle.std.proofs.Common.{◌≡◌, ◌∙◌, ℕ, List, length, All, ap, refl, sym, subst, rules}
use Rattle.std.proofs.lemmas.Bool.{false≢true}
use Rattle.ob_base.specs.declared.status.Status.TheVariants.{NoMoreEntries}
use Rattle.ob_objects.specs.Listing.{page_given, type_name_at}
use Rattle.ob_objects.specs.Types.{type_name_among}
use Rattle.ob_objects.proofs.Asked.{answers_tell}
use Rattle.ob_objects.proofs.KeptTypes.{named_alike}
use Rattle.ob_objects.proofs.Pages.{directory_told, no_entry_told, no_directory_told, given_is, none_is_given}
use Rattle.ob_objects.proofs.store.Store.page.Goals as goal

pub returns-clause-page : goal.returns-clause-page
returns-clause-page g c s shows =
    given_is g.T.TypeSet.procedures c.args.self.now c.in-Some.dir.now c.args.context c.args.room c.args.single c.in-Ok.page c.new-2.result
    (c.in-Ok.ensures.page (type_name_at g.T.TypeSet.procedures c.args.self.now) (λ told last runs. subst (λ (name : ℕ → List ℕ). All (λ x. x.1 ≡ length (name x.0)) told) (named_alike g.T.TypeSet.procedures c.args.self.now c.walk-walk.result c.walk-walk.ensures)
    (answers_tell _ told _ last runs (λ f. f.0.now) c.walk-walk.result (type_name_among g.T.TypeSet.procedures c.walk-walk.result) refl (λ f h id n same step. (search rules, search rules))))) (c.new-2.ensures ∙ c.in_ok-entries.ensures.all)
    ∙ sym (ap page_given (directory_told g.T.TypeSet.procedures s c.args.self.now c.in-Some.ensures.store shows c.args.directory c.args.context c.args.room c.args.single c.in-Some.dir.now c.in-Some.ensures.found))

pub returns-in_default-clause-page : goal.returns-in_default-clause-page
returns-in_default-clause-page g c s shows =
    ap (λ items. record { status = NoMoreEntries; entries = items; context = c.args.context }) (c.new-in_default.ensures ∙ c.new.ensures.items)
    ∙ sym (ap page_given (no_directory_told g.T.TypeSet.procedures s c.args.self.now c.directory_at.ensures.store shows c.args.directory c.args.context c.args.room c.args.single c.in_default.ensures.found))

pub returns-in_err-entries-clause-empty : goal.returns-in_err-entries-clause-empty
returns-in_err-entries-clause-empty g c s shows none =
    absurd (false≢true (c.in_err-entries.ensures.none
    (none_is_given g.T.TypeSet.procedures c.args.self.now c.in-Some.dir.now c.args.context c.args.room c.args.single c.in-Ok.page
    (c.in-Ok.ensures.page (type_name_at g.T.TypeSet.procedures c.args.self.now) (λ told last runs. subst (λ (name : ℕ → List ℕ). All (λ x. x.1 ≡ length (name x.0)) told) (named_alike g.T.TypeSet.procedures c.args.self.now c.walk-walk.result c.walk-walk.ensures)
    (answers_tell _ told _ last runs (λ f. f.0.now) c.walk-walk.result (type_name_among g.T.TypeSet.procedures c.walk-walk.result) refl (λ f h id n same step. (search rules, search rules)))))
    (no_entry_told g.T.TypeSet.procedures s c.args.self.now c.in-Some.ensures.store shows c.args.directory c.args.context c.args.room c.args.single c.in-Some.dir.now c.in-Some.ensures.found none))))
