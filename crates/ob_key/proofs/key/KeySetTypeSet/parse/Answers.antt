-- Where the component leads to a link, the link answers.
use Rattle.std.proofs.Common.{◌≡◌, ◌≢◌, ◌∷◌, [], Some, IfOk, rules, subst, sym}
use Rattle.ob_model.specs.Names.{separator, next_component, after_component}
use Rattle.ob_types.specs.Parsing.{answer_of}
use Rattle.ob_plain.specs.Arguments.{without_separator}
use Rattle.ob_key.specs.Entries.{target_of, path_below}
use Rattle.ob_key.proofs.Answered.{link_answers}
use Rattle.ob_key.proofs.key.KeySetTypeSet.parse.Goals as goal

pub returns-in-Some : goal.returns-in-Some
returns-in-Some c =
    let face = c.args.face.now in let rest = c.args.rest.now in
    let name = c.in-One.name.now in let behind = c.in-One.behind.now in
    let full : rest ≢ [] = search rules in
    let some : name ≢ [] = search rules in
    let next : name ≡ next_component (separator ∷ without_separator rest) = search rules in
    let after : behind ≡ after_component (separator ∷ without_separator rest) = search rules in
    let found : target_of face.entries (path_below face.path name) ≡ Some c.in-Some.target.now = search rules in
    subst (λ x. IfOk c.through_link.result (λ answer. answer_of answer ≡ x)) (sym (link_answers face rest name behind c.in-Some.target.now full some next after found)) c.through_link.ensures
