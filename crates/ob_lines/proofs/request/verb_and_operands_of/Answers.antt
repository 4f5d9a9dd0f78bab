-- A verb and its operands are cut after the verb.
use Rattle.std.proofs.Common.{sym, ◌∙◌}
use Rattle.ob_lines.specs.Grammar.{verb_of, request_seen}
use Rattle.ob_parts.proofs.Cuts.{IfNone-map, IfSome-join}
use Rattle.ob_lines.proofs.LineForms.{request_parts, request_joined}
use Rattle.ob_lines.proofs.Verbs.{verb_same}
use Rattle.ob_lines.proofs.request.verb_and_operands_of.Goals as goal

pub returns-in_err-verb-clause-none : goal.returns-in_err-verb-clause-none
returns-in_err-verb-clause-none c =
    rw c.from_residual-in_err-verb.ensures
    (λ r s. c.in_err-verb.ensures.none (verb_of r) (request_parts _ _ _ r c.in_ok-word.ensures.found.0 c.in_ok-word.ensures.found.1 s).0)

pub returns-clause-found : goal.returns-clause-found
returns-clause-found c =
    IfSome-join c.operands_of.result _ _ _
    (λ r v s. request_joined _ _ _ _ (request_seen r) c.in_ok-word.ensures.found.0 c.in_ok-verb.ensures.found v s)
    c.operands_of.ensures.verb c.operands_of.ensures.found

pub returns-clause-none : goal.returns-clause-none
returns-clause-none c =
    IfNone-map c.operands_of.result _ _
    (λ none r s.
    let parts = request_parts _ _ _ r c.in_ok-word.ensures.found.0 c.in_ok-word.ensures.found.1 s in
    none r (verb_same _ _ (sym parts.0 ∙ c.in_ok-verb.ensures.found)) parts.1)
    c.operands_of.ensures.none
