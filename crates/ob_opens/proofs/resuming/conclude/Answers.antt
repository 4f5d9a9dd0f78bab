-- Each end of a parse, as it is told of the machine's.
use Rattle.std.proofs.Common.{◌∙◌, refl, ap, sym, Some, None}
use Rattle.std.specs.Arc.{arc_value}
use Rattle.ob_model.specs.declared.reply.Answer.TheVariants.{Done}
use Rattle.ob_model.specs.Procedures.{EndsItself, EndsMade, EndsReparse, EndsRefused}
use Rattle.ob_types.specs.Parsing.{outcome_of}
use Rattle.ob_opens.specs.Waiting.{answer_of}
use Rattle.ob_opens.proofs.Resumed.{told}
use Rattle.ob_opens.proofs.resuming.conclude.Goals as goal

pub returns-in-NoMemory-clause-resumed : goal.returns-in-NoMemory-clause-resumed
returns-in-NoMemory-clause-resumed g c =
    told g.T.TypeSet.procedures c.args.space.now c.refused.new.space c.args.ticket
    (outcome_of c.args.outcome) None (answer_of c.refused.result) (answer_of c.refused.result) (ap outcome_of c.in-NoMemory.is) refl c.refused.ensures.resumed

pub returns-in-Refused-clause-resumed : goal.returns-in-Refused-clause-resumed
returns-in-Refused-clause-resumed g c =
    told g.T.TypeSet.procedures c.args.space.now c.refused-in-Refused.new.space c.args.ticket
    (outcome_of c.args.outcome) (Some (EndsRefused c.in-Refused.code)) (answer_of c.refused-in-Refused.result) (answer_of c.refused-in-Refused.result) (ap outcome_of c.in-Refused.is) refl
    c.refused-in-Refused.ensures.resumed

pub returns-in-Ok-clause-resumed : goal.returns-in-Ok-clause-resumed
returns-in-Ok-clause-resumed g c =
    told g.T.TypeSet.procedures c.args.space.now c.open_pinned.new.space c.args.ticket
    (outcome_of c.args.outcome) (Some EndsItself) (Done c.in-Ok.reply) (Done c.in-Ok.reply) (ap outcome_of c.in-Itself.is) refl c.in-Ok.ensures.resumed

pub returns-in-Ok-open_made-clause-resumed : goal.returns-in-Ok-open_made-clause-resumed
returns-in-Ok-open_made-clause-resumed g c =
    told g.T.TypeSet.procedures c.args.space.now c.open_made.new.space c.args.ticket
    (outcome_of c.args.outcome) (Some (EndsMade (arc_value c.in-Made.face) c.in-Made.inner)) (Done c.in-Ok-open_made.reply) (Done c.in-Ok-open_made.reply) (ap outcome_of c.in-Made.is) refl
    c.in-Ok-open_made.ensures.resumed

pub returns-in-Ok-look_again-clause-resumed : goal.returns-in-Ok-look_again-clause-resumed
returns-in-Ok-look_again-clause-resumed g c =
    told g.T.TypeSet.procedures c.args.space.now c.look_again.new.space c.args.ticket
    (outcome_of c.args.outcome) _ _ _ (ap outcome_of c.in-Reparse.is ∙ ap (λ text. Some (EndsReparse text)) (sym c.as_name.ensures.bytes)) refl c.in-Ok-look_again.ensures.resumed
