-- Where none are inherited there are none, and else those of the parent that are kept.
use Rattle.std.proofs.Common.{ℕ, List, ap, ◌∙◌}
use Rattle.ob_requests.specs.Tables.{value_in, variables_in}
use Rattle.ob_requests.specs.Variables.{is_among}
use Rattle.ob_seats.proofs.Children.{handed_all, handed_none}
use Rattle.ob_seats.proofs.changes.variables_to_hand_on.Goals as goal

pub returns-then-not-inherit-clause-values : goal.returns-then-not-inherit-clause-values
returns-then-not-inherit-clause-values c =
    handed_none ((variables_in c.args.variables.now).values c.args.parent) (value_in c.in_ok-own.own) c.args.handles.now c.args.inherit c.if-not-inherit.true c.in_ok-own.ensures.values

pub returns-clause-values : goal.returns-clause-values
returns-clause-values c =
    handed_all ((variables_in c.args.variables.now).values c.args.parent) (value_in c.in_ok-own.own) c.args.handles.now c.args.inherit (value_in c.keep_among.new.own) c.if-not-inherit.false
    c.in_ok-own.ensures.values
    (c.keep_among.ensures.kept c.args.handles.now (λ value. c.in_ok-values.ensures value ∙ ap (λ (handles : List ℕ). is_among handles value) c.as_slice.ensures))

pub returns-clause-begins : goal.returns-clause-begins
returns-clause-begins c = λ variable.
    let kept = c.keep_among.ensures.others variable in
    let begins = c.in_ok-own.ensures.begins variable in
    (kept.0 ∙ begins.0, kept.1 ∙ begins.1)
