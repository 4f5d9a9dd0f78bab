-- The object's first count is put in; that zeros go changes none.
use Rattle.std.proofs.Common.{◌≡◌, ◌∙◌, ℕ, false, sym, subst}
use Rattle.ob_handles.specs.Counts.{is_listed, CountsOneMore}
use Rattle.ob_handles.proofs.Counted.{first_counted}
use Rattle.ob_handles.proofs.counts.Counts.add_first.Goals as goal

pub returns-else-self-len-clause-counted : goal.returns-else-self-len-clause-counted
returns-else-self-len-clause-counted c =
    subst (λ (o : ℕ). CountsOneMore o c.args.self.now c.insert.new.self.entries) c.object.view_is
    (first_counted c.self.inside.numbers c.insert.new.self c.args.self.now c.self.view_is c.object.inside.0 c.in_ok-insert.ensures.updates
    (subst (λ (o : ℕ). is_listed c.args.self.now o ≡ false) (sym c.object.view_is) c.requires))

pub returns-then-self-len-clause-counted : goal.returns-then-self-len-clause-counted
returns-then-self-len-clause-counted c = λ other.
    c.drop_zeros.ensures.counts other
    ∙ subst (λ (o : ℕ). CountsOneMore o c.args.self.now c.insert.new.self.entries) c.object.view_is
    (first_counted c.self.inside.numbers c.insert.new.self c.args.self.now c.self.view_is c.object.inside.0 c.in_ok-insert.ensures.updates
    (subst (λ (o : ℕ). is_listed c.args.self.now o ≡ false) (sym c.object.view_is) c.requires)) other
