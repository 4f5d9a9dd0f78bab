-- The row comes last, and is listed so; where one of both can't, neither is.
use Rattle.std.proofs.Common.{◌∙◌, ◌++◌, ◌<◌, All, List, [], ◌∷◌, ap, subst, sym}
use Rattle.ob_model.specs.declared.state.Row.{Row}
use Rattle.ob_rows.specs.declared.change.RowChange.{RowChange}
use Rattle.ob_rows.specs.declared.change.RowChange.TheVariants.{Added}
use Rattle.ob_handles.proofs.Inside.{on_err}
use Rattle.ob_mirror.specs.Mirrored.{Mirrored}
use Rattle.ob_mirror.proofs.Leading.{leads_further, leads_nowhere}
use Rattle.ob_mirror.proofs.mirror.Mirror.copy.Goals as goal

pub add-requires : goal.add-requires
add-requires c = record {
  newest =
      subst (λ (rows : List Row). All (λ r. r.stamp < c.in_ok-row.row.stamp) rows) (sym (ap (λ (m : Mirrored). m.rows) c.self.view_is))
      (subst (λ n. All (λ (r : Row). r.stamp < n) c.args.self.now.rows) (sym (ap (λ (r : Row). r.stamp) c.in_ok-row.ensures)) c.requires.newest);
}

pub returns-in_err-reserve-clause-unchanged : goal.returns-in_err-reserve-clause-unchanged
returns-in_err-reserve-clause-unchanged c = on_err c.from_residual-in_err-reserve.result ((λ i. record { rows = c.self.inside.rows; next = c.self.inside.next; pending = c.reserve.ensures.items i }) ∙ c.self.view_is)

pub returns-in_err-reserve-clause-listed : goal.returns-in_err-reserve-clause-listed
returns-in_err-reserve-clause-listed c =
    leads_nowhere c.args.self.now _ ((λ i. record { rows = c.self.inside.rows; next = c.self.inside.next; pending = c.reserve.ensures.items i }) ∙ c.self.view_is)

pub returns-in_err-add-clause-unchanged : goal.returns-in_err-add-clause-unchanged
returns-in_err-add-clause-unchanged c = on_err c.from_residual-in_err-add.result ((λ i. record { rows = c.in_err-add.ensures.unchanged i; next = c.self.inside.next; pending = c.reserve.ensures.items i }) ∙ c.self.view_is)

pub returns-in_err-add-clause-listed : goal.returns-in_err-add-clause-listed
returns-in_err-add-clause-listed c =
    leads_nowhere c.args.self.now _ ((λ i. record { rows = c.in_err-add.ensures.unchanged i; next = c.self.inside.next; pending = c.reserve.ensures.items i }) ∙ c.self.view_is)

pub returns-clause-rows : goal.returns-clause-rows
returns-clause-rows c = c.in_ok-add.ensures.last ∙ (λ i. (c.self.view_is i).rows ++ c.in_ok-row.ensures i ∷ [])

pub returns-clause-listed : goal.returns-clause-listed
returns-clause-listed c =
    leads_further _ _ c.add.new.self c.push_back_reserved.new.self.items (Added c.in_ok-listed.listed) c.self.view_is
    (c.push_back_reserved.ensures.items ∙ ap (λ (changes : List RowChange). changes ++ Added c.in_ok-listed.listed ∷ []) c.reserve.ensures.items)
    (c.in_ok-add.ensures.last ∙ ap (λ (r : Row). c.self.inside.rows ++ r ∷ []) (c.in_ok-row.ensures ∙ sym c.in_ok-listed.ensures))
