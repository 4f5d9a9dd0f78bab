-- What is no text is no number, and what is one is read by `parse`.
use Rattle.std.proofs.Common.{sym, ◌∙◌}
use Rattle.ob_parts.proofs.Paged.{no_text, number_found, number_none, text_same}
use Rattle.ob_parts.proofs.page.number_of.Goals as goal

pub returns-in_err-text-clause-none : goal.returns-in_err-text-clause-none
returns-in_err-text-clause-none c =
    rw c.from_residual.ensures (no_text _ _ c.from_utf8.result c.from_utf8.ensures.cases (sym c.ok.ensures.value ∙ c.in_err-text.was))

pub returns-clause-found : goal.returns-clause-found
returns-clause-found c =
    rw c.ok-2.ensures.value
    (number_found _ _ c.parse.result c.requires (text_same _ _ c.from_utf8.result _ c.from_utf8.ensures.cases (sym c.ok.ensures.value ∙ c.in_ok-text.was)) c.parse.ensures.value.0)

pub returns-clause-none : goal.returns-clause-none
returns-clause-none c =
    rw c.ok-2.ensures.value
    (number_none _ _ c.parse.result (text_same _ _ c.from_utf8.result _ c.from_utf8.ensures.cases (sym c.ok.ensures.value ∙ c.in_ok-text.was)) c.parse.ensures.value.0)
