use Rattle.ob_published.proofs.Leading.{first_leads, leads_is_run, one_more_leads}
use Rattle.ob_published.proofs.leads.publications_lead_through_runs.Goals as goal

pub returns-clause-more : goal.returns-clause-more
returns-clause-more g c = one_more_leads

pub returns-clause-run : goal.returns-clause-run
returns-clause-run g c = leads_is_run

pub returns-clause-first : goal.returns-clause-first
returns-clause-first g c = first_leads
