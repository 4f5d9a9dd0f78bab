-- The ids of what was seen rise, as those of the objects do.
use Rattle.std.proofs.Common.{refl, sym, subst, ap, ◌∙◌}
use Rattle.ob_survey.specs.Surveying.{seen_of}
use Rattle.ob_tree.specs.Index.{Rise}
use Rattle.ob_survey.proofs.Gathering.{rise_seen}
use Rattle.ob_survey.proofs.reading.survey.Goals as goal

pub returns-clause-rise : goal.returns-clause-rise
returns-clause-rise g c =
    subst Rise (sym (ap (λ s. s.objects) c.new.ensures ∙ c.in_ok-objects.ensures))
    (rise_seen (λ o. o.id) (seen_of g.T.TypeSet.procedures c.args.core.now) (λ n. refl) c.args.core.now.objects c.state_is_sound.ensures.objects.rising)
