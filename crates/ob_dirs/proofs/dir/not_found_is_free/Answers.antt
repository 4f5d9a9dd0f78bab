use Rattle.ob_dirs.proofs.Laws.{free_where_none, none_where_free}
use Rattle.ob_dirs.proofs.dir.not_found_is_free.Goals as goal

pub returns : goal.returns
returns c = λ es component. (free_where_none es component, none_where_free es component)
