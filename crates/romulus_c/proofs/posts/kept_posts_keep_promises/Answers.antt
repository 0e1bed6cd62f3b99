use Rattle.romulus_c.proofs.Promised.{every_kept_run, every_two_kept_runs}
use Rattle.romulus_c.proofs.posts.kept_posts_keep_promises.Goals as goal

pub returns : goal.returns
returns c = record { promises = every_kept_run; outside = every_two_kept_runs }
