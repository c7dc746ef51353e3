use Rattle.std.proofs.Common.{rules}
use Rattle.dine_site_thread.proofs.site_loop.running.Running.wants.Goals as goal

pub returns : goal.returns
returns g c = search rules
