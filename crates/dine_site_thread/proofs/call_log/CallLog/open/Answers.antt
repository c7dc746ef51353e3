use Rattle.std.proofs.Common.{rules}
use Rattle.dine_site_thread.proofs.call_log.CallLog.open.Goals as goal

pub returns : goal.returns
returns c = search rules
