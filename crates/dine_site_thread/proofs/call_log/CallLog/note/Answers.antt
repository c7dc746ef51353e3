use Rattle.std.proofs.Common.{rules}
use Rattle.dine_site_thread.proofs.call_log.CallLog.note.Goals as goal

pub returns-clause-calls : goal.returns-clause-calls
returns-clause-calls c = search rules
