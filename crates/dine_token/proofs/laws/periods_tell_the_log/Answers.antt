use Rattle.std.proofs.Common.{◌+◌, arith}
use Rattle.dine_token.proofs.shared.Bounds.{moves-lawful}
use Rattle.dine_token.proofs.Periods.{length-periods_of}
use Rattle.dine_token.proofs.LawfulPeriods.{lawful_has_periods}
use Rattle.dine_token.proofs.laws.periods_tell_the_log.Goals as goal

pub returns-clause-whole : goal.returns-clause-whole
returns-clause-whole c ends due log ordered lawful = (lawful_has_periods ends due (due.0 + due.1) ordered (omega arith) (omega arith) log lawful).whole

pub returns-clause-bounded : goal.returns-clause-bounded
returns-clause-bounded c ends due log ordered lawful = omega (arith, length-periods_of ends.0 log, moves-lawful ends due log ordered lawful)
