-- Empty checks own nothing, so they may go to another thread.
use denote.Param.Send.{IsSend, owning_send, sendable}
use Rattle.dine_link.specs.contracts.empty_checks.EmptyChecks.{the_row, the_type}

pub send : IsSend the_row
send = owning_send the_type (search sendable) (λ d. tt) (λ k x w. tt)
