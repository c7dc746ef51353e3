use Rattle.dine_ffi.proofs.Standing.{begin_call, end_call, hungry_call, opened_stands, put_call, quit_call, take_call}
use Rattle.dine_ffi.proofs.laws.calls_are_steps.Goals as goal

pub returns : goal.returns
returns c = record { opened = opened_stands; hungry = hungry_call; quit = quit_call; begin = begin_call; end = end_call; puts = put_call; takes = take_call }
