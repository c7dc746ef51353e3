use Rattle.std.proofs.Common.{ℕ, List, ap}
use Rattle.dine_threads.specs.private.Collecting.{out_of}
use Rattle.dine_threads.proofs.collecting.split_end.Goals as goal

pub fill_row-requires-clause-room : goal.fill_row-requires-clause-room
fill_row-requires-clause-room g c = c.requires.room

pub fill_row-requires-clause-none : goal.fill_row-requires-clause-none
fill_row-requires-clause-none g c = c.requires.none

pub place_forks-requires : goal.place_forks-requires
place_forks-requires g c = c.requires.forks

pub returns : goal.returns
returns g c = record { out = ap (λ (events : List ℕ). record (out_of c.args.end) { checks = record { at = events; sealed = tt } }) c.into_empty_checks.ensures; row = c.fill_row.ensures; slots = c.place_forks.ensures }
