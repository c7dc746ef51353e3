-- What was taken so far is what the reader lost, and it is within the limit.
use Rattle.std.proofs.Common.{◌≤◌, vec_len}
use Rattle.std.specs.Io.KnownBytes.{Consumes}
use Rattle.dine_words.specs.declared.input.TheConstants.{INPUT_LIMIT}
use Rattle.dine_words.proofs.input.read_input.Given as goal

abbrev pub invariant-loop : goal.invariant-loop
invariant-loop g l = record {
  consumed : Consumes (g.R.Read.remaining l.initial.input) (g.R.Read.remaining l.input) l.taken.items;
  within : vec_len l.taken ≤ INPUT_LIMIT;
}
