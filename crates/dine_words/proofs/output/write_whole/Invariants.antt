-- What was written so far is what the writer gained.
use Rattle.std.proofs.Common.{◌≤◌, length, take}
use Rattle.std.specs.Io.KnownBytes.{Appends}
use Rattle.dine_words.proofs.output.write_whole.Given as goal

abbrev pub invariant-loop : goal.invariant-loop
invariant-loop g l = record {
  appended : Appends (g.W.Write.contents l.initial.output) (g.W.Write.contents l.output) (take l.written l.text);
  within : l.written ≤ length l.text;
}
