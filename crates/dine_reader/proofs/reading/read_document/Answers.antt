use Rattle.std.proofs.Common.{rules}
use Rattle.dine_reader.proofs.reading.read_document.Goals as goal

pub returns-in-Err-clause-refused : goal.returns-in-Err-clause-refused
returns-in-Err-clause-refused c = search rules
