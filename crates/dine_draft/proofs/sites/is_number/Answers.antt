use Rattle.dine_draft.proofs.shared.NameLemmas.{decimal_is_name}
use Rattle.dine_draft.proofs.sites.is_number.Goals as goal
use Rattle.std.proofs.Common.{sym, arith}

pub returns : goal.returns
returns c = sym (decimal_is_name c.args.number (omega (arith, c.ranges.number.fits)))
