use Rattle.std.proofs.Common.{◌+◌, not, sym, ap, arith}
use Rattle.dine_draft.specs.Refusals.{is_unnamed}
use Rattle.dine_draft.proofs.shared.NameLemmas.{decimal_is_name}
use Rattle.dine_draft.proofs.shared.PlainLemmas.{plain_none}
use Rattle.dine_draft.proofs.sites.has_unnamed_number.Goals as goal

pub returns : goal.returns
returns c =
    sym (plain_none is_unnamed (c.args.listed + 1) c.args.plain (λ k within. ap not (decimal_is_name k (omega (arith, within, c.requires, c.ranges.plain.fits)))))
