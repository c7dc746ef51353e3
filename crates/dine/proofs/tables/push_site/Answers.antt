use Rattle.std.proofs.Common.{◌≡◌, true, ◌∙◌, ap, arith}
use Rattle.dine.specs.private.Records.{is_plain}
use Rattle.dine.proofs.PlainFields.{plain_decimal, plain_name}
use Rattle.dine.proofs.tables.push_site.Goals as goal

pub push_record-requires-clause-plain : goal.push_record-requires-clause-plain
push_record-requires-clause-plain c =
    let row = c.args.row.now in
    let name : is_plain c.as_bytes.result.now ≡ true = ap is_plain (c.as_bytes.ensures.value ∙ c.name.ensures.name) ∙ plain_name c.args.plan.now row.site c.name.ensures.plan c.requires.row in
    let meals : is_plain c.as_bytes-2.result.now ≡ true = ap is_plain (c.as_bytes-2.ensures.value ∙ c.in_ok-meals.ensures.ok) ∙ plain_decimal row.meals (omega arith) in
    let failed : is_plain c.as_bytes-3.result.now ≡ true = ap is_plain (c.as_bytes-3.ensures.value ∙ c.in_ok-failed.ensures.ok) ∙ plain_decimal row.failed (omega arith) in
    rw (name, meals, failed)
