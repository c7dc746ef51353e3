use Rattle.std.proofs.Common.{◌≡◌, true, ◌∙◌, ap, arith, rules}
use Rattle.dine.specs.private.Records.{is_plain}
use Rattle.dine.proofs.PlainFields.{plain_decimal, plain_name}
use Rattle.dine.proofs.tables.push_edge.Goals as goal

pub push_record-requires-clause-plain : goal.push_record-requires-clause-plain
push_record-requires-clause-plain c =
    let plan = c.args.plan.now in
    let row = c.args.row.now in
    let edge : is_plain c.as_bytes.result.now ≡ true = ap is_plain (c.as_bytes.ensures.value ∙ c.in_ok-edge.ensures.ok) ∙ plain_decimal row.edge (omega arith) in
    let lo : is_plain c.as_bytes-2.result.now ≡ true = ap is_plain (c.as_bytes-2.ensures.value ∙ c.name.ensures.name) ∙ plain_name plan row.lo c.name.ensures.plan c.requires.row.lo_in in
    let hi : is_plain c.as_bytes-3.result.now ≡ true = ap is_plain (c.as_bytes-3.ensures.value ∙ c.name-2.ensures.name) ∙ plain_name plan row.hi c.name.ensures.plan c.requires.row.hi_in in
    let lo_meals : is_plain c.as_bytes-4.result.now ≡ true = ap is_plain (c.as_bytes-4.ensures.value ∙ c.in_ok-lo_meals.ensures.ok) ∙ plain_decimal row.lo_meals (omega arith) in
    let hi_meals : is_plain c.as_bytes-5.result.now ≡ true = ap is_plain (c.as_bytes-5.ensures.value ∙ c.in_ok-hi_meals.ensures.ok) ∙ plain_decimal row.hi_meals (omega arith) in
    let value : is_plain c.as_bytes-6.result.now ≡ true = ap is_plain (c.as_bytes-6.ensures.value ∙ c.in_ok-value.ensures.ok) ∙ plain_decimal row.value (omega arith) in
    rw (edge, lo, hi, lo_meals, hi_meals, value)

pub push_record-requires-2-clause-plain : goal.push_record-requires-2-clause-plain
push_record-requires-2-clause-plain c =
    let plan = c.args.plan.now in
    let row = c.args.row.now in
    let edge : is_plain c.as_bytes.result.now ≡ true = ap is_plain (c.as_bytes.ensures.value ∙ c.in_ok-edge.ensures.ok) ∙ plain_decimal row.edge (omega arith) in
    let lo : is_plain c.as_bytes-2.result.now ≡ true = ap is_plain (c.as_bytes-2.ensures.value ∙ c.name.ensures.name) ∙ plain_name plan row.lo c.name.ensures.plan c.requires.row.lo_in in
    let hi : is_plain c.as_bytes-3.result.now ≡ true = ap is_plain (c.as_bytes-3.ensures.value ∙ c.name-2.ensures.name) ∙ plain_name plan row.hi c.name.ensures.plan c.requires.row.hi_in in
    let lo_meals : is_plain c.as_bytes-4.result.now ≡ true = ap is_plain (c.as_bytes-4.ensures.value ∙ c.in_ok-lo_meals.ensures.ok) ∙ plain_decimal row.lo_meals (omega arith) in
    let hi_meals : is_plain c.as_bytes-5.result.now ≡ true = ap is_plain (c.as_bytes-5.ensures.value ∙ c.in_ok-hi_meals.ensures.ok) ∙ plain_decimal row.hi_meals (omega arith) in
    rw (edge, lo, hi, lo_meals, hi_meals)

pub returns-then-version-eq2-clause-text : goal.returns-then-version-eq2-clause-text
returns-then-version-eq2-clause-text c = search rules

pub returns-clause-text : goal.returns-clause-text
returns-clause-text c = search rules
