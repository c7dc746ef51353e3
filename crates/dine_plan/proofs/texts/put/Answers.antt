use Rattle.std.proofs.Common.{ap, ◌∙◌}
use Rattle.toml.specs.View.{view, members_view, table_view}
use Rattle.dine_plan.specs.private.Tables.{with_member}
use Rattle.dine_plan.proofs.TableLemmas.{members_view-insert}
use Rattle.dine_plan.proofs.texts.put.Goals as goal

pub returns : goal.returns
returns c =
    ap members_view c.in_ok-insert.ensures.entries ∙ members_view-insert c.in_ok-key.key c.args.value c.args.table.now.entries ∙ ap (λ k. with_member k (view c.args.value) (table_view c.args.table.now)) c.in_ok-key.ensures.ok
