use Rattle.std.proofs.Common.{Bool, sym, ap, ◌∙◌}
use Rattle.toml.specs.View.{view}
use Rattle.dine_reader.specs.RefusalTests.{has_other_key, site_keys}
use Rattle.dine_reader.proofs.forms.has_other_site_key.Goals as goal

pub returns-then-second : goal.returns-then-second
returns-then-second c =
    c.has_other_key.ensures ∙ ap (λ (b : Bool). has_other_key (site_keys b) (view c.args.site.now)) (sym c.if-second.true)

pub returns-else-second : goal.returns-else-second
returns-else-second c =
    c.has_other_key-else-second.ensures ∙ ap (λ (b : Bool). has_other_key (site_keys b) (view c.args.site.now)) (sym c.if-second.false)
