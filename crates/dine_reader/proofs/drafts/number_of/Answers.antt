use Rattle.std.proofs.Common.{unwrap_or, sym, ap, ◌∙◌}
use Rattle.std.specs.List.{position}
use Rattle.std.specs.Str.{bytes_eq}
use Rattle.dine_reader.proofs.IndexLemmas.{position_or_length}
use Rattle.dine_reader.proofs.drafts.number_of.Goals as goal

pub returns : goal.returns
returns c names is count =
    c.unwrap_or.ensures ∙ ap (λ o. unwrap_or o c.args.sites) (c.copied.ensures ∙ c.get.ensures.value ∙ is c.args.name.now)
    ∙ ap (unwrap_or (position (bytes_eq c.args.name.now) names)) (sym count) ∙ position_or_length (bytes_eq c.args.name.now) names
