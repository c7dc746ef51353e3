-- The text of the option is the first value that `clap` found.
use Rattle.std.proofs.Common.{◌∙◌, ap, sym, Some, Option, List, ℕ, [], codes, option_map, Bor}
use Rattle.std.specs.Option.{option_map_or}
use Rattle.std.proofs.lemmas.Result.{IfOk-weaker}
use Rattle.clap.specs.Words.{found_of}
use Rattle.clap.proofs.WalkLemmas.{first_value-rows}
use Rattle.dine_words.specs.Choices.{choices_of}
use Rattle.dine_words.proofs.words.choices_met.Goals as goal

abbrev choices_at : Option (List ℕ) → Option (List ℕ)
choices_at text = option_map_or choices_of text (Some [])

abbrev seen : Option (Bor (List ℕ)) → Option (List ℕ)
seen = option_map (λ text. text.now)

pub returns-in-Some-clause-choices : goal.returns-in-Some-clause-choices
returns-in-Some-clause-choices c =
    let met = first_value-rows (found_of c.args.matches.now) (codes "choices") in
    IfOk-weaker c.choices_of.result _ _ (λ choices is. ap choices_at (sym met ∙ sym c.get_str.ensures ∙ ap seen c.in-Some.is) ∙ is) c.choices_of.ensures.choices

pub returns-in-Some-clause-refused : goal.returns-in-Some-clause-refused
returns-in-Some-clause-refused c refused =
    let met = first_value-rows (found_of c.args.matches.now) (codes "choices") in
    ap choices_at (sym met ∙ sym c.get_str.ensures ∙ ap seen c.in-Some.is) ∙ c.choices_of.ensures.refused refused

pub returns-in-None-clause-choices : goal.returns-in-None-clause-choices
returns-in-None-clause-choices c =
    let met = first_value-rows (found_of c.args.matches.now) (codes "choices") in
    ap choices_at (sym met ∙ sym c.get_str.ensures ∙ ap seen c.in-None.is) ∙ ap Some (sym c.new.ensures.items)
