-- The texts that the commas divide the list into are read one after the other.
use Rattle.std.proofs.Common.{◌≡◌, ◌∙◌, ◌++◌, ◌==◌, ◌∷◌, [], Some, ap, map, lit<, rules, sym}
use Rattle.std.specs.List.{slice_split}
use Rattle.std.specs.Str.Iter.{split_has_more, split_pattern, split_text}
use Rattle.std.proofs.lemmas.Iterator.Consumers.{YieldsList-turn, YieldsList-end}
use Rattle.std.proofs.lemmas.Iterator.Splits.{YieldsList-from_str_split}
use Rattle.std.proofs.lemmas.List.{map_push}
use Rattle.dine_words.specs.Choices.{choice_of, choices_of_all}
use Rattle.dine_words.proofs.ChoicesLemmas.{none_of_all, one_more}
use Rattle.dine_words.proofs.choices.choices_of.Goals as goal

pub loop-text-init : goal.loop-text-init
loop-text-init c = ap Some (sym c.new-choices.ensures.items)

pub loop-text-preserved : goal.loop-text-preserved
loop-text-preserved c =
    let grown : c.push.new.self.items ≡ c.loop-text.choices.items ++ c.in-Some-choice_of.choice ∷ [] = search rules in
    ap choices_of_all (map_push (λ text. text.now) c.loop-text.yielded c.in-Some.text)
    ∙ one_more (map (λ text. text.now) c.loop-text.yielded) c.in-Some.text.now c.loop-text.choices.items c.in-Some-choice_of.choice c.loop-text.invariant (sym c.choice_of.ensures ∙ c.in-Some-choice_of.is)
    ∙ ap Some (sym grown)

pub returns-in-None-choice_of-clause-refused : goal.returns-in-None-choice_of-clause-refused
returns-in-None-choice_of-clause-refused c refused =
    let all = slice_split (λ b. b == 44) c.args.list.now in
    let same : c.into_iter-text-iterator.result ≡ c.split-text-items.result = search rules in
    let t = YieldsList-turn (YieldsList-from_str_split 44 c.args.list.now (lit< tt) (ap split_text same ∙ c.split-text-items.ensures.text) (ap split_has_more same ∙ c.split-text-items.ensures.has_more) (ap split_pattern same ∙ c.split-text-items.ensures.pattern))
    c.loop-text.yielded _ c.loop-text.yielded_by _ _ c.in-Some.text c.in-Some.is c.next.ensures.steps in
    none_of_all all _ _ t.0 (ap choice_of (sym t.1) ∙ sym c.choice_of.ensures ∙ c.in-None-choice_of.is)

pub returns-clause-choices : goal.returns-clause-choices
returns-clause-choices c =
    let same : c.into_iter-text-iterator.result ≡ c.split-text-items.result = search rules in
    let t = YieldsList-end (YieldsList-from_str_split 44 c.args.list.now (lit< tt) (ap split_text same ∙ c.split-text-items.ensures.text) (ap split_has_more same ∙ c.split-text-items.ensures.has_more) (ap split_pattern same ∙ c.split-text-items.ensures.pattern))
    c.loop-text.yielded _ c.loop-text.yielded_by _ _ c.in-None.is c.next.ensures.steps in
    ap choices_of_all (sym t.0) ∙ c.loop-text.invariant
