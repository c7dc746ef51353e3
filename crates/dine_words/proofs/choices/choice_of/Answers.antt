-- Ten digits or fewer that are read as no number are none, or write one that is too great.
use Rattle.std.proofs.Common.{◌∙◌, sym}
use Rattle.dine_words.proofs.ChoicesLemmas.{unread_is_none}
use Rattle.dine_words.proofs.choices.choice_of.Goals as goal

pub returns-in-Err : goal.returns-in-Err
returns-in-Err c = sym (unread_is_none c.args.text.now c.parse.result c.in-Err.field-0 c.in-Err.is (sym c.are_digits.ensures ∙ c.if-not-are_digits.false) c.parse.ensures.value.0)
