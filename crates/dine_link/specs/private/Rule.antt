-- The rule of a link's channel.
use Rattle.std.specs.Prelude.{◌≡◌, ℕ, Bool, true, false, List, [], ◌∷◌, ◌++◌}
use mathlib.Core.Option.{some}
use lib.ListN.{get_elem?}
use Rattle.dine_link.specs.declared.stamped.Stamped.{Stamped}
use Rattle.dine_link.specs.declared.rule.Known.{Known}

-- what a pass knows: whether it may put, whether it may take, all that was put if it may put, and all that was taken if
-- it may take
abbrev pub knowledge_of : Bool → Bool → List Stamped → List Stamped → Known
knowledge_of puts takes put taken = record { puts = puts; takes = takes; put = put; taken = taken }

-- Only one pass may put, and it knows all that was put. Only one pass may take, and it knows all that was taken.
pub record Fits (putter taker : ℕ) (put taken : List Stamped) (pass : ℕ) (view : Known) : Type 0 where
  pub puts : view.puts ≡ true → (pass ≡ putter) × (view.put ≡ put)
  pub takes : view.takes ≡ true → (pass ≡ taker) × (view.taken ≡ taken)

-- What was put is what was taken, followed by what the channel holds, oldest first. Each pass fits these lists. This
-- holds at each moment.
pub record IsInOrder (queue : List Stamped) (views : List Known) : Type 0 where
  pub putter : ℕ
  pub taker : ℕ
  pub put : List Stamped
  pub taken : List Stamped
  pub in_order : put ≡ taken ++ queue
  pub fits : (pass : ℕ) (view : Known) → get_elem? views pass ≡ some view → Fits putter taker put taken pass view

-- the pass that may put and take, before any letter
abbrev pub fresh_pass : Known
fresh_pass = knowledge_of true true [] []

-- a pass that was joined to another one: it may do nothing
abbrev pub spent_pass : Known
spent_pass = knowledge_of false false [] []

-- the part of a pass that puts
abbrev pub putting_part : Known → Known
putting_part view = knowledge_of true false view.put []

-- the part of a pass that takes
abbrev pub taking_part : Known → Known
taking_part view = knowledge_of false true [] view.taken

-- the two parts joined into one pass
abbrev pub joined_parts : Known → Known → Known
joined_parts putter taker = knowledge_of true true putter.put taker.taken

-- what a pass knows after it put a letter
abbrev pub after_put : Known → Stamped → Known
after_put view letter = knowledge_of view.puts view.takes (view.put ++ letter ∷ []) view.taken

-- what a pass knows after it took a letter
abbrev pub after_take : Known → Stamped → Known
after_take view letter = knowledge_of view.puts view.takes view.put (view.taken ++ letter ∷ [])
