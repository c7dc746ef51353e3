use Rattle.std.proofs.Common.{◌≡◌, ℕ, Bool, not, Option, Some, None, is_some, sym, ap, ◌∙◌}
use Rattle.std.specs.Option.{option_copied}
use Rattle.std.specs.Borrow.{Bor}
use Rattle.std.proofs.lemmas.Map.Text.{btree_map_updates_str}
use Rattle.dine_reader.specs.private.Index.{number_under}
use Rattle.dine_reader.proofs.IndexLemmas.{known_name, new_name}
use Rattle.dine_reader.proofs.drafts.add_name.Goals as goal

is_there : (o : Option (Bor ℕ)) (r : Option ℕ) (b : Bool) → is_some o ≡ b → option_copied o ≡ r → is_some r ≡ b
is_there None r b is same = ap is_some (sym same) ∙ is
is_there (Some x) r b is same = ap is_some (sym same) ∙ is

pub returns-in_ok-insert : goal.returns-in_ok-insert
returns-in_ok-insert c q =
    let old = c.args.index.now in
    let unknown = is_there c.get.result (number_under old c.args.name.now) _ (c.is_none.ensures ∙ ap not c.if-is_none.true) c.get.ensures.value in
    btree_map_updates_str c.args.name.now old c.insert.new.self _ c.in_ok-insert.ensures.updates q ∙ new_name q c.args.name.now (number_under old) c.args.number unknown

pub returns-else-is_none : goal.returns-else-is_none
returns-else-is_none c q =
    let old = c.args.index.now in
    let known = is_there c.get.result (number_under old c.args.name.now) _ (c.is_none.ensures ∙ ap not c.if-is_none.false) c.get.ensures.value in
    known_name q c.args.name.now (number_under old) c.args.number known
