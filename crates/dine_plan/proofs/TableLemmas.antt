-- A table as it is built: keys one by one, and the members that it is seen as.
use Rattle.std.proofs.Common.{◌≡◌, List, [], ◌∷◌, String, Global, Ordering, Less, Equal, Greater, string_bytes, codes, refl, ◌∙◌}
use Rattle.std.specs.String.{string_cmp}
use Rattle.std.specs.Ordering.{match_ordering}
use Rattle.std.specs.BTreeMap.{insert_entry}
use Rattle.toml.specs.View.{view, members_view}
use Rattle.toml.specs.declared.value.Value.{Value}
use Rattle.toml.specs.Data.{boolean, string, no_members}
use Rattle.dine_token.specs.declared.act.Act.{Act}
use Rattle.dine_token.specs.declared.act.Act.TheVariants.{Add, Set}
use Rattle.dine_graph.specs.Plan.{SeenJob}
use Rattle.dine_plan.specs.DraftDocument.{whole, job_members_with}
use Rattle.dine_plan.specs.private.Tables.{with_member, with_act_member}

match_members : (o : Ordering) (a b c : List (String Global × Value)) → members_view (match_ordering o a b c) ≡ match_ordering o (members_view a) (members_view b) (members_view c)
match_members Less a b c = refl
match_members Equal a b c = refl
match_members Greater a b c = refl

-- the entries of a map after an insert, as members
pub members_view-insert : (k : String Global) (v : Value) (es : List (String Global × Value)) → members_view (insert_entry string_cmp es k v) ≡ with_member (string_bytes k) (view v) (members_view es)
members_view-insert k v [] = refl
members_view-insert k v (e ∷ es) = match_members (string_cmp k e.0) _ _ _ ∙ rw (members_view-insert k v es)

-- the tables that are built key by key
pub members_of_job : (job : SeenJob) (act : Act) → with_act_member act (with_member (codes "fails") (boolean job.fails) (with_member (codes "turns") (whole job.turns) (with_member (codes "name") (string job.name) no_members))) ≡ job_members_with job act
members_of_job job (Add amount) = refl
members_of_job job (Set amount) = refl
