-- The parts of a value, and the data that it is seen as.
use Rattle.std.proofs.Common.{◌≡◌, ◌≤◌, List, [], ◌∷◌, map, Bool, true, false, cond, Some, None, String, Vec, Global, string_bytes, refl, sym, ap, ◌∙◌, arith}
use Rattle.std.specs.Option.{option_or}
use Rattle.std.specs.BTreeMap.{BTreeMap}
use Rattle.std.specs.Map.{keys_of as map_keys}
use Rattle.toml.specs.Data.{Data, as_array, array, table}
use Rattle.toml.specs.View.{view, view_step, items_of, items_view, members_view, table_view}
use Rattle.toml.specs.declared.value.Value.{Value}
use Rattle.toml.specs.declared.value.Value.TheFolds.{fold-roll-Value}
use Rattle.toml.specs.declared.value.Value.TheOpen.{Value-F}
use Rattle.toml.specs.declared.value.Value.TheVariants.{Array, Table, rolls-Array, rolls-Table}
use Rattle.dine_graph.specs.Plan.{IsPlan}
use Rattle.dine_draft.specs.Refusals.{draft_refusals, first_of_draft, first_some}
use Rattle.dine_draft.proofs.shared.ListLemmas.{first_some-append}
use Rattle.dine_draft.proofs.shared.PlanLemmas.{option_or_none, plan_of_fine}
use Rattle.dine_reader.specs.Document.{list_of, keys_of, items_in, is_second}
use Rattle.dine_reader.specs.PlanOf.{draft_of, plan_of_document}
use Rattle.dine_reader.specs.RefusalTests.{first_refusal, form_refusals}

pub list_of-items_of : (ds : List Data) → list_of (items_of ds) ≡ ds
list_of-items_of [] = refl
list_of-items_of (d ∷ ds) = ap (λ es. d ∷ es) (list_of-items_of ds)

-- what an array and a table are seen as
pub view-Array : (v : Vec Value Global) → view (Array v) ≡ array (items_view v.items)
view-Array v = ap view (sym (rolls-Array v)) ∙ fold-roll-Value Data view_step (Value-F.Array v)

pub view-Table : (m : BTreeMap (String Global) Value) → view (Table m) ≡ table (table_view m)
view-Table m = ap view (sym (rolls-Table m)) ∙ fold-roll-Value Data view_step (Value-F.Table m)

pub items_in-as_array : (d : Data) (vs : List Value) → Some (items_view vs) ≡ as_array d → map view vs ≡ items_in d
items_in-as_array d vs same = sym (list_of-items_of (map view vs)) ∙ rw (← same)

pub keys_of-view : (es : List (String Global × Value)) → map string_bytes (map_keys es) ≡ keys_of (members_view es)
keys_of-view [] = refl
keys_of-view (e ∷ es) = ap (λ ks. string_bytes e.0 ∷ ks) (keys_of-view es)

-- the first refusal of a document is one in its form, or else one of its draft
pub first_of_document : (doc : Data) → first_refusal doc ≡ option_or (first_some (form_refusals doc)) (first_of_draft (draft_of doc))
unfolding first_refusal first_of_draft
first_of_document doc = first_some-append (form_refusals doc) (draft_refusals (draft_of doc))
