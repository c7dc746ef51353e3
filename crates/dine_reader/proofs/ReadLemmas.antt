-- What a loop over tables has found of them.
use Rattle.std.proofs.Common.{◌≡◌, ℕ, ◌<◌, Bool, true, false, ◌||◌, List, [], ◌∷◌, ◌++◌, map, length, get_or, refl, sym, ap, ◌∙◌, arith}
use Rattle.std.specs.List.{list_any}
use Rattle.std.proofs.lemmas.List.{get_or-map, length-map, map_push}
use Rattle.std.proofs.lemmas.List.Folds.{list_any-append}
use Rattle.toml.specs.Data.{Data}
use Rattle.toml.specs.View.{view}
use Rattle.toml.specs.declared.value.Value.{Value}
use Rattle.dine_draft.specs.Draft.{names_of}
use Rattle.dine_reader.specs.Document.{name_in}
use Rattle.dine_reader.specs.PlanOf.{site_in}
use Rattle.dine_reader.specs.RefusalTests.{site_has_other_key, site_is_wrong, site_lacks_key}
use Rattle.dine_reader.specs.declared.forms.Flaws.{Flaws}
use Rattle.dine_reader.specs.private.Forms.{flaws_in}

or_false : (b : Bool) → (b || false) ≡ b
or_false true = refl
or_false false = refl

-- what was made of each, after one more
pub each_last : {W X Y Z : Type 0} (seen : W → Z) (f : Y → Z) (g : X → Y) (done : List W) (w : W) (xs : List X) (x : X) → map seen done ≡ map f (map g xs) → seen w ≡ f (g x) → map seen (done ++ w ∷ []) ≡ map f (map g (xs ++ x ∷ []))
each_last seen f g done w xs x before here =
    map_push seen done w ∙ ap (λ zs. zs ++ seen w ∷ []) before ∙ ap (λ z. map f (map g xs) ++ z ∷ []) here
    ∙ sym (ap (map f) (map_push g xs x) ∙ map_push f (map g xs) (g x))

-- whether one passes, after one more
pub any_last : {X Y : Type 0} (p : Y → Bool) (g : X → Y) (before here : Bool) (xs : List X) (x : X) → before ≡ list_any p (map g xs) → here ≡ p (g x) → (before || here) ≡ list_any p (map g (xs ++ x ∷ []))
any_last p g before here xs x first last =
    ap (λ b. b || here) first ∙ ap (λ b. list_any p (map g xs) || b) (last ∙ sym (or_false (p (g x))))
    ∙ sym (list_any-append p (map g xs) (g x ∷ [])) ∙ ap (list_any p) (sym (map_push g xs x))

-- the flaws of some tables, after one more
pub flaws_last : (second : Bool) (tables : List Value) (table : Value) (flaws : Flaws) (other missing wrong : Bool)
    → flaws ≡ flaws_in second (map view tables) → other ≡ site_has_other_key second (view table) → missing ≡ site_lacks_key (view table) → wrong ≡ site_is_wrong (view table)
    → record { other_key = flaws.other_key || other; missing_key = flaws.missing_key || missing; wrong_kind = flaws.wrong_kind || wrong } ≡ flaws_in second (map view (tables ++ table ∷ []))
flaws_last second tables table flaws other missing wrong was o m w =
    rw (
      any_last (site_has_other_key second) view flaws.other_key other tables table (ap (λ (f : Flaws). f.other_key) was) o,
      any_last site_lacks_key view flaws.missing_key missing tables table (ap (λ (f : Flaws). f.missing_key) was) m,
      any_last site_is_wrong view flaws.wrong_kind wrong tables table (ap (λ (f : Flaws). f.wrong_kind) was) w,
    )

-- the names of site tables
abbrev pub names_in : List Value → List (List ℕ)
names_in tables = map name_in (map view tables)

pub length-names_in : (tables : List Value) → length (names_in tables) ≡ length tables
length-names_in tables = length-map (map view tables) name_in ∙ length-map tables view

pub names_in-at : (tables : List Value) (i : ℕ) (table : Value) → i < length tables → table ≡ get_or tables i table → get_or (names_in tables) i [] ≡ name_in (view table)
names_in-at tables i table within is =
    let long : length (map view tables) ≡ length tables = length-map tables view in
    get_or-map name_in (map view tables) i (view table) [] (omega (arith, within, long))
    ∙ ap name_in (get_or-map view tables i table (view table) within ∙ ap view (sym is))

-- they are those of the sites
pub names_of-sites : (tables : List Data) → names_of (map site_in tables) ≡ map name_in tables
unfolding site_in
names_of-sites [] = refl
names_of-sites (d ∷ ds) = ap (λ names. name_in d ∷ names) (names_of-sites ds)
