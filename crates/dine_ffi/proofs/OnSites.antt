-- A call on what a handle holds, if that is a site.
use Rattle.std.proofs.Common.{◌≡◌, ℤ, Option, Some, sym, ap, subst}
use Rattle.std_alloc.specs.declared.boxed.Box.{Box}
use Rattle.std_alloc.specs.Box.{with_value}
use Rattle.dine_ffi.specs.OwnSites.{SeenOwnSite}
use Rattle.dine_ffi.specs.Contents.{OnKind, SiteCall, kept_site}
use Rattle.dine_ffi.specs.declared.contents.Object.{Object}
use Rattle.dine_ffi.specs.declared.contents.Object.TheVariants as object
use Rattle.dine_ffi.specs.declared.contents.Contents.{Contents}

-- what a box has after it was written
pub value_is : {X Z : Type 0} (a b : Box X Z) (w : X) → a ≡ with_value b w → a.value ≡ w
value_is {X} {Z} a b w is = ap (λ (x : Box X Z). x.value) is

pub on_site : (P : ℤ → SeenOwnSite → SeenOwnSite → Type 0) (r : ℤ) (old new : Option Contents) (contents changed : Contents) (own after : SeenOwnSite)
    → old ≡ Some contents → contents.object ≡ object.Site own → new ≡ Some changed → changed ≡ record { object = object.Site after } → P r own after → SiteCall P r old new
on_site P r old new contents changed own after old_is own_is new_is after_is did =
    subst (λ (x : Option Contents). SiteCall P r x new) (sym old_is) (subst (SiteCall P r (Some contents)) (sym new_is)
    (subst (λ (t : Contents). OnKind kept_site P r contents.object t.object) (sym after_is) (subst (λ (k : Object). OnKind kept_site P r k (object.Site after)) (sym own_is) did)))
