-- What is returned of a site of a world, if there is one.
use Rattle.std.proofs.Common.{◌≡◌, ◌⊎◌, inl, inr, subst, ℕ, ℤ, pos, Option, Some, None, MatchOption, option_map, refl, sym, ◌∙◌, ap}
use Rattle.std.proofs.lemmas.Option.{same_Some}
use Rattle.dine_graph.specs.Plan.{SeenPlan}
use Rattle.dine_builder.specs.Draft.{Draft}
use Rattle.dine_world.specs.Worlds.{SeenWorld}
use Rattle.dine_ffi.specs.Answers.{no_such, other_kind}
use Rattle.dine_ffi.specs.OwnSites.{SeenOwnSite}
use Rattle.dine_ffi.specs.Contents.{OfWorld}
use Rattle.dine_ffi.specs.declared.contents.Object.{Object}
use Rattle.dine_ffi.specs.declared.contents.Object.TheVariants as object

pub some_answer : {S A : Type 0} (o : Option S) (f : S → A) (g : A → ℕ) (a : A) (r : ℤ) → Some a ≡ option_map f o → r ≡ pos (g a) → MatchOption o (r ≡ no_such) (λ s. r ≡ pos (g (f s)))
some_answer None f g a r is here = absurd cc
some_answer (Some s) f g a r is here = here ∙ ap (λ (x : _). pos (g x)) (same_Some a (f s) is)

pub none_answer : {S A : Type 0} (o : Option S) (f : S → A) (g : A → ℕ) → None ≡ option_map f o → MatchOption o (no_such ≡ no_such) (λ s. no_such ≡ pos (g (f s)))
none_answer None f g is = refl
none_answer (Some s) f g is = absurd cc

-- what is returned of a plan, a site or a builder, where a world is asked for
pub no_world : (k : Object) (r : ℤ) (P : SeenWorld → Type 0) → ((x : SeenPlan) × (k ≡ object.Plan x)) ⊎ (((x : SeenOwnSite) × (k ≡ object.Site x)) ⊎ ((x : Draft) × (k ≡ object.Builder x))) → r ≡ other_kind → OfWorld k r P
no_world k r P (inl w) is = subst (λ (x : Object). OfWorld x r P) (sym w.1) is
no_world k r P (inr (inl w)) is = subst (λ (x : Object). OfWorld x r P) (sym w.1) is
no_world k r P (inr (inr w)) is = subst (λ (x : Object). OfWorld x r P) (sym w.1) is
