-- An option that is there, and one that is not.
use Rattle.std.proofs.Common.{◌≡◌, Option, Some, None, MatchOption, refl, sym, subst}

pub some_of : {A : Type 0} (o : Option A) (P : A → Type 0) → MatchOption o ⊥ P → (x : A) × (o ≡ Some x) × P x
some_of None P h = absurd h
some_of (Some x) P h = (x, refl, h)

pub none_from : {A : Type 0} (o : Option A) → ((x : A) → o ≡ Some x → ⊥) → o ≡ None
none_from None h = refl
none_from (Some x) h = absurd (h x refl)

-- what is asked of one that is not there
pub match_none : {A : Type 0} (o : Option A) (N : Type 0) (P : A → Type 0) → o ≡ None → N → MatchOption o N P
match_none o N P is h = subst (λ o. MatchOption o N P) (sym is) h
