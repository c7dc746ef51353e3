-- What is read of the text of a choice, and of all choices.
use Rattle.std.proofs.Common.{◌≡◌, ℕ, zero, suc, ◌++◌, get_or, option_and_then, option_map, ap₂, ◌^◌, ◌<◌, Bool, true, false, cond, nat_le, ◌&&◌, List, [], ◌∷◌, length, Option, Some, None, Result, Err, refl, sym, subst, ◌∙◌, ap, arith}
use Rattle.std.specs.List.{list_all}
use Rattle.std.specs.Char.{is_ascii_digit}
use Rattle.std.specs.Str.{all_ascii_digits}
use Rattle.std.specs.Result.{OkIff}
use Rattle.std.specs.Str.Parse.{ParsesUnsigned, digits_value}
use Rattle.std.proofs.lemmas.Bool.{leb-true}
use Rattle.std.proofs.lemmas.Str.Parse.{numerals_by_value, parse_digits, tells_all_ascii_digits}
use Rattle.std.proofs.lemmas.Option.{same_Some}
use Rattle.dine_words.specs.Choices.{choice_of, choices_of_all, greatest_choice}

-- the same test
same_test : (bs : List ℕ) → list_all is_ascii_digit bs ≡ all_ascii_digits bs
same_test [] = refl
same_test (b ∷ bs) = ap (λ (t : Bool). is_ascii_digit b && t) (same_test bs)

-- the result of four tests, of which the first and the last cannot both hold
never_both : (a b c d : Bool) → (a ≡ true → d ≡ true → ⊥) → (a && b && c && d) ≡ false
never_both false b c d h = refl
never_both true false c d h = refl
never_both true true false d h = refl
never_both true true true false h = refl
never_both true true true true h = absurd (h refl refl)

-- digits that are read as no number are no choice
pub unread_is_none : {E : Type 0} (bs : List ℕ) (r : Result ℕ E) (e : E) → r ≡ Err e → list_all is_ascii_digit bs ≡ true → ParsesUnsigned 32 10 bs r → choice_of bs ≡ None
unread_is_none {E} bs r e is digits read =
    let not : OkIff r ((0 < length bs) × (digits_value 10 bs < 2 ^ 32)) (digits_value 10 bs) = parse_digits (numerals_by_value (λ ds. all_ascii_digits ds ≡ true) tells_all_ascii_digits) 32 bs r read (sym (same_test bs) ∙ digits) in
    let none : (0 < length bs) × (digits_value 10 bs < 2 ^ 32) → ⊥ = subst (λ (x : Result ℕ E). OkIff x ((0 < length bs) × (digits_value 10 bs < 2 ^ 32)) (digits_value 10 bs)) is not in
    let top : 2 ^ 32 ≡ 4_294_967_296 = refl in
    ap (λ (t : Bool). cond t (Some (digits_value 10 bs)) None)
    (never_both (nat_le 1 (length bs)) (nat_le (length bs) 10) (list_all is_ascii_digit bs) (nat_le (digits_value 10 bs) greatest_choice)
    (λ some fits. none (leb-true 1 (length bs) some, omega (arith, leb-true (digits_value 10 bs) greatest_choice fits, top))))

-- ---- all choices

-- the choices of texts, behind that of the first
abbrev behind : Option ℕ → Option (List ℕ) → Option (List ℕ)
behind first rest = option_and_then (λ choice. option_map (λ choices. choice ∷ choices) rest) first

-- if there is a list behind the first choice, there are both
both_there : (first : Option ℕ) (rest : Option (List ℕ)) (all : List ℕ) → behind first rest ≡ Some all → (n : ℕ) × (ns : List ℕ) × (first ≡ Some n) × (rest ≡ Some ns) × (n ∷ ns ≡ all)
both_there None rest all is = absurd cc
both_there (Some n) None all is = absurd cc
both_there (Some n) (Some ns) all is = (n, ns, refl, refl, same_Some (n ∷ ns) all is)

pub one_more : (texts : List (List ℕ)) (text : List ℕ) (choices : List ℕ) (choice : ℕ) → choices_of_all texts ≡ Some choices → choice_of text ≡ Some choice → choices_of_all (texts ++ text ∷ []) ≡ Some (choices ++ choice ∷ [])
one_more [] text choices choice is last = ap (λ (o : Option ℕ). behind o (Some [])) last ∙ ap (λ (cs : List ℕ). Some (cs ++ choice ∷ [])) (same_Some [] choices is)
one_more (first ∷ texts) text choices choice is last =
    let w = both_there (choice_of first) (choices_of_all texts) choices is in
    ap₂ behind w.2 (one_more texts text w.1 choice w.3 last) ∙ ap (λ (cs : List ℕ). Some (cs ++ choice ∷ [])) w.4

-- a text that is no choice
pub none_of_all : (texts : List (List ℕ)) (i : ℕ) (past : List ℕ) → i < length texts → choice_of (get_or texts i past) ≡ None → choices_of_all texts ≡ None
none_of_all [] i past h none = absurd (omega arith)
none_of_all (text ∷ texts) zero past h none = ap (λ (o : Option ℕ). behind o (choices_of_all texts)) none
none_of_all (text ∷ texts) (suc i) past h none = ap (behind (choice_of text)) (none_of_all texts i past (omega arith) none) ∙ behind_none (choice_of text) where
  behind_none : (first : Option ℕ) → behind first None ≡ None
  behind_none None = refl
  behind_none (Some n) = refl
