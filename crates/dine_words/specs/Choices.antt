-- The LIST of `--choices`: numbers, with single commas between them.
use Rattle.std.specs.Prelude.{ℕ, ◌==◌, ◌&&◌, Bool, List, [], ◌∷◌, Option, Some, None, if◌then◌else◌, length, nat_le, option_and_then, option_map}
use Rattle.std.specs.List.{list_all, slice_split}
use Rattle.std.specs.Char.{is_ascii_digit}
use Rattle.std.specs.Str.Parse.{digits_value}

-- the greatest choice, 2^32 - 1
abbrev pub greatest_choice : ℕ
greatest_choice = 4_294_967_295

-- 1 to 10 decimal digits that write a number up to the greatest; zeros may be in front
abbrev pub is_choice : List ℕ → Bool
is_choice digits = nat_le 1 (length digits) && nat_le (length digits) 10 && list_all is_ascii_digit digits && nat_le (digits_value 10 digits) greatest_choice

-- the number that these digits write, if they are a choice
abbrev pub choice_of : List ℕ → Option ℕ
choice_of digits = if is_choice digits then Some (digits_value 10 digits) else None

-- the choices of all texts, if each is one
abbrev pub choices_of_all : List (List ℕ) → Option (List ℕ)
choices_of_all [] = Some []
choices_of_all (text ∷ texts) = option_and_then (λ choice. option_map (λ choices. choice ∷ choices) (choices_of_all texts)) (choice_of text)

-- the choices of a text: those of the parts between its commas; an empty part is no choice
abbrev pub choices_of : List ℕ → Option (List ℕ)
choices_of text = choices_of_all (slice_split (λ b. b == 44) text)
