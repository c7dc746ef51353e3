-- Links and their ends, as contracts see them. A link leads from one site of an edge to the other. Contracts do not say
-- that a letter arrives, how many letters a link holds, or when a letter was put or taken. They say that a step was
-- refused, but not how often or before which letter. The lists of two ends do not say in which order two sites acted.
use Rattle.std.specs.Prelude.{◌≡◌, ℕ, Bool, true, List, [], ◌∷◌, ◌++◌, map, false}
use mathlib.Core.List.{IsPrefix}
use Rattle.dine_rules.specs.declared.letters.Letter.{Letter}

-- The name of a link: an identity, the number of its edge, and the site that puts. The identity is meant to tell the
-- link from every other link of its lane, but no clause says that it does.
pub record LinkName (Identity : Type 0) : Type 0 where
  pub identity : Identity
  pub edge : ℕ
  pub from : ℕ

-- An end of a link: the name of the link, the letters that were put or taken at this end so far, in order, the moment
-- at which each was put, and whether a step of this end was ever refused.
pub record SeenEnd (Identity : Type 0) : Type 0 where
  pub link : LinkName Identity
  pub letters : List Letter
  pub moments : List ℕ
  pub refused : Bool

-- nothing was put, taken or refused at the end so far
abbrev pub IsUnused : {Identity : Type 0} → SeenEnd Identity → Type 0
IsUnused end = (end.letters ≡ []) × (end.moments ≡ []) × (end.refused ≡ false)

-- the end after these further letters, each put at moment 0
abbrev pub with_letters : {Identity : Type 0} → List Letter → SeenEnd Identity → SeenEnd Identity
with_letters letters end = record { link = end.link; letters = end.letters ++ letters; moments = end.moments ++ map (λ letter. 0) letters; refused = end.refused }

-- the end after one further letter, put at moment 0
abbrev pub with_letter : {Identity : Type 0} → Letter → SeenEnd Identity → SeenEnd Identity
with_letter letter end = with_letters (letter ∷ []) end

-- the end after one further letter, put at this moment
abbrev pub with_letter_at : {Identity : Type 0} → Letter → ℕ → SeenEnd Identity → SeenEnd Identity
with_letter_at letter at end = record { link = end.link; letters = end.letters ++ letter ∷ []; moments = end.moments ++ at ∷ []; refused = end.refused }

-- The new end is the old end after this further letter, which was put at some moment.
abbrev pub HasTaken : {Identity : Type 0} → Letter → SeenEnd Identity → SeenEnd Identity → Type 0
HasTaken letter old new = (at : ℕ) × (new ≡ with_letter_at letter at old)

-- the end after a step of it was refused: nothing was put or taken, and the refusal is noted
abbrev pub after_refusal : {Identity : Type 0} → SeenEnd Identity → SeenEnd Identity
after_refusal end = record { link = end.link; letters = end.letters; moments = end.moments; refused = true }

-- A link after its use: its edge, the site that put, all letters put, all letters taken, for each letter put the moment
-- of its put (`put_at`), for each letter taken the moment at which it was put (`taken_at`), whether a put or a close
-- was ever refused, and whether a take was.
pub record SeenLink : Type 0 where
  pub edge : ℕ
  pub from : ℕ
  pub put : List Letter
  pub taken : List Letter
  pub put_at : List ℕ
  pub taken_at : List ℕ
  pub put_refused : Bool
  pub take_refused : Bool

-- the letters taken are the first ones of those put, in order and each once
abbrev pub IsLink : SeenLink → Type 0
IsLink link = IsPrefix link.taken link.put

-- the link of these two ends: the first is the end that letters were put in, the second the end they were taken from
abbrev pub link_of : {Identity : Type 0} → SeenEnd Identity → SeenEnd Identity → SeenLink
link_of tx rx = record { edge = tx.link.edge; from = tx.link.from; put = tx.letters; taken = rx.letters; put_at = tx.moments; taken_at = rx.moments; put_refused = tx.refused; take_refused = rx.refused }
