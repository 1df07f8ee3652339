-- When what a call leaves is what a file has. Definitions only.
use Rattle.std.specs.Prelude.{ℕ, Bool, List, eqb}
use Rattle.std.specs.Cmp.Lexicographic.{pointwise}

-- the same numbers: bytes, words, the entries of an order. As many as one another, and equal at each place
abbrev pub same_numbers : List ℕ → List ℕ → Bool
same_numbers l m = pointwise eqb l m

-- the words are those of the items, as many and in order
abbrev pub has_words : {A : Type 0} → (A → ℕ) → List ℕ → List A → Bool
has_words word words items = pointwise (λ w x. eqb w (word x)) words items
