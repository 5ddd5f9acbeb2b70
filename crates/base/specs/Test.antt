-- Tests on numbers, and a choice by a test.
use Rattle.std.specs.Prelude.{ℕ, Bool, true, false, not, ◌&&◌, ◌||◌, List, [], ◌∷◌, leb, eqb}

-- the first if the test holds, and else the second
abbrev pub pick : {A : Type 0} → Bool → A → A → A
pick true a b = a
pick false a b = b

-- the first unless the test holds, and else the second: a chain of these is "in this order"
abbrev pub unless : {A : Type 0} → Bool → A → A → A
unless true a b = b
unless false a b = a

-- x is one of low to high
abbrev pub between : ℕ → ℕ → ℕ → Bool
between low high x = leb low x && leb x high

-- n is one of several numbers
abbrev pub member : ℕ → List ℕ → Bool
member n [] = false
member n (m ∷ ms) = eqb n m || member n ms

-- no number stands twice
unfoldable pub all_distinct : List ℕ → Bool
all_distinct [] = true
all_distinct (x ∷ xs) = not (member x xs) && all_distinct xs

-- each of several numbers is one of low to high
unfoldable pub all_between : ℕ → ℕ → List ℕ → Bool
all_between low high [] = true
all_between low high (x ∷ xs) = between low high x && all_between low high xs
