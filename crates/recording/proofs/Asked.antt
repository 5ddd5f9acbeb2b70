-- The exchanges before the first that is asked so, over any exchange. Assumes nothing.
use Prim.Native.Nat.{ℕ, zero, suc, ◌≤◌, ◌<◌}
use mathlib.Core.Bool.{Bool, true, false}
use mathlib.Core.Path.{◌≡◌, refl, ap, ◌∙◌}
use mathlib.Core.List.{List, [], ◌∷◌, ◌++◌}
use native.Mathlib.Omega.{arith}
use lib.ListN.{length, get_or, take, drop}
use Rattle.base.specs.Test.{pick}
use Rattle.recording.specs.Replay.{before_asked, NoneAsked}

module _ {E : Type 0} (asks : E → Bool) where
  -- a list without one: so is its first, and the rest
  tails : (xs ys : List E) (e : E) → e ∷ xs ≡ e ∷ ys → xs ≡ ys
  tails xs ys e h = ap (drop 1) h

  pub first_quiet : (e : E) (es : List E) → NoneAsked asks (e ∷ es) → (asks e ≡ false) × NoneAsked asks es
  unfolding before_asked
  first_quiet e es h = go (asks e) refl h
    where
      go : (b : Bool) → asks e ≡ b → pick b [] (e ∷ before_asked asks es) ≡ e ∷ es → (asks e ≡ false) × (before_asked asks es ≡ es)
      go true w z = let n = ap length z in absurd (omega arith)
      go false w z = (w, tails (before_asked asks es) es e z)

  pub quiet_more : (e : E) (es : List E) → asks e ≡ false → NoneAsked asks es → NoneAsked asks (e ∷ es)
  unfolding before_asked
  quiet_more e es w h = simp (w, h)

  pub quiet_none : NoneAsked asks []
  unfolding before_asked
  quiet_none = refl

  -- the exchanges before it
  pub before_quiet : (es : List E) → NoneAsked asks (before_asked asks es)
  unfolding before_asked
  before_quiet [] = refl
  before_quiet (e ∷ es) = go (asks e) refl (before_quiet es)
    where
      go : (b : Bool) → asks e ≡ b → NoneAsked asks (before_asked asks es) → NoneAsked asks (pick b [] (e ∷ before_asked asks es))
      go true w h = refl
      go false w h = quiet_more e (before_asked asks es) w h

  pub before_few : (es : List E) → length (before_asked asks es) ≤ length es
  unfolding before_asked
  before_few [] = omega arith
  before_few (e ∷ es) = go (asks e) (before_few es)
    where
      go : (b : Bool) → length (before_asked asks es) ≤ length es → length (pick b [] (e ∷ before_asked asks es)) ≤ suc (length es)
      go true h = omega arith
      go false h = omega arith

  -- they are all there are, if as many
  pub before_all : (es : List E) → length es ≤ length (before_asked asks es) → NoneAsked asks es
  unfolding before_asked
  before_all [] h = refl
  before_all (e ∷ es) h = go (asks e) h (λ l. before_all es l)
    where
      go : (b : Bool) → suc (length es) ≤ length (pick b [] (e ∷ before_asked asks es)) → (length es ≤ length (before_asked asks es) → before_asked asks es ≡ es)
          → pick b [] (e ∷ before_asked asks es) ≡ e ∷ es
      go true l rest = absurd (omega arith)
      go false l rest = ap (λ (xs : List E). e ∷ xs) (rest (omega arith))

  -- the first n of them are the first n of all
  pub before_first : (es : List E) (n : ℕ) → n ≤ length (before_asked asks es) → take n (before_asked asks es) ≡ take n es
  unfolding before_asked
  before_first [] n h = refl
  before_first (e ∷ es) n h = go (asks e) n h (λ m l. before_first es m l)
    where
      go : (b : Bool) (n : ℕ) → n ≤ length (pick b [] (e ∷ before_asked asks es))
          → ((m : ℕ) → m ≤ length (before_asked asks es) → take m (before_asked asks es) ≡ take m es) → take n (pick b [] (e ∷ before_asked asks es)) ≡ take n (e ∷ es)
      go true zero l rest = refl
      go true (suc n) l rest = absurd (omega arith)
      go false zero l rest = refl
      go false (suc n) l rest = ap (λ (xs : List E). e ∷ xs) (rest n (omega arith))

  -- of so many, those before it
  pub before_taken : (es : List E) (n : ℕ) → before_asked asks (take n es) ≡ take n (before_asked asks es)
  unfolding before_asked
  before_taken es zero = refl
  before_taken [] (suc n) = refl
  before_taken (e ∷ es) (suc n) = go (asks e) (before_taken es n)
    where
      go : (b : Bool) → before_asked asks (take n es) ≡ take n (before_asked asks es)
          → pick b [] (e ∷ before_asked asks (take n es)) ≡ take (suc n) (pick b [] (e ∷ before_asked asks es))
      go true h = refl
      go false h = ap (λ (xs : List E). e ∷ xs) h

  pub taken_quiet : (es : List E) (n : ℕ) → n ≤ length (before_asked asks es) → NoneAsked asks (take n es)
  taken_quiet es n h = before_taken es n ∙ before_first es n h

  -- each of them is not asked so
  pub each_quiet : (es : List E) (n : ℕ) (d : E) → n < length (before_asked asks es) → asks (get_or es n d) ≡ false
  unfolding before_asked
  each_quiet [] n d h = absurd (omega arith)
  each_quiet (e ∷ es) n d h = go (asks e) refl n h (λ m l. each_quiet es m d l)
    where
      go : (b : Bool) → asks e ≡ b → (n : ℕ) → n < length (pick b [] (e ∷ before_asked asks es))
          → ((m : ℕ) → m < length (before_asked asks es) → asks (get_or es m d) ≡ false) → asks (get_or (e ∷ es) n d) ≡ false
      go true w n l rest = absurd (omega arith)
      go false w zero l rest = w
      go false w (suc n) l rest = rest n (omega arith)

  -- and stands where it stands in all
  pub before_at : (es : List E) (n : ℕ) (d : E) → n < length (before_asked asks es) → get_or (before_asked asks es) n d ≡ get_or es n d
  unfolding before_asked
  before_at [] n d h = absurd (omega arith)
  before_at (e ∷ es) n d h = go (asks e) n h (λ m l. before_at es m d l)
    where
      go : (b : Bool) (n : ℕ) → n < length (pick b [] (e ∷ before_asked asks es))
          → ((m : ℕ) → m < length (before_asked asks es) → get_or (before_asked asks es) m d ≡ get_or es m d) → get_or (pick b [] (e ∷ before_asked asks es)) n d ≡ get_or (e ∷ es) n d
      go true n l rest = absurd (omega arith)
      go false zero l rest = refl
      go false (suc n) l rest = rest n (omega arith)

  -- one more behind a list without one
  pub before_more : (es : List E) (e : E) → NoneAsked asks es → asks e ≡ false → NoneAsked asks (es ++ (e ∷ []))
  before_more [] e h w = quiet_more e [] w quiet_none
  before_more (d ∷ es) e h w = let (v, g) = first_quiet d es h in quiet_more d (es ++ (e ∷ [])) v (before_more es e g w)

  pub before_stopped : (es : List E) (e : E) → NoneAsked asks es → asks e ≡ true → before_asked asks (es ++ (e ∷ [])) ≡ es
  unfolding before_asked
  before_stopped [] e h w = simp w
  before_stopped (d ∷ es) e h w = let (v, g) = first_quiet d es h in simp (v, before_stopped es e g w)
