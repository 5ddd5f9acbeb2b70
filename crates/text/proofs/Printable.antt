-- Laws of printable texts: how long they are, and that each of their bytes may stand in a frame. Assumes nothing.
use mathlib.Core.Path.{◌≡◌, refl}
use mathlib.Core.List.{List, [], ◌∷◌, ◌++◌}
use mathlib.Core.Bool.{Bool, true}
use Prim.Native.Nat.{ℕ, zero, suc, ◌+◌, ◌/◌, ◌%◌, ◌≤◌}
use native.Mathlib.Omega.{arith}
use lib.ListN.{length, length-append}
use Rattle.base.specs.Test.{between, all_between}
use Rattle.base.proofs.Tests.{and_yes, and_left, and_right, between_yes}
use Rattle.text.specs.Word.{space, digits}
use Rattle.text.proofs.Words.{digits-length}

-- the bytes that may stand in a frame's text
abbrev pub all_printable : List ℕ → Bool
all_printable xs = all_between 0x20 0x7e xs

-- from one to another number of bytes, each of them printable
pub record Text (least most : ℕ) (t : List ℕ) : Type 0 where
  pub low : least ≤ length t
  pub high : length t ≤ most
  pub bytes : all_printable t ≡ true

pub text_wider : (a b a' b' : ℕ) (t : List ℕ) → a' ≤ a → b ≤ b' → Text a b t → Text a' b' t
text_wider a b a' b' t h k f = record { low = omega arith; high = omega arith; bytes = f.bytes }

all_text-append : (xs ys : List ℕ) → all_printable xs ≡ true → all_printable ys ≡ true → all_printable (xs ++ ys) ≡ true
unfolding all_between
all_text-append [] ys p q = q
all_text-append (x ∷ xs) ys p q =
    and_yes (between 0x20 0x7e x) (all_printable (xs ++ ys)) (and_left (between 0x20 0x7e x) (all_printable xs) p) (all_text-append xs ys (and_right (between 0x20 0x7e x) (all_printable xs) p) q)

pub text_joined : (a b a' b' : ℕ) (xs ys : List ℕ) → Text a b xs → Text a' b' ys → Text (a + a') (b + b') (xs ++ ys)
text_joined a b a' b' xs ys f g =
    record {
      low = simp length-append (omega arith);
      high = simp length-append (omega arith);
      bytes = all_text-append xs ys f.bytes g.bytes;
    }

pub text-word : (w : List ℕ) → all_printable w ≡ true → Text (length w) (length w) w
text-word w h = record { low = omega arith; high = omega arith; bytes = h }

pub one_text : (x : ℕ) (xs : List ℕ) → 0x20 ≤ x → x ≤ 0x7e → all_printable xs ≡ true → all_printable (x ∷ xs) ≡ true
unfolding all_between
one_text x xs h k p = and_yes (between 0x20 0x7e x) (all_printable xs) (between_yes 0x20 0x7e x h k) p

pub no_text : all_printable [] ≡ true
unfolding all_between
no_text = refl

digits-bytes : (w n : ℕ) → all_printable (digits w n) ≡ true
unfolding digits
digits-bytes zero n = no_text
digits-bytes (suc w) n =
    all_text-append (digits w (n / 10)) ((0x30 + n % 10) ∷ []) (digits-bytes w (n / 10)) (one_text (0x30 + n % 10) [] (omega arith) (omega arith) no_text)

pub text-digits : (w n : ℕ) → Text w w (digits w n)
text-digits w n = let l : length (digits w n) ≡ w = digits-length w n in record { low = omega arith; high = omega arith; bytes = digits-bytes w n }

pub space-text : Text 1 1 (space ∷ [])
space-text = text-word (space ∷ []) (one_text space [] (omega arith) (omega arith) no_text)

pub text-labelled : (w : List ℕ) (k n : ℕ) → all_printable w ≡ true → Text (length w + k) (length w + k) (w ++ digits k n)
text-labelled w k n h = text_joined _ _ _ _ w (digits k n) (text-word w h) (text-digits k n)

-- and a second number behind a space
pub text-labelled_two : (w : List ℕ) (k n k' n' : ℕ) → all_printable w ≡ true
    → Text (length w + (k + (1 + k'))) (length w + (k + (1 + k'))) (w ++ (digits k n ++ (space ∷ digits k' n')))
text-labelled_two w k n k' n' h =
    text_joined _ _ _ _ w _ (text-word w h) (text_joined _ _ _ _ (digits k n) _ (text-digits k n) (text_joined _ _ _ _ (space ∷ []) (digits k' n') space-text (text-digits k' n')))
