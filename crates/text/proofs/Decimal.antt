-- A number without leading zeros is read back as it was, and no zero leads it. Assumes nothing.
use Prim.Native.Nat.{ℕ, zero, suc, ◌+◌, ◌*◌, ◌/◌, ◌%◌, ◌^◌, ◌≤◌, ◌<◌}
use mathlib.Core.Path.{◌≡◌, ap, ◌∙◌}
use mathlib.Core.List.{[], ◌∷◌}
use mathlib.Core.Logic.{⊎_elim}
use native.Mathlib.Nat.{pow-suc}
use native.Mathlib.Omega.{arith}
use lib.ListN.{length, get_or, get_or-append}
use Rattle.base.proofs.Tests.{below_or_not}
use Rattle.text.specs.Word.{digits, width_in, decimal, value_of}
use Rattle.text.proofs.Words.{digits-length, value-digits}
use Rattle.text.proofs.Writing.{width_none, width_more, width_one}

-- ---- so many digits are enough, and there is one
pub width_low : (k n : ℕ) → 1 ≤ width_in k n
width_low zero n = omega (arith, width_none n)
width_low (suc k) n =
    ⊎_elim (λ (h : n < 10). omega (arith, width_one (suc k) n h)) (λ (h : 10 ≤ n). omega (arith, width_more k n h)) (below_or_not n 10)

width_enough : (k n : ℕ) → n < 10 ^ suc k → n < 10 ^ width_in k n
width_enough zero n h = let e : 10 ^ width_in 0 n ≡ 10 = ap (λ (w : ℕ). 10 ^ w) (width_none n) in omega arith
width_enough (suc k) n h =
    ⊎_elim (λ (l : n < 10). let e : 10 ^ width_in (suc k) n ≡ 10 = ap (λ (w : ℕ). 10 ^ w) (width_one (suc k) n l) in omega arith)
    (λ (l : 10 ≤ n).
    let e : 10 ^ width_in (suc k) n ≡ 10 ^ width_in k (n / 10) * 10 = ap (λ (w : ℕ). 10 ^ w) (width_more k n l) ∙ pow-suc 10 (width_in k (n / 10)) in
    let i : n / 10 < 10 ^ width_in k (n / 10) = width_enough k (n / 10) (omega (arith, pow-suc 10 (suc k))) in
    omega arith)
    (below_or_not n 10)

-- and no more than it takes
width_short : (k w n : ℕ) → n < 10 ^ suc w → width_in k n ≤ suc w
width_short zero w n h = omega (arith, width_none n)
width_short (suc k) zero n h = omega (arith, width_one (suc k) n (omega arith))
width_short (suc k) (suc w) n h =
    ⊎_elim (λ (l : n < 10). omega (arith, width_one (suc k) n l))
    (λ (l : 10 ≤ n). omega (arith, width_more k n l, width_short k w (n / 10) (omega (arith, pow-suc 10 (suc w)))))
    (below_or_not n 10)

pub decimal-short : (w n : ℕ) → n < 10 ^ suc w → length (decimal n) ≤ suc w
unfolding decimal
decimal-short w n h = omega (arith, digits-length (width_in 19 n) n, width_short 19 w n h)

pub value-decimal : (n : ℕ) → n < 10 ^ 20 → value_of (decimal n) ≡ n
unfolding decimal
value-decimal n h = value-digits (width_in 19 n) n (width_enough 19 n h)

-- ---- the first digit
one_digit : (k n : ℕ) → n < 10 → get_or (digits (width_in k n) n) 0 0 ≡ 0x30 + n
unfolding digits
one_digit k n h = ap (λ (w : ℕ). get_or (digits w n) 0 0) (width_one k n h) ∙ omega arith

leading : (k n : ℕ) → 1 ≤ n → n < 10 ^ suc k → 0x30 < get_or (digits (width_in k n) n) 0 0
unfolding digits
leading zero n low high = omega (arith, one_digit zero n (omega arith))
leading (suc k) n low high =
    ⊎_elim (λ (l : n < 10). omega (arith, one_digit (suc k) n l))
    (λ (l : 10 ≤ n).
    let e : get_or (digits (width_in (suc k) n) n) 0 0 ≡ get_or (digits (width_in k (n / 10)) (n / 10)) 0 0 =
    ap (λ (w : ℕ). get_or (digits w n) 0 0) (width_more k n l)
    ∙ get_or-append (digits (width_in k (n / 10)) (n / 10)) ((0x30 + n % 10) ∷ []) 0 0
    (omega (arith, digits-length (width_in k (n / 10)) (n / 10), width_low k (n / 10))) in
    omega (arith, leading k (n / 10) (omega arith) (omega (arith, pow-suc 10 (suc k)))))
    (below_or_not n 10)

pub decimal_leads : (n : ℕ) → 1 ≤ n → n < 10 ^ 20 → 0x30 < get_or (decimal n) 0 0
unfolding decimal
decimal_leads n low high = leading 19 n low high
