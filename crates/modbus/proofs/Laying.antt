-- One law for each step of the functions that build a reply: a turn of a loop, the check laid behind a body. Assumes nothing.
use Prim.Native.Nat.{ℕ, zero, suc, ◌+◌, ◌-◌, ◌*◌, ◌/◌, ◌%◌, ◌≤◌, ◌<◌}
use mathlib.Core.Path.{◌≡◌, refl, sym, ap, ◌∙◌}
use mathlib.Core.List.{List, [], ◌∷◌, ◌++◌, append_assoc, append-nil}
use native.Mathlib.Numerals.{add-one}
use native.Mathlib.Omega.{arith}
use lib.ListN.{length, take, drop, get_or, length-append}
use lib.Seq.{length-take-le}
use borrow.Author.Tests.{le-leb}
use borrow.Rule.Slice.PartMut.{put_mid, Post-is}
use Rattle.std.proofs.Common.{Option, Some, unwrap_or}
use Rattle.base.specs.Lists.{over}
use Rattle.base.proofs.Lists.{over_self, over-length, over-take, over-rest, over-over}
use Rattle.crc.specs.Crc.{sealed, seal_of}
use Rattle.crc.proofs.Sealed.{sealed-length}
use Rattle.modbus.specs.Reply.{two_bytes, register_at, registers, shown, laid}

-- ---- the check behind a body that was laid
seal_over : (b o : List ℕ) (n : ℕ) → n ≡ length b → n + 2 ≤ length o → seal_of n (over b o) ≡ (Some (length (sealed b)), over (sealed b) o)
unfolding seal_of
seal_over b o n e h =
    let l : n + 2 ≤ length (over b o) = omega (arith, over-length b o (omega arith)) in
    let t : take n (over b o) ≡ b = over-take b o n (sym e) in
    let m : n + 2 ≡ length (sealed b) = omega (arith, sealed-length b) in
    let w : over (sealed b) (over b o) ≡ over (sealed b) o = over-over (sealed b) b o (omega (arith, sealed-length b)) in
    simp (le-leb _ _ l, t, w) (ap (λ (k : ℕ). (Some k, over (sealed b) o)) m)

pub sealed-laid : (x n : ℕ) (s : Option ℕ) (y b o o₁ : List ℕ) → ◌≡◌ {A = Option ℕ × List ℕ} (s, y) (seal_of n o₁) → x ≡ unwrap_or s 0
    → o₁ ≡ over b o → n ≡ length b → n + 2 ≤ length o → ◌≡◌ {A = ℕ × List ℕ} (x, y) (laid b o)
unfolding laid
sealed-laid x n s y b o o₁ p u e q h =
    let f : ◌≡◌ {A = Option ℕ × List ℕ} (s, y) (Some (length (sealed b)), over (sealed b) o) = p ∙ ap (seal_of n) e ∙ seal_over b o n q h in
    ap (λ (z : ℕ). (z, y)) u ∙ ap (λ (z : Option ℕ × List ℕ). (unwrap_or z.0 0, z.1)) f

-- ---- `lay`
pub body_laid : (x : ℕ) (s : Option ℕ) (y b w o : List ℕ) → ◌≡◌ {A = Option ℕ × List ℕ} (s, y) (seal_of (length b) (w ++ drop (length b) o))
    → x ≡ unwrap_or s 0 → w ≡ b → length b + 2 ≤ length o → ◌≡◌ {A = ℕ × List ℕ} (x, y) (laid b o)
unfolding over
body_laid x s y b w o p u e h = sealed-laid x (length b) s y b o (w ++ drop (length b) o) p u (ap (λ (z : List ℕ). z ++ drop (length b) o) e) refl h

-- ---- `lay_registers`
pub registers-length : (vs : List ℕ) (s n : ℕ) → length (registers vs s n) ≡ 2 * n
unfolding registers
registers-length vs s zero = refl
registers-length vs s (suc n) = omega (arith, length-append (registers vs s n) (register_at vs (s + n) / 256 ∷ register_at vs (s + n) % 256 ∷ []), registers-length vs s n)

pub registers_begun : (vs o : List ℕ) (s : ℕ) → 3 ≤ length o → o ≡ over (take 3 o ++ registers vs s 0) o
unfolding registers
registers_begun vs o s h = sym (ap (λ (y : List ℕ). over y o) (append-nil (take 3 o)) ∙ over_self 3 o h)

registers_next : (vs : List ℕ) (s i : ℕ) → registers vs s (i + 1) ≡ registers vs s i ++ (register_at vs (s + i) / 256 ∷ register_at vs (s + i) % 256 ∷ [])
unfolding registers
registers_next vs s i = ap (registers vs s) (add-one i)

pub registers_again : (vs w o o₀ : List ℕ) (s i n : ℕ) → o ≡ over (take 3 o₀ ++ registers vs s i) o₀ → n ≡ register_at vs (s + i) → n < 65536
    → w ≡ n / 256 % 256 ∷ n % 256 ∷ [] → 2 * i + 5 ≤ length o₀ → put_mid (2 * i + 3) (2 * i + 3 + 2 - (2 * i + 3)) o w ≡ over (take 3 o₀ ++ registers vs s (i + 1)) o₀
unfolding over
registers_again vs w o o₀ s i n z m b d h =
    ap (λ (x : List ℕ). put_mid at (at + 2 - at) x w) z ∙ laid_behind ∙ ap (λ (x : List ℕ). over x o₀) joined
  where
    high : n / 256 % 256 ≡ n / 256
    high = omega arith

    e : w ≡ two_bytes (register_at vs (s + i))
    e = d ∙ ap (λ (x : ℕ). x ∷ n % 256 ∷ []) high ∙ ap two_bytes m

    at : ℕ
    at = 2 * i + 3

    f : List ℕ
    f = take 3 o₀ ++ registers vs s i

    size : length f ≡ at
    size = length-append (take 3 o₀) (registers vs s i) ∙ omega (arith, length-take-le 3 o₀ (omega arith), registers-length vs s i)

    both : length (f ++ w) ≡ at + 2
    both = length-append f w ∙ omega (arith, size, ap length e)

    laid_behind : put_mid at (at + 2 - at) (over f o₀) w ≡ over (f ++ w) o₀
    laid_behind =
        rw (over-take f o₀ at size, over-rest f o₀ at size) (rw (Post-is at (at + 2) o₀ (omega arith), both) (simp append_assoc))

    joined : f ++ w ≡ take 3 o₀ ++ registers vs s (i + 1)
    joined =
        append_assoc (take 3 o₀) (registers vs s i) w
        ∙ ap (λ (x : List ℕ). take 3 o₀ ++ x) (ap (λ (x : List ℕ). registers vs s i ++ x) e ∙ sym (registers_next vs s i))

-- ---- `show`
pub show_laid : (x s n : ℕ) (t : Option ℕ) (vs q y w o o₂ : List ℕ) → w ≡ get_or q 0 0 ∷ get_or q 1 0 ∷ 2 * n ∷ []
    → o₂ ≡ over (take 3 (w ++ drop 3 o) ++ registers vs s n) (w ++ drop 3 o) → ◌≡◌ {A = Option ℕ × List ℕ} (t, y) (seal_of (2 * n + 3) o₂)
    → x ≡ unwrap_or t 0 → n ≤ 125 → 256 ≤ length o → ◌≡◌ {A = ℕ × List ℕ} (x, y) (laid (shown vs s n q) o)
unfolding over
show_laid x s n t vs q y w o o₂ d e p u h k = sealed-laid x (2 * n + 3) t y (shown vs s n q) o o₂ p u both size (omega arith)
  where
    size : 2 * n + 3 ≡ length (shown vs s n q)
    size = omega (arith, registers-length vs s n)

    f : List ℕ
    f = get_or q 0 0 ∷ get_or q 1 0 ∷ 2 * n ∷ []

    both : o₂ ≡ over (shown vs s n q) o
    both =
        e ∙ ap (λ (z : List ℕ). over (take 3 (z ++ drop 3 o) ++ registers vs s n) (z ++ drop 3 o)) d
        ∙ over-over (shown vs s n q) f o (omega arith)
