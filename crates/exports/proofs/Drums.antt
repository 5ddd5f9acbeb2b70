-- What the code's returns give of a drum change is what the definitions of specs/ say. Assumes nothing.
use Prim.Native.Nat.{ℕ, ◌+◌, ◌-◌, ◌≤◌}
use mathlib.Core.Path.{◌≡◌, refl, sym, ap, subst, ◌∙◌}
use mathlib.Core.List.{List}
use native.Mathlib.Omega.{arith}
use lib.Dec.{eqb, leb}
use borrow.Author.Tests.{le-leb, lt-leb, ne_eqb}
use Rattle.base.specs.Test.{pick}
use Rattle.drum.specs.declared.Answer.{Answer}
use Rattle.drum.specs.Numbers.{told_as}
use Rattle.drum.specs.Turns.{size_told}
use Rattle.drumstate.specs.State.{Left, left_as, begin_of, take_of}
use Rattle.drumstate.proofs.Theorems.{begun_says, taken_says}
use Rattle.drum.specs.declared.Change.{Change}
use Rattle.drum.specs.Drum.{picked, Told, Q, short, request, end, stop}
use Rattle.drum.proofs.Order.{Sayable, refuses, hands_out_lem, breaks_off}
use Rattle.exports.specs.Bytes.{drum_answer, drum_left}

-- ---- the length that is told
says_short : (t : Told) → Sayable t → size_told t ≤ 64
says_short (Q n) s = omega arith
says_short short s = omega arith
says_short (request n) (hands_out_lem m l h) = h
says_short end s = omega arith
says_short (stop i) s = omega arith

told-short : (a : Answer) (b o : List ℕ) (x : Left) → left_as a b o ≡ x → Sayable x.told → size_told (told_as a) ≤ 64
told-short a b o x e s = says_short (told_as a) (subst (λ (y : Left). Sayable y.told) (sym e) s)

pub begun_tellable : (a r f p : ℕ) (y : Answer) (s o b₁ o₁ : List ℕ) → left_as y b₁ o₁ ≡ begin_of a r f p s o → size_told (told_as y) ≤ 64
begun_tellable a r f p y s o b₁ o₁ e = told-short y b₁ o₁ _ e (begun_says a r f p s o)

pub taken_tellable : (y : Answer) (s q o b₁ o₁ : List ℕ) → left_as y b₁ o₁ ≡ take_of s q o → size_told (told_as y) ≤ 64
taken_tellable y s q o b₁ o₁ e = told-short y b₁ o₁ _ e (taken_says s q o)

-- ---- `khuyapesh_drum_begin` and `khuyapesh_drum_take`
pub drum_left_lem : (n : ℕ) (y : Answer) (b o : List ℕ) (x : Left) → left_as y b o ≡ x → n ≡ drum_answer (told_as y) → (n, (b, o)) ≡ drum_left x
unfolding drum_left
drum_left_lem n y b o x e f = ap (λ (m : ℕ). (m, (b, o))) f ∙ ap drum_left e

pub begun_left : (a r f p n : ℕ) (c : Change) (y : Answer) (b o b₁ o₁ : List ℕ) → c ≡ picked a r f p → left_as y b₁ o₁ ≡ begin_of c.address c.recipe c.factor c.preset b o
    → n ≡ drum_answer (told_as y) → (n, (b₁, o₁)) ≡ drum_left (begin_of a r f p b o)
begun_left a r f p n c y b o b₁ o₁ e g h =
    drum_left_lem n y b₁ o₁ (begin_of a r f p b o) (g ∙ ap (λ (x : Change). begin_of x.address x.recipe x.factor x.preset b o) e) h

-- ---- the number tells what was told: 0 is the end alone, a length is a request's, and each refusal and each stop has a number of its own
abbrev pub told_in : ℕ → Told
told_in n = pick (leb 700 n) (stop (n - 700)) (pick (leb 600 n) (Q (n - 600)) (pick (eqb n 401) short (pick (eqb n 0) end (request n))))

says_back : (t : Told) → Sayable t → told_in (drum_answer t) ≡ t
says_back (Q n) (refuses m l) = simp (lt-leb 700 (600 + n) (omega arith), le-leb 600 (600 + n) (omega arith)) (let e : 600 + n - 600 ≡ n = omega arith in ap Q e)
says_back short s = refl
says_back (request n) (hands_out_lem m l h) =
    simp (lt-leb 700 n (omega arith), lt-leb 600 n (omega arith), ne_eqb n 401 (λ e. omega arith), ne_eqb n 0 (λ e. omega arith))
says_back end s = refl
says_back (stop i) (breaks_off j l h) = simp (le-leb 700 (700 + i) (omega arith)) (let e : 700 + i - 700 ≡ i = omega arith in ap stop e)

pub begun_numbers : (a r f p : ℕ) (s o : List ℕ) → told_in (drum_left (begin_of a r f p s o)).0 ≡ (begin_of a r f p s o).told
unfolding drum_left
begun_numbers a r f p s o = says_back _ (begun_says a r f p s o)

pub taken-numbers : (s q o : List ℕ) → told_in (drum_left (take_of s q o)).0 ≡ (take_of s q o).told
unfolding drum_left
taken-numbers s q o = says_back _ (taken_says s q o)
