-- Numbers one behind the other, each in its width: packing and unpacking are inverse. Assumes nothing.
use Prim.Native.Nat.{ℕ, zero, suc, ◌+◌, ◌^◌, ◌≤◌, ◌<◌}
use mathlib.Core.Path.{◌≡◌, refl, sym, ap, ◌∙◌}
use mathlib.Core.List.{List, [], ◌∷◌, ◌++◌, append_assoc}
use native.Mathlib.Omega.{arith}
use lib.ListN.{length, get_or, take, drop, length-append, length-drop, take-append-drop}
use lib.Seq.{length-take-le, drop_at, drop-cons, drop-drop, take-add, take_at, take-nil, take-take}
use Rattle.stored.specs.Layout.{total}
use Rattle.stored.specs.Form.{big_endian, number_of, pack, unpack}
use Rattle.stored.proofs.Bytes.{Bytes, bytes_take, bytes_drop, big_length, number_big, big_number}

-- ---- lengths
pub pack-length : (ws ns : List ℕ) → length ns ≡ length ws → length (pack ws ns) ≡ total ws
unfolding pack
pack-length [] ns e = refl
pack-length (w ∷ ws) [] e = absurd (omega arith)
pack-length (w ∷ ws) (n ∷ ns) e =
    let h = pack-length ws ns (omega arith) in
    let b = big_length w n in
    length-append (big_endian w n) (pack ws ns) ∙ omega arith

pub unpack-length : (ws bs : List ℕ) → length (unpack ws bs) ≡ length ws
unfolding unpack
unpack-length [] bs = refl
unpack-length (w ∷ ws) bs = let h = unpack-length ws (drop w bs) in omega arith

pub pack-append : (ws vs ns ms : List ℕ) → length ns ≡ length ws → pack (ws ++ vs) (ns ++ ms) ≡ pack ws ns ++ pack vs ms
unfolding pack
pack-append [] vs [] ms e = refl
pack-append [] vs (n ∷ ns) ms e = absurd (omega arith)
pack-append (w ∷ ws) vs [] ms e = absurd (omega arith)
pack-append (w ∷ ws) vs (n ∷ ns) ms e =
    ap (λ (l : List ℕ). big_endian w n ++ l) (pack-append ws vs ns ms (omega arith)) ∙ sym (append_assoc (big_endian w n) (pack ws ns) (pack vs ms))

-- ---- one number, and whatever stands behind it
pub number_front : (w n : ℕ) (rest : List ℕ) → n < 256 ^ w → number_of (take w (big_endian w n ++ rest)) ≡ n
number_front w n rest h = ap number_of (take_at (big_endian w n) rest w (big_length w n)) ∙ number_big w n h

-- a version, the length in two bytes and what follows are the whole
pub header_back : (bs : List ℕ) (v : ℕ) → 3 ≤ length bs → get_or bs 0 0 ≡ v → number_of (take 2 (drop 1 bs)) ≡ length bs → Bytes bs
    → v ∷ (big_endian 2 (length bs) ++ drop 3 bs) ≡ bs
header_back bs v l e f h =
    let d = length-drop 1 bs in
    let field : big_endian 2 (length bs) ≡ take 2 (drop 1 bs) =
    ap (big_endian 2) (sym f) ∙ big_number 2 (take 2 (drop 1 bs)) (length-take-le 2 (drop 1 bs) (omega arith)) (bytes_take 2 (drop 1 bs) (bytes_drop 1 bs h)) in
    ap (λ (u : ℕ). u ∷ (big_endian 2 (length bs) ++ drop 3 bs)) (sym e) ∙
    (ap (λ (x : List ℕ). get_or bs 0 0 ∷ (x ++ drop 3 bs)) field ∙
    (ap (λ (x : List ℕ). get_or bs 0 0 ∷ (take 2 (drop 1 bs) ++ x)) (sym (drop-drop 2 1 bs)) ∙
    (ap (λ (x : List ℕ). get_or bs 0 0 ∷ x) (take-append-drop 2 (drop 1 bs)) ∙ sym (drop-cons bs 0 0 (omega arith)))))

-- ---- several: there and back

-- there are as many numbers as widths, and each has room in its bytes
abbrev pub Roomy : List ℕ → List ℕ → Type 0
Roomy [] [] = Unit {0}
Roomy [] (n ∷ ns) = ⊥
Roomy (w ∷ ws) [] = ⊥
Roomy (w ∷ ws) (n ∷ ns) = (n < 256 ^ w) × Roomy ws ns

-- numbers that have room come back, whatever stands behind their bytes
pub unpack-pack : (ws ns rest : List ℕ) → Roomy ws ns → unpack ws (pack ws ns ++ rest) ≡ ns
unfolding pack unpack
unpack-pack [] [] rest r = refl
unpack-pack [] (n ∷ ns) rest r = absurd r
unpack-pack (w ∷ ws) [] rest r = absurd r
unpack-pack (w ∷ ws) (n ∷ ns) rest r =
    let f : List ℕ = big_endian w n in
    let g : List ℕ = pack ws ns ++ rest in
    ap (λ (l : List ℕ). number_of (take w l) ∷ unpack ws (drop w l)) (append_assoc f (pack ws ns) rest) ∙
    (ap (λ (m : ℕ). m ∷ unpack ws (drop w (f ++ g))) (number_front w n g r.0) ∙
    ap (λ (ms : List ℕ). n ∷ ms) (ap (unpack ws) (drop_at f g w (big_length w n)) ∙ unpack-pack ws ns rest r.1))

-- bytes come back, as many as the widths take
pub pack-unpack : (ws bs : List ℕ) → total ws ≤ length bs → Bytes bs → pack ws (unpack ws bs) ≡ take (total ws) bs
unfolding pack unpack
pack-unpack [] bs l h = refl
pack-unpack (w ∷ ws) bs l h =
    let d = length-drop w bs in
    ap (λ (t : List ℕ). t ++ pack ws (unpack ws (drop w bs)))
    (big_number w (take w bs) (length-take-le w bs (omega arith)) (bytes_take w bs h)) ∙
    (ap (λ (t : List ℕ). take w bs ++ t) (pack-unpack ws (drop w bs) (omega arith) (bytes_drop w bs h)) ∙ sym (take-add w (total ws) bs))

drop-take : (w n : ℕ) (l : List ℕ) → drop w (take (w + n) l) ≡ take n (drop w l)
drop-take zero n l = let e : 0 + n ≡ n = omega arith in ap (λ (k : ℕ). take k l) e
drop-take (suc w) n [] = let e : suc w + n ≡ suc (w + n) = omega arith in ap (λ (k : ℕ). drop (suc w) (take k [])) e ∙ sym (take-nil n)
drop-take (suc w) n (a ∷ l) = let e : suc w + n ≡ suc (w + n) = omega arith in ap (λ (k : ℕ). drop (suc w) (take k (a ∷ l))) e ∙ drop-take w n l

-- no byte behind them is looked at
pub unpack_front : (ws bs : List ℕ) → unpack ws (take (total ws) bs) ≡ unpack ws bs
unfolding unpack
unpack_front [] bs = refl
unpack_front (w ∷ ws) bs =
    let n : ℕ = total ws in
    ap (λ (l : List ℕ). number_of l ∷ unpack ws (drop w (take (w + n) bs))) (take-take w (w + n) bs (omega arith)) ∙
    ap (λ (ms : List ℕ). number_of (take w bs) ∷ ms) (ap (unpack ws) (drop-take w n bs) ∙ unpack_front ws (drop w bs))
