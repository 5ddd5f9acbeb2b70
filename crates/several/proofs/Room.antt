-- How much reply room always suffices: no frame that is answered has under 8 bytes, and no reply over 64. Of any call. Assumes nothing.
use Prim.Native.Nat.{ℕ, zero, suc, ◌+◌, ◌-◌, ◌*◌, ◌≤◌, ◌<◌}
use mathlib.Core.Bool.{Bool}
use mathlib.Core.Path.{◌≡◌, sym, ap, ◌∙◌}
use mathlib.Core.List.{List, [], ◌∷◌, ◌++◌}
use native.Mathlib.Nat.{le_of_suc-le-suc, not-suc-le-zero}
use native.Mathlib.Omega.{arith}
use lib.ListN.{length, take, length-append, length-take}
use Rattle.frame.specs.declared.Kind.TheVariants.{Minicomputer}
use Rattle.frame.proofs.Laws.{limits_low}
use Rattle.controller.specs.Call.{OutcomeOf, reply_in}
use Rattle.several.specs.Several.{place_of, Step, stop, skip, full, silent, answer, step_of, Heard, follow, heard_from}
use Rattle.several.specs.OneByOne.{Roomy}
use Rattle.several.proofs.Joined.{onward}
use Rattle.several.proofs.Places.{whole-told}
use Rattle.several.proofs.Steps.{Tells, step_tells, silent-fits, answer-fits, reply-length}
use Rattle.several.proofs.Cut.{within}
use Rattle.several.proofs.Serving.{Serving, heard_exactly}

module _ {S : Type 0} {called : S → List ℕ → OutcomeOf S} {good : S → Bool} {address : S → ℕ} (laws : Serving called good address) where
  -- a frame that is answered
  frame_low : (r : S) (q : List ℕ) → (called r q).silence ≡ 0 → 8 ≤ length q
  frame_low r q e = limits_low Minicomputer (length q) ((heard_exactly laws r q).0 e 2)

  -- where k bytes belong to a frame that is done
  record Counted (k : ℕ) (h : Heard S) : Type 0 where
    each : k + 8 * h.answered ≤ h.taken
    most : length h.replies ≤ 64 * h.answered

  counted : (s : List ℕ) (k room : ℕ) (r : S) → k ≤ length s → Counted k (heard_from called k room r s)
  unfolding heard_from
  counted [] zero room r h = record { each = omega arith; most = omega arith }
  counted [] (suc k) room r h = absurd (not-suc-le-zero h)
  counted (x ∷ xs) (suc k) room r h =
      let c = counted xs k room r (le_of_suc-le-suc h) in
      record { each = omega (arith, c.each); most = omega (arith, c.most) }
  counted (x ∷ xs) zero room r h = go (step_of called (place_of x xs) (x ∷ xs) room r) (step_tells laws x xs room r) (λ k room r l. counted xs k room r l)
    where
      -- a byte, and perhaps more of the same frame
      byte : (k m : ℕ) → Counted k (heard_from called k m r xs) → Counted 0 (onward called xs k m r)
      byte k m c = record { each = omega (arith, c.each); most = omega (arith, c.most) }

      go : (y : Step S) → Tells called x xs room r y → ((k m : ℕ) (t : S) → k ≤ length xs → Counted k (heard_from called k m t xs)) → Counted 0 (follow y room r (onward called xs))
      go stop t on = record { each = omega arith; most = omega arith }
      go skip t on = byte 0 room (on 0 room r (omega arith))
      go (full n) t on = record { each = omega arith; most = omega arith }
      go (silent n k) t on = byte k room (on k room r (silent-fits called x xs room r n k t))
      go (answer n c) t on =
          let later : Heard S = heard_from called (n - 1) (room - c.reported) c.after xs in
          let d = on (n - 1) (room - c.reported) c.after (answer-fits called x xs room r n c t) in
          let l : length (reply_in c ++ later.replies) ≡ length (reply_in c) + length later.replies = length-append (reply_in c) later.replies in
          let w = whole-told x xs n t.stands in
          let low = frame_low r (take n (x ∷ xs)) (ap (λ (o : OutcomeOf S). o.silence) (sym t.call) ∙ t.heard) in
          let size : length (take n (x ∷ xs)) ≤ n = simp length-take (omega arith) in
          record {
            each = omega (arith, d.each, w.least);
            most = omega (arith, d.most, (reply-length laws x xs room r n c t).0, (reply-length laws x xs room r n c t).1);
          }

  -- 64 bytes for every 8 that are lent, and 64 more: then there is room for an answer more at the end
  pub room_suffices : (s : List ℕ) (m room : ℕ) (r : S) → length s < 8 * m → 64 * m ≤ room → Roomy room (heard_from called 0 room r s)
  room_suffices s m room r h l =
      let c = counted s 0 room r (omega arith) in
      let b = within laws s room r in
      omega (arith, c.each, c.most, b.taken_inside)
