-- What an exchange teaches is exact: the records that are possible afterwards are those that follow a record that was possible before and
-- agrees. By what the exchange says. Assumes nothing.
use Prim.Native.Nat.{ℕ}
use native.Mathlib.Omega.{arith}
use mathlib.Core.Bool.{true, false}
use mathlib.Core.Path.{◌≡◌, refl, sym, ap, subst, ◌∙◌}
use mathlib.Core.List.{[]}
use mathlib.Core.Logic.{◌↔◌}
use Rattle.state.specs.declared.Record.{Record}
use Rattle.state.specs.Field.{address, access, get, field_range}
use Rattle.state.specs.Valid.{within, valid}
use Rattle.frame.specs.declared.Kind.TheVariants.{Minicomputer}
use Rattle.frame.specs.Frame.{within_limits}
use Rattle.frame.specs.Numbers.{S, accepted}
use Rattle.frame.specs.Answer.{locate_of}
use Rattle.command.specs.Request.{asked_in, answer_text, served_of}
use Rattle.command.proofs.Fits.{asked_sound}
use Rattle.knowledge.specs.declared.Knowledge.{Knowledge}
use Rattle.knowledge.proofs.Possible.{Possible, Kept}
use Rattle.knowledge.proofs.Cut.{dead-none, dead_kept}
use Rattle.knowledge.proofs.Start.{own_address}
use Rattle.learning.specs.Learn.{learn_of, taught_of}
use Rattle.learning.proofs.Exact.{learn_onward, learn_back, learn_kept}
use Rattle.recording.specs.Form.{Exchange}
use Rattle.recording.specs.Alone.{Agrees, next}
use Rattle.hearing.specs.declared.Said.{Said}
use Rattle.hearing.specs.declared.Said.TheVariants.{Quiet, Answered, Unanswered, Unreadable, Texts}
use Rattle.hearing.specs.Hearing.{asked, told, said_of, taught_by, exchange_learnt, exchange_heard, exchange_taught}
use Rattle.hearing.proofs.Says.{Says, said_so}
use Rattle.hearing.proofs.Agreement.{silence_exactly, silence_after, reply_exactly, reply_after}

-- a frame is not empty
no_bytes : (m : ℕ) → locate_of Minicomputer [] ≡ accepted m → ⊥
unfolding locate_of within_limits
no_bytes m e =
    let h : S 3 ≡ accepted m = e in
    let z : ◌≡◌ {A = ℕ} 0 1 = cc in
    omega arith

-- ---- what agreement is, and what follows, by what is said
module _ (a : ℕ) (e : Exchange) where
  -- the record's reply to the request, behind the address digits, is the one that is told
  abbrev pub SaysSo : Record → Type 0
  SaysSo r = answer_text (served_of (asked_in (asked e)) r).0 r ≡ told e

  abbrev pub AgreesBy : Said → Record → Type 0
  AgreesBy Quiet r = Unit {0}
  AgreesBy (Answered n) r = ⊥
  AgreesBy Unanswered r = ⊥
  AgreesBy Unreadable r = ⊥
  AgreesBy (Texts n m) r = SaysSo r

  abbrev next_by : Said → Record → Record
  next_by (Texts n m) r = (served_of (asked_in (asked e)) r).1
  next_by Quiet r = r
  next_by (Answered n) r = r
  next_by Unanswered r = r
  next_by Unreadable r = r

  module _ (r : Record) (own : get address r ≡ a) (v : valid r ≡ true) where
    pub agrees_by : (x : Said) → Says a e x → Agrees r e ↔ AgreesBy x r
    agrees_by Quiet (other, none) = (λ g. tt, λ h. (silence_exactly a r e own v other).1 none)
    agrees_by (Answered n) (other, some, l, due) = (λ g. some ((silence_exactly a r e own v other).0 g), λ h. absurd h)
    agrees_by Unanswered ((n, names), none) =
        (λ g. let ((m, f), s) = (reply_exactly a r e own v n names).0 g in no_bytes m (ap (locate_of Minicomputer) (sym none) ∙ f.0), λ h. absurd h)
    agrees_by Unreadable ((n, names), some, other) = (λ g. let ((m, f), s) = (reply_exactly a r e own v n names).0 g in other m f, λ h. absurd h)
    agrees_by (Texts n m) (names, some, f) =
        (λ g. ((reply_exactly a r e own v n names).0 g).1, λ s. (reply_exactly a r e own v n names).1 ((m, f), s))

    next_by_lem : (x : Said) → Says a e x → AgreesBy x r → next r e ≡ next_by x r
    next_by_lem Quiet (other, none) h = silence_after a r e own v other
    next_by_lem (Answered n) s h = absurd h
    next_by_lem Unanswered s h = absurd h
    next_by_lem Unreadable s h = absurd h
    next_by_lem (Texts n m) (names, some, f) h = reply_after a r e own v n names

  pub agrees_exactly : (r : Record) → get address r ≡ a → valid r ≡ true → Agrees r e ↔ AgreesBy (said_of a e) r
  agrees_exactly r own v = agrees_by r own v (said_of a e) (said_so a e)

-- ---- one exchange
module _ (a c : ℕ) (in-address : within (field_range address) a ≡ true) (in-access : within (field_range access) c ≡ true) (k : Knowledge) (e : Exchange)
    (kept : Kept a c k) where
  onward_by : (r : Record) → Possible k r → (x : Said) → Says a e x → AgreesBy a e x r → Possible (taught_by (learn_of c) e x k) (next r e)
  onward_by r t x so h = subst (Possible (taught_by (learn_of c) e x k)) (sym (next_by_lem a e r (own_address k r kept in-address t) t.sound x so h)) (go x h)
    where
      go : (x : Said) → AgreesBy a e x r → Possible (taught_by (learn_of c) e x k) (next_by a e x r)
      go Quiet g = t
      go (Answered n) g = absurd g
      go Unanswered g = absurd g
      go Unreadable g = absurd g
      go (Texts n m) g = learn_onward (asked_in (asked e)) (told e) k r kept in-access (asked_sound (asked e)) t g

  pub onward : (r : Record) → Possible k r → Agrees r e → Possible (exchange_learnt a c k e) (next r e)
  unfolding exchange_learnt
  onward r t g = onward_by r t (said_of a e) (said_so a e) ((agrees_exactly a e r (own_address k r kept in-address t) t.sound).0 g)

  back_by : (s : Record) (x : Said) → Says a e x → Possible (taught_by (learn_of c) e x k) s → (r : Record) × Possible k r × AgreesBy a e x r × (next_by a e x r ≡ s)
  back_by s Quiet so t = (s, t, tt, refl)
  back_by s (Answered n) so t = absurd (dead-none k s t)
  back_by s Unanswered so t = absurd (dead-none k s t)
  back_by s Unreadable so t = absurd (dead-none k s t)
  back_by s (Texts n m) so t = learn_back (asked_in (asked e)) (told e) k s kept in-access (asked_sound (asked e)) t

  pub back : (s : Record) → Possible (exchange_learnt a c k e) s → (r : Record) × Possible k r × Agrees r e × (next r e ≡ s)
  unfolding exchange_learnt
  back s t =
      let so = said_so a e in
      let (r, p, said, after) = back_by s (said_of a e) so t in
      let own = own_address k r kept in-address p in
      (r, p, (agrees_exactly a e r own p.sound).1 said, next_by_lem a e r own p.sound (said_of a e) so said ∙ after)

  keeps_by : (x : Said) → Kept a c (taught_by (learn_of c) e x k)
  keeps_by Quiet = kept
  keeps_by (Answered n) = dead_kept k kept
  keeps_by Unanswered = dead_kept k kept
  keeps_by Unreadable = dead_kept k kept
  keeps_by (Texts n m) = learn_kept (asked_in (asked e)) (told e) k kept (asked_sound (asked e))

  pub keeps : Kept a c (exchange_learnt a c k e)
  unfolding exchange_learnt
  keeps = keeps_by (said_of a e)

-- ---- what the code teaches is one of the two
pub taught_after : (a c : ℕ) (k : Knowledge) (e : Exchange) → exchange_taught true a c k e ≡ exchange_learnt a c k e
unfolding exchange_taught exchange_learnt taught_of
taught_after a c k e = refl

pub taught_before : (a c : ℕ) (k : Knowledge) (e : Exchange) → exchange_taught false a c k e ≡ exchange_heard a c k e
unfolding exchange_taught exchange_heard taught_of
taught_before a c k e = refl
