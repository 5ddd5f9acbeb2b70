-- Without a request for a kept batch the bank never shows: what some record with some bank gives, that record gives without a bank, and the other
-- way round with any valid bank. So whatever is right of document 01's controller alone is right of the statement. Assumes nothing.
use Prim.Native.Nat.{ℕ, ◌-◌}
use mathlib.Core.Bool.{Bool, true, false}
use mathlib.Core.Path.{◌≡◌, refl, sym, ap, subst, ◌∙◌}
use mathlib.Core.List.{List, [], ◌∷◌}
use mathlib.Core.Logic.{◌↔◌}
use native.Mathlib.Omega.{arith}
use lib.Dec.{eqb}
use lib.ListN.{length, take, replicate, length-replicate}
use Rattle.base.proofs.Tests.{and_yes, and_left}
use Rattle.state.specs.declared.Record.{Record}
use Rattle.state.specs.Field.{Field, address, get}
use Rattle.state.specs.Valid as state
use Rattle.bank.specs.Bank.{all_valid, empty_bank}
use Rattle.bank.specs.Bank as bank
use Rattle.frame.specs.declared.Kind.TheVariants.{Minicomputer}
use Rattle.frame.specs.Frame.{text_in}
use Rattle.command.specs.Commands.{RT, code_in, batch_asked}
use Rattle.controller.specs.Call.{OutcomeOf, reply_in, Hearing, S, text, hearing_of}
use Rattle.controller.proofs.Hearing.{heard_by, by_hearing}
use Rattle.banked.specs.declared.Banked.{Banked}
use Rattle.banked.specs.Banked.{with, valid, asks_batch, asks_heard, beside}
use Rattle.banked.proofs.Unseen.{unseen, stays_valid, same_address}
use Rattle.recording.specs.Form.{Exchange}
use Rattle.recording.specs.Replay.{Answer, fits, refuted, not_judged, AllAgree, after_all, before_asked, NoneAsked, Right}
use Rattle.recording.specs.Statement.{Agrees, next, called, Start, Fits, asks}
use Rattle.recording.specs.Known as known
use Rattle.recording.specs.Known.{Reason, answered, unanswered, impossible, conflict, NumbersOf, BecauseOf}
use Rattle.recording.specs.Alone as alone
use Rattle.recording.proofs.Asked.{first_quiet, before_quiet, taken_quiet}

-- an empty bank is valid
empty_valid : bank.valid empty_bank ≡ true
unfolding bank.valid all_valid
empty_valid = refl

pub with_empty : (r : Record) → state.valid r ≡ true → valid (with r empty_bank) ≡ true
unfolding valid
with_empty r v = and_yes (state.valid r) (bank.valid empty_bank) v empty_valid

-- ---- a request with another code than RT asks for no kept batch
pub not-asked : (a c : ℕ) (e : Exchange) → code_in (text_in Minicomputer e.request) ≡ c → eqb c RT ≡ false → asks a e ≡ false
unfolding asks_heard batch_asked
not-asked a c e code other =
    by_hearing (λ (n : ℕ). false) Minicomputer a e.request (asks_batch (text_in Minicomputer e.request)) true 64
    ∙ go (hearing_of Minicomputer true a e.request 64)
  where
    go : (h : Hearing) → heard_by (λ (n : ℕ). false) Minicomputer a e.request (asks_batch (text_in Minicomputer e.request)) h ≡ false
    go (S n) = refl
    go (text n) = simp (ap (λ (d : ℕ). eqb d RT) code ∙ other)

-- ---- what holds of a reason holds of it by predicates that come to the same
numbers_along : (P Q : Record → Type 0) → ((r : Record) → P r ↔ Q r) → (f : Field) (set : ℕ → Bool) → NumbersOf P f set → NumbersOf Q f set
numbers_along P Q pq f set h n = (
  λ i. let (r, p, e) = (h n).0 i in (r, (pq r).0 p, e),
  λ (r, p, e). (h n).1 (r, (pq r).1 p, e),
)

module _ (Met Met' : ℕ → Type 0) (Held Held' Given Given' : Record → Type 0) (e : Exchange) (met : (n : ℕ) → Met n → Met' n)
    (held : (r : Record) → Held r ↔ Held' r) (given : (r : Record) → Given r ↔ Given' r) where
  because_along : (reason : Reason) → BecauseOf Met Held Given e reason → BecauseOf Met' Held' Given' e reason
  because_along (answered n) (some, low, h) = (some, low, met n h)
  because_along unanswered (none, h) = (none, met 0 h)
  because_along impossible (some, h, f) = (some, met 0 h, λ r g. f r ((given r).1 g))
  because_along (conflict f before needed) (x, y, apart, f-refutes, (r, g)) = (
    numbers_along Held Held' held f before x,
    numbers_along Given Given' given f needed y,
    apart,
    (λ r g. f-refutes r ((given r).1 g)),
    (r, (given r).0 g),
  )

module _ (a : ℕ) where
  -- what is held is valid, at this address
  pub record Good (b : Banked) : Type 0 where
    pub all_valid : valid b ≡ true
    pub own_address : get address b.state ≡ a

  -- ---- one exchange
  module _ (b : Banked) (g : Good b) (e : Exchange) (n : asks a e ≡ false) where
    same-call : (o : List ℕ) → length o ≡ 64 → called b e.request o ≡ beside (alone.called b.state e o) (called b e.request o).after.bank
    same-call o l =
        unseen Minicomputer b e.request o g.all_valid (omega arith) (ap (λ (i : ℕ). asks i e) g.own_address ∙ n)

    pub agrees_alone : Agrees called b e → alone.Agrees b.state e
    agrees_alone p o l =
        subst (λ (x : OutcomeOf Banked). (x.reported ≡ length e.reply) × (reply_in x ≡ e.reply)) (same-call o l) (p o l)

    pub agrees_beside : alone.Agrees b.state e → Agrees called b e
    agrees_beside p o l =
        subst (λ (x : OutcomeOf Banked). (x.reported ≡ length e.reply) × (reply_in x ≡ e.reply)) (sym (same-call o l)) (p o l)

    same_next : (next called b e).state ≡ alone.next b.state e
    same_next = ap (λ (x : OutcomeOf Banked). x.after.state) (same-call (replicate 64 0) (length-replicate {A = ℕ} 64 0))

    same-silence : (o : List ℕ) → length o ≡ 64 → (called b e.request o).silence ≡ (alone.called b.state e o).silence
    same-silence o l = ap (λ (x : OutcomeOf Banked). x.silence) (same-call o l)

  good_next : (b : Banked) → Good b → (e : Exchange) → Good (next called b e)
  good_next b g e =
      record {
        all_valid = stays_valid Minicomputer b e.request (replicate 64 0) g.all_valid (omega arith);
        own_address = same_address Minicomputer b e.request (replicate 64 0) g.all_valid (omega arith) ∙ g.own_address;
      }

  -- ---- all exchanges
  all_alone : (es : List Exchange) (b : Banked) → Good b → NoneAsked (asks a) es → AllAgree (next called) (Agrees called) b es
      → AllAgree alone.next alone.Agrees b.state es
  all_alone [] b g q p = tt
  all_alone (e ∷ es) b g q p =
      let (n, m) = first_quiet (asks a) e es q in (
        agrees_alone b g e n p.0,
        subst (λ (r : Record). AllAgree alone.next alone.Agrees r es) (same_next b g e n) (all_alone es (next called b e) (good_next b g e) m p.1),
      )

  all_beside : (es : List Exchange) (b : Banked) → Good b → NoneAsked (asks a) es → AllAgree alone.next alone.Agrees b.state es
      → AllAgree (next called) (Agrees called) b es
  all_beside [] b g q p = tt
  all_beside (e ∷ es) b g q p =
      let (n, m) = first_quiet (asks a) e es q in (
        agrees_beside b g e n p.0,
        all_beside es (next called b e) (good_next b g e) m
            (subst (λ (r : Record). AllAgree alone.next alone.Agrees r es) (sym (same_next b g e n)) p.1),
      )

  same_after : (es : List Exchange) (b : Banked) → Good b → NoneAsked (asks a) es
      → (after_all (next called) (Agrees called) b es).state ≡ after_all alone.next alone.Agrees b.state es
  same_after [] b g q = refl
  same_after (e ∷ es) b g q =
      let (n, m) = first_quiet (asks a) e es q in
      same_after es (next called b e) (good_next b g e) m ∙ ap (λ (r : Record). after_all alone.next alone.Agrees r es) (same_next b g e n)

  module _ (c : ℕ) where
    good : (b : Banked) → Start a c b → Good b
    good b s = record { all_valid = s.all_valid; own_address = s.same_address }

    -- where they start
    start_alone : (b : Banked) → Start a c b → alone.Start a c b.state
    unfolding valid
    start_alone b s =
        record { valid_record = and_left (state.valid b.state) (bank.valid b.bank) s.all_valid; same_address = s.same_address; same-access = s.same-access }

    start_beside : (r : Record) → alone.Start a c r → Start a c (with r empty_bank)
    start_beside r s = record { all_valid = with_empty r s.valid_record; same_address = s.same_address; same-access = s.same-access }

    -- ---- demand 3's statement
    module _ (es : List Exchange) (q : NoneAsked (asks a) es) where
      pub fits-alone : Fits a c es → alone.Fits a c es
      fits-alone (b, s, p) = (b.state, start_alone b s, all_alone es b (good b s) q p)

      pub fits-beside : alone.Fits a c es → Fits a c es
      fits-beside (r, s, p) =
          let t = start_beside r s in
          (with r empty_bank, t, all_beside es (with r empty_bank) (good (with r empty_bank) t) q p)

      -- ---- and those beside it
      pub held-beside : (r : Record) → alone.MayHold a c es r ↔ known.MayHold a c es r
      held-beside r = (
        λ (s, t, p, e).
            let u = start_beside s t in
            let g = good (with s empty_bank) u in
            let h : Banked = after_all (next called) (Agrees called) (with s empty_bank) es in
            (h.bank, (with s empty_bank, u, all_beside es (with s empty_bank) g q p, ap (λ (x : Record). with x h.bank) (same_after es (with s empty_bank) g q ∙ e))),
        λ (k, (b, s, p, e)). (b.state, start_alone b s, all_alone es b (good b s) q p, sym (same_after es b (good b s) q) ∙ ap (λ (x : Banked). x.state) e),
      )

    module _ (e : Exchange) (n : asks a e ≡ false) where
      pub gives-beside : (r : Record) → alone.Gives a c e r ↔ known.Gives a c e r
      gives-beside r = (
        λ (s, p). let t = start_beside r s in (empty_bank, t, agrees_beside (with r empty_bank) (good (with r empty_bank) t) e n p),
        λ (k, s, p). (start_alone (with r k) s, agrees_alone (with r k) (good (with r k) s) e n p),
      )

      pub meets_beside : (m : ℕ) → alone.Meets a c e m → known.Meets a c e m
      meets_beside m h b s o l = same-silence b (good b s) e n o l ∙ h b.state (start_alone b s) o l

    -- why an exchange refutes; es are those before it
    pub because-beside : (es : List Exchange) → NoneAsked (asks a) es → (e : Exchange) → asks a e ≡ false → (reason : Reason)
        → alone.Because a c es e reason → known.Because a c es e reason
    because-beside es q e n reason = because_along _ _ _ _ _ _ e (meets_beside e n) (held-beside es q) (gives-beside e n) reason

    -- ---- a right answer
    pub right_beside : (es : List Exchange) (x : Answer) → Right (asks a) (alone.Fits a c) es x → Right (asks a) (Fits a c) es x
    right_beside es (fits n) (l, q, h) = (l, q, fits-beside es q h)
    right_beside es (refuted i n) (l, low, high, h, none) = (
      l,
      low,
      high,
      fits-beside (take (i - 1) es) (taken_quiet (asks a) es (i - 1) (omega arith)) h,
      λ f. none (fits-alone (take i es) (taken_quiet (asks a) es i high) f),
    )
    right_beside es (not_judged i n) (l, place, inside, h) = (l, place, inside, fits-beside (before_asked (asks a) es) (before_quiet (asks a) es) h)
