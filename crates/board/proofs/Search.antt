-- What the call leaves, by the tests of the list and the place of the record that the request goes to.
-- d stands for a record past the list's end; none is ever read. Assumes nothing.
use Prim.Native.Nat.{ℕ, suc, ◌+◌, ◌≤◌, ◌<◌}
use mathlib.Core.Bool.{Bool, true, false}
use mathlib.Core.Path.{◌≡◌, refl, sym, ap, ◌∙◌}
use mathlib.Core.List.{List, [], ◌∷◌}
use native.Mathlib.Omega.{arith}
use lib.Dec.{eqb, leb, ltb, leb-suc-suc}
use lib.ListN.{length, get_or, set}
use borrow.Author.Tests.{lt-ltb, ne_eqb}
use Rattle.std.specs.Prelude.{Option, Some, None, Result, Ok, Err, cond, ok_or, position, ◌==◌}
use Rattle.std.specs.List.{position_or_len}
use Rattle.std.proofs.lemmas.List.Quantifiers.{position-Some}
use Rattle.state.specs.declared.Record.{Record}
use Rattle.state.specs.declared.Phase.TheVariants.{Idle}
use Rattle.base.specs.Test.{pick, unless, between, all_distinct}
use Rattle.base.proofs.Tests.{by_test, never, eqb-turned, between_high}
use Rattle.frame.specs.declared.Kind.{Kind}
use Rattle.frame.specs.declared.Silence.{Silence}
use Rattle.frame.specs.Numbers as numbers
use Rattle.frame.specs.Numbers.{silence_number, silence_in}
use Rattle.frame.specs.Answer.{address_of}
use Rattle.frame.proofs.Laws.{address_cases}
use Rattle.controller.specs.Call as one
use Rattle.controller.specs.Call.{call_of}
use Rattle.board.specs.declared.Refusal.{Refusal}
use Rattle.board.specs.declared.Refusal.TheVariants as refusal
use Rattle.board.specs.Board.{Outcome, silent, all_valid, addresses, behind, asked, dispatched, board_of, refusal_number, outcome_as}
use Rattle.board.specs.Steps.{refused_of, checked_as, place_of, way_to, found_of, found_as}

-- what Rattle reads past the end of a list of records
abbrev pub no_record : Record
no_record =
    record {
      address = 0;
      access = 0;
      phase = Idle;
      keypad = false;
      flow = false;
      changed = false;
      reset = false;
      powerfail = false;
      recipe = 0;
      preset = 0;
      raw = 0;
      number = 0;
      alarms = 0;
      values = [];
      levels = [];
    }

module _ (k : Kind) (q : List ℕ) where
  module _ (o : List ℕ) (d : Record) where
    -- the controller's call on the record at place i, stored back
    abbrev pub called_at : ℕ → List Record → Outcome
    called_at i ys =
        record {
          silence = (call_of k (get_or ys i d) q o).silence;
          reported = (call_of k (get_or ys i d) q o).reported;
          records = set ys i (call_of k (get_or ys i d) q o).after;
          buffer = (call_of k (get_or ys i d) q o).buffer;
        }

    -- ---- by the place of an address
    abbrev placed : List Record → ℕ → Outcome
    placed ys i = pick (ltb i (length ys)) (called_at i ys) (silent 8 ys o)

    placed_behind : (r : Record) (rs : List Record) (i : ℕ) → behind r (placed rs i) ≡ placed (r ∷ rs) (1 + i)
    placed_behind r rs i =
        let next : suc i ≡ 1 + i = omega arith in
        go (ltb i (length rs)) ∙ (ap (λ (b : Bool). pick b (called_at (suc i) (r ∷ rs)) (silent 8 (r ∷ rs) o)) (sym (leb-suc-suc (suc i) (length rs)))
        ∙ ap (placed (r ∷ rs)) next)
      where
        go : (b : Bool) → behind r (pick b (called_at i rs) (silent 8 rs o)) ≡ pick b (called_at (suc i) (r ∷ rs)) (silent 8 (r ∷ rs) o)
        go true = refl
        go false = refl

    abbrev before : ℕ → List Record → ℕ
    before a ys = position_or_len (λ (r : Record). r.address == a) ys

    by_place : (a : ℕ) (ys : List Record) → dispatched a k ys q o ≡ placed ys (before a ys)
    unfolding dispatched
    by_place a [] = refl
    by_place a (r ∷ rs) =
        by_test (eqb a r.address)
        (λ e. simp (e, eqb-turned r.address a ∙ e) (sym (ap (λ (b : Bool). pick b (called_at 0 (r ∷ rs)) (silent 8 (r ∷ rs) o)) (lt-ltb 0 (suc (length rs)) (omega arith)))))
        (λ e. simp (e, eqb-turned r.address a ∙ e) (ap (behind r) (by_place a rs) ∙ placed_behind r rs (before a rs)))

    -- ---- what the place, or the number of the silence, comes to
    abbrev settled : List Record → Result ℕ ℕ → Outcome
    settled ys (Ok i) = called_at i ys
    settled ys (Err n) = silent n ys o

    by_found : (a : ℕ) (ys : List Record) → dispatched a k ys q o ≡ settled ys (place_of a ys)
    by_found a ys = by_place a ys ∙ go (ltb (before a ys) (length ys)) (before a ys)
      where
        go : (b : Bool) (i : ℕ) → pick b (called_at i ys) (silent 8 ys o) ≡ settled ys (ok_or (cond b (Some i) None) 8)
        go true i = refl
        go false i = refl

    module _ (ys : List Record) where
      -- S3 to S7, or the place of the address
      by_frame : unless (eqb (silence_in (address_of k q)) 0) (silent (silence_in (address_of k q)) ys o) (dispatched (asked k q) k ys q o)
          ≡ settled ys (way_to (address_of k q) ys)
      by_frame =
          address_cases
          (λ (x : numbers.Answer). unless (eqb (silence_in x) 0) (silent (silence_in x) ys o) (dispatched (asked k q) k ys q o) ≡ settled ys (way_to x ys))
          k q
          (λ n low high. simp (ne_eqb n 0 (λ z. omega arith)))
          (by_found (asked k q) ys)

      -- S9 to S11, by the number of the list's refusal
      abbrev listed : ℕ → Outcome → Outcome
      listed n x = unless (eqb n 0) (silent n ys o) x

      by_tests : board_of k ys q o ≡ listed (refused_of ys) (settled ys (found_of k ys q (length o)))
      unfolding board_of refused_of found_of
      by_tests =
          list_tests (between 1 16 (length ys)) (all_valid ys) (all_distinct (addresses ys)) _ ∙
          ap (listed (refused_of ys)) (room (leb 64 (length o)))
        where
          list_tests : (a b c : Bool) (x : Outcome) → unless a (silent 9 ys o) (unless b (silent 10 ys o) (unless c (silent 11 ys o) x)) ≡ listed (unless a 9 (unless b 10 (unless c 11 0))) x
          list_tests false b c x = refl
          list_tests true false c x = refl
          list_tests true true false x = refl
          list_tests true true true x = refl

          room : (b : Bool) → unless b (silent 2 ys o) (unless (eqb (silence_in (address_of k q)) 0) (silent (silence_in (address_of k q)) ys o) (dispatched (asked k q) k ys q o))
              ≡ settled ys (unless b (Err 2) (way_to (address_of k q) ys))
          room true = by_frame
          room false = refl

      -- ---- as the code has them
      module _ (x : Result (Unit {0}) Refusal) (e : checked_as x ≡ refused_of ys) where
        pub refused_so : (w : Refusal) → x ≡ Err w → outcome_as (Err w) ys o ≡ board_of k ys q o
        refused_so w z =
            let n : refused_of ys ≡ refusal_number w = sym e ∙ ap checked_as z in
            sym (by_tests ∙ (ap (λ (m : ℕ). listed m (settled ys (found_of k ys q (length o)))) n ∙ told w))
          where
            told : (w : Refusal) → listed (refusal_number w) (settled ys (found_of k ys q (length o))) ≡ silent (refusal_number w) ys o
            told refusal.ListLength = refl
            told refusal.InvalidRecord = refl
            told refusal.AddressTwice = refl

      module _ (n : 0 ≡ refused_of ys) (f : Result ℕ Silence) (p : found_as f ≡ found_of k ys q (length o)) where
        heard : settled ys (found_as f) ≡ board_of k ys q o
        heard = sym (by_tests ∙ (ap (λ (m : ℕ). listed m (settled ys (found_of k ys q (length o)))) (sym n) ∙ ap (settled ys) (sym p)))

        -- the request goes nowhere
        pub nowhere_so : (w : Silence) → f ≡ Err w → outcome_as (Ok (Err w)) ys o ≡ board_of k ys q o
        nowhere_so w g = ap (λ (y : Result ℕ Silence). settled ys (found_as y)) (sym g) ∙ heard

        -- the request goes to a record
        pub called_so : (i : ℕ) → f ≡ Ok i → (a : Result ℕ Silence) (r : Record) (zs : List ℕ) → one.outcome_as a r zs ≡ call_of k (get_or ys i d) q o
            → outcome_as (Ok a) (set ys i r) zs ≡ board_of k ys q o
        called_so i g a r zs w =
            ap (λ (c : one.Outcome). record { silence = c.silence; reported = c.reported; records = set ys i c.after; buffer = c.buffer }) w
            ∙ (ap (λ (y : Result ℕ Silence). settled ys (found_as y)) (sym g) ∙ heard)

  -- a place that is found is one of the list
  placed_inside : (a : ℕ) (ys : List Record) (i : ℕ) → ◌≡◌ {A = Result ℕ ℕ} (Ok i) (place_of a ys) → i < length ys
  placed_inside a ys i e = go (position (λ (r : Record). r.address == a) ys) refl e
    where
      go : (x : Option ℕ) → position (λ (r : Record). r.address == a) ys ≡ x → ◌≡◌ {A = Result ℕ ℕ} (Ok i) (ok_or x 8) → i < length ys
      go (Some j) p z = let same : i ≡ j = cc in (position-Some (λ (r : Record). r.address == a) ys i no_record (p ∙ ap Some (sym same))).0
      go None p z = absurd (never cc)

  pub inside : (ys : List Record) (room : ℕ) (f : Result ℕ Silence) → found_as f ≡ found_of k ys q room → (i : ℕ) → f ≡ Ok i → i < length ys
  unfolding found_of
  inside ys room f p i g =
      address_cases (λ (x : numbers.Answer). (b : Bool) → ◌≡◌ {A = Result ℕ ℕ} (Ok i) (unless b (Err 2) (way_to x ys)) → i < length ys) k q
      (λ n low high b z. absurd (never (refusal b n z)))
      (λ b z. found b z) (leb 64 room) (ap found_as (sym g) ∙ p)
    where
      refusal : (b : Bool) (n : ℕ) → ◌≡◌ {A = Result ℕ ℕ} (Ok i) (unless b (Err 2) (Err n)) → ◌≡◌ {A = ℕ} 0 1
      refusal true n z = cc
      refusal false n z = cc

      found : (b : Bool) → ◌≡◌ {A = Result ℕ ℕ} (Ok i) (unless b (Err 2) (place_of (asked k q) ys)) → i < length ys
      found true z = placed_inside (asked k q) ys i z
      found false z = absurd (never cc)

-- a list that is not refused is not long
pub few : (ys : List Record) → 0 ≡ refused_of ys → length ys ≤ 16
unfolding refused_of
few ys e =
    by_test (between 1 16 (length ys)) (λ b. between_high 1 16 (length ys) b)
    (λ b. absurd (let n : 0 ≡ 9 = e ∙ simp b in omega arith))
