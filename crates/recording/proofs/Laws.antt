-- Laws of the form of a recording: what stands at a place, and the exchanges from there on. Assumes nothing.
use Prim.Native.Nat.{ℕ, zero, suc, ◌+◌, ◌-◌, ◌*◌, ◌≤◌, ◌<◌}
use mathlib.Core.Bool.{Bool, true, false}
use mathlib.Core.Path.{◌≡◌, refl, sym, ap, subst, ◌∙◌}
use mathlib.Core.List.{List, [], ◌∷◌}
use mathlib.Core.Logic.{⊎_elim}
use native.Mathlib.Numerals.{add-one}
use native.Mathlib.Omega.{arith}
use lib.Dec.{leb, eqb}
use lib.ListN.{length, take, drop, get_or, length-drop, drop_of_length-le}
use lib.Seq.{drop-cons, drop-drop}
use borrow.Author.Tests.{le-leb, lt-leb, lt-ltb, le-ltb, eq-eqb, ne_eqb}
use Rattle.std.specs.Prelude.{Option, Some, None, Result, Ok, Err}
use Rattle.base.specs.Test.{unless, between}
use Rattle.base.proofs.Tests.{below_or_not, between_yes, between_no}
use Rattle.state.specs.Field.{address, access, field_range}
use Rattle.state.specs.Valid.{within as in_range}
use Rattle.recording.specs.declared.Spans.{Spans}
use Rattle.recording.specs.declared.Refusal.{Refusal}
use Rattle.recording.specs.declared.Refusal.TheVariants.{Cut}
use Rattle.recording.specs.Form.{Exchange, Exchanges, whole, cut, before, reply_and_rest, exchanges_in, spans, exchange_at, header_width, recording_of, with_header, J-number, counted, refusal_number, Summary, summary, read_as, count_of}

-- ---- what stands at a place
pub at_end : (s : List ℕ) (at : ℕ) → length s ≤ at → exchange_at s at ≡ Ok None
unfolding exchange_at
at_end s at h = simp (le-ltb _ _ h)

pub at_cut-request : (s : List ℕ) (at : ℕ) → at < length s → length s ≤ at + 1 + get_or s at 0 → exchange_at s at ≡ Err Cut
unfolding exchange_at
at_cut-request s at h g = simp (lt-ltb _ _ h, le-ltb _ _ g)

pub at_cut-reply : (s : List ℕ) (at : ℕ) → at < length s → at + 1 + get_or s at 0 < length s
    → length s < at + 2 + get_or s at 0 + get_or s (at + 1 + get_or s at 0) 0 → exchange_at s at ≡ Err Cut
unfolding exchange_at
at_cut-reply s at h g f = simp (lt-ltb _ _ h, lt-ltb _ _ g, lt-leb _ _ f)

pub at_exchange : (s : List ℕ) (at : ℕ) → at < length s → at + 1 + get_or s at 0 < length s
    → at + 2 + get_or s at 0 + get_or s (at + 1 + get_or s at 0) 0 ≤ length s
    → exchange_at s at ≡ spans at (get_or s at 0) (get_or s (at + 1 + get_or s at 0) 0)
unfolding exchange_at
at_exchange s at h g f = simp (lt-ltb _ _ h, lt-ltb _ _ g, le-leb _ _ f)

pub ruleset standing = (at_end, at_cut-request, at_cut-reply, at_exchange)

-- what stands at a place, by these four
by_place : (s : List ℕ) (at : ℕ) (P : Result (Option Spans) Refusal → Type 0)
    → (length s ≤ at → P (Ok None))
    → (at < length s → length s ≤ at + 1 + get_or s at 0 → P (Err Cut))
    → (at < length s → at + 1 + get_or s at 0 < length s → length s < at + 2 + get_or s at 0 + get_or s (at + 1 + get_or s at 0) 0 → P (Err Cut))
    → (at < length s → at + 1 + get_or s at 0 < length s → at + 2 + get_or s at 0 + get_or s (at + 1 + get_or s at 0) 0 ≤ length s
    → P (spans at (get_or s at 0) (get_or s (at + 1 + get_or s at 0) 0)))
    → P (exchange_at s at)
by_place s at P ended request reply exchange =
    ⊎_elim (λ h. ⊎_elim
    (λ g. ⊎_elim (λ f. subst P (sym (at_cut-reply s at h g f)) (reply h g f)) (λ f. subst P (sym (at_exchange s at h g f)) (exchange h g f))
    (below_or_not (length s) (at + 2 + get_or s at 0 + get_or s (at + 1 + get_or s at 0) 0)))
    (λ g. subst P (sym (at_cut-request s at h g)) (request h g)) (below_or_not (at + 1 + get_or s at 0) (length s)))
    (λ h. subst P (sym (at_end s at h)) (ended h)) (below_or_not at (length s))

-- the spans of an exchange follow one another inside the bytes
pub record Within (s : List ℕ) (at : ℕ) (p : Spans) : Type 0 where
  pub first : at + 1 ≡ p.request
  pub asked : p.request ≤ p.stop
  pub between : p.stop + 1 ≡ p.reply
  pub answered : p.reply ≤ p.end
  pub inside : p.end ≤ length s

pub within : (s : List ℕ) (at : ℕ) (p : Spans) → exchange_at s at ≡ Ok (Some p) → Within s at p
within s at p e =
    subst WithinAt e
    (by_place s at WithinAt (λ h. tt) (λ h g. tt) (λ h g f. tt)
    (λ h g f. record { first = refl; asked = omega arith; between = omega arith; answered = omega arith; inside = f }))
  where
    WithinAt : Result (Option Spans) Refusal → Type 0
    WithinAt (Ok None) = Unit {0}
    WithinAt (Err k) = Unit {0}
    WithinAt (Ok (Some q)) = Within s at q

-- an error is always a cut
pub always_cut : (s : List ℕ) (at : ℕ) (why : Refusal) → exchange_at s at ≡ Err why → why ≡ Cut
always_cut s at why =
    by_place s at (λ (x : Result (Option Spans) Refusal). x ≡ Err why → why ≡ Cut) (λ h e. absurd (never (cc))) (λ h g e. cc) (λ h g f e. cc) (λ h g f e. absurd (never (cc)))
  where
    never : ◌≡◌ {A = ℕ} 0 1 → ⊥
    never e = omega arith

-- ---- any fuel that is at least the number of bytes serves
same_rest : (f g : List ℕ → Exchanges) (q bs : List ℕ) → ((t : List ℕ) → length t ≤ length bs → f t ≡ g t) → reply_and_rest f q bs ≡ reply_and_rest g q bs
same_rest f g q [] h = refl
same_rest f g q (n ∷ bs) h =
    ap (λ (x : Exchanges). unless (leb n (length bs)) cut (before (record { request = q; reply = take n bs }) x))
    (h (drop n bs) (simp length-drop (omega arith)))

pub same_fuel : (m k : ℕ) (bs : List ℕ) → length bs ≤ m → length bs ≤ k → exchanges_in m bs ≡ exchanges_in k bs
unfolding exchanges_in
same_fuel zero zero bs h g = refl
same_fuel zero (suc k) [] h g = refl
same_fuel zero (suc k) (n ∷ bs) h g = absurd (omega arith)
same_fuel (suc m) zero [] h g = refl
same_fuel (suc m) zero (n ∷ bs) h g = absurd (omega arith)
same_fuel (suc m) (suc k) [] h g = refl
same_fuel (suc m) (suc k) (n ∷ bs) h g =
    ap (λ (x : Exchanges). unless (leb n (length bs)) cut x)
    (same_rest (exchanges_in m) (exchanges_in k) (take n bs) (drop n bs)
    (λ t l. same_fuel m k t (omega (arith, length-drop n bs)) (omega (arith, length-drop n bs))))

-- ---- the exchanges from a place on, by what stands there

-- the exchange of these spans
abbrev pub spanned : List ℕ → Spans → Exchange
spanned s p = record { request = take (p.stop - p.request) (drop p.request s); reply = take (p.end - p.reply) (drop p.reply s) }

abbrev pub unrolled : List ℕ → Result (Option Spans) Refusal → Exchanges
unrolled s (Ok None) = whole []
unrolled s (Err k) = cut
unrolled s (Ok (Some p)) = before (spanned s p) (exchanges_in (length s) (drop p.end s))

-- the byte at a place, and the bytes after it
byte_and-rest : (s : List ℕ) (i : ℕ) → i < length s → drop i s ≡ get_or s i 0 ∷ drop (i + 1) s
byte_and-rest s i h = rw (add-one, drop-cons s i 0)

-- the exchanges from a byte on
from_byte : (s : List ℕ) (at : ℕ) → at < length s
    → exchanges_in (length s) (drop at s)
    ≡ unless (leb (get_or s at 0) (length (drop (at + 1) s))) cut
    (reply_and_rest (exchanges_in (length s)) (take (get_or s at 0) (drop (at + 1) s)) (drop (at + 1 + get_or s at 0) s))
unfolding exchanges_in
from_byte s at h =
    same_fuel (length s) (suc (length s)) (drop at s) (simp length-drop (omega arith)) (simp length-drop (omega arith))
    ∙ ap (exchanges_in (suc (length s))) (byte_and-rest s at h)
    ∙ ap (λ (l : List ℕ). unless (leb (get_or s at 0) (length (drop (at + 1) s))) cut (reply_and_rest (exchanges_in (length s)) (take (get_or s at 0) (drop (at + 1) s)) l))
    (drop-drop (get_or s at 0) (at + 1) s)

-- the reply and the rest, from the reply's length byte on
from_reply : (s q : List ℕ) (at : ℕ) → at < length s
    → reply_and_rest (exchanges_in (length s)) q (drop at s)
    ≡ unless (leb (get_or s at 0) (length (drop (at + 1) s))) cut
    (before (record { request = q; reply = take (get_or s at 0) (drop (at + 1) s) }) (exchanges_in (length s) (drop (at + 1 + get_or s at 0) s)))
from_reply s q at h =
    ap (reply_and_rest (exchanges_in (length s)) q) (byte_and-rest s at h)
    ∙ ap (λ (l : List ℕ). unless (leb (get_or s at 0) (length (drop (at + 1) s))) cut
    (before (record { request = q; reply = take (get_or s at 0) (drop (at + 1) s) }) (exchanges_in (length s) l)))
    (drop-drop (get_or s at 0) (at + 1) s)

cut_either : (b : Bool) (x : Exchanges) → x ≡ cut → unless b cut x ≡ cut
cut_either true x e = e
cut_either false x e = refl

none_left : (m : ℕ) → exchanges_in m [] ≡ whole []
unfolding exchanges_in
none_left zero = refl
none_left (suc m) = refl

-- an exchange that is begun, by where its request and its reply end
module _ (s : List ℕ) (at : ℕ) (h : at < length s) where
  cut_in_request : length s ≤ at + 1 + get_or s at 0 → exchanges_in (length s) (drop at s) ≡ cut
  cut_in_request g =
      from_byte s at h
      ∙ cut_either (leb (get_or s at 0) (length (drop (at + 1) s)))
      (reply_and_rest (exchanges_in (length s)) (take (get_or s at 0) (drop (at + 1) s)) (drop (at + 1 + get_or s at 0) s))
      (ap (reply_and_rest (exchanges_in (length s)) (take (get_or s at 0) (drop (at + 1) s))) (drop_of_length-le s g))

  module _ (g : at + 1 + get_or s at 0 < length s) where
    from_request : exchanges_in (length s) (drop at s)
        ≡ unless (leb (get_or s (at + 1 + get_or s at 0) 0) (length (drop (at + 1 + get_or s at 0 + 1) s))) cut
        (before
        (record { request = take (get_or s at 0) (drop (at + 1) s); reply = take (get_or s (at + 1 + get_or s at 0) 0) (drop (at + 1 + get_or s at 0 + 1) s) })
        (exchanges_in (length s) (drop (at + 1 + get_or s at 0 + 1 + get_or s (at + 1 + get_or s at 0) 0) s)))
    from_request =
        let l : get_or s at 0 ≤ length (drop (at + 1) s) = simp length-drop (omega arith) in
        from_byte s at h
        ∙ ap (λ (b : Bool). unless b cut (reply_and_rest (exchanges_in (length s)) (take (get_or s at 0) (drop (at + 1) s)) (drop (at + 1 + get_or s at 0) s)))
        (le-leb _ _ l)
        ∙ from_reply s (take (get_or s at 0) (drop (at + 1) s)) (at + 1 + get_or s at 0) g

    cut_in_reply : length s < at + 2 + get_or s at 0 + get_or s (at + 1 + get_or s at 0) 0 → exchanges_in (length s) (drop at s) ≡ cut
    cut_in_reply f =
        let l : length (drop (at + 1 + get_or s at 0 + 1) s) < get_or s (at + 1 + get_or s at 0) 0 = simp length-drop (omega arith) in
        from_request ∙ simp (lt-leb _ _ l)

    one_more : at + 2 + get_or s at 0 + get_or s (at + 1 + get_or s at 0) 0 ≤ length s
        → exchanges_in (length s) (drop at s) ≡ unrolled s (spans at (get_or s at 0) (get_or s (at + 1 + get_or s at 0) 0))
    one_more f =
        let n : ℕ = get_or s at 0 in
        let m : ℕ = get_or s (at + 1 + n) 0 in
        let l : m ≤ length (drop (at + 2 + n) s) = simp length-drop (omega arith) in
        let i : at + 1 + n + 1 ≡ at + 2 + n = omega arith in
        let j : (at + 1 + n) - (at + 1) ≡ n = omega arith in
        let k : (at + 2 + n + m) - (at + 2 + n) ≡ m = omega arith in
        from_request ∙ simp (i, le-leb _ _ l, j, k)

-- for every place: the exchange that stands there and those from its end on, or the end, or a cut
pub unroll : (s : List ℕ) (at : ℕ) → exchanges_in (length s) (drop at s) ≡ unrolled s (exchange_at s at)
unroll s at =
    by_place s at (λ (x : Result (Option Spans) Refusal). exchanges_in (length s) (drop at s) ≡ unrolled s x)
    (λ h. ap (exchanges_in (length s)) (drop_of_length-le s h) ∙ none_left (length s)) (cut_in_request s at) (cut_in_reply s at) (one_more s at)

-- ---- counting
abbrev pub more : ℕ → Result ℕ Refusal → Result ℕ Refusal
more n (Ok k) = Ok (n + k)
more n (Err why) = Err why

-- n exchanges stand before the place
pub record Counted (s : List ℕ) (at n : ℕ) : Type 0 where
  pub inside : at ≤ length s
  pub few : n ≤ at
  pub all : count_of (exchanges_in (length s) (drop header_width s)) ≡ more n (count_of (exchanges_in (length s) (drop at s)))

no_more : (x : Result ℕ Refusal) → x ≡ more 0 x
no_more (Ok k) = ap Ok (omega arith)
no_more (Err why) = refl

one_before : (n : ℕ) (e : Exchange) (x : Exchanges) → more n (count_of (before e x)) ≡ more (n + 1) (count_of x)
one_before n e (whole es) = ap Ok (omega arith)
one_before n e cut = refl

pub counted_none : (s : List ℕ) → header_width ≤ length s → Counted s header_width 0
counted_none s h = record { inside = h; few = omega arith; all = no_more (count_of (exchanges_in (length s) (drop header_width s))) }

module _ (s : List ℕ) (at n : ℕ) (k : Counted s at n) where
  all_by : (y : Result (Option Spans) Refusal) → exchange_at s at ≡ y → count_of (exchanges_in (length s) (drop header_width s)) ≡ more n (count_of (unrolled s y))
  all_by y e = k.all ∙ ap (λ (z : Exchanges). more n (count_of z)) (unroll s at ∙ ap (unrolled s) e)

  pub counted_all : exchange_at s at ≡ Ok None → count_of (exchanges_in (length s) (drop header_width s)) ≡ Ok n
  counted_all e = let z : n + 0 ≡ n = omega arith in all_by (Ok None) e ∙ ap Ok z

  pub counted-cut : (why : Refusal) → exchange_at s at ≡ Err why → count_of (exchanges_in (length s) (drop header_width s)) ≡ Err why
  counted-cut why e = all_by (Err why) e ∙ ap Err (sym (always_cut s at why e))

  pub counted_one : (p : Spans) → exchange_at s at ≡ Ok (Some p) → Counted s p.end (n + 1)
  counted_one p e =
      let w : Within s at p = within s at p e in
      record {
        inside = w.inside;
        few = omega (arith, k.few);
        all = all_by (Ok (Some p)) e ∙ one_before n (spanned s p) (exchanges_in (length s) (drop p.end s));
      }

  pub one_fits : (p : Spans) → exchange_at s at ≡ Ok (Some p) → n < length s
  one_fits p e = omega (arith, k.few, within s at p e)

  pub one_nearer : (p : Spans) → exchange_at s at ≡ Ok (Some p) → length s - p.end < length s - at
  one_nearer p e = omega (arith, within s at p e)

-- the summary of what a header and exchanges make, by their count
abbrev pub summary_by : ℕ → ℕ → Result ℕ Refusal → Summary
summary_by a c (Ok n) = counted a c n
summary_by a c (Err why) = J-number (refusal_number why)

by_count : (a c : ℕ) (x : Exchanges) (n : Result ℕ Refusal) → count_of x ≡ n → summary (with_header a c x) ≡ summary_by a c n
by_count a c (whole es) n e = ap (summary_by a c) e
by_count a c cut n e = ap (summary_by a c) e

pub ruleset counting = (counted_none, counted_all, counted-cut, counted_one, one_fits, one_nearer)

-- ---- reading, one law for each return
pub read_short : (s : List ℕ) → length s < header_width → summary (recording_of s) ≡ J-number 1
unfolding recording_of
read_short s h = simp (between_no 5 65535 (length s) (λ p q. omega arith))

pub read_long : (s : List ℕ) → 65535 < length s → summary (recording_of s) ≡ J-number 1
unfolding recording_of
read_long s h = simp (between_no 5 65535 (length s) (λ p q. omega arith))

module _ (s : List ℕ) (low : header_width ≤ length s) (high : length s ≤ 65535) where
  size : between 5 65535 (length s) ≡ true
  size = between_yes 5 65535 (length s) low high

  pub read_version : (get_or s 0 0 ≡ 1 → ⊥) → summary (recording_of s) ≡ J-number 2
  unfolding recording_of
  read_version h = simp (size, ne_eqb _ _ h)

  module _ (version : get_or s 0 0 ≡ 1) where
    pub read_field : (get_or s 1 0 * 256 + get_or s 2 0 ≡ length s → ⊥) → summary (recording_of s) ≡ J-number 3
    unfolding recording_of
    read_field h = simp (size, eq-eqb _ _ version, ne_eqb (get_or s 1 0 * 256 + get_or s 2 0) (length s) h)

    module _ (field : get_or s 1 0 * 256 + get_or s 2 0 ≡ length s) where
      same_size : eqb (get_or s 1 0 * 256 + get_or s 2 0) (length s) ≡ true
      same_size = eq-eqb (get_or s 1 0 * 256 + get_or s 2 0) (length s) field

      pub read_address : in_range (field_range address) (get_or s 3 0) ≡ false → summary (recording_of s) ≡ J-number 4
      unfolding recording_of
      read_address h = simp (size, eq-eqb _ _ version, same_size, h)

      module _ (unit : in_range (field_range address) (get_or s 3 0) ≡ true) where
        pub read_access : in_range (field_range access) (get_or s 4 0) ≡ false → summary (recording_of s) ≡ J-number 4
        unfolding recording_of
        read_access h = simp (size, eq-eqb _ _ version, same_size, unit, h)

        module _ (link : in_range (field_range access) (get_or s 4 0) ≡ true) where
          through : recording_of s ≡ with_header (get_or s 3 0) (get_or s 4 0) (exchanges_in (length s) (drop header_width s))
          unfolding recording_of
          through = simp (size, eq-eqb _ _ version, same_size, unit, link)

          pub read_cut : (why : Refusal) → count_of (exchanges_in (length s) (drop header_width s)) ≡ Err why → summary (recording_of s) ≡ read_as (Err why)
          read_cut why e = ap summary through ∙ by_count (get_or s 3 0) (get_or s 4 0) (exchanges_in (length s) (drop header_width s)) (Err why) e

          pub read_whole : (n : ℕ) → count_of (exchanges_in (length s) (drop header_width s)) ≡ Ok n → summary (recording_of s) ≡ counted (get_or s 3 0) (get_or s 4 0) n
          read_whole n e = ap summary through ∙ by_count (get_or s 3 0) (get_or s 4 0) (exchanges_in (length s) (drop header_width s)) (Ok n) e

pub ruleset reading = (read_short, read_long, read_version, read_field, read_address, read_access, read_cut, read_whole)
