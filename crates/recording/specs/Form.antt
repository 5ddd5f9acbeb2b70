-- Document 01, "Recordings and the judge": the form of a recording.
use Rattle.std.specs.Prelude.{ℕ, zero, suc, ◌+◌, ◌*◌, ◌&&◌, List, [], ◌∷◌, Option, Some, None, Result, Ok, Err, eqb, leb, ltb, length, get_or, take, drop}
use Rattle.base.specs.Test.{between, unless}
use Rattle.state.specs.Field.{address, access, field_range}
use Rattle.state.specs.Valid.{within}
use Rattle.recording.specs.declared.Spans.{Spans}
use Rattle.recording.specs.declared.Refusal.{Refusal}
use Rattle.recording.specs.declared.Refusal.TheVariants as refusal
use Rattle.recording.specs.declared.Recorded.{Recorded}

-- "one length byte and the request frame, one length byte and the reply frame (0: no reply)"
pub record Exchange : Type 0 where
  pub request : List ℕ
  pub reply : List ℕ

-- the exchanges "to the end", or "an exchange cut by the end"
pub data Exchanges : Type 0 where
  whole : List Exchange → Exchanges
  cut : Exchanges

abbrev pub before : Exchange → Exchanges → Exchanges
before e (whole es) = whole (e ∷ es)
before e cut = cut

-- the reply's length byte, the reply, and then the rest
abbrev pub reply_and_rest : (List ℕ → Exchanges) → List ℕ → List ℕ → Exchanges
reply_and_rest rest q [] = cut
reply_and_rest rest q (n ∷ bs) = unless (leb n (length bs)) cut (before (record { request = q; reply = take n bs }) (rest (drop n bs)))

-- at most as many exchanges as the first number says; there are never more than bytes
unfoldable pub exchanges_in : ℕ → List ℕ → Exchanges
exchanges_in zero bs = whole []
exchanges_in (suc m) [] = whole []
exchanges_in (suc m) (n ∷ bs) = unless (leb n (length bs)) cut (reply_and_rest (exchanges_in m) (take n bs) (drop n bs))

-- ---- a recording: "Version 1; total length in 2 bytes, high first; address; access; then exchanges to the end"
pub data Recording : Type 0 where
  J : ℕ → Recording
  recorded : ℕ → ℕ → List Exchange → Recording

abbrev pub with_header : ℕ → ℕ → Exchanges → Recording
with_header a c (whole es) = recorded a c es
with_header a c cut = J 5

abbrev pub header_width : ℕ
header_width = 5

-- "J1 under 5 or over 65,535 bytes; J2 version; J3 length field; J4 address or access out of range; J5 an exchange cut by the end"
unfoldable pub recording_of : List ℕ → Recording
recording_of bs =
    unless (between 5 65535 (length bs)) (J 1)
    (unless (eqb (get_or bs 0 0) 1) (J 2)
    (unless (eqb (get_or bs 1 0 * 256 + get_or bs 2 0) (length bs)) (J 3)
    (unless (within (field_range address) (get_or bs 3 0) && within (field_range access) (get_or bs 4 0)) (J 4)
    (with_header (get_or bs 3 0) (get_or bs 4 0) (exchanges_in (length bs) (drop header_width bs))))))

-- ---- the same by places in the bytes, as the code goes through them

-- where the exchange that starts at a place has its request and its reply; the next one starts where the reply ends
abbrev pub spans : ℕ → ℕ → ℕ → Result (Option Spans) Refusal
spans at n m = Ok (Some (record { request = at + 1; stop = at + 1 + n; reply = at + 2 + n; end = at + 2 + n + m }))

unfoldable pub exchange_at : List ℕ → ℕ → Result (Option Spans) Refusal
exchange_at s at =
    unless (ltb at (length s)) (Ok None)
    (unless (ltb (at + 1 + get_or s at 0) (length s)) (Err refusal.Cut)
    (unless (leb (at + 2 + get_or s at 0 + get_or s (at + 1 + get_or s at 0) 0) (length s)) (Err refusal.Cut)
    (spans at (get_or s at 0) (get_or s (at + 1 + get_or s at 0) 0))))

-- the code's answer as document 01 numbers it: Jn, or the address, the access and the number of exchanges
pub data Summary : Type 0 where
  J-number : ℕ → Summary
  counted : ℕ → ℕ → ℕ → Summary

abbrev pub summary : Recording → Summary
summary (J n) = J-number n
summary (recorded a c es) = counted a c (length es)

abbrev pub refusal_number : Refusal → ℕ
refusal_number refusal.Length = 1
refusal_number refusal.Version = 2
refusal_number refusal.LengthField = 3
refusal_number refusal.Header = 4
refusal_number refusal.Cut = 5

abbrev pub read_as : Result Recorded Refusal → Summary
read_as (Err k) = J-number (refusal_number k)
read_as (Ok r) = counted r.address r.access r.count

abbrev pub count_of : Exchanges → Result ℕ Refusal
count_of (whole es) = Ok (length es)
count_of cut = Err refusal.Cut
