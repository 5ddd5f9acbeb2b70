-- The judge by its own steps, what is known after so many exchanges, and why a recording is refuted. `proofs/Theorem.antt` shows that
-- these are the answers that the statements of `recording` call for; a reader of those need not read this.
use Rattle.std.specs.Prelude.{ℕ, ◌+◌, ◌<◌, Bool, true, ◌≡◌, List, [], Result, Ok, Err, ltb, length, get_or, take, drop, replicate}
use Rattle.base.specs.Test.{pick}
use Rattle.state.specs.Field.{field_count}
use Rattle.knowledge.specs.declared.Knowledge.{Knowledge}
use Rattle.knowledge.specs.Knowledge.{start, sets_of}
use Rattle.recording.specs.declared.Refusal.{Refusal}
use Rattle.recording.specs.Form.{Exchange, whole, exchanges_in, Recording, J, recorded, recording_of, refusal_number}
use Rattle.recording.specs.Replay.{fits, refuted, not_judged, before_asked}
use Rattle.recording.specs.Statement as statement
use Rattle.recording.specs.Statement.{refused, judged, asks}
use Rattle.recording.specs.Known as known
use Rattle.recording.specs.Progress.{passed, learnt, answer_of}
use Rattle.hearing.specs.Hearing.{exchange, exchange_learnt}
use Rattle.reason.specs.declared.Reason.{Reason}
use Rattle.reason.specs.Reason.{reason_of, reason_as}
use Rattle.judging.specs.declared.Judgement.{Judgement}
use Rattle.judging.specs.declared.Judgement.TheVariants as judgement
use Rattle.judging.specs.declared.Told.{Told}
use Rattle.judging.specs.declared.Told.TheVariants as told
use Rattle.judging.specs.declared.Progress.{Progress}
use Rattle.judging.specs.declared.Cause.{Cause}
use Rattle.judging.specs.declared.Cause.TheVariants as cause

-- the code's answer as documents 01 and 02 have it: fits N, refuted at I of N, not judged at I (of N), refused Jn
abbrev pub judgement_as : Result Judgement Refusal → statement.Judgement
judgement_as (Ok (judgement.Fits n)) = judged (fits n)
judgement_as (Ok (judgement.Refuted i n)) = judged (refuted i n)
judgement_as (Ok (judgement.NotJudged i n)) = judged (not_judged i n)
judgement_as (Err k) = refused (refusal_number k)

abbrev pub living : Knowledge → Bool
living k = k.alive

-- the exchanges that are judged: those before the first request for a kept batch that is not silent
abbrev pub judgeable : ℕ → List Exchange → List Exchange
judgeable a es = before_asked (asks a) es

-- ---- the judge
abbrev pub judgement_for : Recording → statement.Judgement
judgement_for (J n) = refused n
judgement_for (recorded a c es) = judged (answer_of (exchange_learnt a c) living (asks a) (start a c) es)

unfoldable pub judgement_of : List ℕ → statement.Judgement
judgement_of bs = judgement_for (recording_of bs)

-- ---- what is known after the first k exchanges

-- the code's answer: Jn, the exchange that refutes, the one at which it is not judged, or that the codes of the sets stand beside it
pub data Telling : Type 0 where
  unread : ℕ → Telling
  broken : ℕ → Telling
  halted : ℕ → Telling
  sets : Telling

-- beside anything but sets no field's set has a number
abbrev pub no_sets : List ℕ
no_sets = replicate field_count 0

-- p of the m that are judged pass, of n in all
abbrev pub known_by : ℕ → ℕ → ℕ → Knowledge → Telling × List ℕ
known_by p m n x = pick (ltb p m) (broken (p + 1), no_sets) (pick (ltb m n) (halted (m + 1), no_sets) (sets, x.codes))

-- of some exchanges
abbrev pub known_after : ℕ → ℕ → List Exchange → Telling × List ℕ
known_after a c es =
    known_by (passed (exchange_learnt a c) living (start a c) (judgeable a es)) (length (judgeable a es)) (length es)
    (learnt (exchange_learnt a c) (start a c) (judgeable a es))

abbrev pub known_for : ℕ → Recording → Telling × List ℕ
known_for k (J n) = (unread n, no_sets)
known_for k (recorded a c es) = known_after a c (take k es)

unfoldable pub known_of : List ℕ → ℕ → Telling × List ℕ
known_of bs k = known_for k (recording_of bs)

abbrev pub known_as : Result Told Refusal → Telling × List ℕ
known_as (Ok (told.Sets cs)) = (sets, cs)
known_as (Ok (told.Refuted i)) = (broken i, no_sets)
known_as (Ok (told.NotJudged i)) = (halted i, no_sets)
known_as (Err k) = (unread (refusal_number k), no_sets)

-- as the statement has it
abbrev pub told_by : Telling × List ℕ → known.Told
told_by (unread n, cs) = known.refused n
told_by (broken i, cs) = known.refuted i
told_by (halted i, cs) = known.not_judged i
told_by (sets, cs) = known.known (sets_of record { alive = true; codes = cs })

-- ---- why a recording is refuted: Jn, fits N, not judged at I of N, or refuted at I of N and the reason
pub data Caused : Type 0 where
  unexplained : ℕ → Caused
  fitting : ℕ → Caused
  unjudged : ℕ → ℕ → Caused
  because : ℕ → ℕ → Reason → Caused

abbrev pub caused_as : Result Cause Refusal → Caused
caused_as (Ok (cause.Fits n)) = fitting n
caused_as (Ok (cause.NotJudged i n)) = unjudged i n
caused_as (Ok (cause.Refuted i n why)) = because i n why
caused_as (Err k) = unexplained (refusal_number k)

-- p of the m that are judged pass, of n in all: the next one refutes, by what is known after those
abbrev pub why_by : ℕ → ℕ → List Exchange → ℕ → ℕ → ℕ → Caused
why_by a c es p m n =
    pick (ltb p m) (because (p + 1) n (reason_of a c (learnt (exchange_learnt a c) (start a c) (take p es)) (get_or es p (exchange [] []))))
    (pick (ltb m n) (unjudged (m + 1) n) (fitting n))

abbrev pub why_for : Recording → Caused
why_for (J n) = unexplained n
why_for (recorded a c es) = why_by a c es (passed (exchange_learnt a c) living (start a c) (judgeable a es)) (length (judgeable a es)) (length es)

unfoldable pub why_of : List ℕ → Caused
why_of bs = why_for (recording_of bs)

-- as the statement has it
abbrev pub reasoned_by : Caused → known.Why
reasoned_by (unexplained n) = known.unread n
reasoned_by (fitting n) = known.fitting n
reasoned_by (unjudged i n) = known.unjudged i n
reasoned_by (because i n why) = known.because i n (reason_as why)

-- ---- the loop over the exchanges

-- how many passed
abbrev pub passed_in : Result Progress ℕ → ℕ
passed_in (Ok p) = p.passed
passed_in (Err n) = n

-- of the exchanges held, es are judged: all of them pass, with what is known then, and the next one starts at the place; or one does not
abbrev pub Reached : List ℕ → ℕ → ℕ → List Exchange → List Exchange → Result Progress ℕ → Type 0
Reached s a c held es (Ok p) =
    (p.passed ≡ length es) × (p.known ≡ learnt (exchange_learnt a c) (start a c) es) × (exchanges_in (length s) (drop p.at s) ≡ whole (drop p.passed held))
Reached s a c held es (Err n) = n < length es

-- of the first m
pub record Followed (s : List ℕ) (a c m : ℕ) (r : Result Progress ℕ) : Type 0 where
  pub held : List Exchange
  pub same : recording_of s ≡ recorded a c held
  pub count : passed_in r ≡ passed (exchange_learnt a c) living (start a c) (judgeable a (take m held))
  pub few : passed_in r < length s
  pub reached : Reached s a c held (judgeable a (take m held)) r

pub record WellFormed (s : List ℕ) (a c : ℕ) : Type 0 where
  pub held : List Exchange
  pub same : recording_of s ≡ recorded a c held

-- of n exchanges p pass, and not all that are judged
pub record Breaks (s : List ℕ) (a c n p : ℕ) : Type 0 where
  pub held : List Exchange
  pub same : recording_of s ≡ recorded a c held
  pub counted : length held ≡ n
  pub passing : passed (exchange_learnt a c) living (start a c) (judgeable a held) ≡ p
  pub fewer : p < length (judgeable a held)
  pub inside : p < n
