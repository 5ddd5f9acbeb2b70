-- What one answered request teaches is exact: by what was heard the possible records are those that were possible and give this reply,
-- and by what was learnt they are these, as the request leaves them. By the verdict: guards and changes are exact, and so is what a reply
-- shows; and the reply itself tells whether anything changes. Assumes nothing.
use Rattle.std.specs.Prelude.{Option, Some, None}
use Prim.Native.Nat.{ℕ}
use mathlib.Core.Bool.{true}
use mathlib.Core.Path.{◌≡◌, refl, sym, ap, subst, ◌∙◌}
use mathlib.Core.List.{List}
use lib.Dec.{eqb}
use borrow.Author.Tests.{eqb-true, eqb-false}
use Rattle.state.specs.declared.Record.{Record}
use Rattle.state.specs.Field.{access, get, field_range}
use Rattle.state.specs.Valid.{within}
use Rattle.command.specs.Commands.{commands, row_of, Arguments, Reply, applied}
use Rattle.command.specs.Refusals.{refusals}
use Rattle.command.specs.Answer.{Verdict, NO, accepted, refusal_text}
use Rattle.command.specs.Request.{Asked, refused, asked, Guard, guards_in, guarded, changes_of, answer_text, served_by, served_of}
use Rattle.command.proofs.Tables.{Fitting}
use Rattle.command.proofs.Fits.{Sound, SoundAsked, effect-fits}
use Rattle.knowledge.specs.declared.Knowledge.{Knowledge}
use Rattle.knowledge.specs.Knowledge.{dead}
use Rattle.knowledge.proofs.Possible.{Possible, Kept}
use Rattle.knowledge.proofs.Cut.{dead-none, dead_kept}
use Rattle.knowledge.proofs.Start.{own_access}
use Rattle.showing.specs.Heard.{refusal_in}
use Rattle.showing.proofs.Exact.{refusal-told, refusal_left, shows_no_refusal, shown_kept, shown-told, shown_left, reply_readable}
use Rattle.learning.specs.Learn.{passed, heard_by, heard_of, moved_unless, learn_of}
use Rattle.learning.proofs.Guards.{AllFine, fine_below, from_pick, to_pick, passed-told, passed_left, passed_kept, refused-told, refused_left, refused_kept, guards_fine}
use Rattle.learning.proofs.Moves.{Follows, stays, follows}

-- ---- a verdict's reply is read as that verdict
abbrev read_as : Verdict → Option ℕ
read_as (NO n) = Some n
read_as accepted = None

verdict_read : (c : ℕ) (x : Arguments) (a : ℕ) (r : Record) (v : Verdict) → Sound c x → guarded (guards_in refusals c x a) r ≡ v
    → refusal_in (answer_text (served_by v (asked c x) r).0 r) ≡ read_as v
verdict_read c x a r (NO n) sound g = refusal_left n (fine_below r n (guards_in refusals c x a) (guards_fine c x a sound) g)
verdict_read c x a r accepted sound g = shows_no_refusal ((row_of c commands).reply x) r (reply_readable c x sound)

-- ---- what is heard of one that is asked: code c with arguments x, on a link of access a
module _ {d a : ℕ} (c : ℕ) (x : Arguments) (b : List ℕ) (k : Knowledge) (kept : Kept d a k) (sound : Sound c x) where
  guards : List Guard
  guards = guards_in refusals c x a

  fine : AllFine guards
  unfolding guards
  fine = guards_fine c x a sound

  -- the reply if it is accepted: nothing refuses, and it is shown
  abbrev reply : Reply
  reply = (row_of c commands).reply x

  through : Kept d a (passed guards k)
  through = passed_kept guards k kept fine

  asked_kept : Kept d a (heard_of a (asked c x) b k)
  unfolding heard_of guards
  asked_kept = go (refusal_in b)
    where
      go : (y : Option ℕ) → Kept d a (heard_by y a (asked c x) b k)
      go (Some n) = refused_kept n guards k kept fine
      go None = shown_kept reply b (passed guards k) through (reply_readable c x sound)

  module _ (w : within (field_range access) a ≡ true) (r : Record) where
    -- a possible record answers by the guards of this access
    answered : Possible k r → answer_text (served_of (asked c x) r).0 r ≡ answer_text (served_by (guarded guards r) (asked c x) r).0 r
    unfolding served_of guards
    answered t = ap (λ (i : ℕ). answer_text (served_by (guarded (guards_in refusals c x i) r) (asked c x) r).0 r) (own_access k r kept w t)

    asked-told : Possible (heard_of a (asked c x) b k) r → Possible k r × (answer_text (served_of (asked c x) r).0 r ≡ b)
    unfolding heard_of guards
    asked-told = go (refusal_in b) refl
      where
        by : (v : Verdict) → Possible k r → guarded guards r ≡ v → answer_text (served_by v (asked c x) r).0 r ≡ b
            → Possible k r × (answer_text (served_of (asked c x) r).0 r ≡ b)
        by v was g said = (was, answered was ∙ (ap (λ (u : Verdict). answer_text (served_by u (asked c x) r).0 r) g ∙ said))

        go : (y : Option ℕ) → refusal_in b ≡ y → Possible (heard_by y a (asked c x) b k) r → Possible k r × (answer_text (served_of (asked c x) r).0 r ≡ b)
        go (Some n) e t =
            let (was, g) = refused-told n guards k r kept fine t in
            by (NO n) was g (sym (refusal-told b n e).0)
        go None e t =
            let (so, said) = shown-told reply b (passed guards k) r through (reply_readable c x sound) t in
            let (was, g) = passed-told guards k r kept fine so in
            by accepted was g said

    asked_left : Possible k r → answer_text (served_of (asked c x) r).0 r ≡ b → Possible (heard_of a (asked c x) b k) r
    unfolding heard_of guards
    asked_left t e =
        let v = guarded guards r in
        let said : answer_text (served_by v (asked c x) r).0 r ≡ b = sym (answered t) ∙ e in
        subst (λ (y : Option ℕ). Possible (heard_by y a (asked c x) b k) r) (sym (verdict_read c x a r v sound refl) ∙ ap refusal_in said) (go v refl said)
      where
        go : (v : Verdict) → guarded guards r ≡ v → answer_text (served_by v (asked c x) r).0 r ≡ b → Possible (heard_by (read_as v) a (asked c x) b k) r
        go (NO n) g said = refused_left n guards k r kept fine t g
        go accepted g said = shown_left reply b (passed guards k) r through (reply_readable c x sound) (passed_left guards k r kept fine t g) said

-- ---- what is heard
pub heard-told : {d a : ℕ} (q : Asked) (b : List ℕ) (k : Knowledge) (r : Record) → Kept d a k → within (field_range access) a ≡ true → SoundAsked q
    → Possible (heard_of a q b k) r → Possible k r × (answer_text (served_of q r).0 r ≡ b)
unfolding heard_of served_of
heard-told {d} {a} (refused n) b k r kept w sound = go (refusal_in b) refl
  where
    go : (y : Option ℕ) → refusal_in b ≡ y → Possible (heard_by y a (refused n) b k) r → Possible k r × (refusal_text n ≡ b)
    go (Some m) e =
        from_pick (λ j. Possible j r) (eqb m n) k (dead k) (λ same t. (t, ap refusal_text (sym (eqb-true m n same)) ∙ sym (refusal-told b m e).0))
        (λ other t. absurd (dead-none k r t))
    go None e = λ t. absurd (dead-none k r t)
heard-told (asked c x) b k r kept w sound = asked-told c x b k kept sound w r

pub heard_left : {d a : ℕ} (q : Asked) (b : List ℕ) (k : Knowledge) (r : Record) → Kept d a k → within (field_range access) a ≡ true → SoundAsked q
    → Possible k r → answer_text (served_of q r).0 r ≡ b → Possible (heard_of a q b k) r
unfolding heard_of served_of
heard_left {d} {a} (refused n) b k r kept w sound t e =
    subst (λ (y : Option ℕ). Possible (heard_by y a (refused n) b k) r) (sym (refusal_left n sound) ∙ ap refusal_in e)
    (to_pick (λ j. Possible j r) (eqb n n) k (dead k) (λ same. t) (λ other. absurd (eqb-false n n other refl)))
heard_left (asked c x) b k r kept w sound t e = asked_left c x b k kept sound w r t e

pub heard_kept : {d a : ℕ} (q : Asked) (b : List ℕ) (k : Knowledge) → Kept d a k → SoundAsked q → Kept d a (heard_of a q b k)
unfolding heard_of
heard_kept {d} {a} (refused n) b k kept sound = go (refusal_in b)
  where
    go : (y : Option ℕ) → Kept d a (heard_by y a (refused n) b k)
    go (Some m) = to_pick (Kept d a) (eqb m n) k (dead k) (λ same. kept) (λ other. dead_kept k kept)
    go None = dead_kept k kept
heard_kept (asked c x) b k kept sound = asked_kept c x b k kept sound

-- ---- what changes then: the record's own reply tells whether anything does
abbrev applied_unless : Option ℕ → Asked → Record → Record
applied_unless (Some n) q r = r
applied_unless None q r = applied (changes_of q) r

served_after : (q : Asked) (b : List ℕ) (r : Record) → SoundAsked q → answer_text (served_of q r).0 r ≡ b → (served_of q r).1 ≡ applied_unless (refusal_in b) q r
unfolding served_of
served_after (refused n) b r sound e = ap (λ (y : Option ℕ). applied_unless y (refused n) r) (sym (refusal_left n sound) ∙ ap refusal_in e)
served_after (asked c x) b r sound e =
    let v = guarded (guards_in refusals c x (get access r)) r in
    go v ∙ ap (λ (y : Option ℕ). applied_unless y (asked c x) r) (sym (verdict_read c x (get access r) r v sound refl) ∙ ap refusal_in e)
  where
    go : (v : Verdict) → (served_by v (asked c x) r).1 ≡ applied_unless (read_as v) (asked c x) r
    go (NO n) = refl
    go accepted = refl

changes_fit : (q : Asked) → SoundAsked q → Fitting (changes_of q)
changes_fit (refused n) sound = tt
changes_fit (asked c x) sound = effect-fits c x sound

steps : (y : Option ℕ) (q : Asked) → SoundAsked q → Follows (moved_unless y q) (applied_unless y q)
steps (Some n) q sound = stays
steps None q sound = follows (changes_of q) (changes_fit q sound)

-- ---- what is learnt
pub learn_onward : {d a : ℕ} (q : Asked) (b : List ℕ) (k : Knowledge) (r : Record) → Kept d a k → within (field_range access) a ≡ true → SoundAsked q
    → Possible k r → answer_text (served_of q r).0 r ≡ b → Possible (learn_of a q b k) (served_of q r).1
unfolding learn_of
learn_onward {d} {a} q b k r kept w sound t e =
    subst (Possible (learn_of a q b k)) (sym (served_after q b r sound e))
    ((steps (refusal_in b) q sound).onward (heard_of a q b k) r (heard_kept q b k kept sound) (heard_left q b k r kept w sound t e))

pub learn_back : {d a : ℕ} (q : Asked) (b : List ℕ) (k : Knowledge) (s : Record) → Kept d a k → within (field_range access) a ≡ true → SoundAsked q
    → Possible (learn_of a q b k) s → (r : Record) × Possible k r × (answer_text (served_of q r).0 r ≡ b) × ((served_of q r).1 ≡ s)
unfolding learn_of
learn_back {d} {a} q b k s kept w sound t =
    let (r, left, change) = (steps (refusal_in b) q sound).back (heard_of a q b k) s (heard_kept q b k kept sound) t in
    let (was, said) = heard-told q b k r kept w sound left in
    (r, was, said, served_after q b r sound said ∙ change)

pub learn_kept : {d a : ℕ} (q : Asked) (b : List ℕ) (k : Knowledge) → Kept d a k → SoundAsked q → Kept d a (learn_of a q b k)
unfolding learn_of
learn_kept {d} {a} q b k kept sound = (steps (refusal_in b) q sound).keeps (heard_of a q b k) (heard_kept q b k kept sound)
