-- One law for each return of the functions that learn from a request and its reply. Assumes nothing.
use Rattle.std.specs.Prelude.{Option, Some, None, Result, Ok, Err}
use Prim.Native.Nat.{ℕ}
use mathlib.Core.Bool.{Bool, true, false}
use mathlib.Core.Path.{◌≡◌, sym, ap, ◌∙◌}
use mathlib.Core.List.{List}
use borrow.Author.Tests.{eq-eqb, ne_eqb}
use Rattle.base.specs.Test.{pick}
use Rattle.command.specs.declared.Reading.{Reading}
use Rattle.command.specs.declared.Refusal.{Refusal}
use Rattle.command.specs.declared.Request.{Request}
use Rattle.command.specs.declared.Request.TheVariants.{Read, Write}
use Rattle.command.specs.declared.Writing.{Writing}
use Rattle.command.specs.Commands.{Reply, acknowledged, Change}
use Rattle.command.specs.Request.{Guard, guards_of, reply_of, changes_of, refusal_number, reading_as, writing_as, request_as}
use Rattle.command.proofs.Serving.{acknowledges, reads_only}
use Rattle.knowledge.specs.declared.Knowledge.{Knowledge}
use Rattle.knowledge.specs.Knowledge.{dead}
use Rattle.showing.specs.Heard.{refusal_in}
use Rattle.showing.specs.Shown.{shown}
use Rattle.learning.specs.Learn.{passed, refused_by, moved, refusal_heard, acceptance_heard, heard_by, heard_of, moved_unless, learn_of, taught_of}

-- ---- what changes: nothing by a text that is refused, nor by a read, whatever the access
module _ (q : Result Request Refusal) (k s : Knowledge) where
  changed_as : (p : Result Request Refusal) → q ≡ p → s ≡ moved (changes_of (request_as p)) k → s ≡ moved (changes_of (request_as q)) k
  changed_as p e h = h ∙ ap (λ (x : Result Request Refusal). moved (changes_of (request_as x)) k) (sym e)

  pub refused_unchanged : (r : Refusal) → q ≡ Err r → s ≡ k → s ≡ moved (changes_of (request_as q)) k
  unfolding moved
  refused_unchanged r e h = changed_as (Err r) e h

  pub read_unchanged : (x : Reading) → q ≡ Ok (Read x) → s ≡ k → s ≡ moved (changes_of (request_as q)) k
  unfolding moved
  read_unchanged x e h = changed_as (Ok (Read x)) e (h ∙ ap (λ (cs : List Change). moved cs k) (sym (reads_only x 0).1))

  pub write_changed : (w : Writing) → q ≡ Ok (Write w) → s ≡ moved (changes_of (writing_as w)) k → s ≡ moved (changes_of (request_as q)) k
  write_changed w e h = changed_as (Ok (Write w)) e h

module _ (q : Result Request Refusal) (a : ℕ) (k s : Knowledge) where
  -- ---- the reply was NO n
  module _ (n : ℕ) where
    refused_as : (p : Result Request Refusal) → q ≡ p → s ≡ refusal_heard a (request_as p) n k → s ≡ refusal_heard a (request_as q) n k
    refused_as p e h = h ∙ ap (λ (x : Result Request Refusal). refusal_heard a (request_as x) n k) (sym e)

    module _ (r : Refusal) (m : ℕ) (e : q ≡ Err r) (f : m ≡ refusal_number r) where
      pub refused_so : n ≡ m → s ≡ k → s ≡ refusal_heard a (request_as q) n k
      refused_so g h = refused_as (Err r) e (h ∙ simp (eq-eqb n (refusal_number r) (g ∙ f)))

      pub refused_otherwise : (n ≡ m → ⊥) → s ≡ dead k → s ≡ refusal_heard a (request_as q) n k
      refused_otherwise g h = refused_as (Err r) e (h ∙ simp (ne_eqb n (refusal_number r) (λ x. g (x ∙ sym f))))

    pub read_refused : (x : Reading) → q ≡ Ok (Read x) → s ≡ dead k → s ≡ refusal_heard a (request_as q) n k
    unfolding refused_by
    read_refused x e h = refused_as (Ok (Read x)) e (h ∙ ap (λ (gs : List Guard). refused_by n gs k) (sym (reads_only x a).0))

    pub write_refused : (w : Writing) (gs : List Guard) → q ≡ Ok (Write w) → gs ≡ guards_of a (writing_as w) → s ≡ refused_by n gs k
        → s ≡ refusal_heard a (request_as q) n k
    write_refused w gs e f h = refused_as (Ok (Write w)) e (h ∙ ap (λ (x : List Guard). refused_by n x k) f)

  -- ---- the reply b was no refusal
  module _ (b : List ℕ) where
    accepted_as : (p : Result Request Refusal) → q ≡ p → s ≡ acceptance_heard a (request_as p) b k → s ≡ acceptance_heard a (request_as q) b k
    accepted_as p e h = h ∙ ap (λ (x : Result Request Refusal). acceptance_heard a (request_as x) b k) (sym e)

    pub never_accepted : (r : Refusal) → q ≡ Err r → s ≡ dead k → s ≡ acceptance_heard a (request_as q) b k
    never_accepted r e h = accepted_as (Err r) e h

    pub read_accepted : (x : Reading) → q ≡ Ok (Read x) → s ≡ shown (reply_of (reading_as x)) b k → s ≡ acceptance_heard a (request_as q) b k
    unfolding passed
    read_accepted x e h =
        accepted_as (Ok (Read x)) e (h ∙ ap (λ (gs : List Guard). shown (reply_of (reading_as x)) b (passed gs k)) (sym (reads_only x a).0))

    pub write_accepted : (w : Writing) (gs : List Guard) (t : Knowledge) → q ≡ Ok (Write w) → gs ≡ guards_of a (writing_as w)
        → t ≡ passed gs k → s ≡ shown acknowledged b t → s ≡ acceptance_heard a (request_as q) b k
    write_accepted w gs t e f i h =
        accepted_as (Ok (Write w)) e
        (h ∙ (ap (λ (x : Reply). shown x b t) (sym (acknowledges w)) ∙ ap (shown (reply_of (writing_as w)) b) (i ∙ ap (λ (x : List Guard). passed x k) f)))

    -- ---- any reply: what it tells, and with it what changes then
    module _ (x : Option ℕ) (i : x ≡ refusal_in b) where
      heard_as : (y : Option ℕ) → x ≡ y → s ≡ heard_by y a (request_as q) b k → s ≡ heard_of a (request_as q) b k
      unfolding heard_of
      heard_as y e h = h ∙ ap (λ (z : Option ℕ). heard_by z a (request_as q) b k) (sym e ∙ i)

      heard-refusal : (n : ℕ) → x ≡ Some n → s ≡ refusal_heard a (request_as q) n k → s ≡ heard_of a (request_as q) b k
      heard-refusal n e h = heard_as _ e h

      heard_acceptance : x ≡ None → s ≡ acceptance_heard a (request_as q) b k → s ≡ heard_of a (request_as q) b k
      heard_acceptance e h = heard_as _ e h

      learnt_as : (y : Option ℕ) → x ≡ y → s ≡ moved_unless y (request_as q) (heard_by y a (request_as q) b k) → s ≡ learn_of a (request_as q) b k
      unfolding heard_of learn_of
      learnt_as y e h = h ∙ ap (λ (z : Option ℕ). moved_unless z (request_as q) (heard_by z a (request_as q) b k)) (sym e ∙ i)

      learnt-refusal : (n : ℕ) → x ≡ Some n → s ≡ refusal_heard a (request_as q) n k → s ≡ learn_of a (request_as q) b k
      learnt-refusal n e h = learnt_as _ e h

      learnt_acceptance : (t : Knowledge) → x ≡ None → t ≡ acceptance_heard a (request_as q) b k → s ≡ moved (changes_of (request_as q)) t
          → s ≡ learn_of a (request_as q) b k
      learnt_acceptance t e f h = learnt_as _ e (h ∙ ap (moved (changes_of (request_as q))) f)

      -- of the record as it is left, or as it was
      module _ (t : Bool) where
        either : s ≡ learn_of a (request_as q) b k → s ≡ heard_of a (request_as q) b k → s ≡ taught_of t a (request_as q) b k
        unfolding taught_of
        either l h = go t
          where
            go : (u : Bool) → s ≡ pick u (learn_of a (request_as q) b k) (heard_of a (request_as q) b k)
            go true = l
            go false = h

        pub taught_refusal : (n : ℕ) → x ≡ Some n → s ≡ refusal_heard a (request_as q) n k → s ≡ taught_of t a (request_as q) b k
        taught_refusal n e h = either (learnt-refusal n e h) (heard-refusal n e h)

        pub taught_after : (u : Knowledge) → t ≡ true → x ≡ None → u ≡ acceptance_heard a (request_as q) b k → s ≡ moved (changes_of (request_as q)) u
            → s ≡ taught_of t a (request_as q) b k
        unfolding taught_of
        taught_after u z e f h =
            learnt_acceptance u e f h ∙ ap (λ (w : Bool). pick w (learn_of a (request_as q) b k) (heard_of a (request_as q) b k)) (sym z)

        pub taught_before : t ≡ false → x ≡ None → s ≡ acceptance_heard a (request_as q) b k → s ≡ taught_of t a (request_as q) b k
        unfolding taught_of
        taught_before z e h = heard_acceptance e h ∙ ap (λ (w : Bool). pick w (learn_of a (request_as q) b k) (heard_of a (request_as q) b k)) (sym z)

pub ruleset changing = (refused_unchanged, read_unchanged, write_changed)

pub ruleset refusing = (refused_so, refused_otherwise, read_refused, write_refused)

pub ruleset accepting = (never_accepted, read_accepted, write_accepted)

pub ruleset learning = (taught_refusal, taught_after, taught_before)
