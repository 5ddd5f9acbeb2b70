-- What is shown of one field is exact: a test that holds or not, as shown, and a number. By the laws of one cut of the knowledge. Assumes
-- nothing.
use Rattle.std.specs.Prelude.{Option, Some, None}
use Prim.Native.Nat.{ℕ, ◌≤◌, ◌<◌, ◌^◌}
use mathlib.Core.Bool.{Bool, true, false, not, ◌&&◌, false≢true}
use mathlib.Core.Path.{◌≡◌, refl, sym, ap, subst, ◌∙◌}
use mathlib.Core.List.{List, ◌++◌}
use native.Mathlib.Omega.{arith}
use lib.Dec.{eqb, ltb}
use borrow.Author.Tests.{eq-eqb, eqb-true, ltb-true, not-true}
use Rattle.base.specs.Test.{unless}
use Rattle.base.proofs.Tests.{and_left, and_right, between_high}
use Rattle.state.specs.declared.Record.{Record}
use Rattle.state.specs.Parameter.{parameter_count}
use Rattle.state.specs.Field.{Field, access, value, get, position, field_range, Held}
use Rattle.state.specs.Valid.{valid}
use Rattle.state.proofs.Kept.{field_in}
use Rattle.text.specs.Word.{digits, equal}
use Rattle.command.specs.Status.{Test, any_alarm, passes}
use Rattle.text.proofs.Words.{equal_true, equal-same}
use Rattle.knowledge.specs.declared.Knowledge.{Knowledge}
use Rattle.knowledge.specs.Sets.{Kind, several, single, alarmed, kind_of, mask_by}
use Rattle.knowledge.specs.Knowledge.{dead, restricted, passing}
use Rattle.knowledge.proofs.Possible.{Possible, Kept}
use Rattle.knowledge.proofs.Codes.{is_several, is_several_lem, Testable, small_testable, testable_not, alarm_testable}
use Rattle.knowledge.proofs.Cut.{dead-none, dead_kept, passing-told, passing_left, passing_kept, holding-told, holding_left, holding_kept, settled-told, settled_left, settled_kept}
use Rattle.showing.specs.Heard.{number_behind}
use Rattle.showing.specs.Shown.{test_shown, number_by, number_shown}
use Rattle.showing.proofs.Reading.{behind_told, behind_left}

-- from knowledge k to knowledge l exactly those records are left of which P holds, and what is kept stays kept
pub record Shows (a c : ℕ) (k l : Knowledge) (P : Record → Type 0) : Type 0 where
  pub kept : Kept a c l
  pub told : (r : Record) → Possible l r → Possible k r × P r
  pub left : (r : Record) → Possible k r → P r → Possible l r

-- it holds of every record
pub all_shown : {a c : ℕ} (k : Knowledge) (P : Record → Type 0) → Kept a c k → ((r : Record) → P r) → Shows a c k k P
all_shown k P kept h = record { kept = kept; told = λ r p. (p, h r); left = λ r p e. p }

-- the same shown in other words, of a valid record
pub shown_as : {a c : ℕ} (k l : Knowledge) (P Q : Record → Type 0) → ((r : Record) → valid r ≡ true → P r → Q r)
    → ((r : Record) → valid r ≡ true → Q r → P r) → Shows a c k l P → Shows a c k l Q
shown_as k l P Q to from s =
    record {
      kept = s.kept;
      told = λ r p. let t = s.told r p in (t.0, to r t.0.sound t.1);
      left = λ r p e. s.left r p (from r p.sound e);
    }

pub both_shown : {a c : ℕ} (k l m : Knowledge) (P Q : Record → Type 0) → Shows a c k l P → Shows a c l m Q → Shows a c k m (λ r. P r × Q r)
both_shown k l m P Q s t =
    record {
      kept = t.kept;
      told = λ r p. let later = t.told r p in let now = s.told r later.0 in (now.0, (now.1, later.1));
      left = λ r p e. t.left r (s.left r p e.0) e.1;
    }

-- refuted unless the reply has a form, which that of every record has
pub unless-shown : {a c : ℕ} (t : Bool) (k l : Knowledge) (P : Record → Type 0) → Kept a c k → (t ≡ true → Shows a c k l P)
    → ((r : Record) → valid r ≡ true → P r → t ≡ true) → Shows a c k (unless t (dead k) l) P
unless-shown true k l P kept s h = s refl
unless-shown false k l P kept s h =
    record { kept = dead_kept k kept; told = λ r p. absurd (dead-none k r p); left = λ r p e. absurd (false≢true (h r p.sound e)) }

-- the reply is a word
pub word_shown_lem : {a c : ℕ} (w b : List ℕ) (k : Knowledge) → Kept a c k → Shows a c k (unless (equal b w) (dead k) k) (λ r. w ≡ b)
word_shown_lem w b k kept =
    unless-shown (equal b w) k k (λ r. w ≡ b) kept (λ e. all_shown k (λ r. w ≡ b) kept (λ r. sym (equal_true b w e)))
    (λ r v e. ap (λ (x : List ℕ). equal x w) (sym e) ∙ equal-same w)

-- ---- a test
-- a field of the record that may hold one of several small numbers
abbrev pub is_small : Field → Bool
is_small f = ltb (position f) (position (value parameter_count)) && is_several (kind_of f)

-- a test of a field of the record that the field's set has a code for
pub record Tested (t : Test) : Type 0 where
  pub held : Held t.field
  pub coded : Testable t.field t.holds

pub small_tested : (t : Test) → is_small t.field ≡ true → Tested t
small_tested t h =
    record {
      held = ltb-true _ _ (and_left (ltb (position t.field) (position (value parameter_count))) _ h);
      coded = small_testable t.field t.holds (is_several_lem (kind_of t.field) (and_right (ltb (position t.field) (position (value parameter_count))) _ h));
    }

pub alarm_tested : Tested any_alarm
alarm_tested = record { held = omega arith; coded = alarm_testable }

passing-shown : {a c : ℕ} (k : Knowledge) (f : Field) (p : ℕ → Bool) → Kept a c k → Held f → Testable f p
    → Shows a c k (passing f p k) (λ r. p (get f r) ≡ true)
passing-shown k f p kept held coded =
    record {
      kept = passing_kept k f p kept held coded;
      told = λ r t. passing-told k r f p kept.full held coded t;
      left = λ r t e. passing_left k r f p kept.full held coded t e;
    }

pub test_shown_lem : {a c : ℕ} (b : Bool) (t : Test) (k : Knowledge) → Kept a c k → Tested t
    → Shows a c k (test_shown b t k) (λ r. b ≡ passes t r)
test_shown_lem {a} {c} b t k kept h = go b
  where
    go : (d : Bool) → Shows a c k (test_shown d t k) (λ r. d ≡ passes t r)
    go true = shown_as k _ (λ r. passes t r ≡ true) (λ r. true ≡ passes t r) (λ r v e. sym e) (λ r v e. sym e)
        (passing-shown k t.field t.holds kept h.held h.coded)
    go false =
        shown_as k _ (λ r. not (passes t r) ≡ true) (λ r. false ≡ passes t r) (λ r v e. sym (not-true (passes t r) e)) (λ r v e. ap not (sym e))
        (passing-shown k t.field (λ n. not (t.holds n)) kept h.held (testable_not t.field t.holds h.coded))

-- ---- a number
pub same_number : (m n : ℕ) → Some m ≡ Some n → n ≡ m
same_number m n e = cc

pub no_number : (n : ℕ) → None ≡ Some n → ⊥
no_number n e = let z : ◌≡◌ {A = ℕ} 0 1 = cc in omega arith

pub number_shown_lem : {a c : ℕ} (k : Knowledge) (f : Field) (d : Option ℕ) → Kept a c k → Held f → position access < position f
    → Shows a c k (number_shown f d k) (λ r. d ≡ Some (get f r))
number_shown_lem {a} {c} k f d kept held h = go d (kind_of f) refl
  where
    go : (x : Option ℕ) (kind : Kind) → kind_of f ≡ kind → Shows a c k (number_by kind f x k) (λ r. x ≡ Some (get f r))
    go (Some n) several e =
        shown_as k _ (λ r. eqb (get f r) n ≡ true) (λ r. Some n ≡ Some (get f r)) (λ r v q. ap Some (sym (eqb-true (get f r) n q)))
        (λ r v q. eq-eqb (get f r) n (same_number n (get f r) q))
        (subst (λ (kind : Kind). Shows a c k (restricted (position f) (mask_by kind f (λ m. eqb m n)) k) (λ r. eqb (get f r) n ≡ true)) e
        (passing-shown k f (λ m. eqb m n) kept held (small_testable f (λ m. eqb m n) e)))
    go (Some n) single e =
        record {
          kept = holding_kept k f n kept held e h;
          told = λ r p. let t = holding-told k r f n kept.full held e p in (t.0, ap Some (sym t.1));
          left = λ r p q. holding_left k r f n kept.full held e p (same_number n (get f r) q);
        }
    go (Some n) alarmed e =
        record {
          kept = settled_kept k f n kept held h;
          told = λ r p. let t = settled-told k r f n kept.full held p in (t.0, ap Some (sym t.1));
          left = λ r p q. settled_left k r f n kept.full held p (same_number n (get f r) q);
        }
    go None several e = unless-shown false k k (λ r. None ≡ Some (get f r)) kept (λ q. absurd (false≢true q)) (λ r v q. absurd (no_number (get f r) q))
    go None single e = unless-shown false k k (λ r. None ≡ Some (get f r)) kept (λ q. absurd (false≢true q)) (λ r v q. absurd (no_number (get f r) q))
    go None alarmed e = unless-shown false k k (λ r. None ≡ Some (get f r)) kept (λ q. absurd (false≢true q)) (λ r v q. absurd (no_number (get f r) q))

-- a field of a valid record fits a width that its range fits
pub field_fits : (r : Record) (f : Field) (n : ℕ) → valid r ≡ true → Held f → (field_range f).high < 10 ^ n → get f r < 10 ^ n
field_fits r f n v held h = omega (arith, between_high (field_range f).low (field_range f).high (get f r) (field_in r v f held))

-- a number behind a word
pub numbered-shown : {a c : ℕ} (k : Knowledge) (w : List ℕ) (n : ℕ) (f : Field) (b : List ℕ) → Kept a c k → Held f → position access < position f
    → (field_range f).high < 10 ^ n → n ≤ 8 → Shows a c k (number_shown f (number_behind w n b) k) (λ r. w ++ digits n (get f r) ≡ b)
numbered-shown k w n f b kept held h l s =
    shown_as k _ (λ r. number_behind w n b ≡ Some (get f r)) (λ r. w ++ digits n (get f r) ≡ b) (λ r v e. sym (behind_told w n b (get f r) e).0)
    (λ r v e. ap (number_behind w n) (sym e) ∙ behind_left w n (get f r) s (field_fits r f n v held l)) (number_shown_lem k f (number_behind w n b) kept held h)
