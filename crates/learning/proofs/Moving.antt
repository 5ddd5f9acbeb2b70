-- One law for each change that an accepted request makes, and for the request. Assumes nothing.
use Prim.Native.Nat.{ℕ, min}
use mathlib.Core.Path.{◌≡◌, refl, sym, ap, ◌∙◌}
use mathlib.Core.List.{List, [], ◌∷◌}
use lib.ListN.{length}
use Rattle.state.specs.Field.{Field, changed, value, position}
use Rattle.command.specs.declared.Writing.{Writing}
use Rattle.command.specs.Commands.{Change, becomes, next_batch, reset_alarms, new_value}
use Rattle.command.specs.Request.{changes_of, writing_as}
use Rattle.knowledge.specs.declared.Knowledge.{Knowledge}
use Rattle.knowledge.specs.Sets.{alone}
use Rattle.knowledge.specs.Knowledge.{recoded, becoming, advanced, alarms_left, replacing}
use Rattle.showing.proofs.Places.{put_placed, replace_placed}
use Rattle.learning.specs.Learn.{moved}

-- the changes of the request that was matched
pub moved_as : (q p : Writing) (k s : Knowledge) → q ≡ p → s ≡ moved (changes_of (writing_as p)) k → s ≡ moved (changes_of (writing_as q)) k
moved_as q p k s e h = h ∙ ap (λ (x : Writing). moved (changes_of (writing_as x)) k) (sym e)

-- ---- one change behind others
pub none_moved : (k : Knowledge) → k ≡ moved [] k
unfolding moved
none_moved k = refl

module _ (cs : List Change) (k t s : Knowledge) (before : t ≡ moved cs k) where
  pub field_moved : (f : Field) (n m : ℕ) → m ≡ alone f n → s ≡ recoded (position f) m t → s ≡ moved (becomes f n ∷ cs) k
  unfolding moved becoming
  field_moved f n m e h = h ∙ (ap (λ (x : ℕ). recoded (position f) x t) e ∙ ap (becoming f n) before)

  -- at a place, by its position
  pub place_moved : (f : Field) (n m p : ℕ) → p ≡ min (position f) (length t.codes) → m ≡ alone f n → s ≡ recoded p m t → s ≡ moved (becomes f n ∷ cs) k
  place_moved f n m p y e h = field_moved f n m e (h ∙ (ap (λ (x : ℕ). recoded x m t) y ∙ put_placed t m (position f)))

  pub value_moved : (i n p : ℕ) → p ≡ min (position (value i)) (length t.codes) → s ≡ replacing p n (position changed) t → s ≡ moved (new_value i n ∷ cs) k
  unfolding moved
  value_moved i n p y h =
      h ∙ (ap (λ (x : ℕ). replacing x n (position changed) t) y
      ∙ (replace_placed t n (position changed) (position (value i)) ∙ ap (replacing (position (value i)) n (position changed)) before))

  pub batch_moved : s ≡ advanced t → s ≡ moved (next_batch ∷ cs) k
  unfolding moved
  batch_moved h = h ∙ ap advanced before

  pub alarms_moved : s ≡ alarms_left t → s ≡ moved (reset_alarms ∷ cs) k
  unfolding moved
  alarms_moved h = h ∙ ap alarms_left before

pub ruleset moving = (moved_as, none_moved, field_moved, batch_moved, alarms_moved, refl)
