-- What an answered request teaches: the refusals that it passed, or the one that it met, what the reply shows, and what changes.
use Rattle.std.specs.Prelude.{ℕ, Bool, not, Option, Some, None, List, [], ◌∷◌, eqb}
use Rattle.base.specs.Test.{pick}
use Rattle.state.specs.Field.{changed, value, position}
use Rattle.command.specs.Commands.{Change, becomes, next_batch, reset_alarms, new_value}
use Rattle.command.specs.Request.{Asked, refused, asked, Guard, guards_of, level_guard, reply_of, changes_of}
use Rattle.knowledge.specs.declared.Knowledge.{Knowledge}
use Rattle.knowledge.specs.Sets.{mask_in}
use Rattle.knowledge.specs.Knowledge.{dead, passing, becoming, advanced, alarms_left, replacing}
use Rattle.showing.specs.Heard.{refusal_in}
use Rattle.showing.specs.Shown.{shown}

-- ---- the refusals that look at the record
unfoldable pub passed : List Guard → Knowledge → Knowledge
passed [] k = k
passed (g ∷ gs) k = passed gs (passing g.field (λ n. not (g.refuses n)) k)

-- the mask of what the first of them lets through, of its field; 0 without one
abbrev pub let_through : List Guard → ℕ
let_through [] = 0
let_through (g ∷ gs) = mask_in g.field (λ n. not (g.refuses n))

-- the levels that let a write through on a link of access a; `above` if a new level is above the access
unfoldable pub allowed_levels : ℕ → Bool → ℕ
allowed_levels a above = let_through (level_guard a above 0 ∷ [])

-- NO n is the first that applies: those before it do not
unfoldable pub refused_by : ℕ → List Guard → Knowledge → Knowledge
refused_by n [] k = dead k
refused_by n (g ∷ gs) k = pick (eqb n g.refusal) (passing g.field g.refuses k) (refused_by n gs (passing g.field (λ m. not (g.refuses m)) k))

-- ---- what an accepted request changes
abbrev pub moved_by : Change → Knowledge → Knowledge
moved_by (becomes f n) k = becoming f n k
moved_by next_batch k = advanced k
moved_by reset_alarms k = alarms_left k
moved_by (new_value i n) k = replacing (position (value i)) n (position changed) k

unfoldable pub moved : List Change → Knowledge → Knowledge
moved [] k = k
moved (c ∷ cs) k = moved_by c (moved cs k)

-- ---- what the reply NO n, and any other, tells of the record that it came from; a is the access
abbrev pub refusal_heard : ℕ → Asked → ℕ → Knowledge → Knowledge
refusal_heard a (refused m) n k = pick (eqb n m) k (dead k)
refusal_heard a (asked c x) n k = refused_by n (guards_of a (asked c x)) k

abbrev pub acceptance_heard : ℕ → Asked → List ℕ → Knowledge → Knowledge
acceptance_heard a (refused m) b k = dead k
acceptance_heard a (asked c x) b k = shown (reply_of (asked c x)) b (passed (guards_of a (asked c x)) k)

abbrev pub heard_by : Option ℕ → ℕ → Asked → List ℕ → Knowledge → Knowledge
heard_by (Some n) a q b k = refusal_heard a q n k
heard_by None a q b k = acceptance_heard a q b k

-- a request and what was replied, before anything changes
unfoldable pub heard_of : ℕ → Asked → List ℕ → Knowledge → Knowledge
heard_of a q b k = heard_by (refusal_in b) a q b k

-- ---- the same, and what changes then: nothing at a refusal
abbrev pub moved_unless : Option ℕ → Asked → Knowledge → Knowledge
moved_unless (Some n) q k = k
moved_unless None q k = moved (changes_of q) k

unfoldable pub learn_of : ℕ → Asked → List ℕ → Knowledge → Knowledge
learn_of a q b k = moved_unless (refusal_in b) q (heard_of a q b k)

-- ---- of the record as the request leaves it, or as it was when the reply came
unfoldable pub taught_of : Bool → ℕ → Asked → List ℕ → Knowledge → Knowledge
taught_of after a q b k = pick after (learn_of a q b k) (heard_of a q b k)
