-- What the reply to an accepted request shows, by what the tables print.
use Rattle.std.specs.Prelude.{ℕ, Bool, not, ◌&&◌, Option, Some, None, List, [], ◌∷◌, ◌++◌, eqb, length, take, drop}
use Rattle.base.specs.Text.{text}
use Rattle.base.specs.Test.{pick, unless}
use Rattle.state.specs.declared.Range.{Range}
use Rattle.state.specs.Field.{Field, recipe, alarms, value, position, field_range}
use Rattle.state.specs.Valid.{within}
use Rattle.text.specs.Word.{space, equal}
use Rattle.command.specs.Status.{Test, Bit, characters, Code, status_codes}
use Rattle.command.specs.Commands.{factor_place, Reply, acknowledged, status, codes, numbered, composition, system_alarms}
use Rattle.knowledge.specs.declared.Knowledge.{Knowledge}
use Rattle.knowledge.specs.Sets.{Kind, several, single, alarmed, kind_of, mask_of, mask_in}
use Rattle.knowledge.specs.Knowledge.{dead, restricted, told, settled}
use Rattle.showing.specs.Heard.{starts_with, number_behind, lit, characters_formed, alarms_read}

-- ---- a test of one field that holds, or does not, as shown
abbrev pub test_shown : Bool → Test → Knowledge → Knowledge
test_shown b t k = restricted (position t.field) (pick b (mask_in t.field t.holds) (mask_in t.field (λ n. not (t.holds n)))) k

-- ---- numbers

-- a field holds the number that is shown
abbrev pub restricted_by : ℕ → Range → Option ℕ → Knowledge → Knowledge
restricted_by p range (Some n) k = restricted p (mask_of (λ i. within range i && eqb i n)) k
restricted_by p range None k = dead k

abbrev pub told_by : ℕ → Range → Option ℕ → Knowledge → Knowledge
told_by p range (Some n) k = told p range n k
told_by p range None k = dead k

abbrev pub settled_by : Field → Option ℕ → Knowledge → Knowledge
settled_by f (Some n) k = settled f n k
settled_by f None k = dead k

abbrev pub number_by : Kind → Field → Option ℕ → Knowledge → Knowledge
number_by several f d k = restricted_by (position f) (field_range f) d k
number_by single f d k = told_by (position f) (field_range f) d k
number_by alarmed f d k = settled_by f d k

abbrev pub number_shown : Field → Option ℕ → Knowledge → Knowledge
number_shown f d k = number_by (kind_of f) f d k

-- "RC rr vvvvvvvv, recipe and its factor now"
abbrev pub factor_shown : ℕ → Option ℕ → Knowledge → Knowledge
factor_shown r d k = unless (within (field_range recipe) r) (dead k) (number_shown (value (factor_place r)) d (number_shown recipe (Some r) k))

abbrev pub composition_shown : Option ℕ → Option ℕ → Knowledge → Knowledge
composition_shown (Some r) d k = factor_shown r d k
composition_shown None d k = dead k

-- ---- EQ: a bit that is set, or not, tells whether its test holds
unfoldable pub bits_shown : ℕ → List Bit → Knowledge → Knowledge
bits_shown x [] k = k
bits_shown x (b ∷ bs) k = bits_shown x bs (test_shown (lit b.weight x) b.if k)

unfoldable pub characters_shown : List ℕ → List (List Bit) → Knowledge → Knowledge
characters_shown [] bss k = k
characters_shown (x ∷ xs) [] k = k
characters_shown (x ∷ xs) (bs ∷ bss) k = characters_shown xs bss (bits_shown x bs k)

unfoldable pub status_shown : List ℕ → Knowledge → Knowledge
status_shown b k = unless (characters_formed b characters) (dead k) (characters_shown b characters k)

-- ---- RS: a code that stands next was on, one that does not was off; in the end nothing is left

-- one word: what is left of a text behind it, and its field in one set where it stands, in another where it does not
unfoldable pub word_shown : List ℕ → ℕ → ℕ → ℕ → List ℕ × Knowledge → List ℕ × Knowledge
word_shown w p with without x =
    (pick (starts_with w x.0) (drop (length w) x.0) x.0, restricted p (pick (starts_with w x.0) with without) x.1)

abbrev pub printed_code : Code → List ℕ
printed_code c = c.letters ++ (space ∷ [])

unfoldable pub codes_shown : List Code → List ℕ × Knowledge → Knowledge
codes_shown [] x = unless (equal x.0 []) (dead x.1) x.1
codes_shown (c ∷ cs) x =
    codes_shown cs
    (word_shown (printed_code c) (position c.if.field) (mask_in c.if.field c.if.holds) (mask_in c.if.field (λ n. not (c.if.holds n))) x)

unfoldable pub list_shown : List ℕ → Knowledge → Knowledge
list_shown b k = unless (starts_with (text "RS ") b) (dead k) (codes_shown status_codes (drop 3 b, k))

-- ---- any reply that is no refusal
unfoldable pub shown : Reply → List ℕ → Knowledge → Knowledge
shown acknowledged b k = unless (equal b (text "OK")) (dead k) k
shown status b k = status_shown b k
shown codes b k = list_shown b k
shown (numbered w n f) b k = number_shown f (number_behind w n b) k
shown composition b k = composition_shown (number_behind (text "RC ") 2 (take 5 b)) (number_behind (space ∷ []) 8 (drop 5 b)) k
shown system_alarms b k = number_shown alarms (alarms_read b) k
