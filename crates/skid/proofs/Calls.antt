-- The picked recipe's factor in the controller's record, what SB does to that record, and what a right reply to RC or SB says of it: all of
-- document 01's call, of the record alone. Assumes nothing.
use Prim.Native.Nat.{ℕ, ◌^◌, ◌≤◌, ◌<◌}
use mathlib.Core.Bool.{true}
use mathlib.Core.Path.{◌≡◌, refl, sym, ap, ◌∙◌, subst}
use mathlib.Core.List.{List, [], ◌∷◌}
use mathlib.Core.Logic.{⊎_elim}
use native.Mathlib.Omega.{arith}
use lib.ListN.{take, drop, get_or}
use borrow.Author.Tests.{ne_eqb}
use Rattle.base.proofs.Tests.{◌also◌, between_low, between_high}
use Rattle.text.specs.Word.{digits, value_of}
use Rattle.text.proofs.Words.{value-digits}
use Rattle.state.specs.declared.Record.{Record}
use Rattle.state.specs.declared.Range.{Range}
use Rattle.std.specs.Prelude.{Some}
use Rattle.state.specs.declared.ParameterKind.TheVariants.{Factor}
use Rattle.state.specs.Parameter.{of_recipe, code_of, kind_range, recipes, range_at, place_of}
use Rattle.state.specs.Field.{Field, address, phase, reset, recipe, preset, raw, number, value, get, field_range, position, on}
use Rattle.state.specs.Valid.{within}
use Rattle.state.specs.Event.{set}
use Rattle.state.proofs.Parameters.{ruled, place-given-digits, range-given-kind}
use Rattle.state.proofs.Kept.{field_in}
use Rattle.frame.specs.declared.Kind.TheVariants.{Minicomputer}
use Rattle.frame.specs.Frame.{frame_of, text_in}
use Rattle.command.specs.Commands as commands
use Rattle.command.specs.Commands.{code_in, printed, row_of, factor_place, ◌≔◌, next_batch}
use Rattle.command.specs.Answer.{Verdict, accepted, arguments_in, verdict, reply_for, reply_text}
use Rattle.command.proofs.Tables.{number_after}
use Rattle.controller.specs.Call.{reply_in}
use Rattle.controller.proofs.ReadBack.{composed}
use Rattle.controller.proofs.Theorems.{Silenced, Answered, every_input, none_accepts, changes_exactly}
use Rattle.controller.proofs.Exactly.{no_frame, sent_frame, accepted_exactly}
use Rattle.drum.specs.declared.Change.{Change}
use Rattle.drum.specs.Drum.{asks, wants, framed, request_frame, reply_frame, last}
use Rattle.drum.proofs.Cases.{InRange}
use Rattle.skid.specs.Exchange.{Holds, Closed, Apart}
use Rattle.skid.proofs.Beside.{called_alone}

-- ---- the factor of a recipe
module _ (r : ℕ) (h : within (field_range recipe) r ≡ true) where
  low : 1 ≤ r
  low = between_low _ _ r h

  pub recipe_high : r ≤ recipes
  recipe_high = between_high _ _ r h

  pub factor_place_lem : place_of (code_of (of_recipe r Factor)) ≡ Some (factor_place r)
  factor_place_lem =
      let c : ℕ = code_of (of_recipe r Factor) in
      let few = recipe_high in
      sym (place-given-digits c _ (sym ((ruled c).given r Factor low recipe_high refl)) (λ a b. omega arith))

  pub factor-within : (f : ℕ) → within (kind_range Factor) f ≡ within (range_at (factor_place r)) f
  factor-within f = ap (λ (x : Range). within x f) (range-given-kind r Factor low recipe_high)

pub factor_below : (f : ℕ) → within (kind_range Factor) f ≡ true → f < 10 ^ 8
factor_below f h = let l = between_high _ _ f h in omega arith

-- ---- what SB changes, behind other changes
abbrev pub batch : ℕ → List commands.Change → List commands.Change
batch p cs = (phase ≔ set) ∷ (preset ≔ p) ∷ (raw ≔ 0) ∷ (reset ≔ on) ∷ next_batch ∷ cs

-- the records before and after it, as changes of a record t
module _ (p : ℕ) (cs : List commands.Change) (t u w : Record) (before : (z : Field) → get z u ≡ number_after z cs t)
    (after : (z : Field) → get z w ≡ number_after z (batch p cs) t) where
  -- every other field is left
  pub batch_leaves : (z : Field) → Apart z (phase ∷ preset ∷ raw ∷ reset ∷ number ∷ []) → get z w ≡ get z u
  unfolding number_after
  batch_leaves z h =
      after z
      ∙ simp (
        ne_eqb (position phase) (position z) h.0,
        ne_eqb (position preset) (position z) h.1.0,
        ne_eqb (position raw) (position z) h.1.1.0,
        ne_eqb (position reset) (position z) h.1.1.1.0,
        ne_eqb (position number) (position z) h.1.1.1.1.0,
      ) (sym (before z))

  pub batch_closes : (r f : ℕ) → Holds r f u → Closed r f p w
  unfolding number_after
  batch_closes r f g =
      record {
        holds = record {
          recipe-held =
              batch_leaves recipe
              ((λ e. omega arith) also (λ e. omega arith) also (λ e. omega arith) also (λ e. omega arith) also (λ e. omega arith) also tt)
              ∙ g.recipe-held;
          factor-held =
              batch_leaves (value (factor_place r))
              ((λ e. omega arith) also (λ e. omega arith) also (λ e. omega arith) also (λ e. omega arith) also (λ e. omega arith) also tt)
              ∙ g.factor-held;
        };
        in_set = after phase;
        preset-held = after preset;
      }

-- ---- a reply x whose first letter is behind the N of NO was given to an accepted request
module _ (u : Record) (q o x : List ℕ) (h : reply_in (called_alone u q o) ≡ x) (letter : 0x4e < get_or x 3 0) where
  abbrev t : List ℕ
  t = text_in Minicomputer q

  answered : Answered Minicomputer u q o
  answered =
      ⊎_elim
      (λ (s : Silenced Minicomputer u q o).
      let none : [] ≡ x = sym (ap (λ (n : ℕ). take n (called_alone u q o).buffer) s.nothing) ∙ h in
      let e : 0 ≡ get_or x 3 0 = ap (λ (y : List ℕ). get_or y 3 0) none in absurd (omega arith))
      (λ (s : Answered Minicomputer u q o). s) (every_input Minicomputer u q o)

  no_refusal : (n : ℕ) → reply_in (called_alone u q o) ≡ no_frame Minicomputer u n → ⊥
  unfolding frame_of digits
  no_refusal n e = let z : get_or x 3 0 ≡ 0x4e = ap (λ (y : List ℕ). get_or y 3 0) (sym h ∙ e) in omega arith

  accepted_so : verdict t u ≡ accepted
  accepted_so = none_accepts t u ((accepted_exactly Minicomputer u q o answered.heard).1 (λ n l. no_refusal n))

  -- it shows what its row says, and changes what its row says
  shown_so : framed (get address u) (printed ((row_of (code_in t) commands.commands).reply (arguments_in t)) u) ≡ x
  unfolding reply_text
  shown_so =
      sym (sent_frame Minicomputer u q o answered.heard ∙ ap (λ (v : Verdict). framed (get address u) (reply_for v t u)) accepted_so) ∙ h

  fields_so : (z : Field) → get z (called_alone u q o).after ≡ number_after z ((row_of (code_in t) commands.commands).effect (arguments_in t)) u
  fields_so z = ap (get z) answered.next_record ∙ changes_exactly t u answered.valid_record accepted_so z

-- ---- RC's frame tells its two numbers
digits_tell : (w m n : ℕ) → m < 10 ^ w → n < 10 ^ w → digits w m ≡ digits w n → m ≡ n
digits_tell w m n l k e = sym (value-digits w m l) ∙ (ap value_of e ∙ value-digits w n k)

recipe_below : (r : ℕ) → within (field_range recipe) r ≡ true → r < 10 ^ 2
recipe_below r h = let l = recipe_high r h in omega arith

composition-tells : (a b r f n m : ℕ) → within (field_range recipe) r ≡ true → within (field_range recipe) n ≡ true → within (kind_range Factor) f ≡ true
    → within (kind_range Factor) m ≡ true → framed a (composed r f) ≡ framed b (composed n m) → (r ≡ n) × (f ≡ m)
unfolding frame_of digits
composition-tells a b r f n m h i j k e = (
  digits_tell 2 r n (recipe_below r h) (recipe_below n i) (ap (λ (x : List ℕ). take 2 (drop 6 x)) e),
  digits_tell 8 f m (factor_below f j) (factor_below m k) (ap (λ (x : List ℕ). take 8 (drop 9 x)) e),
)

-- ---- the right replies to RC and SB

-- asked step i, document 01's controller replied as is wanted
abbrev pub Right : Change → Record → List ℕ → ℕ → Type 0
Right s u o i = reply_in (called_alone u (request_frame i s) o) ≡ reply_frame i s

-- its record then
abbrev pub unit_after : Change → Record → List ℕ → ℕ → Record
unit_after s u o i = (called_alone u (request_frame i s) o).after

module _ (s : Change) (k : InRange s) (u : Record) (o : List ℕ) where
  pub composition_right : Right s u o 4 → Holds s.recipe s.factor (unit_after s u o 4)
  unfolding request_frame reply_frame asks wants frame_of text_in digits row_of code_in number_after
  composition_right h =
      let v = (answered u (request_frame 4 s) o (reply_frame 4 s) h (omega arith)).valid_record in
      let r : ℕ = get recipe u in
      let f : Field = value (factor_place r) in
      let recipe_in = field_in u v recipe (omega arith) in
      let few = recipe_high r recipe_in in
      let factor_in = factor-within r recipe_in (get f u) ∙ field_in u v f (omega arith) in
      let (same, held) = composition-tells (get address u) s.address r (get f u) s.recipe s.factor recipe_in k.recipe_in factor_in k.factor_in
      (shown_so u (request_frame 4 s) o (reply_frame 4 s) h (omega arith)) in
      let left = fields_so u (request_frame 4 s) o (reply_frame 4 s) h (omega arith) in
      record {
        recipe-held = left recipe ∙ same;
        factor-held = left (value (factor_place s.recipe)) ∙ (ap (λ (n : ℕ). get (value (factor_place n)) u) (sym same) ∙ held);
      }

  pub batch_right : Holds s.recipe s.factor u → Right s u o last → Closed s.recipe s.factor s.preset (unit_after s u o last)
  unfolding request_frame reply_frame asks wants frame_of text_in digits row_of code_in number_after
  batch_right g h =
      let l = between_high _ _ s.preset k.preset_in in
      let left = fields_so u (request_frame last s) o (reply_frame last s) h (omega arith) in
      batch_closes s.preset [] u u (unit_after s u o last) (λ z. refl)
      (subst (λ (n : ℕ). (z : Field) → get z (unit_after s u o last) ≡ number_after z (batch n []) u) (value-digits 6 s.preset (omega arith)) left)
      s.recipe s.factor g
